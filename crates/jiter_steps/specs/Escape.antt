-- The numbers of escapes (RFC 8259, 7).
use Rattle.std.specs.Prelude.{ℕ, ◌+◌, ◌-◌, ◌*◌, ◌==◌, ◌&&◌, Bool, if◌then◌else◌, Option, Some, None, nat_le, nat_lt}
use Rattle.std.specs.Char.{digit_value, is_digit}
use Rattle.jiter_scan.specs.Ascii as ascii

-- what a backslash and the byte b stand for, other than `\u`
abbrev pub short_escape : ℕ → Option ℕ
short_escape b =
    if b == ascii.quote then Some ascii.quote
    else (if b == ascii.backslash then Some ascii.backslash
    else (if b == ascii.slash then Some ascii.slash
    else (if b == ascii.small_b then Some ascii.backspace
    else (if b == ascii.small_f then Some ascii.form_feed
    else (if b == ascii.small_n then Some ascii.line_feed
    else (if b == ascii.small_r then Some ascii.carriage_return
    else (if b == ascii.small_t then Some ascii.tab
    else None)))))))

-- the number that four hex digits spell, of either case
abbrev pub unit_of : ℕ → ℕ → ℕ → ℕ → ℕ
unit_of a b c d = digit_value a * 4096 + digit_value b * 256 + digit_value c * 16 + digit_value d

-- a hex digit of either case
abbrev pub is_hex : ℕ → Bool
is_hex b = is_digit b 16

-- the first of a surrogate pair
abbrev pub is_high : ℕ → Bool
is_high u = nat_le 0xd800 u && nat_lt u 0xdc00

-- the second of one
abbrev pub is_low : ℕ → Bool
is_low u = nat_le 0xdc00 u && nat_lt u 0xe000

-- the character of a surrogate pair
abbrev pub pair_of : ℕ → ℕ → ℕ
pair_of high low = 0x10000 + (high - 0xd800) * 0x400 + (low - 0xdc00)
