-- A key as its error prints it: between quotes, its quotes, backslashes and controls escaped as Rust's debug form has
-- them, and all other bytes as they are.
use Rattle.std.specs.Prelude.{ℕ, ◌+◌, ◌/◌, ◌%◌, ◌==◌, ◌||◌, if◌then◌else◌, List, [], ◌∷◌, ◌++◌, codes}
use Rattle.std.specs.Prelude.{flat_map, nat_lt}
use Rattle.jiter_scan.specs.Ascii as ascii

-- a hexadecimal digit, in small letters
abbrev pub hex_digit : ℕ → ℕ
hex_digit d = if nat_lt d 10 then ascii.digit_zero + d else 87 + d

-- a number below 256, without a leading zero
abbrev pub hex_digits : ℕ → List ℕ
hex_digits c = if nat_lt c 16 then hex_digit c ∷ [] else hex_digit (c / 16) ∷ hex_digit (c % 16) ∷ []

abbrev pub quoted_byte : ℕ → List ℕ
quoted_byte c =
    if c == ascii.quote then codes "\\\""
    else (if c == ascii.backslash then codes "\\\\"
    else (if c == ascii.line_feed then codes "\\n"
    else (if c == ascii.carriage_return then codes "\\r"
    else (if c == ascii.tab then codes "\\t"
    else (if c == 0 then codes "\\0"
    else (if nat_lt c ascii.space || (c == 127) then codes "\\u{" ++ (hex_digits c ++ codes "}")
    else c ∷ []))))))

abbrev pub quoted : List ℕ → List ℕ
quoted key = codes "\"" ++ (flat_map quoted_byte key ++ codes "\"")
