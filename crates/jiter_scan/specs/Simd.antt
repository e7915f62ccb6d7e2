-- What the kernels give, and the masks and words that they work on.
use Rattle.std.specs.Prelude.{◌≡◌, ℕ, ◌+◌, ◌-◌, ◌%◌, ◌==◌, Bool, not, if◌then◌else◌, List, length, drop, take}
use Rattle.std.specs.Prelude.{map, nat_le, Option, Some, None}
use Rattle.std.specs.Int.Bits.{bit_xor}
use Rattle.std.specs.Int.Digits.{AllBelowBase}
use Rattle.std.specs.List.{prefix_len, list_all}
use Rattle.std.specs.Simd.Lanes.{mask_l}
use Rattle.jiter_scan.specs.Ascii as ascii
use Rattle.jiter_scan.specs.Digits.{digit_run_end}
use Rattle.jiter_scan.specs.Scan.{is_plain, is_plain_ascii, is_ascii}

-- where the digits at i end, or none where there are more than the limit
abbrev pub digits_end : List ℕ → ℕ → ℕ → Option ℕ
digits_end t i limit = if nat_le (digit_run_end t i) (i + limit) then Some (digit_run_end t i) else None

-- whether the bytes from i to the first stop are below 80 hex
abbrev pub ascii_from : List ℕ → ℕ → Bool
ascii_from t i = list_all is_ascii (take (prefix_len is_plain (drop i t)) (drop i t))

-- a bit for each byte that fails this test, the lowest for the first
abbrev pub failing : (ℕ → Bool) → List ℕ → ℕ
failing test v = mask_l (map (λ c. not (test c)) v)

-- no backslash
abbrev pub is_no_mark : ℕ → Bool
is_no_mark c = not (c == ascii.backslash)

-- a byte with these bits flipped: by 2, the quote becomes a space, and a space becomes a quote
abbrev pub flipped : ℕ → ℕ → ℕ
flipped bits c = bit_xor c bits

-- a plain byte or, if asked, a plain byte of ASCII
abbrev pub plain_to : Bool → ℕ → Bool
plain_to ascii = if ascii then is_plain_ascii else is_plain

-- the bits that are flipped to find others
abbrev pub flips : Bool → ℕ
flips ascii = if ascii then 130 else 2

-- a byte less 30 hex, wrapping
abbrev pub less_zero : ℕ → ℕ
less_zero c = (c + (256 - 48)) % 256

-- what fills a word of 64 bits
abbrev pub IsEightBytes : List ℕ → Type 0
IsEightBytes w = (length w ≡ 8) × AllBelowBase 256 w
