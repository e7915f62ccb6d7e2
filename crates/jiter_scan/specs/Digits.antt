-- Decimal digits.
use Rattle.std.specs.Prelude.{ℕ, ◌+◌, ◌-◌, ◌*◌, ◌^◌, ◌&&◌, Bool, List, [], ◌∷◌, length, nat_le}
use Rattle.jiter_scan.specs.Ascii as ascii
use Rattle.jiter_scan.specs.Scan.{run_end}

-- `0` to `9` (RFC 8259, 6)
abbrev pub is_digit : ℕ → Bool
is_digit c = nat_le ascii.digit_zero c && nat_le c ascii.digit_nine

-- where the digits that are at i end
abbrev pub digit_run_end : List ℕ → ℕ → ℕ
digit_run_end t i = run_end is_digit t i

-- the value of decimal digits: each digit times its power of ten
abbrev pub decimal_of : List ℕ → ℕ
decimal_of [] = 0
decimal_of (c ∷ cs) = (c - ascii.digit_zero) * 10 ^ length cs + decimal_of cs
