-- The grammar of numbers (RFC 8259, 6) as tests: each says of bytes whether the fact of the same name holds of them.
use Rattle.std.specs.Prelude.{ℕ, ◌==◌, ◌&&◌, ◌||◌, Bool, true, false, not, List, [], ◌∷◌, codes, length, nat_le}
use Rattle.std.specs.List.{list_all}
use Rattle.std.specs.Str.{bytes_eq}
use Rattle.jiter_scan.specs.Ascii as ascii
use Rattle.jiter_scan.specs.Digits.{is_digit}
use Rattle.jiter_scan.specs.Number.{digit_limit}

-- somewhere the bytes part into two of which these tests hold
abbrev pub is_parted : List ℕ → (List ℕ → Bool) → (List ℕ → Bool) → Bool
is_parted [] p q = p [] && q []
is_parted (c ∷ cs) p q = (p [] && q (c ∷ cs)) || is_parted cs (λ u. p (c ∷ u)) q

abbrev pub are_some_digits : List ℕ → Bool
are_some_digits [] = false
are_some_digits (c ∷ cs) = is_digit c && list_all is_digit cs

abbrev pub is_minus : List ℕ → Bool
is_minus w = bytes_eq w [] || bytes_eq w (ascii.minus ∷ [])

abbrev pub is_int_part : List ℕ → Bool
is_int_part [] = false
is_int_part (c ∷ cs) = are_some_digits (c ∷ cs) && (bytes_eq cs [] || not (c == ascii.digit_zero))

abbrev pub is_fraction : List ℕ → Bool
is_fraction [] = true
is_fraction (c ∷ cs) = (c == ascii.point) && are_some_digits cs

abbrev pub is_sign : List ℕ → Bool
is_sign w = bytes_eq w [] || (bytes_eq w (ascii.plus ∷ []) || bytes_eq w (ascii.minus ∷ []))

abbrev pub is_exponent : List ℕ → Bool
is_exponent [] = true
is_exponent (c ∷ cs) =
    ((c == ascii.small_e) || (c == ascii.capital_e)) && is_parted cs is_sign are_some_digits

-- an integer part within the limit, and what follows it
abbrev pub is_magnitude : List ℕ → Bool
is_magnitude w =
    is_parted w (λ u. is_int_part u && nat_le (length u) digit_limit) (λ v. is_parted v is_fraction is_exponent)

abbrev pub is_name : List ℕ → Bool
is_name w = bytes_eq w (codes "NaN") || (bytes_eq w (codes "Infinity") || bytes_eq w (codes "-Infinity"))

-- Whether these bytes are a number's text.
unfoldable pub is_number_text : Bool → List ℕ → Bool
is_number_text names w = is_parted w is_minus is_magnitude || (names && is_name w)
