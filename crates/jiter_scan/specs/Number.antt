-- The grammar of numbers (RFC 8259, 6), and what a number's text stands for.
use Rattle.std.specs.Prelude.{◌≡◌, ◌≢◌, ◌⊎◌, ℕ, ℤ, pos, negsuc, zero, suc, ◌^◌, ◌≤◌, ◌==◌, ◌||◌, Bool, true, false}
use Rattle.std.specs.Prelude.{if◌then◌else◌, List, [], ◌∷◌, ◌++◌, codes, length, nat_lt, nat_le}
use Rattle.std.specs.List.{list_any}
use Rattle.jiter_scan.specs.Ascii as ascii
use Rattle.jiter_scan.specs.Scan.{Pass}
use Rattle.jiter_scan.specs.Digits.{is_digit, decimal_of}

-- a number's value: an integer of 64 bits, or its text
pub data Number : Type 0 where
  integer : ℤ → Number
  big : List ℕ → Number
  float : List ℕ → Number

-- digits alone
abbrev pub AreDigits : List ℕ → Type 0
AreDigits w = Pass is_digit w

-- one digit or more
abbrev pub IsDigits : List ℕ → Type 0
IsDigits [] = ⊥
IsDigits (c ∷ cs) = (is_digit c ≡ true) × AreDigits cs

-- nothing, or a minus
abbrev pub IsMinus : List ℕ → Type 0
IsMinus w = (w ≡ []) ⊎ (w ≡ ascii.minus ∷ [])

-- `0`, or digits of which the first is another
abbrev pub IsIntPart : List ℕ → Type 0
IsIntPart [] = ⊥
IsIntPart (c ∷ cs) = IsDigits (c ∷ cs) × ((cs ≡ []) ⊎ (c ≢ ascii.digit_zero))

-- nothing, or a point and one digit or more
abbrev pub IsFraction : List ℕ → Type 0
IsFraction [] = Unit {0}
IsFraction (c ∷ cs) = (c ≡ ascii.point) × IsDigits cs

-- nothing, or a plus or a minus
abbrev pub IsSign : List ℕ → Type 0
IsSign w = (w ≡ []) ⊎ ((w ≡ ascii.plus ∷ []) ⊎ (w ≡ ascii.minus ∷ []))

-- `e` or `E`, perhaps a sign, and one digit or more
pub record IsPower (w : List ℕ) : Type 0 where
  pub letter : ℕ
  pub sign : List ℕ
  pub digits : List ℕ
  pub is : w ≡ letter ∷ (sign ++ digits)
  pub is_letter : (letter ≡ ascii.small_e) ⊎ (letter ≡ ascii.capital_e)
  pub is_sign : IsSign sign
  pub are_digits : IsDigits digits

-- nothing, or a power
abbrev pub IsExponent : List ℕ → Type 0
IsExponent w = (w ≡ []) ⊎ IsPower w

-- the longest integer part that is read
abbrev pub digit_limit : ℕ
digit_limit = 4300

-- a decimal number: a minus or none, the integer part, a fraction or none, an exponent or none
pub record IsDecimal (w : List ℕ) : Type 0 where
  pub minus : List ℕ
  pub int_part : List ℕ
  pub fraction : List ℕ
  pub exponent : List ℕ
  pub is : w ≡ minus ++ (int_part ++ (fraction ++ exponent))
  pub is_minus : IsMinus minus
  pub is_int_part : IsIntPart int_part
  pub limit : length int_part ≤ digit_limit
  pub is_fraction : IsFraction fraction
  pub is_exponent : IsExponent exponent

-- the names that stand for no decimal number
abbrev pub IsName : List ℕ → Type 0
IsName w = (w ≡ codes "NaN") ⊎ ((w ≡ codes "Infinity") ⊎ (w ≡ codes "-Infinity"))

-- A number's text; a name only where names are allowed.
abbrev pub IsNumberText : Bool → List ℕ → Type 0
IsNumberText names w = IsDecimal w ⊎ ((names ≡ true) × IsName w)

-- a byte that only a fraction, an exponent or a name has
abbrev pub is_float_byte : ℕ → Bool
is_float_byte c =
    (c == ascii.point) || (c == ascii.small_e) || (c == ascii.capital_e) || (c == ascii.capital_n)
    || (c == ascii.capital_i)

-- neither point, exponent nor name
abbrev pub is_integral : List ℕ → Bool
is_integral w = if list_any is_float_byte w then false else true

-- the negative of a magnitude
abbrev pub minus_of : ℕ → ℤ
minus_of zero = pos 0
minus_of (suc n) = negsuc n

-- the integer of that magnitude where 64 signed bits hold it, or else its text
abbrev pub positive_value : List ℕ → ℕ → Number
positive_value w n = if nat_lt n (2 ^ 63) then integer (pos n) else big w

-- its negative, likewise
abbrev pub negative_value : List ℕ → ℕ → Number
negative_value w n = if nat_le n (2 ^ 63) then integer (minus_of n) else big w

-- the value of digits, with a minus or none before them
abbrev pub integral_value : List ℕ → Number
integral_value [] = big []
integral_value (c ∷ cs) =
    if c == ascii.minus then negative_value (c ∷ cs) (decimal_of cs) else positive_value (c ∷ cs) (decimal_of (c ∷ cs))

-- What a number's text stands for.
unfoldable pub number_value : List ℕ → Number
number_value w = if is_integral w then integral_value w else float w
