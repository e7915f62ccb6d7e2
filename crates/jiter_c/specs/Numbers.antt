-- What C is told of a number: as an unsigned integer, as a double, and whichever it is.
use Rattle.std.specs.Prelude.{◌≡◌, ◌^◌, ◌<◌, ℕ, ℤ, pos, negsuc, Bool, true, false, List, [], Option, Some, None}
use Rattle.std.specs.Str.Parse.{IsNumeral, digits_value, without_leading_plus}
use Rattle.jiter.specs.Reader.{Reply, gave, refused}
use Rattle.jiter_scan.specs.Number as number
use Rattle.jiter_scan.specs.Number.{Number}

-- the digits are an integer that 64 bits hold
abbrev pub IsSmallNumeral : List ℕ → Type 0
IsSmallNumeral t = IsNumeral 10 (without_leading_plus t) × (digits_value 10 (without_leading_plus t) < 2 ^ 64)

-- The integer from 0 to 2^64 - 1 that a number is, if it is one.
abbrev pub IsUnsigned : Number → Option ℕ → Type 0
IsUnsigned (number.integer (pos n)) told = told ≡ Some n
IsUnsigned (number.integer (negsuc n)) told = told ≡ None
IsUnsigned (number.big t) (Some n) = IsSmallNumeral t × (n ≡ digits_value 10 (without_leading_plus t))
IsUnsigned (number.big t) None = IsSmallNumeral t → ⊥
IsUnsigned (number.float t) told = Unit {0}

-- The same, as a call tells it.
abbrev pub WritesUnsigned : Option ℕ → Bool → ℕ → Type 0
WritesUnsigned (Some n) fits value = (fits ≡ true) × (value ≡ n)
WritesUnsigned None fits value = (fits ≡ false) × (value ≡ 0)

abbrev pub ReportsUnsigned : Reply Number → Bool → Bool → ℕ → ℕ → Type 0
ReportsUnsigned (gave n e) before fits old value =
    (told : Option ℕ) × IsUnsigned n told × WritesUnsigned told fits value
ReportsUnsigned (refused c i stop) before fits old value = (fits ≡ before) × (value ≡ old)

-- if a reply gave something, P of it
abbrev pub IfGiven : {A : Type 0} → Reply A → (A → Type 0) → Type 0
IfGiven (gave a e) P = P a
IfGiven (refused c i stop) P = Unit {0}

-- A number by its type and its parts: an integer of 64 bits has no text, the others have theirs.
abbrev pub IsNumber : Number → ℕ → ℤ → List ℕ → Type 0
IsNumber (number.integer z) kind integer text = (kind ≡ 3) × (integer ≡ z) × (text ≡ [])
IsNumber (number.big t) kind integer text = (kind ≡ 9) × (integer ≡ pos 0) × (text ≡ t)
IsNumber (number.float t) kind integer text = (kind ≡ 4) × (integer ≡ pos 0) × (text ≡ t)
