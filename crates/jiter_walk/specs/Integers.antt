-- Integers of a type: which integer is one, and what reading it means.
use Rattle.std.proofs.Common.{◌≡◌, ◌^◌, ℕ, ℤ, pos, negsuc, ◌&&◌, Bool, List, [], ◌∷◌, length, ap}
use Rattle.std.specs.Prelude.{true, if◌then◌else◌, Option, Some, None, int_le, nat_lt}
use Rattle.std.specs.Char.{digit_value}
use Rattle.std.specs.Str.Parse.{digits_value, without_leading_plus}
use Rattle.jiter.specs.Caller.{Node, Number, Tree, begin, end, int_told, value_of}
use Rattle.jiter_walk.specs.Walk.{and_then, gives}
use Rattle.jiter_walk.specs.Values.{fitting, if_bounded, replied}
use Rattle.jiter_walk.specs.Shown.{given, nothing-some}

-- an integer from low to high, of 64 signed bits
abbrev pub signed_bounded : ℤ → ℤ → Number → Option ℤ
signed_bounded low high (Number.integer z) = if int_le low z && int_le z high then Some z else None
signed_bounded low high z = None

-- any integer of 64 signed bits
abbrev pub signed : Number → Option ℤ
signed (Number.integer z) = Some z
signed z = None

-- Each byte is a decimal digit.
abbrev pub all_digits : List ℕ → Bool
all_digits [] = true
all_digits (c ∷ cs) = nat_lt (digit_value c) 10 && all_digits cs

-- These are digits of an integer of 64 bits.
abbrev pub is_small_numeral : List ℕ → Bool
is_small_numeral w = (nat_lt 0 (length w) && all_digits w) && nat_lt (digits_value 10 w) (2 ^ 64)

abbrev pub small_numeral : List ℕ → Option ℕ
small_numeral w = if is_small_numeral w then Some (digits_value 10 w) else None

-- an integer of 64 bits without a sign
abbrev pub unsigned : Number → Option ℕ
unsigned (Number.integer (pos p)) = Some p
unsigned (Number.integer (negsuc p)) = None
unsigned (Number.big w) = small_numeral (without_leading_plus w)
unsigned (Number.float w) = None

-- the integer that a tree is, if it fits
abbrev pub integer_of : {A : Type 0} → (Number → Option A) → Tree → Option A
integer_of fit (Tree.int z) = fit (Number.integer z)
integer_of fit (Tree.big s) = fit (Number.big s.bytes)
integer_of fit v = None

pub fitting-shows : {C A : Type 0} (fit : Number → Option A) (cause : C) (t : List ℕ) (n : Node) (a : A)
    → fitting fit cause t n ≡ gives a → integer_of fit (value_of t n) ≡ Some a
fitting-shows {C = C} {A = A} fit cause t n a h = by (value_of t n) h where
  seen : (o : Option A) → if_bounded cause (begin n) o ≡ gives a → o ≡ Some a
  seen None h = ap given h
  seen (Some b) h = ap given h

  by : (v : Tree) → and_then (replied {C = C} (int_told v (begin n) (end n))) (λ z. if_bounded cause (begin n) (fit z)) ≡ gives a
      → integer_of fit v ≡ Some a
  by (Tree.int z) h = seen (fit (Number.integer z)) h
  by (Tree.big s) h = seen (fit (Number.big s.bytes)) h
  by v h = absurd (nothing-some a (ap given h))
