-- The nearest double of a number, and what reading it means.
use Rattle.std.proofs.Common.{◌≡◌, ℕ, List, ap}
use Rattle.std.specs.Prelude.{if◌then◌else◌, Option, Some, None}
use Rattle.std.specs.Float.{Float, binary64, float_is_finite}
use Rattle.std.specs.Float.Ieee.{of_int}
use Rattle.std.specs.Float.Parse.{parse_float}
use Rattle.jiter.specs.Caller.{Node, Number, Tree, begin, end, number_told, value_of}
use Rattle.jiter_walk.specs.Walk.{Outcome, and_then, gives}
use Rattle.jiter_walk.specs.Values.{if_bounded, number_in, replied}
use Rattle.jiter_walk.specs.Shown.{given, nothing-some}

-- a double that is finite
abbrev pub finite : Option Float → Option Float
finite None = None
finite (Some x) = if float_is_finite x then Some x else None

-- the double nearest to a number, if it is finite
abbrev pub double : Number → Option Float
double (Number.integer z) = Some (of_int binary64 z)
double (Number.big w) = finite (parse_float binary64 w)
double (Number.float w) = finite (parse_float binary64 w)

-- the double of a number; without a finite one this error
abbrev pub double_in : {C : Type 0} → C → List ℕ → Node → Outcome C Float
double_in cause t n = and_then (number_in t n) (λ z. if_bounded cause (begin n) (double z))

-- the double of a tree, if it is a number
abbrev pub double_of : Tree → Option Float
double_of (Tree.int z) = double (Number.integer z)
double_of (Tree.big s) = double (Number.big s.bytes)
double_of (Tree.float s) = double (Number.float s.bytes)
double_of v = None

pub double-shows : {C : Type 0} (cause : C) (t : List ℕ) (n : Node) (x : Float) → double_in cause t n ≡ gives x
    → double_of (value_of t n) ≡ Some x
double-shows {C = C} cause t n x h = by (value_of t n) h where
  seen : (o : Option Float) → if_bounded cause (begin n) o ≡ gives x → o ≡ Some x
  seen None h = ap given h
  seen (Some b) h = ap given h

  by : (v : Tree) → and_then (replied {C = C} (number_told v (begin n) (end n))) (λ z. if_bounded cause (begin n) (double z))
      ≡ gives x → double_of v ≡ Some x
  by (Tree.int z) h = seen (double (Number.integer z)) h
  by (Tree.big s) h = seen (double (Number.big s.bytes)) h
  by (Tree.float s) h = seen (double (Number.float s.bytes)) h
  by v h = absurd (nothing-some x (ap given h))
