-- Strings that are names of something, and what reading one means.
use Prim.Native.String.{String}
use Rattle.std.proofs.Common.{◌≡◌, ℕ, List, [], ◌∷◌, ap}
use Rattle.std.specs.Prelude.{codes, if◌then◌else◌, Option, Some, None}
use Rattle.std.specs.Str.{bytes_eq}
use Rattle.jiter.specs.Caller.{Node, Tree, begin, string_in, value_of}
use Rattle.jiter_walk.specs.Walk.{Outcome, and_then, gives}
use Rattle.jiter_walk.specs.Values.{if_bounded, text_in}
use Rattle.jiter_walk.specs.Shown.{and_then-gives, given, text-shows}

-- what has this name, in a list of names
abbrev pub named : {A : Type 0} → List (String × A) → List ℕ → Option A
named [] name = None
named (a ∷ rest) name = if bytes_eq name (codes a.0) then Some a.1 else named rest name

-- what a string names; another string is this error
abbrev pub named_in : {C A : Type 0} → (List ℕ → Option A) → C → List ℕ → Node → Outcome C A
named_in names cause t n = and_then (text_in t n) (λ w. if_bounded cause (begin n) (names w))

-- a string that names this
pub record IsName {A : Type 0} (names : List ℕ → Option A) (v : Tree) (a : A) : Type 0 where
  pub name : List ℕ
  pub string : string_in v ≡ Some name
  pub named : names name ≡ Some a

pub name-shows : {C A : Type 0} (names : List ℕ → Option A) (cause : C) (t : List ℕ) (n : Node) (a : A)
    → named_in names cause t n ≡ gives a → IsName names (value_of t n) a
name-shows {C = C} {A = A} names cause t n a h =
    let read = and_then-gives (text_in t n) (λ w. if_bounded cause (begin n) (names w)) a h in
    record { name = read.0; string = text-shows {C = C} t n read.0 read.1; named = seen (names read.0) read.2 }
  where
    seen : (o : Option A) → if_bounded cause (begin n) o ≡ gives a → o ≡ Some a
    seen None h = ap given h
    seen (Some b) h = ap given h
