-- Whether two values hold the same, as a test: their codes, which leave out where texts lie, are equal.
use Rattle.std.specs.Prelude.{ℕ, ℤ, pos, negsuc, Bool, true, false, nat_eq, List, [], ◌∷◌, ◌++◌, length}
use Rattle.std.specs.Cmp.Lexicographic.{pointwise}
use Rattle.jiter_steps.specs.Tree.{Tree, null, boolean, int, big, float, string, array, object}
use Rattle.jiter_steps.specs.Tree.{Items, no_items, item, Members, no_members, member}

abbrev pub code_bool : Bool → List ℕ
code_bool false = 0 ∷ []
code_bool true = 1 ∷ []

abbrev pub code_int : ℤ → List ℕ
code_int (pos n) = 0 ∷ (n ∷ [])
code_int (negsuc n) = 1 ∷ (n ∷ [])

abbrev pub code_bytes : List ℕ → List ℕ
code_bytes bs = length bs ∷ bs

-- A number for the kind of tree, and then what it holds. No code begins another.
abbrev mutual
  pub code : Tree → List ℕ
  code null = 0 ∷ []
  code (boolean b) = 1 ∷ code_bool b
  code (int z) = 2 ∷ code_int z
  code (big s) = 3 ∷ code_bytes s.bytes
  code (float s) = 4 ∷ code_bytes s.bytes
  code (string s) = 5 ∷ code_bytes s.bytes
  code (array is) = 6 ∷ code_items is
  code (object ms) = 7 ∷ code_members ms

  pub code_items : Items → List ℕ
  code_items no_items = 0 ∷ []
  code_items (item v is) = 1 ∷ (code v ++ code_items is)

  pub code_members : Members → List ℕ
  code_members no_members = 0 ∷ []
  code_members (member k v ms) = 1 ∷ (code_bytes k.bytes ++ (code v ++ code_members ms))

abbrev pub same_content : Tree → Tree → Bool
same_content v w = pointwise nat_eq (code v) (code w)
