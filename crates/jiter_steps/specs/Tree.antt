-- The tree that a document stands for.
use Rattle.std.specs.Prelude.{ℕ, ℤ, Bool, List, [], ◌∷◌}

-- the bytes of a text, and whether they lie in memory of their own
pub record Text : Type 0 where
  pub owned : Bool
  pub bytes : List ℕ

mutual
  pub data Tree : Type 0 where
    null : Tree
    boolean : Bool → Tree
    int : ℤ → Tree
    big : Text → Tree
    float : Text → Tree
    string : Text → Tree
    array : Items → Tree
    object : Members → Tree

  pub data Items : Type 0 where
    no_items : Items
    item : Tree → Items → Items

  pub data Members : Type 0 where
    no_members : Members
    member : Text → Tree → Members → Members

abbrev pub items_of : List Tree → Items
items_of [] = no_items
items_of (j ∷ js) = item j (items_of js)

abbrev pub members_of : List (Text × Tree) → Members
members_of [] = no_members
members_of (m ∷ ms) = member m.0 m.1 (members_of ms)
