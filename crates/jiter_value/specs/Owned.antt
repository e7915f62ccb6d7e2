-- Trees whose texts are all owned, and trees that are the same wherever their texts lie.
use Rattle.std.specs.Prelude.{◌≡◌, ◌⊎◌, ℕ, Bool, true, false, List, Result, Ok, Err}
use Rattle.jiter_scan.specs.declared.errors.JsonError.{JsonError}
use Rattle.jiter_scan.specs.declared.errors.JsonErrorType.TheVariants.{OutOfMemory}
use Rattle.jiter_scan.specs.declared.partial_mode.PartialMode.{PartialMode}
use Rattle.jiter_steps.specs.Answer.{answer_in}
use Rattle.jiter_steps.specs.Read.{Reading, done, fault}
use Rattle.jiter_steps.specs.Tree.{Text, Tree, null, boolean, int, big, float, string, array, object}
use Rattle.jiter_steps.specs.Tree.{Items, no_items, item, Members, no_members, member}
use Rattle.jiter_value.specs.Value.{view, MayGrow}
use Rattle.jiter_value.specs.declared.value.JsonValue.{JsonValue}

-- what is made of a text that is borrowed where it lies
abbrev pub as_it_is : Text → Text
as_it_is s = s

-- the same bytes, in memory of their own
abbrev pub owned_text : Text → Text
owned_text s = record { owned = true; bytes = s.bytes }

-- the same tree, each of its texts made so
abbrev mutual
  pub tree_as : (Text → Text) → Tree → Tree
  tree_as policy null = null
  tree_as policy (boolean b) = boolean b
  tree_as policy (int z) = int z
  tree_as policy (big s) = big (policy s)
  tree_as policy (float s) = float (policy s)
  tree_as policy (string s) = string (policy s)
  tree_as policy (array is) = array (items_as policy is)
  tree_as policy (object ms) = object (members_as policy ms)

  pub items_as : (Text → Text) → Items → Items
  items_as policy no_items = no_items
  items_as policy (item v is) = item (tree_as policy v) (items_as policy is)

  pub members_as : (Text → Text) → Members → Members
  members_as policy no_members = no_members
  members_as policy (member k v ms) = member (policy k) (tree_as policy v) (members_as policy ms)

-- the same tree, each of its texts owned
abbrev pub owned_tree : Tree → Tree
owned_tree = tree_as owned_text

abbrev pub owned_items : Items → Items
owned_items = items_as owned_text

abbrev pub owned_members : Members → Members
owned_members = members_as owned_text

-- the same of a member
abbrev pub owned_member : Text × Tree → Text × Tree
owned_member m = (owned_text m.0, owned_tree m.1)

-- Two trees hold the same, wherever their texts lie.
abbrev pub HoldSame : Tree → Tree → Type 0
HoldSame v w = owned_tree v ≡ owned_tree w

-- A tree that holds a text of this sort or a part.
abbrev pub HoldsSuchOrPart : (Text → Type 0) → Tree → Type 0
HoldsSuchOrPart P null = ⊥
HoldsSuchOrPart P (boolean b) = ⊥
HoldsSuchOrPart P (int z) = ⊥
HoldsSuchOrPart P (big s) = P s
HoldsSuchOrPart P (float s) = P s
HoldsSuchOrPart P (string s) = P s
HoldsSuchOrPart P (array no_items) = ⊥
HoldsSuchOrPart P (array (item v is)) = Unit {0}
HoldsSuchOrPart P (object no_members) = ⊥
HoldsSuchOrPart P (object (member k v ms)) = Unit {0}

-- Owning a tree's texts doesn't allocate except a text or a part; a clone none except an owned text or a part; where
-- the owned texts are moved, none except a borrowed text or a part.
abbrev pub HoldsTextOrPart : Tree → Type 0
HoldsTextOrPart v = HoldsSuchOrPart (λ s. Unit {0}) v

abbrev pub HoldsOwnedTextOrPart : Tree → Type 0
HoldsOwnedTextOrPart v = HoldsSuchOrPart (λ s. s.owned ≡ true) v

abbrev pub HoldsBorrowedTextOrPart : Tree → Type 0
HoldsBorrowedTextOrPart v = HoldsSuchOrPart (λ s. s.owned ≡ false) v

-- the owned value that a text answers may want memory: reading it does, or it is read with a borrowed text or a part
abbrev pub ReadHolds : Reading Tree → Type 0
ReadHolds (done v e) = HoldsBorrowedTextOrPart v
ReadHolds (fault k x stop) = ⊥

abbrev pub OwnedMayGrow : Bool → PartialMode → List ℕ → Type 0
OwnedMayGrow names mode t = MayGrow t ⊎ ReadHolds (answer_in names mode t)

-- What became of an answer: the same value, each text owned, or a failed allocation at an index, where there was a borrowed
-- text or a part to own; the same error.
abbrev pub IsOwnedAnswer : Result JsonValue JsonError → ℕ → Result JsonValue JsonError → Type 0
IsOwnedAnswer (Ok v) i (Ok w) = view w ≡ owned_tree (view v)
IsOwnedAnswer (Ok v) i (Err e) = (e ≡ record { error_type = OutOfMemory; index = i }) × HoldsBorrowedTextOrPart (view v)
IsOwnedAnswer (Err f) i (Ok w) = ⊥
IsOwnedAnswer (Err f) i (Err e) = e ≡ f
