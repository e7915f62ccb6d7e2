-- The open containers of a document that comes in chunks: each is the last part of the one outside it.
use Rattle.std.specs.Prelude.{◌≡◌, ℕ, ◌+◌, ◌<◌, List, [], ◌∷◌, ◌++◌, length, vec_len, vec_capacity}
use Rattle.jiter_steps.specs.Frames.{Frame, items_frame, members_frame}
use Rattle.jiter_steps.specs.Tree.{Text, Tree, array, object, items_of, members_of}
use Rattle.jiter_value.specs.declared.value.JsonValue.{JsonValue, out-JsonValue}
use Rattle.jiter_value.specs.declared.value.JsonValue.TheOpen.{JsonValue-F}

-- an open container of a document: the parts before the one that it awaits, and of an object that one's key
abbrev pub OpenFrame : Type 0
OpenFrame = Frame Text Tree

-- its value so far, and with the part that it awaits after the others
abbrev pub begun : OpenFrame → Tree
begun (items_frame xs) = array (items_of xs)
begun (members_frame ms k) = object (members_of ms)

abbrev pub around : OpenFrame → Tree → Tree
around (items_frame xs) x = array (items_of (xs ++ x ∷ []))
around (members_frame ms k) x = object (members_of (ms ++ (k, x) ∷ []))

-- Open containers inside each other, the innermost first, around x: each is the last part of the next.
abbrev pub filled : List OpenFrame → Tree → Tree
filled [] x = x
filled (f ∷ fs) x = filled fs (around f x)

-- the last part of a container
pub record HasPart (v : Tree) : Type 0 where
  pub frame : OpenFrame
  pub part : Tree
  pub is : v ≡ around frame part

-- In the value so far these many containers are open, inside each other and the innermost first, and a part is awaited
-- in the innermost; with none a value is awaited.
abbrev pub AwaitsPart : ℕ → Tree → List OpenFrame → Type 0
AwaitsPart depth v [] = depth ≡ 0
AwaitsPart depth v (f ∷ fs) = (depth ≡ length fs + 1) × (v ≡ filled fs (begun f))

-- Inside them is x as the last part of the innermost, or as the value.
abbrev pub HasValue : ℕ → Tree → List OpenFrame → Tree → Type 0
HasValue depth v fs x = (depth ≡ length fs) × (v ≡ filled fs x)

-- in an object the value of this key.
abbrev pub IsOfKey : Text → List OpenFrame → Type 0
IsOfKey k [] = Unit {0}
IsOfKey k (items_frame xs ∷ fs) = Unit {0}
IsOfKey k (members_frame ms l ∷ fs) = l ≡ k

-- a container that has room for a part more
abbrev pub IsRoomy : JsonValue-F JsonValue → Type 0
IsRoomy (JsonValue-F.Array items) = vec_len items < vec_capacity items
IsRoomy (JsonValue-F.Object members) = vec_len members < vec_capacity members
IsRoomy scalar = ⊥

-- A slot at this level has room for a value: the root, or a container for a part more.
abbrev pub HasRoomAt : ℕ → JsonValue → Type 0
HasRoomAt level slot = 0 < level → IsRoomy (out-JsonValue slot)

-- a container between two parts
abbrev pub IsContainer : Tree → Type 0
IsContainer v = (f : OpenFrame) × (v ≡ begun f)

-- The value x was put into a slot at this level, with this key where it became a member.
pub record IsPut (level : ℕ) (v : Tree) (k : Text) (x w : Tree) : Type 0 where
  pub root : level ≡ 0 → w ≡ x
  pub part : (f : OpenFrame) → 0 < level → v ≡ begun f → IsOfKey k (f ∷ []) → w ≡ around f x

-- The value x was taken out of it again, with its key.
pub record IsTaken (level : ℕ) (v x w : Tree) (k : Text) : Type 0 where
  pub root : level ≡ 0 → x ≡ v
  pub part : (f : OpenFrame) (y : Tree) → 0 < level → v ≡ around f y
      → (x ≡ y) × (w ≡ begun f) × IsOfKey k (f ∷ [])
