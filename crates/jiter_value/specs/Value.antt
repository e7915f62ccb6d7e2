-- The tree that a `JsonValue` stands for, and what a parse returns.
use Rattle.std.specs.Prelude.{◌≡◌, ◌≢◌, ◌⊎◌, ℕ, ◌+◌, List, [], ◌∷◌, map, slice_index, Result, Ok}
use Rattle.std.specs.Prelude.{Err}
use Rattle.std.specs.declared.alloc.Global.{Global}
use Rattle.std.specs.declared.borrow.CowStr.{CowStr}
use Rattle.jiter_scan.specs.Kind.{kind_of}
use Rattle.jiter_scan.specs.declared.errors.JsonError.{JsonError}
use Rattle.jiter_scan.specs.declared.errors.JsonErrorType.TheVariants.{OutOfMemory}
use Rattle.jiter_steps.specs.Tree.{Tree, null, boolean, int, big, float, string, array, object, Items, items_of}
use Rattle.jiter_steps.specs.Tree.{Members, no_members, member}
use Rattle.jiter_steps.specs.Blank.{past_blanks}
use Rattle.jiter_steps.specs.Literal.{start_of}
use Rattle.jiter_steps.specs.Step.{Step, more, closed, stuck, step, array_first, object_first}
use Rattle.jiter_steps.specs.StringDecoder.{text_view, WantsMemory}
use Rattle.jiter_steps.specs.Read.{Reading, done, fault}
use Rattle.jiter_steps.specs.declared.parse.Start.{Start}
use Rattle.jiter_steps.specs.declared.parse.Start.TheVariants as start
use Rattle.jiter_value.specs.declared.value.JsonValue.{JsonValue, fold-JsonValue}
use Rattle.jiter_value.specs.declared.value.JsonValue.TheOpen.{JsonValue-F}

-- members whose values are seen as their trees already
abbrev pub members_seen : List (CowStr Global × Tree) → Members
members_seen [] = no_members
members_seen (m ∷ ms) = member (text_view m.0) m.1 (members_seen ms)

-- one level, with each value inside seen as its tree already
abbrev pub view_step : JsonValue-F Tree → Tree
view_step JsonValue-F.Null = null
view_step (JsonValue-F.Bool b) = boolean b
view_step (JsonValue-F.Int z) = int z
view_step (JsonValue-F.BigInt s) = big (text_view s)
view_step (JsonValue-F.Float s) = float (text_view s)
view_step (JsonValue-F.Str s) = string (text_view s)
view_step (JsonValue-F.Array v) = array (items_of v.items)
view_step (JsonValue-F.Object v) = object (members_seen v.items)

-- the tree of a value
abbrev pub view : JsonValue → Tree
view = fold-JsonValue Tree view_step

-- the trees of items
abbrev pub views : List JsonValue → Items
views vs = items_of (map view vs)

-- the trees of members, with their keys
abbrev pub member_views : List (CowStr Global × JsonValue) → Members
member_views ms = members_seen (map (λ m. (m.0, view m.1)) ms)

-- What a parse returns: the value that was read, or the error's kind and index, unless an allocation fails.
abbrev pub Answers : Result JsonValue JsonError → Reading Tree → Type 0
Answers (Ok v) r = (e : ℕ) × (r ≡ done (view v) e)
Answers (Err e) r = (e.error_type ≡ OutOfMemory) ⊎ ((stop : ℕ) × (r ≡ fault (kind_of e.error_type) e.index stop))

-- a part is after the container's bracket
abbrev pub LeadsOn : Step → Type 0
LeadsOn (more j) = Unit {0}
LeadsOn (closed e) = ⊥
LeadsOn (stuck k j) = ⊥

-- a value that begins so may want memory: a string with a backslash, a container that is not empty
abbrev pub MayGrowAs : List ℕ → ℕ → Start → Type 0
MayGrowAs t i start.Array = LeadsOn (step t array_first (i + 1))
MayGrowAs t i start.Object = LeadsOn (step t object_first (i + 1))
MayGrowAs t i start.String = WantsMemory t i
MayGrowAs t i start.Number = ⊥
MayGrowAs t i (start.Literal l) = ⊥
MayGrowAs t i start.Nothing = ⊥

-- the value at i may want memory
abbrev pub MayGrowAt : List ℕ → ℕ → Type 0
MayGrowAt t i = MayGrowAs t i (start_of (slice_index t i))

-- an array or an object begins at i
abbrev pub BeginsContainer : List ℕ → ℕ → Type 0
BeginsContainer t i = (start_of (slice_index t i) ≡ start.Array) ⊎ (start_of (slice_index t i) ≡ start.Object)

-- the same where each text may want some: then a scalar does too
abbrev pub MayGrowBy : Type 0 → List ℕ → ℕ → Type 0
MayGrowBy Wants t i = MayGrowAt t i
    ⊎ (Wants × (start_of (slice_index t i) ≢ start.Array) × (start_of (slice_index t i) ≢ start.Object))

-- the value that a document begins with may want memory
abbrev pub MayGrow : List ℕ → Type 0
MayGrow t = MayGrowAt t (past_blanks t 0)
