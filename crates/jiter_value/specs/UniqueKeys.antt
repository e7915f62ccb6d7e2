-- What a reading returns that refuses repeated keys.
use Rattle.std.specs.Prelude.{◌≡◌, ℕ, ◌≤◌, Bool, List, [], ◌∷◌, drop, length, reverse, Result, Ok, Err, Option, Some, None}
use Rattle.std.specs.Prelude.{if◌then◌else◌, string_bytes}
use Rattle.std.specs.List.{list_any}
use Rattle.std.specs.Str.{bytes_eq}
use Rattle.jiter_scan.specs.Kind.{Kind, fault_kind, duplicate_key}
use Rattle.jiter_steps.specs.Parse.{Returns}
use Rattle.jiter_steps.specs.Read.{Reading, done, fault}
use Rattle.jiter_steps.specs.ReadError.{WhereRefused}
use Rattle.jiter_steps.specs.Step.{step, colon}
use Rattle.jiter_steps.specs.StringDecoder.{text_view}
use Rattle.jiter_steps.specs.Tree.{Tree}
use Rattle.jiter_steps.specs.Unique.{after_its_colon}
use Rattle.jiter_steps.specs.declared.read_error.ReadError.TheVariants as error
use Rattle.jiter_value.specs.Reading.{GivesWhole}
use Rattle.jiter_value.specs.Settings.{borrowed_unique}
use Rattle.jiter_value.specs.Stacks.{Member, refused_in}
use Rattle.jiter_value.specs.UniqueErrors.{unique_kind, IsMemoryRefused}
use Rattle.jiter_value.specs.Value.{view}
use Rattle.jiter_value.specs.declared.parse.stacks.OpenContainer.{OpenContainer}
use Rattle.jiter_value.specs.declared.parse.stacks.Stacks.{Stacks}
use Rattle.jiter_value.specs.declared.parse.turns.unique.Repeated.{Repeated}
use Rattle.jiter_value.specs.declared.parse.turns.unique.Interrupted.{Interrupted}
use Rattle.jiter_value.specs.declared.parse.turns.unique.Interrupted.TheVariants as stopped
use Rattle.jiter_value.specs.declared.parse.unique_error.UniqueError.{UniqueError}
use Rattle.jiter_value.specs.declared.value.JsonValue.{JsonValue}

-- one of the members has this key
abbrev pub has_key : List ℕ → List Member → Bool
has_key key ms = list_any (λ m. bytes_eq key (text_view m.0).bytes) ms

-- how many parts lie below those of the innermost container
abbrev pub innermost_base : List OpenContainer → ℕ
innermost_base [] = 0
innermost_base (o ∷ os) = o.base

-- one of the members of the innermost object has this key
abbrev pub object_has_key : List ℕ → Stacks → Bool
object_has_key key s = has_key key (drop (innermost_base (reverse s.nest.items)) s.members.items)

-- the error of this key, which ends before e, where the innermost object has it already
abbrev pub fault_at_key : List ℕ → Stacks → List ℕ → ℕ → Option (Kind × ℕ)
fault_at_key key s t e = if object_has_key key s then after_its_colon key (step t colon e) else None

-- the error of a repeated key
abbrev pub fault_of : Repeated → Kind × ℕ
fault_of r = (duplicate_key (string_bytes r.key), r.index)

-- The reading stopped at j for the key at i: it is repeated and its colon ends at j, or an allocation failed.
abbrev pub StopsAtKey : List ℕ → Stacks → ℕ → Interrupted → ℕ → Type 0
StopsAtKey t s i (stopped.Repeated r) j =
    (refused_in borrowed_unique t (reverse s.nest.items) s.members.items i ≡ Some (fault_of r)) × (j ≡ r.index)
StopsAtKey t s i (stopped.Read (error.Fault f)) j = ⊥
StopsAtKey t s i (stopped.Read (error.Memory m)) j = Unit {0}

-- The reading stopped for the key at i, and this is why and where.
abbrev pub HasStopped : Option (Interrupted × ℕ) → List ℕ → Stacks → ℕ → Type 0
HasStopped None t s i = ⊥
HasStopped (Some r) t s i = StopsAtKey t s i r.0 r.1 × (i ≤ r.1) × (r.1 ≤ length t)

-- What was returned, and the place where it left the reader, are this reading, unless an allocation fails.
abbrev pub GivesUnique : Result JsonValue Interrupted → ℕ → Reading Tree → Type 0
GivesUnique (Ok v) i r = r ≡ done (view v) i
GivesUnique (Err (stopped.Read e)) i r = Returns view (Err e) i r
GivesUnique (Err (stopped.Repeated k)) i r = r ≡ fault (duplicate_key (string_bytes k.key)) k.index i

-- where an allocation failed, P
abbrev pub WhereUniqueRefused : Result JsonValue Interrupted → Type 0 → Type 0
WhereUniqueRefused (Ok v) P = Unit {0}
WhereUniqueRefused (Err (stopped.Read e)) P = WhereRefused {A = JsonValue} (Err e) P
WhereUniqueRefused (Err (stopped.Repeated k)) P = Unit {0}

-- The same of a whole text.
abbrev pub GivesUniqueWhole : Result JsonValue Interrupted → ℕ → Reading Tree → Type 0
GivesUniqueWhole (Ok v) i r = (e : ℕ) × (r ≡ done (view v) e)
GivesUniqueWhole (Err (stopped.Read e)) i r = GivesWhole (Err e) i r
GivesUniqueWhole (Err (stopped.Repeated k)) i r = r ≡ fault (duplicate_key (string_bytes k.key)) k.index i

-- The error that the public call answers, where the reader is at i: the error, the key, or a failed allocation there.
abbrev pub IsUniqueErrorOf : Interrupted → ℕ → UniqueError → Type 0
IsUniqueErrorOf (stopped.Read (error.Fault f)) i e =
    (unique_kind e.error_type ≡ fault_kind f.kind) × (e.index ≡ f.index)
IsUniqueErrorOf (stopped.Read (error.Memory m)) i e = IsMemoryRefused e.error_type × (e.index ≡ i)
IsUniqueErrorOf (stopped.Repeated k) i e =
    (unique_kind e.error_type ≡ duplicate_key (string_bytes k.key)) × (e.index ≡ k.index)
