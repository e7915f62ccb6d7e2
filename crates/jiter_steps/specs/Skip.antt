-- What a skip has still to read, by the containers that are open.
use Rattle.std.specs.Prelude.{◌≡◌, ◌<◌, ℕ, zero, suc, ◌+◌, Bool, true, false, List, [], ◌∷◌, length, slice_index_or}
use Rattle.std.specs.Prelude.{Result, Ok, Err}
use Rattle.jiter_scan.specs.Kind.{fault_kind}
use Rattle.jiter_scan.specs.declared.errors.Fault.{Fault}
use Rattle.jiter_steps.specs.Answer.{seen_as, only_ends}
use Rattle.jiter_steps.specs.Frames.{Frame, items_frame, members_frame, resume, value_from}
use Rattle.jiter_steps.specs.Node.{nesting_limit}
use Rattle.jiter_steps.specs.Read.{Reading, done, fault, after_key, value_at}
use Rattle.jiter_steps.specs.Step.{Step, more, closed, stuck, step, container_first, container_step}
use Rattle.jiter_steps.specs.StringReading.{raw, string_at}
use Rattle.jiter_steps.specs.declared.parse.ContainerKind.{ContainerKind}
use Rattle.jiter_steps.specs.declared.parse.ContainerKind.TheVariants as shape

-- a key and its colon, up to where its value begins
abbrev pub key_end : List ℕ → ℕ → Reading (Unit {0} × Unit {0})
key_end t i = after_key (λ j. done tt j) t i (seen_as (λ s e. tt) (string_at raw t i))

-- after a key and its colon a value begins
abbrev pub awaits_value : Reading (Unit {0} × Unit {0}) → Reading Bool
awaits_value (done u j) = done true j
awaits_value (fault k i stop) = fault k i stop

-- where a part begins at j: its value, after a key and its colon in an object
abbrev pub value_inside : ContainerKind → List ℕ → ℕ → Reading Bool
value_inside shape.Array t j = done true j
value_inside shape.Object t j = awaits_value (key_end t j)

-- whether a value begins at the place that is read, where a step leads on; else the container has ended there
abbrev pub inside : ContainerKind → List ℕ → Step → Reading Bool
inside b t (more j) = value_inside b t j
inside b t (closed e) = done false e
inside b t (stuck k j) = fault k j j

-- from a container's bracket at i to the first value inside
abbrev pub first_inside : ContainerKind → List ℕ → ℕ → Reading Bool
first_inside b t i = inside b t (step t (container_first b) (i + 1))

-- from the end of one value inside to the next one
abbrev pub next_inside : ContainerKind → List ℕ → ℕ → Reading Bool
next_inside b t e = inside b t (step t (container_step b t) e)

-- An open container. Nothing is kept of its parts.
abbrev pub frame_of : ContainerKind → Frame (Unit {0}) (Unit {0})
frame_of shape.Array = items_frame []
frame_of shape.Object = members_frame [] tt

-- So many open containers, the innermost first. The table has the kind of each, the outermost first.
abbrev pub open_frames : List ContainerKind → ℕ → List (Frame (Unit {0}) (Unit {0}))
open_frames kinds zero = []
open_frames kinds (suc n) = frame_of (slice_index_or kinds n shape.Array) ∷ open_frames kinds n

-- What was returned, and the place i then, lead on to the reading x inside these open containers: a value is awaited
-- at i, or one has ended there.
abbrev pub Continues : Bool → List ℕ → List (Frame (Unit {0}) (Unit {0})) → Result Bool Fault → ℕ → Reading (Unit {0})
    → Type 0
Continues names t fs (Ok true) i x = (x ≡ value_from (only_ends names) t fs i) × (i < length t)
Continues names t fs (Ok false) i x = x ≡ resume (only_ends names) t fs (done tt i)
Continues names t fs (Err f) i x = x ≡ fault (fault_kind f.kind) f.index i

-- The value at i ends at e, whatever names are allowed and however many levels are left.
abbrev pub IsPlainEnd : List ℕ → ℕ → ℕ → Type 0
IsPlainEnd t i e = (names : Bool) → (levels : ℕ) → value_at (only_ends names) t levels i ≡ done tt e

-- After a part that ends at i, in a container of this shape that is in any others: a value is awaited at j, or one
-- has ended there.
abbrev pub LeadsAfter : ContainerKind → List ℕ → ℕ → Bool → ℕ → Type 0
LeadsAfter b t i awaited j =
    (names : Bool) → (fs : List (Frame (Unit {0}) (Unit {0}))) → length fs < nesting_limit
    → Continues names t (frame_of b ∷ fs) (Ok awaited) j (resume (only_ends names) t (frame_of b ∷ fs) (done tt i))
