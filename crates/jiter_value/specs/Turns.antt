-- What a turn leads to, where each text that is read is made so, and how much is left after it.
use Rattle.std.specs.Prelude.{◌≡◌, ◌≢◌, ◌⊎◌, ℕ, ◌+◌, ◌≤◌, ◌<◌, Result, Ok, Err, OnOk, IfOk, Bool, true, false, List}
use Rattle.std.specs.Prelude.{length}
use Rattle.jiter_scan.specs.Kind.{fault_kind}
use Rattle.jiter_scan.specs.Scanned.{taken}
use Rattle.jiter_scan.specs.declared.errors.Fault.{Fault}
use Rattle.jiter_scan.specs.declared.memory.AllocFailed.{AllocFailed}
use Rattle.jiter_steps.specs.Frames.{resolve_step}
use Rattle.jiter_steps.specs.Node.{nesting_limit}
use Rattle.jiter_steps.specs.Read.{Reading as Answer, fault, value_at}
use Rattle.jiter_steps.specs.ReadError.{WhereRefused}
use Rattle.jiter_steps.specs.Step.{Step, closed, stuck, step, colon}
use Rattle.jiter_steps.specs.StringReading.{string_at, whole}
use Rattle.jiter_steps.specs.Tree.{Text, Tree}
use Rattle.jiter_value.specs.Settings.{TextPolicy, forgives, rules_as}
use Rattle.jiter_steps.specs.declared.parse.ContainerKind.{ContainerKind}
use Rattle.jiter_steps.specs.declared.parse.ContainerKind.TheVariants as shape
use Rattle.jiter_steps.specs.declared.read_error.ReadError.{ReadError}
use Rattle.jiter_steps.specs.declared.read_error.ReadError.TheVariants as error
use Rattle.jiter_value.specs.Size.{value_size, key_size, after_size, held, left_at}
use Rattle.jiter_value.specs.Stacks.{from_value, from_key, after, denotes, part_of, HasRoom, HasRoomIn, HaveKeys, HoldsSame, LeavesKeys, Stands, StandsAtKey}
use Rattle.jiter_value.specs.declared.parse.settings.Settings.{Settings}
use Rattle.jiter_value.specs.declared.parse.stacks.Slot.{Slot}
use Rattle.jiter_value.specs.declared.parse.stacks.Slot.TheVariants as slot
use Rattle.jiter_value.specs.declared.parse.stacks.Stacks.{Stacks}
use Rattle.jiter_value.specs.declared.parse.stacks.State.{State}
use Rattle.jiter_value.specs.declared.parse.stacks.State.TheVariants as state
use Rattle.jiter_value.specs.Value.{MayGrowBy}
use Rattle.jiter_value.specs.declared.parse.turns.Reading.{Reading}

-- a value is awaited at j, within the limit, and can go where it belongs without a request for memory
abbrev pub IsAtValue : List ℕ → Stacks → Slot → ℕ → Type 0
IsAtValue t s a j = Stands s a × (length s.nest.items ≤ nesting_limit) × (j < length t) × HasRoom s a

-- the same of a key, one deeper
abbrev pub IsAtKey : List ℕ → Stacks → ℕ → Type 0
IsAtKey t s j =
    StandsAtKey s × (length s.nest.items ≤ nesting_limit + 1) × (j < length t) × HasRoomIn shape.Object s

-- the stacks are as the state at j asks
abbrev pub IsWithin : List ℕ → Stacks → State → ℕ → Type 0
IsWithin t s state.Root j = IsAtValue t s slot.Root j
IsWithin t s state.Item j = IsAtValue t s slot.Item j
IsWithin t s state.Member j = IsAtValue t s slot.Member j
IsWithin t s state.Key j = IsAtKey t s j
IsWithin t s state.Done j = Stands s slot.Root × (j ≤ length t)
IsWithin t s state.GivenUp j = ⊥

-- the state then, or why the reading was given up
abbrev pub outcome : Stacks → State → Result State ReadError
outcome s state.Root = Ok state.Root
outcome s state.Item = Ok state.Item
outcome s state.Member = Ok state.Member
outcome s state.Key = Ok state.Key
outcome s state.Done = Ok state.Done
outcome s state.GivenUp = Err s.error

-- an error is the reading's, and leaves the reader at j
abbrev pub Fails : ReadError → ℕ → Answer Tree → Type 0
Fails (error.Fault f) j x = x ≡ fault (fault_kind f.kind) f.index j
Fails (error.Memory m) j x = Unit {0}

-- what was returned, and the stacks and the place j then, lead on to the reading x
abbrev pub Reaches : TextPolicy → Settings → List ℕ → Stacks → ℕ → Result State ReadError → Answer Tree → Type 0
Reaches policy p t s j (Ok a) x = (x ≡ denotes policy p t s a j) × IsWithin t s a j
Reaches policy p t s j (Err e) x = Fails e j x

-- how much is left to do
abbrev pub work_left : List ℕ → Stacks → ℕ → ℕ
work_left t s j = left_at t s.nest.items j

-- P, where the reading goes on or an allocation failed
abbrev pub MayGrowFor : Result State ReadError → Type 0 → Type 0
MayGrowFor (Ok state.Done) P = Unit {0}
MayGrowFor (Ok a) P = P
MayGrowFor (Err (error.Fault f)) P = Unit {0}
MayGrowFor (Err (error.Memory m)) P = P

-- From the place i a turn proceeds to these stacks, to this place and to this state.
pub record Proceeds (policy : TextPolicy) (p : Settings) (t : List ℕ) (i l h : ℕ) (x : Answer Tree) (s : Stacks)
    (r : ℕ × State) : Type 0 where
  -- The reader goes no step back, and stays within the text.
  pub within : (i ≤ r.0) × (r.0 ≤ length t)
  -- What is awaited then, or why the reading was given up, is the reading x.
  pub reaches : Reaches policy p t s r.0 (outcome s r.1) x
  -- Less than l is left to do.
  pub work_left : OnOk (outcome s r.1) (work_left t s r.0 < l)
  -- At most h scalars, containers and keys are held.
  pub held : IfOk (outcome s r.1) (λ a. held s a ≤ h)

-- A turn at the value that is awaited at i, for this slot, proceeds so. It may want memory as the value does.
pub record Turned (policy : TextPolicy) (Wants : Type 0) (t : List ℕ) (i : ℕ) (a : Slot) (old new : Reading) (r : ℕ × State)
    : Type 0 where
  pub leads : Proceeds policy old.settings t i (work_left t old.stacks i) (value_size old.stacks a + 1)
      (from_value policy old.settings t old.stacks a i) new.stacks r
  pub memory : a ≡ slot.Root → MayGrowFor (outcome new.stacks r.1) (MayGrowBy Wants t i)
  pub keys : OnOk (outcome new.stacks r.1) (LeavesKeys old.stacks.members.items new.stacks.members.items)
  pub settings : new.settings ≡ old.settings

-- A turn goes on from i to the reading x, where the slot a has its value. It wants no memory after the document's value.
pub record Follows (policy : TextPolicy) (t : List ℕ) (i l h : ℕ) (x : Answer Tree) (a : Slot) (old new : Reading)
    (r : ℕ × State) : Type 0 where
  pub leads : Proceeds policy old.settings t i l h x new.stacks r
  pub memory : WhereRefused (outcome new.stacks r.1) (a ≢ slot.Root)
  pub root : a ≡ slot.Root → IfOk (outcome new.stacks r.1) (λ s. s ≡ state.Done)
  pub keys : OnOk (outcome new.stacks r.1) (LeavesKeys old.stacks.members.items new.stacks.members.items)
  pub settings : new.settings ≡ old.settings

-- Turns have led from the value at i to these stacks, to the place j and to this state: what is held, and what is left of
-- the text, are the value, or the reading was given up. It may want memory, unless nothing of it was read.
pub record HasReached (policy : TextPolicy) (Wants : Type 0) (t : List ℕ) (i : ℕ) (p : Settings) (s : Stacks) (j : ℕ) (a : State)
    : Type 0 where
  pub reaches : Reaches policy p t s j (outcome s a) (value_at (rules_as policy p) t nesting_limit i)
  pub begins : i < length t
  pub within : (i ≤ j) × (j ≤ length t)
  pub grows : ((a ≡ state.Root) × (j ≡ i)) ⊎ MayGrowFor (outcome s a) (MayGrowBy Wants t i)

-- so a reading is
abbrev pub HasGone : TextPolicy → Type 0 → List ℕ → ℕ → Reading → Type 0
HasGone policy Wants t i r = HasReached policy Wants t i r.settings r.stacks r.at r.state

-- More is awaited.
abbrev pub GoesOn : State → Type 0
GoesOn state.Done = ⊥
GoesOn state.GivenUp = ⊥
GoesOn a = Unit {0}

-- One turn was taken: less is left, and one more scalar, container or key is held at most.
pub record HasTurned (t : List ℕ) (old new : Reading) : Type 0 where
  pub forward : old.at ≤ new.at
  pub work_left : OnOk (outcome new.stacks new.state) (work_left t new.stacks new.at < work_left t old.stacks old.at)
  pub held : IfOk (outcome new.stacks new.state) (λ a. held new.stacks a ≤ held old.stacks old.state + 1)

-- The value that is awaited at i is put where it belongs, and ends at e: a scalar.
pub record IsPutAt (policy : TextPolicy) (t : List ℕ) (old : Stacks) (i : ℕ) (a : Slot) (new : Stacks) (e : ℕ) : Type 0
  where
    pub value : (p : Settings) → from_value policy p t old a i ≡ after policy p t new a e
    pub stands : Stands new a
    pub nest : new.nest ≡ old.nest
    pub held : after_size new a ≡ value_size old a + 1
    pub ahead : i < e
    pub within : e ≤ length t

-- The key at i is put where it belongs, and its value begins at j.
pub record IsKeyAt (policy : TextPolicy) (t : List ℕ) (old : Stacks) (i : ℕ) (new : Stacks) (j : ℕ) : Type 0 where
  pub value : (p : Settings) → from_key policy p t old i ≡ from_value policy p t new slot.Member j
  pub stands : Stands new slot.Member
  pub nest : new.nest ≡ old.nest
  pub held : value_size new slot.Member ≡ key_size old + 1
  pub ahead : i < j
  pub within : j < length t

-- The key at i ends before e and its colon before j, and this is kept of it.
pub record IsKeyRead (policy : TextPolicy) (t : List ℕ) (i e j : ℕ) (k : Text) : Type 0 where
  pub key : Text
  pub read : string_at whole t i ≡ taken key e
  pub kept : k ≡ policy.text key
  pub colon : step t colon e ≡ taken tt j
  pub within : (i < e) × (e ≤ length t)

-- how many turns are taken at most: at a key and, unless only one is, at its value
abbrev pub turns_at_key : Bool → ℕ
turns_at_key true = 1
turns_at_key false = 2

-- At most n turns from the key at i proceed, and know the keys of the members then; or they are stopped at it, and nothing
-- has changed but the state.
pub record HasTakenKey (policy : TextPolicy) (p : Settings) (t : List ℕ) (n i : ℕ) (old new : Stacks) (r : ℕ × State)
    (stopped : Bool) (Knows : List (List ℕ) → Type 0) (Refuses : Type 0) : Type 0 where
  pub leads : stopped ≡ false
      → Proceeds policy p t i (work_left t old i) (key_size old + n) (from_key policy p t old i) new r
  pub keys : stopped ≡ false
      → OnOk (outcome new r.1) ((ks : List (List ℕ)) × Knows ks × HaveKeys ks new.members.items)
  pub refused : stopped ≡ true → Refuses
  pub same : stopped ≡ true → (new ≡ old) × (r.1 ≡ state.GivenUp)

-- From the place i on the reading is given up at e, since an allocation failed.
pub record IsRefusedAt (t : List ℕ) (i : ℕ) (s : Stacks) (e : ℕ) : Type 0 where
  pub error : (m : AllocFailed) × (s.error ≡ error.Memory m)
  pub within : (i ≤ e) × (e ≤ length t)

-- A part of such a container is awaited at j, and its stack has room; or the reading was given up, since memory was
-- refused.
abbrev pub IsReady : ContainerKind → Stacks → Stacks → ℕ → ℕ × State → Type 0
IsReady h old new j r =
    ((r ≡ (j, part_of h)) × HasRoomIn h new × HoldsSame old new) ⊎
    ((r ≡ (j, state.GivenUp)) × (m : AllocFailed) × (new.error ≡ error.Memory m))

-- A container's error at j is forgiven and ends it, or is why the reading was given up.
abbrev pub IsResolved : Settings → Bool → ReadError → ℕ → Step → Type 0
IsResolved p true e j s = resolve_step (forgives p.mode) s ≡ closed j
IsResolved p false e j s =
    (f : Fault) × (e ≡ error.Fault f) × (f.index ≡ j) ×
    (resolve_step (forgives p.mode) s ≡ stuck (fault_kind f.kind) j) × (forgives p.mode (fault_kind f.kind) ≡ false)
