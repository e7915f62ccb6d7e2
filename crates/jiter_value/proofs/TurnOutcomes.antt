-- What a turn leads on to, and where it may want memory.
use Rattle.jiter_value.proofs.Words.{◌≡◌, ◌≢◌, ◌∙◌, ◌+◌, ◌<◌, inl, inr, ℕ, ◌≤◌, List, ap, arith, length, subst, sym}
use Rattle.jiter_value.proofs.Words.{IfOk-weaker, on_ok_weaker, Result, Ok, Err, IfOk, OnOk, slice_index, ReadError}
use Rattle.jiter_value.proofs.Words.{WhereRefused, Reading, Tree, start_of, Start, TextPolicy, after_size, value_size}
use Rattle.jiter_value.proofs.Words.{after, from_value, LeavesKeys, Proceeds, MayGrowFor, work_left, outcome, MayGrowAs}
use Rattle.jiter_value.proofs.Words.{MayGrowAt, MayGrowBy, Slot, Settings, Stacks, State}
use Rattle.jiter_scan.specs.declared.errors.Fault.{Fault}
use Rattle.jiter_steps.specs.declared.read_error.ReadError.TheVariants as error
use Rattle.jiter_scan.specs.declared.memory.AllocFailed.{AllocFailed}
use Rattle.jiter_steps.specs.StringDecoder.{WantsMemory}
use Rattle.jiter_steps.specs.declared.parse.Start.TheVariants as start
use Rattle.jiter_value.specs.Turns.{Turned}
use Rattle.jiter_value.specs.Value.{BeginsContainer}
use Rattle.jiter_value.specs.declared.parse.stacks.Slot.TheVariants as slot
use Rattle.jiter_value.specs.declared.parse.turns.Reading.{Reading as Turning}
use Rattle.jiter_value.proofs.KeptKeys.{leaves-on}
use Rattle.jiter_value.specs.declared.parse.stacks.State.TheVariants as state

-- from a place before it, with more that is left and more that may be held
pub leads-weaker : {policy : TextPolicy} {p : Settings} {t : List ℕ} {i j l m h n : ℕ} {x y : Reading Tree}
    {s : Stacks} {r : ℕ × State}
    → Proceeds policy p t j m n y s r → i ≤ j → m ≤ l → n ≤ h → x ≡ y → Proceeds policy p t i l h x s r
leads-weaker {s = s} {r = r} a forward more room is =
    let forth = a.within.0 in
    record {
      within = (omega (arith, forward, forth), a.within.1);
      reaches = rw is a.reaches;
      work_left = on_ok_weaker (outcome s r.1) (λ k. omega (arith, k, more)) a.work_left;
      held = IfOk-weaker (outcome s r.1) _ _ (λ b k. omega (arith, k, room)) a.held;
    }

pub refused-weaker : {X : Type 0} (r : Result X ReadError) (P Q : Type 0) → (P → Q) → WhereRefused r P
    → WhereRefused r Q
refused-weaker (Ok x) P Q go h = tt
refused-weaker (Err (error.Fault f)) P Q go h = tt
refused-weaker (Err (error.Memory m)) P Q go h = go h

pub refused-any : (X : Type 0) (e : ReadError) (P : Type 0) → P → WhereRefused {A = X} (Err e) P
refused-any X (error.Fault f) P h = tt
refused-any X (error.Memory m) P h = h

-- the value is whole, unless it was refused
pub root-grows : (r : Result State ReadError) (P : Type 0) → IfOk r (λ a. a ≡ state.Done) → WhereRefused r P
    → MayGrowFor r P
root-grows (Ok a) P d h = rw d tt
root-grows (Err (error.Fault f)) P d h = tt
root-grows (Err (error.Memory m)) P d h = h

pub fault-grows : (e : ReadError) (f : Fault) (P : Type 0) → e ≡ error.Fault f → MayGrowFor (Err e) P
fault-grows e f P is = rw is tt

-- Where a text that is kept wants no memory, a value may want some as its reading does; and a container does so in
-- any case.
pub grows-borrowing : (t : List ℕ) (i : ℕ) → MayGrowBy ⊥ t i → MayGrowAt t i
grows-borrowing t i (inl h) = h
grows-borrowing t i (inr h) = absurd h.0

pub grows-container : (t : List ℕ) (i : ℕ) (W : Type 0)
    → BeginsContainer t i → MayGrowBy W t i → MayGrowAt t i
grows-container t i W is (inl h) = h
grows-container t i W (inl a) (inr h) = absurd (h.1 a)
grows-container t i W (inr o) (inr h) = absurd (h.2 o)

-- A text that is kept may want memory, and one with a backslash does.
pub grows-kept : (t : List ℕ) (i : ℕ) (W : Type 0) (s : Start) → start_of (slice_index t i) ≡ s → s ≢ start.Array
    → s ≢ start.Object → W → MayGrowBy W t i
grows-kept t i W s is no_array no_object wants =
    inr (wants, λ array. no_array (sym is ∙ array), λ object. no_object (sym is ∙ object))

pub grows-decoded : (t : List ℕ) (i : ℕ) (W : Type 0) → start_of (slice_index t i) ≡ start.String → WantsMemory t i
    → MayGrowBy W t i
grows-decoded t i W is backslash = inl (subst (MayGrowAs t i) (sym is) backslash)

-- A turn whose request for an allocation failed.
pub refused-turned : (policy : TextPolicy) (W : Type 0) (t : List ℕ) (i : ℕ) (a : Slot) (old new : Turning) (e : ℕ)
    (r : ℕ × State) (m : AllocFailed)
    → r ≡ (e, state.GivenUp) → new.stacks.error ≡ error.Memory m → i ≤ e → e ≤ length t
    → MayGrowBy W t i → new.settings ≡ old.settings → Turned policy W t i a old new r
refused-turned policy W t i a old new e r m given refused forward within grows same =
    rw given
    (record {
      leads = record { within = (forward, within); reaches = rw refused tt; work_left = tt; held = tt };
      memory = λ root. rw refused grows;
      keys = tt;
      settings = same;
    })

-- A value was put, and the turn goes on after it.
pub put-turned : (policy : TextPolicy) (W : Type 0) (t : List ℕ) (i : ℕ) (a : Slot) (old : Turning) (mid : Stacks)
    (new : Turning) (e : ℕ) (r : ℕ × State)
    → from_value policy old.settings t old.stacks a i ≡ after policy old.settings t mid a e
    → mid.nest ≡ old.stacks.nest → after_size mid a ≡ value_size old.stacks a + 1 → i < e → e ≤ length t
    → LeavesKeys old.stacks.members.items mid.members.items
    → Proceeds policy old.settings t e (work_left t mid e + 1) (after_size mid a) (after policy old.settings t mid a e) new.stacks r
    → WhereRefused (outcome new.stacks r.1) (a ≢ slot.Root)
    → (a ≡ slot.Root → IfOk (outcome new.stacks r.1) (λ s. s ≡ state.Done))
    → OnOk (outcome new.stacks r.1) (LeavesKeys mid.members.items new.stacks.members.items)
    → new.settings ≡ old.settings → Turned policy W t i a old new r
put-turned policy W t i a old mid new e r value nest held ahead within kept leads memory root keys same =
    let deep = ap (λ n. length n.items) nest in
    record {
      leads = leads-weaker leads (omega (arith, ahead)) (omega (arith, ahead, within, deep)) (omega (arith, held)) value;
      memory = λ is. root-grows (outcome new.stacks r.1) _ (root is)
          (refused-weaker (outcome new.stacks r.1) _ _ (λ other. absurd (other is)) memory);
      keys = leaves-on new.stacks r.1 old.stacks.members.items mid.members.items new.stacks.members.items kept keys;
      settings = same;
    }

pub refused-inside : (r : Result State ReadError) (a : Slot) → a ≢ slot.Root → WhereRefused r (a ≢ slot.Root)
refused-inside (Ok b) a h = tt
refused-inside (Err (error.Fault f)) a h = tt
refused-inside (Err (error.Memory m)) a h = h
