-- Where turns lead.
use Rattle.jiter_value.proofs.Words.{◌≡◌, ◌≢◌, ◌∙◌, inl, inr, ℕ, ◌+◌, ◌≤◌, List, ap, arith, eqb, false, length, not}
use Rattle.jiter_value.proofs.Words.{refl, subst, sym, take, take-take, true, length-take, OnOk, Result, Ok, Err}
use Rattle.jiter_value.proofs.Words.{value_at, ReadError, TextPolicy, rules_as, held, value_size, HaveKeys, LeavesKeys}
use Rattle.jiter_value.proofs.Words.{Member, from_value, keys_of, denotes, GoesOn, HasReached, IsWithin, MayGrowFor}
use Rattle.jiter_value.proofs.Words.{Proceeds, Reaches, outcome, MayGrowBy, Settings, Slot, Stacks, State}
use Rattle.jiter_value.proofs.KeptKeys.{key_count}
use Rattle.jiter_steps.specs.Node.{nesting_limit}
use Rattle.jiter_steps.specs.declared.read_error.ReadError.TheVariants as error
use Rattle.jiter_value.specs.Stacks.{slot_of}
use Rattle.jiter_value.specs.declared.parse.stacks.Slot.TheVariants as slot
use Rattle.jiter_value.specs.declared.parse.stacks.State.TheVariants as state

pub not-once : (n : ℕ) → not (eqb n 0) ≡ true → n ≡ 0 → ⊥
not-once n on is =
    let no : false ≡ true = rw is at on in
    absurd (cc)

-- A state at which more is awaited,
pub goes-on : (a : State) → a ≢ state.Done → a ≢ state.GivenUp → GoesOn a
goes-on state.Root more kept = tt
goes-on state.Item more kept = tt
goes-on state.Member more kept = tt
goes-on state.Key more kept = tt
goes-on state.Done more kept = absurd (more refl)
goes-on state.GivenUp more kept = absurd (kept refl)

-- a promise of a turn that goes on,
pub on-if : (s : Stacks) (a : State) {P : Type 0} → GoesOn a → OnOk (outcome s a) P → P
on-if s state.Root on h = h
on-if s state.Item on h = h
on-if s state.Member on h = h
on-if s state.Key on h = h
on-if s state.Done on h = absurd on
on-if s state.GivenUp on h = absurd on

grows-if : (s : Stacks) (a : State) (P : Type 0) → GoesOn a → MayGrowFor (outcome s a) P → P
grows-if s state.Root P on h = h
grows-if s state.Item P on h = h
grows-if s state.Member P on h = h
grows-if s state.Key P on h = h
grows-if s state.Done P on h = absurd on
grows-if s state.GivenUp P on h = absurd on

pub grows-any : (r : Result State ReadError) (P : Type 0) → P → MayGrowFor r P
grows-any (Ok state.Root) P h = h
grows-any (Ok state.Item) P h = h
grows-any (Ok state.Member) P h = h
grows-any (Ok state.Key) P h = h
grows-any (Ok state.Done) P h = tt
grows-any (Ok state.GivenUp) P h = h
grows-any (Err (error.Fault f)) P h = tt
grows-any (Err (error.Memory m)) P h = h

-- and what is awaited then.
pub awaited : (policy : TextPolicy) (W : Type 0) (t : List ℕ) (i : ℕ) (p : Settings) (s : Stacks) (j : ℕ) (a : State)
    → HasReached policy W t i p s j a → GoesOn a
    → (value_at (rules_as policy p) t nesting_limit i ≡ denotes policy p t s a j) × IsWithin t s a j
awaited policy W t i p s j state.Root h on = h.reaches
awaited policy W t i p s j state.Item h on = h.reaches
awaited policy W t i p s j state.Member h on = h.reaches
awaited policy W t i p s j state.Key h on = h.reaches
awaited policy W t i p s j state.Done h on = absurd on
awaited policy W t i p s j state.GivenUp h on = absurd on

-- A turn leads on from where turns have led.
module _ (policy : TextPolicy) (W : Type 0) (t : List ℕ) (i : ℕ) (p : Settings) (s : Stacks) (j : ℕ) (a : State)
    (come : HasReached policy W t i p s j a) (on : GoesOn a) (n : Stacks) (r : ℕ × State) where
  pub come-on : (l h : ℕ) → Proceeds policy p t j l h (denotes policy p t s a j) n r
      → (a ≡ state.Root → MayGrowFor (outcome n r.1) (MayGrowBy W t j)) → HasReached policy W t i p n r.0 r.1
  come-on l h leads grows = record {
    reaches = subst (Reaches policy p t n r.0 (outcome n r.1)) (sym (awaited policy W t i p s j a come on).0) leads.reaches;
    begins = come.begins;
    within = (omega (arith, come.within.0, leads.within.0), leads.within.1);
    grows = inr (elim come.grows [
      | inl at ↦ subst (λ k. MayGrowFor (outcome n r.1) (MayGrowBy W t k)) at.1 (grows at.0)
      | inr any ↦ grows-any (outcome n r.1) (MayGrowBy W t i) (grows-if s a (MayGrowBy W t i) on any)
    ]);
  }

-- The same where a value is awaited.
value-proceeds : (policy : TextPolicy) (p : Settings) (t : List ℕ) (s : Stacks) (j : ℕ) (a : State) → GoesOn a
    → a ≢ state.Key → (l : ℕ) (n : Stacks) (r : ℕ × State)
    → Proceeds policy p t j l (value_size s (slot_of a) + 1) (from_value policy p t s (slot_of a) j) n r
    → Proceeds policy p t j l (held s a + 1) (denotes policy p t s a j) n r
value-proceeds policy p t s j state.Root on other l n r h = h
value-proceeds policy p t s j state.Item on other l n r h = h
value-proceeds policy p t s j state.Member on other l n r h = h
value-proceeds policy p t s j state.Key on other l n r h = absurd (other refl)
value-proceeds policy p t s j state.Done on other l n r h = absurd on
value-proceeds policy p t s j state.GivenUp on other l n r h = absurd on

pub value-on : (policy : TextPolicy) (W : Type 0) (t : List ℕ) (i : ℕ) (p : Settings) (s : Stacks) (j : ℕ) (a : State)
    → HasReached policy W t i p s j a → GoesOn a → a ≢ state.Key → (b : Slot) → b ≡ slot_of a → (n : Stacks) (r : ℕ × State)
    (l : ℕ) → Proceeds policy p t j l (value_size s b + 1) (from_value policy p t s b j) n r
    → (b ≡ slot.Root → MayGrowFor (outcome n r.1) (MayGrowBy W t j)) → HasReached policy W t i p n r.0 r.1
value-on policy W t i p s j a come on other b at n r l leads grows =
    come-on policy W t i p s j a come on n r l (held s a + 1)
    (value-proceeds policy p t s j a on other l n r
    (subst (λ b. Proceeds policy p t j l (value_size s b + 1) (from_value policy p t s b j) n r) at leads))
    (λ root. grows (at ∙ ap slot_of root))

-- ---- the keys of the members that are held
pub keys-left : (ks : List (List ℕ)) (old new : List Member) → HaveKeys ks old → LeavesKeys old new → HaveKeys ks new
keys-left ks old new have kept =
    let n = length new in
    let few : n ≤ length old =
    omega (arith, key_count new, key_count old, ap length kept.keys, length-take n (keys_of old)) in
    kept.keys ∙ ap (take n) have ∙ take-take n (length old) ks few

-- ---- how many turns are left
abbrev pub turns_left : State → ℕ → ℕ
turns_left state.GivenUp n = 0
turns_left state.Root n = n + 1
turns_left state.Item n = n + 1
turns_left state.Member n = n + 1
turns_left state.Key n = n + 1
turns_left state.Done n = n + 1
