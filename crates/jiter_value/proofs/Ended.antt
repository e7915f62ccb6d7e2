-- Where a reading begins, and where it has ended.
use Rattle.jiter_value.proofs.Words.{◌≡◌, ◌≢◌, inl, inr, ℕ, ◌<◌, ◌≤◌, List, [], length, refl}
use Rattle.jiter_value.proofs.Words.{subst, Err, Returns, done, value_at, WhereRefused, ReadError}
use Rattle.jiter_value.proofs.Words.{HoldsNothing, TextPolicy, rules_as, HaveKeys, Member, keys_of}
use Rattle.jiter_value.proofs.Words.{GoesOn, HasReached, MayGrowFor, view, MayGrowBy, Settings, Stacks, State}
use Rattle.jiter_value.proofs.Words.{JsonValue, past_blanks, borrowed}
use Rattle.jiter_steps.specs.declared.read_error.ReadError.TheVariants as error
use Rattle.jiter_value.specs.declared.parse.stacks.State.TheVariants as state
use Rattle.jiter_value.proofs.StackTurns.{root-holds-nothing, root-stands}
use Rattle.jiter_value.specs.Machine.{HasEnded}
use Rattle.jiter_value.proofs.KeptKeys.{leaves-all}
use Rattle.jiter_value.proofs.TurnOutcomes.{grows-borrowing, refused-any, refused-weaker}
use Rattle.jiter_value.proofs.WholeTextAnswers.{answer-refused, begins-at-value, fails-gives}

-- With nothing held, a reading begins where a value does,
pub come-first : (policy : TextPolicy) (W : Type 0) (p : Settings) (t : List ℕ) (s : Stacks) (i : ℕ) → HoldsNothing s
    → i < length t → HasReached policy W t i p s i state.Root
come-first policy W p t s i h lt =
    begins-at-value policy W p t s i (root-stands s.nest.items s.items.items s.members.items h.nest h.items h.members) lt

-- and no key is held.
pub no-keys : (s : Stacks) → HoldsNothing s → HaveKeys [] s.members.items
no-keys s h = rw h.members refl

pub own-keys : (ms : List Member) → HaveKeys (keys_of ms) ms
own-keys ms = (leaves-all ms).keys

-- A state at which nothing more is awaited is one of two.
pub given-up : (a : State) → a ≢ state.Done → (GoesOn a → ⊥) → a ≡ state.GivenUp
given-up state.Root more over = absurd (over tt)
given-up state.Item more over = absurd (over tt)
given-up state.Member more over = absurd (over tt)
given-up state.Key more over = absurd (over tt)
given-up state.Done more over = absurd (more refl)
given-up state.GivenUp more over = refl

refused-grows : (e : ReadError) (P : Type 0) → MayGrowFor (Err e) P → WhereRefused {A = JsonValue} (Err e) P
refused-grows (error.Fault f) P h = tt
refused-grows (error.Memory m) P h = h

module _ (policy : TextPolicy) (W : Type 0) (t : List ℕ) (i : ℕ) (p : Settings) (s : Stacks) (j : ℕ) (a : State)
    (come : HasReached policy W t i p s j a) where
  -- The value is whole,
  module _ (is : a ≡ state.Done) where
    whole : HasReached policy W t i p s j state.Done
    whole = subst (HasReached policy W t i p s j) is come

    pub whole-value : value_at (rules_as policy p) t 200 i ≡ done (view s.root) j
    whole-value = whole.reaches.0

    pub whole-holds : HoldsNothing s
    whole-holds = root-holds-nothing s whole.reaches.1.0

  -- or it was given up.
  module _ (is : a ≡ state.GivenUp) where
    failed : HasReached policy W t i p s j state.GivenUp
    failed = subst (HasReached policy W t i p s j) is come

    pub failed-value : Returns view (Err s.error) j (value_at (rules_as policy p) t 200 i)
    failed-value = fails-gives s.error j _ _ refl failed.reaches

    pub failed-memory : WhereRefused {A = JsonValue} (Err s.error) (MayGrowBy W t i)
    failed-memory =
        elim failed.grows [
          | inl root ↦ absurd (cc)
          | inr grows ↦ refused-grows s.error (MayGrowBy W t i) grows
        ]

-- Where a key is awaited, the value may want memory.
pub key-grows : (policy : TextPolicy) (W : Type 0) (t : List ℕ) (i : ℕ) (p : Settings) (s : Stacks) (j : ℕ)
    → HasReached policy W t i p s j state.Key → MayGrowBy W t i
key-grows policy W t i p s j come = elim come.grows [ inl root ↦ absurd (cc) | inr grows ↦ grows ]

-- The same of a whole text.
pub has-ended : (t : List ℕ) (p : Settings) (s : Stacks) (j : ℕ) (a : State)
    → HasReached borrowed ⊥ t (past_blanks t 0) p s j a → (GoesOn a → ⊥) → HasEnded t p j a s
has-ended t p s j state.Root come over = absurd (over tt)
has-ended t p s j state.Item come over = absurd (over tt)
has-ended t p s j state.Member come over = absurd (over tt)
has-ended t p s j state.Key come over = absurd (over tt)
has-ended t p s j state.Done come over = come
has-ended t p s j state.GivenUp come over =
    let i = past_blanks t 0 in (
      answer-refused (rules_as borrowed p) p.mode t come.begins s.error j
          (failed-value borrowed ⊥ t i p s j state.GivenUp come refl),
      come.within.1,
      refused-weaker {X = JsonValue} (Err s.error) _ _ (grows-borrowing t i)
          (failed-memory borrowed ⊥ t i p s j state.GivenUp come refl),
      refused-any JsonValue s.error (i ≤ j) come.within.0,
    )
