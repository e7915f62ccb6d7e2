-- The steps of containers in two texts with the same bytes before a place.
use Rattle.jiter_steps.proofs.Words.{◌≡◌, ℕ, ◌+◌, ◌<◌, ◌==◌, List, length, refl, sym, ap, ◌∙◌, arith, slice_get, Option}
use Rattle.jiter_steps.proofs.Words.{Some, None, true≢false, slice_get_within, Span, past_blanks, Step, more, closed}
use Rattle.jiter_steps.proofs.Words.{stuck, step, closer_of, begins_part, end_kind_of, container_first, container_comma}
use Rattle.jiter_steps.proofs.Words.{container_step, colon, value_first, object_colon, ContainerKind}
use Rattle.jiter_steps.proofs.Fault.SameSpelling.{SameBefore}
use Rattle.jiter_steps.proofs.Fault.SameRuns.{IsOfByte, past_blanks-same}
use Rattle.jiter_steps.proofs.Fault.SameNumbers.{Shown, late-byte, then-same}
use Rattle.jiter_steps.proofs.Reading.BothShapes.{end_kind-early}
use Rattle.jiter_steps.proofs.Grammar.Blanks.{past_blanks-after}
use Rattle.jiter_steps.proofs.Reading.Bounds.{either, both}

-- a place before m, or an error of a byte there
abbrev pub ShownStep : List ℕ → ℕ → Step → Type 0
ShownStep t m (more j) = j < m
ShownStep t m (closed e) = e < m
ShownStep t m (stuck k j) = (j < m) × IsOfByte t m k

module _ (t u : List ℕ) (m : ℕ) (same : SameBefore t u m) where
  -- what is shown of a step from i is what it is in the other text
  abbrev pub SameStep : {A : Type 0} → (A → Type 0) → ℕ → A → A → Type 0
  SameStep ShownOf i x y = ShownOf x → (i < m) × (i < length t) × (y ≡ x)

  -- so at the byte after the whitespace
  abbrev SameHere : {A : Type 0} → (A → Type 0) → ℕ → A → A → Type 0
  SameHere ShownOf j x y = ShownOf x → (j < m) × (y ≡ x)

  step-same : {A : Type 0} (ShownOf : A → Type 0) (f g : ℕ → Option ℕ → A) → ((j : ℕ) → ShownOf (f j None) → ⊥)
      → ((j c : ℕ) → j < length t → SameHere ShownOf j (f j (Some c)) (g j (Some c)))
      → (i : ℕ) → SameStep ShownOf i (step t f i) (step u g i)
  step-same ShownOf f g none some i = by (slice_get t (past_blanks t i)) refl where
    by : (o : Option ℕ) → slice_get t (past_blanks t i) ≡ o → SameStep ShownOf i (f (past_blanks t i) o) (step u g i)
    by None e s = absurd (none (past_blanks t i) s)
    by (Some c) e s =
        let lt = slice_get_within t (past_blanks t i) c e in
        let later = past_blanks-after t i in
        let r = some (past_blanks t i) c lt s in
        let place = past_blanks-same t u m same i (past_blanks t i) c refl e r.0 in (
          omega (arith, r.0),
          omega arith,
          ap (λ k. g k (slice_get u k)) place ∙ ap (g (past_blanks t i)) (same (past_blanks t i) c r.0 e) ∙ r.1,
        )

  -- a row that does not ask the text
  row-same : {A : Type 0} (ShownOf : A → Type 0) (f : ℕ → Option ℕ → A) → ((j : ℕ) → ShownOf (f j None) → ⊥)
      → ((j c : ℕ) → ShownOf (f j (Some c)) → j < m)
      → (i : ℕ) → SameStep ShownOf i (step t f i) (step u f i)
  row-same ShownOf f none some = step-same ShownOf f f none (λ j c lt s. (some j c s, refl))

  -- between the parts of a container
  abbrev At : ℕ → Step → Type 0
  At j s = ShownStep t m s → j < m

  module _ (b : ContainerKind) where
    end-shown : (j : ℕ) → ShownStep t m (stuck (end_kind_of b) j) → ⊥
    end-shown j s = true≢false (sym (end_kind-early b) ∙ s.1.0)

    -- after the opening bracket
    pub first-same : (i : ℕ) → SameStep (ShownStep t m) i (step t (container_first b) i) (step u (container_first b) i)
    first-same =
        row-same (ShownStep t m) (container_first b) end-shown
        (λ j c. either (At j) (begins_part b c) _ _ (λ s. s)
        (either (At j) (c == closer_of b) _ _ (λ s. omega arith) (λ s. s.0)))

    -- after a comma
    comma-same : (i : ℕ) → SameStep (ShownStep t m) i (step t (container_comma b) i) (step u (container_comma b) i)
    comma-same =
        row-same (ShownStep t m) (container_comma b) (λ j s. true≢false s.1.0)
        (λ j c. either (At j) (begins_part b c) _ _ (λ s. s)
        (either (At j) (c == closer_of b) _ _ (λ s. s.0) (λ s. s.0)))

    -- after a part
    part-same : (j c : ℕ) → SameHere (ShownStep t m) j (container_step b t j (Some c)) (container_step b u j (Some c))
    part-same j c =
        both (SameHere (ShownStep t m) j) (c == closer_of b) _ _ _ _ (λ s. (omega arith, refl))
        (both (SameHere (ShownStep t m) j) (c == 44) _ _ _ _
        (λ s. let r = comma-same (j + 1) s in (omega (arith, r.0), r.2)) (λ s. (s.0, refl)))

    pub next-same : (i : ℕ)
        → SameStep (ShownStep t m) i (step t (container_step b t) i) (step u (container_step b u) i)
    next-same = step-same (ShownStep t m) (container_step b t) (container_step b u) end-shown (λ j c lt. part-same j c)

  -- after keys
  colon-same : (i : ℕ) → SameStep (Shown t m) i (step t colon i) (step u colon i)
  colon-same =
      row-same (Shown t m) colon (λ j s. true≢false s.1.0)
      (λ j c. either (λ (x : Span). Shown t m x → j < m) (c == 58) _ _ (λ s. omega (arith, s.0)) (λ s. s.0))

  pub object_colon-same : (i : ℕ) → SameStep (Shown t m) i (object_colon t i) (object_colon u i)
  object_colon-same i =
      then-same (IsOfByte t m) (late-byte t m) t u m same i (step t colon i) (step u colon i) (step t value_first)
      (step u value_first) (colon-same i) (row-same (Shown t m) value_first (λ j s. true≢false s.1.0) (λ j c s. s.0))
