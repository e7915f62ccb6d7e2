-- What is where a value or a key begins.
use Rattle.jiter_steps.proofs.Words.{◌≡◌, ◌⊎◌, inl, inr, ℕ, ◌+◌, ◌<◌, ◌≤◌, ◌==◌, true, length, List, refl, sym, ap, ◌∙◌}
use Rattle.jiter_steps.proofs.Words.{eqb-true, arith, slice_get, slice_index, Option, Some, None, slice_get-get_or}
use Rattle.jiter_steps.proofs.Words.{cases_lt, nat_tests, past_blanks, start_of, if_case, Step, more, closed, stuck}
use Rattle.jiter_steps.proofs.Words.{step, closer_of, begins_part, container_first, container_comma, container_step}
use Rattle.jiter_steps.proofs.Words.{ContainerKind, get_or_past}
use Rattle.jiter_steps.specs.declared.parse.ContainerKind.TheVariants as shape
use Rattle.jiter_steps.specs.declared.parse.Start.TheVariants as start
use Rattle.jiter_steps.proofs.Reading.Bounds.{either}

pub begins-within : (t : List ℕ) (i : ℕ) → (start_of (slice_index t i) ≡ start.Nothing → ⊥) → i < length t
begins-within t i h = side (cases_lt i (length t)) where
  side : (i < length t) ⊎ (length t ≤ i) → i < length t
  side (inl lt) = lt
  side (inr ge) = absurd (h (ap start_of (get_or_past t i 0 ge)))

pub string-first : (c : ℕ) → start_of c ≡ start.String → c ≡ 34
string-first c e = grind (arith, nat_tests, e)

-- a string begins with its quote
pub string-begins : (t : List ℕ) (i : ℕ) → start_of (slice_index t i) ≡ start.String → slice_get t i ≡ Some 34
string-begins t i h =
    slice_get-get_or t i 0 (begins-within t i (λ e. let clash : start.Nothing ≡ start.String = sym e ∙ h in cc))
    ∙ ap Some (string-first (slice_index t i) h)

-- where a step goes on, something begins
abbrev pub GoesTo : (ℕ → Type 0) → Step → Type 0
GoesTo Begins (more j) = Begins j
GoesTo Begins (closed e) = Unit {0}
GoesTo Begins (stuck k j) = Unit {0}

-- a byte that begins a part of an array or an object
abbrev pub BeginsAt : ContainerKind → List ℕ → ℕ → Type 0
BeginsAt b t j = (c : ℕ) × (slice_get t j ≡ Some c) × (begins_part b c ≡ true)

-- a key begins with its quote
pub key-quote : (t : List ℕ) (j : ℕ) → BeginsAt shape.Object t j → slice_get t j ≡ Some 34
key-quote t j h = h.1 ∙ ap Some (eqb-true h.0 34 h.2)

-- it is where their steps go on
module _ (b : ContainerKind) (t : List ℕ) where
  abbrev Goes : Step → Type 0
  Goes = GoesTo (BeginsAt b t)

  first-goes : (j : ℕ) (o : Option ℕ) → slice_get t j ≡ o → Goes (container_first b j o)
  first-goes j None e = tt
  first-goes j (Some c) e =
      if_case Goes (begins_part b c) _ _ (λ y. (c, e, y)) (λ y. either Goes (c == closer_of b) _ _ tt tt)

  pub container_first-begins : (i : ℕ) → Goes (step t (container_first b) i)
  container_first-begins i = first-goes (past_blanks t i) _ refl

  comma-goes : (j : ℕ) (o : Option ℕ) → slice_get t j ≡ o → Goes (container_comma b j o)
  comma-goes j None e = tt
  comma-goes j (Some c) e =
      if_case Goes (begins_part b c) _ _ (λ y. (c, e, y)) (λ y. either Goes (c == closer_of b) _ _ tt tt)

  step-goes : (j : ℕ) (o : Option ℕ) → Goes (container_step b t j o)
  step-goes j None = tt
  step-goes j (Some c) =
      either Goes (c == closer_of b) _ _ tt (either Goes (c == 44) _ _ (comma-goes (past_blanks t (j + 1)) _ refl) tt)

  pub container_step-begins : (i : ℕ) → Goes (step t (container_step b t) i)
  container_step-begins i = step-goes (past_blanks t i) (slice_get t (past_blanks t i))
