-- Where a step between the parts of a container is stuck: after whitespace, perhaps with a comma before them.
use Rattle.jiter_steps.proofs.Words.{◌≡◌, ◌⊎◌, inl, inr, ℕ, ◌+◌, ◌≤◌, ◌==◌, List, length, subst, arith, Option, Some}
use Rattle.jiter_steps.proofs.Words.{None, slice_get_within, Kind, IsBlank, StandsAfter, Step, more, closed, stuck}
use Rattle.jiter_steps.proofs.Words.{step, closer_of, begins_part, container_first, container_comma, container_step}
use Rattle.jiter_steps.proofs.Words.{ContainerKind}
use Rattle.jiter_steps.proofs.Reading.Bounds.{either}
use Rattle.jiter_steps.proofs.Grammar.RowSteps.{After, tested, Stops, row-is, after}

-- where a step is stuck
abbrev StuckIs : (ℕ → Type 0) → Step → Type 0
StuckIs At (more j) = Unit {0}
StuckIs At (closed e) = Unit {0}
StuckIs At (stuck k j) = At j

-- whitespace from i to j, or a comma after whitespace and then whitespace
abbrev pub BlanksOrComma : List ℕ → ℕ → ℕ → Type 0
BlanksOrComma t i j = IsBlank t i j ⊎ After t i 44 (IsBlank t) j

module _ (t : List ℕ) where
  -- a comma, and what follows it
  comma-then : (i m : ℕ) (s : Step) → StandsAfter t i 44 m → StuckIs (IsBlank t m) s → StuckIs (BlanksOrComma t i) s
  comma-then i m (more j) b h = tt
  comma-then i m (closed e) b h = tt
  comma-then i m (stuck k j) b h = inr (m, b, h)

  -- The steps of a container are stuck so.
  pub record Sticks (first next : ℕ → Option ℕ → Step) : Type 0 where
    pub first-stuck : (i j : ℕ) (k : Kind) → i ≤ length t → step t first i ≡ stuck k j → IsBlank t i j
    pub next-stuck : (i j : ℕ) (k : Kind) → i ≤ length t → step t next i ≡ stuck k j → BlanksOrComma t i j

  module _ (b : ContainerKind) where
    first-here : (i j : ℕ) (o : Option ℕ) → Stops t i j o → StuckIs (IsBlank t i) (container_first b j o)
    first-here i j None s = s.blanks
    first-here i j (Some c) s =
        let Is = StuckIs (IsBlank t i) in
        either Is (begins_part b c) _ _ tt (either Is (c == closer_of b) _ _ tt s.blanks)

    comma-here : (i j : ℕ) (o : Option ℕ) → Stops t i j o → StuckIs (IsBlank t i) (container_comma b j o)
    comma-here i j None s = s.blanks
    comma-here i j (Some c) s =
        let Is = StuckIs (IsBlank t i) in
        either Is (begins_part b c) _ _ tt (either Is (c == closer_of b) _ _ s.blanks s.blanks)

    step-here : (i j : ℕ) (o : Option ℕ) → Stops t i j o → StuckIs (BlanksOrComma t i) (container_step b t j o)
    step-here i j None s = inl s.blanks
    step-here i j (Some c) s =
        let inside = slice_get_within t j c s.here in
        let Is = StuckIs (IsBlank t (j + 1)) in
        let after-comma = row-is t Is (container_comma b) (j + 1) (comma-here (j + 1)) (omega arith) in
        either (StuckIs (BlanksOrComma t i)) (c == closer_of b) _ _ tt
        (tested (StuckIs (BlanksOrComma t i)) c 44 _ _
        (λ e. comma-then i (j + 1) _ (after t i j c 44 s e) after-comma) (λ e. inl s.blanks))

    pub sticks : Sticks (container_first b) (container_step b t)
    sticks = record {
      first-stuck = λ i j k h e.
          subst (StuckIs (IsBlank t i)) e (row-is t (StuckIs (IsBlank t i)) (container_first b) i (first-here i) h);
      next-stuck = λ i j k h e.
          let Is = StuckIs (BlanksOrComma t i) in
          subst Is e (row-is t Is (container_step b t) i (step-here i) h);
    }
