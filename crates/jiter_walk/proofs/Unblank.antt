-- Where a step leads to a part, no whitespace is left.
use Rattle.std.proofs.Common.{◌≡◌, ℕ, ◌+◌, ◌==◌, List}
use Rattle.std.specs.Prelude.{slice_get, Option, Some, None}
use Rattle.jiter_steps.specs.Blank.{past_blanks}
use Rattle.jiter_steps.specs.Step.{Step, begins_part, closed, closer_of, container_comma, container_first, container_step}
use Rattle.jiter_steps.specs.Step.{more, step, stuck}
use Rattle.jiter_steps.specs.declared.parse.ContainerKind.{ContainerKind}
use Rattle.jiter_steps.proofs.Reading.Bounds.{either}
use Rattle.jiter.proofs.Peeking.{past_blanks-again}

abbrev pub Unblank : List ℕ → Step → Type 0
Unblank t (more j) = past_blanks t j ≡ j
Unblank t (closed e) = Unit {0}
Unblank t (stuck k j) = Unit {0}

pub first-unblank : (b : ContainerKind) (t : List ℕ) (i : ℕ) → Unblank t (step t (container_first b) i)
first-unblank b t i = by (slice_get t (past_blanks t i)) where
  by : (o : Option ℕ) → Unblank t (container_first b (past_blanks t i) o)
  by None = tt
  by (Some c) =
      either (Unblank t) (begins_part b c) _ _ (past_blanks-again t i)
      (either (Unblank t) (c == closer_of b) _ _ tt tt)

comma-unblank : (b : ContainerKind) (t : List ℕ) (i : ℕ) → Unblank t (step t (container_comma b) i)
comma-unblank b t i = by (slice_get t (past_blanks t i)) where
  by : (o : Option ℕ) → Unblank t (container_comma b (past_blanks t i) o)
  by None = tt
  by (Some c) =
      either (Unblank t) (begins_part b c) _ _ (past_blanks-again t i)
      (either (Unblank t) (c == closer_of b) _ _ tt tt)

pub step-unblank : (b : ContainerKind) (t : List ℕ) (i : ℕ) → Unblank t (step t (container_step b t) i)
step-unblank b t i = by (slice_get t (past_blanks t i)) where
  by : (o : Option ℕ) → Unblank t (container_step b t (past_blanks t i) o)
  by None = tt
  by (Some c) =
      either (Unblank t) (c == closer_of b) _ _ tt
      (either (Unblank t) (c == 44) _ _ (comma-unblank b t (past_blanks t i + 1)) tt)
