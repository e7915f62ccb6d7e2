use Rattle.jiter_steps.proofs.Words.{◌≡◌, ◌+◌, ◌<◌, ◌∙◌, ℕ, List, Some, ap, arith, length, past_blanks, refl, slice_get}
use Rattle.jiter_steps.proofs.Words.{container_comma, container_step, step, ContainerKind}
use Rattle.jiter_steps.proofs.Grammar.Blanks.{past_blanks-above}
use Rattle.jiter_steps.proofs.Grammar.Places.{got}
use Rattle.jiter_steps.proofs.step.known_next.Goals as goal
use Rattle.jiter_steps.specs.declared.parse.ContainerKind.TheVariants as shape

-- A comma that comes next is the step to what is after it.
after-comma : (h : ContainerKind) (t : List ℕ) (i : ℕ) → past_blanks t i ≡ i → slice_get t i ≡ Some 44
    → step t (container_step h t) i ≡ step t (container_comma h) (i + 1)
after-comma shape.Array t i here comma = rw (here, comma) refl
after-comma shape.Object t i here comma = rw (here, comma) refl

pub returns-then-bytes-from-eq44 : goal.returns-then-bytes-from-eq44
returns-then-bytes-from-eq44 c =
    let t = c.args.bytes.now in
    let i = c.args.from in
    let inside : i < length t = omega (arith, c.if-from-bytes.true) in
    let here = past_blanks-above t i inside (omega (arith, c.if-bytes-from-eq44.true)) in
    let found = c.after_comma.ensures in
    record {
      is = after-comma c.args.shape t i here (got t i inside ∙ ap Some c.if-bytes-from-eq44.true) ∙ found.is;
      within = (omega (arith, found.within.0), found.within.1);
      part = found.part;
    }
