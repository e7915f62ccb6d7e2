use Rattle.jiter_steps.proofs.Words.{[], sym, subst, refl, HoldsText, nothing}
use Rattle.jiter_steps.proofs.Chunks.OpenStrings.{nothing-taken}
use Rattle.jiter_steps.proofs.Chunks.OpenTexts.{nil-unfinished}
use Rattle.jiter_steps.proofs.partial_string.PartialString.new.Goals as goal

pub returns : goal.returns
returns c =
    let none : HoldsText nothing [] = (refl, nil-unfinished) in
    nothing-taken c.new.result (subst (λ s. HoldsText s []) (sym c.new.ensures) none)
