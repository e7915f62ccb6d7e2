use Rattle.jiter_steps.proofs.Words.{◌≡◌, ◌∙◌, true, length, take, sym, ap}
use Rattle.jiter_steps.proofs.Chunks.OpenTexts.{broken-stays}
use Rattle.jiter_steps.proofs.partial_text.PartialText.add.Goals as goal

pub returns-then-self-clause-taken : goal.returns-then-self-clause-taken
returns-then-self-clause-taken c =
    λ d h.
    let s = c.args.self.now in
    let broken : s.broken ≡ true = ap (λ x. x.broken) (sym c.self.view_is) ∙ c.if-self.true in
    broken-stays s d (take (length c.args.run.now) c.args.run.now) broken h
