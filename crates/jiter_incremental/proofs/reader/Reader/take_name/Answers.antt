use Rattle.jiter_incremental.proofs.Words.{◌∙◌, ap, subst, sym, view, Steps, refused, Reader}
use Rattle.jiter_scan.specs.declared.errors.FaultKind.TheVariants as fault_of
use Rattle.jiter_incremental.proofs.NumberSteps.{name-begins, name-wrong}
use Rattle.jiter_incremental.proofs.reader.Reader.take_name.Goals as goal

pub returns-then-self-clause-steps : goal.returns-then-self-clause-steps
returns-then-self-clause-steps c =
    name-begins c.args.level c.args.chunk.now c.args.self.now (view c.args.slot.now) c.requires.here c.requires.token
    c.requires.fits c.begun-self.result c.begun-self.ensures.word c.begun-self.ensures.seen c.if-self.true

pub returns-else-self-clause-steps : goal.returns-else-self-clause-steps
returns-else-self-clause-steps c =
    let i = c.args.self.now in
    let chunk = c.args.chunk.now in
    let v = view c.args.slot.now in
    let is = c.refuse.ensures ∙ ap (refused i fault_of.InvalidNumber) c.position.ensures in
    subst (λ (j : Reader). Steps c.args.level chunk i v j v 1) (sym is)
    (name-wrong c.args.level chunk i v c.requires.here c.requires.token c.requires.fits c.if-self.false)
