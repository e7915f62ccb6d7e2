use Rattle.jiter_incremental.proofs.Words.{Option, Some, subst, Fault, AnswersSo, view}
use Rattle.jiter_incremental.proofs.Received.{fault-promised, value-promised}
use Rattle.jiter_incremental.proofs.incremental_parser.told.Goals as goal

pub returns-in-Some : goal.returns-in-Some
returns-in-Some c = λ p t h.
    let root = Some (view c.args.value) in
    fault-promised p t c.in-Some.fault root c.from.result
    (subst (λ (x : Option Fault). AnswersSo p t x root) c.in-Some.is h) c.from.ensures

pub returns : goal.returns
returns c = λ p t h.
    value-promised p t c.args.value
    (subst (λ (x : Option Fault). AnswersSo p t x (Some (view c.args.value))) c.in-None.is h)
