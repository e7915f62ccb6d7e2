use Rattle.jiter_incremental.proofs.Words.{Option, Some, subst, Fault, strictly, AnswersSo, view}
use Rattle.jiter_incremental.proofs.Received.{fault-promised, value-promised}
use Rattle.jiter_incremental.proofs.incremental_parser.IncrementalParser.error.Goals as goal

pub returns-in-Some : goal.returns-in-Some
returns-in-Some c =
    let p = strictly c.self.inside.reader.settings in
    let root = Some (view c.self.inside.root) in
    rw (← c.self.view_is) (λ t h.
    fault-promised p t c.in-Some.fault root c.from.result
    (subst (λ (x : Option Fault). AnswersSo p t x root) c.in-Some.is (c.strict_fault.ensures t h.arrived))
    c.from.ensures)

pub returns-in-None : goal.returns-in-None
returns-in-None c =
    let p = strictly c.self.inside.reader.settings in
    let root = c.self.inside.root in
    rw (← c.self.view_is) (λ t h. (
      root,
      value-promised p t root
          (subst (λ (x : Option Fault). AnswersSo p t x (Some (view root))) c.in-None.is
          (c.strict_fault.ensures t h.arrived)),
    ))
