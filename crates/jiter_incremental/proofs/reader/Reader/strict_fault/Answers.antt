use Rattle.jiter_incremental.proofs.Words.{[], Some, ◌∙◌, sym, strict, strictly, document, view}
use Rattle.jiter_incremental.proofs.Answering.{strict-told}
use Rattle.jiter_incremental.proofs.Documents.Ends.{fault-found, none-found}
use Rattle.jiter_incremental.proofs.reader.Reader.strict_fault.Goals as goal
use Rattle.jiter_incremental.proofs.Settling.{settled-so}

pub returns-then-is_some : goal.returns-then-is_some
returns-then-is_some c = λ t h.
    let i = c.args.self.now in
    fault-found (strictly i.settings) t i.first h.read.opened (Some (view c.args.root.now)) (h.read.known.reads strict [] tt)
    (sym c.is_some.ensures ∙ c.if-is_some.true)

pub returns : goal.returns
returns c = λ t h.
    let d = document c.args.self.now (view c.args.root.now) in
    let none = none-found d.first (sym c.is_some.ensures ∙ c.if-is_some.false) in
    strict-told d t h none c.end_fault.result (λ s. c.end_fault.ensures t h.read.opened s)

pub end_fault-requires-clause-settled : goal.end_fault-requires-clause-settled
end_fault-requires-clause-settled c =
    let d = document c.args.self.now (view c.args.root.now) in
    let a = c.requires.arrived in
    let none = none-found d.first (sym c.is_some.ensures ∙ c.if-is_some.false) in
    (a.0, a.1.read.opened, settled-so d a.0 a.1 (a.1.read.known.noted none))
