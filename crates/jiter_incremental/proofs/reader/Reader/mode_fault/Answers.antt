use Rattle.jiter_incremental.proofs.Words.{[], Some, ◌∙◌, sym, by_mode, view}
use Rattle.jiter_incremental.proofs.Documents.Ends.{fault-found}
use Rattle.jiter_incremental.proofs.reader.Reader.mode_fault.Goals as goal

pub returns-then-is_some : goal.returns-then-is_some
returns-then-is_some c = λ t h.
    let i = c.args.self.now in
    fault-found i.settings t i.fault h.read.opened (Some (view c.args.root.now)) (h.read.known.reads by_mode [] tt)
    (sym c.is_some.ensures ∙ c.if-is_some.true)
