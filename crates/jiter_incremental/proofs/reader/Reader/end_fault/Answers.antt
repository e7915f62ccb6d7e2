use Rattle.jiter_incremental.proofs.Words.{◌∙◌, ap, kind_at_end, document, view}
use Rattle.jiter_incremental.proofs.Documents.Ends.{end-none, end-some}
use Rattle.jiter_incremental.proofs.reader.Reader.end_fault.Goals as goal

pub returns-in-Some : goal.returns-in-Some
returns-in-Some c = λ t o s.
    let d = document c.args.self.now (view c.args.root.now) in
    end-some d (kind_at_end s.apart o) c.end_kind.result c.in-Some.kind c.fault_at.result (c.end_kind.ensures t o s)
    c.in-Some.is (c.fault_at.ensures ∙ ap (λ n. record { kind = c.in-Some.kind; index = n }) c.position.ensures)

pub returns-in-None : goal.returns-in-None
returns-in-None c = λ t o s.
    let d = document c.args.self.now (view c.args.root.now) in
    end-none d (kind_at_end s.apart o) c.end_kind.result (c.end_kind.ensures t o s) c.in-None.is
