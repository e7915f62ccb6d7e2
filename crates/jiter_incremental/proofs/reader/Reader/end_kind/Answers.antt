use Rattle.jiter_incremental.proofs.Words.{◌∙◌, sym, document, view}
use Rattle.jiter_incremental.proofs.Answering.{number-ends}
use Rattle.jiter_incremental.proofs.reader.Reader.end_kind.Goals as goal

pub returns-then-is_whole : goal.returns-then-is_whole
returns-then-is_whole c = λ t o s.
    number-ends (document c.args.self.now (view c.args.root.now)) t o s c.container_end.result c.in-Number.is
    (sym c.is_whole.ensures.value ∙ c.if-is_whole.true) c.container_end.ensures.none c.container_end.ensures.some
