use Rattle.jiter_incremental.proofs.Words.{strictly}
use Rattle.jiter_incremental.proofs.incremental_parser.IncrementalParser.finish.Goals as goal

pub returns : goal.returns
returns c =
    let p = strictly c.self.inside.reader.settings in
    rw (← c.self.view_is) (λ t h. c.told.ensures p t (c.strict_fault.ensures t h.arrived))
