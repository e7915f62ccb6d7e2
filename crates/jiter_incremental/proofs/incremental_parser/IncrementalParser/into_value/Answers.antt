use Rattle.jiter_incremental.proofs.incremental_parser.IncrementalParser.into_value.Goals as goal

pub returns : goal.returns
returns c =
    let p = c.self.inside.reader.settings in
    rw (← c.self.view_is) (λ t h. c.told.ensures p t (c.mode_fault.ensures t h.arrived))
