use Rattle.jiter_incremental.proofs.incremental_parser.IncrementalParser.position.Goals as goal

pub position-requires : goal.position-requires
position-requires c = c.self.invariant.1.room
