use Rattle.jiter_incremental.proofs.Words.{[]}
use Rattle.jiter_incremental.proofs.Pushing.{received-none}
use Rattle.jiter_incremental.proofs.incremental_parser.IncrementalParser.new.Goals as goal

pub invariant_of-result : goal.invariant_of-result
invariant_of-result c =
    let new = c.new.ensures in ([], received-none c.new.result new.arrived new.start new.closed)

pub returns-clause-begun : goal.returns-clause-begun
returns-clause-begun c =
    let new = c.new.ensures in received-none c.new.result new.arrived new.start new.closed
