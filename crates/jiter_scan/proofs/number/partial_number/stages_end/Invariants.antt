use Rattle.jiter_scan.proofs.Words.{length, ◌-◌, GoesTo}
use Rattle.jiter_scan.proofs.number.partial_number.stages_end.Given as goal

abbrev pub invariant-loop-end : goal.invariant-loop-end
invariant-loop-end l = GoesTo l.fn.stage l.bytes l.fn.at l.reached l.end

abbrev pub decreases-loop-end : goal.decreases-loop-end
decreases-loop-end l = length l.bytes - l.end
