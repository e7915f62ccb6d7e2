use Rattle.jiter_steps.proofs.Words.{length, ◌-◌, ◌≤◌}
use Rattle.jiter_steps.proofs.partial_string.is_closed.Given as goal

abbrev pub invariant-loop-at : goal.invariant-loop-at
invariant-loop-at l = record { within : l.at ≤ length l.chunk }

abbrev pub decreases-loop-at : goal.decreases-loop-at
decreases-loop-at l = length l.chunk - l.at
