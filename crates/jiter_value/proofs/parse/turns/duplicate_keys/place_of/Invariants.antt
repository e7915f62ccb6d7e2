use Rattle.jiter_value.proofs.Words.{AreTaken}
use Rattle.jiter_value.proofs.parse.turns.duplicate_keys.place_of.Given as goal

abbrev pub invariant-loop-at : goal.invariant-loop-at
invariant-loop-at l =
    AreTaken l.slots.items l.bucket l.at
