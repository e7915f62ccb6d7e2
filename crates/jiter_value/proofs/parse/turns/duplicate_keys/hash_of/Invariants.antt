use Rattle.jiter_value.proofs.Words.{◌≡◌, drop, mark_on}
use Rattle.jiter_value.specs.DuplicateKeys.{hash_of}
use Rattle.jiter_value.proofs.parse.turns.duplicate_keys.hash_of.Given as goal

abbrev pub invariant-loop-i : goal.invariant-loop-i
invariant-loop-i l =
    mark_on l.hash (drop l.i l.bytes) ≡ hash_of l.key
