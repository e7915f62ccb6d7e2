use Rattle.jiter_value.proofs.Words.{take, All, HasKeys, IsUpToDate, keys_of}
use Rattle.jiter_value.proofs.parse.turns.duplicate_keys.drop_closed.Given as goal

abbrev pub invariant-loop-i : goal.invariant-loop-i
invariant-loop-i l =
    All (IsUpToDate (keys_of l.members.items)) (take l.i l.sets.items)
    × All (HasKeys (keys_of l.members.items)) l.sets.items
