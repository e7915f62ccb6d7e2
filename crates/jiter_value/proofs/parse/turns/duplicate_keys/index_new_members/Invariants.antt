use Rattle.jiter_value.proofs.Words.{◌≡◌, IsUpToDate, keys_of}
use Rattle.jiter_value.proofs.parse.turns.duplicate_keys.index_new_members.Given as goal

abbrev pub invariant-loop-i : goal.invariant-loop-i
invariant-loop-i l =
    IsUpToDate (keys_of l.members.items) l.set × (l.set.end ≡ l.i) × (l.set.base ≡ l.fn.set.base)
