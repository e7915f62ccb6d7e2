use Rattle.jiter_value.proofs.Words.{◌≡◌, drop, has_key}
use Rattle.jiter_value.proofs.parse.turns.unique.is_among.Given as goal

abbrev pub invariant-loop-i : goal.invariant-loop-i
invariant-loop-i l =
    has_key l.key (drop l.i l.members.items) ≡ has_key l.key (drop l.from l.members.items)
