use Rattle.jiter_value.proofs.Words.{ℕ, ◌<◌, ◌≤◌, get_or, keys_of}
use Rattle.jiter_value.specs.DuplicateKeys.{IsNoKeyOf}
use Rattle.jiter_value.proofs.parse.turns.duplicate_keys.is_named.Given as goal

abbrev pub invariant-loop-i : goal.invariant-loop-i
invariant-loop-i l =
    (q : ℕ) → l.fn.place.bucket ≤ q → q < l.i → IsNoKeyOf (keys_of l.members.items) (get_or l.slots.items q 0) l.key
