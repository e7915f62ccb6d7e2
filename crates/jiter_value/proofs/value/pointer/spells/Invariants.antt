use Rattle.jiter_value.proofs.Words.{◌≡◌, ◌↔◌, drop, token_of}
use Rattle.jiter_value.proofs.value.pointer.spells.Given as goal

abbrev pub invariant-loop-i : goal.invariant-loop-i
invariant-loop-i l = (token_of l.name ≡ l.token) ↔ (token_of (drop l.i l.name) ≡ l.rest)
