use Rattle.std.proofs.Common.{◌≡◌, drop}
use Rattle.format.specs.Pointers.{has_escapes}
use Rattle.format.proofs.pointers.has_escapes.Given as goal

abbrev pub invariant-loop-i : goal.invariant-loop-i
invariant-loop-i l = has_escapes l.bytes ≡ has_escapes (drop l.i l.bytes)
