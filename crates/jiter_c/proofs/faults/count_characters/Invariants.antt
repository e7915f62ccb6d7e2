use Rattle.std.proofs.Common.{◌≡◌, ◌≤◌, take}
use Rattle.std.specs.Prelude.{count_by}
use Rattle.jiter_c.specs.Faults.{begins_character}
use Rattle.jiter_c.proofs.faults.count_characters.Given as goal

abbrev pub invariant-loop-byte : goal.invariant-loop-byte
invariant-loop-byte l = record {
  count : l.count ≡ count_by begins_character (take l.byte-index l.bytes);
  low : l.count ≤ l.byte-index;
}
