use Rattle.std.proofs.Common.{◌≡◌, ◌+◌, ◌≤◌, drop, max}
use Rattle.json_lines.specs.ItemsRead.{past}
use Rattle.json_lines.proofs.array.past.Given as goal

abbrev pub invariant-loop-byte : goal.invariant-loop-byte
invariant-loop-byte l =
    (past (record { line = l.line; column = l.column }) (drop l.byte-index l.bytes) ≡ past l.position l.bytes)
    × (l.line ≤ max l.position.line l.position.column + l.byte-index)
    × (l.column ≤ max l.position.line l.position.column + l.byte-index)
