-- The line has grown by no line feed so far, and by what the reader lost.
use Rattle.std.proofs.Common.{◌≡◌, ◌≢◌, ◌≤◌, All, length, drop, vec_len, vec_items}
use Rattle.std.specs.Io.{StartsWith}
use Rattle.std.specs.Io.KnownBytes.{Consumes}
use Rattle.json_lines.proofs.reading.read_line.Given as goal

abbrev pub invariant-loop : goal.invariant-loop
invariant-loop g l = (l.begin ≡ vec_len l.initial.line) × (l.begin ≤ vec_len l.line) × StartsWith (vec_items l.line) (vec_items l.initial.line)
    × All (λ x. x ≢ 10) (drop (length (vec_items l.initial.line)) (vec_items l.line))
    × Consumes (g.B.Read.remaining l.initial.reader) (g.B.Read.remaining l.reader) (drop (length (vec_items l.initial.line)) (vec_items l.line))
