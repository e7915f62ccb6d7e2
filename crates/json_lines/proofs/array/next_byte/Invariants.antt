use Rattle.std.proofs.Common.{◌≡◌, length}
use Rattle.std.specs.Io.Buffered.{reader_remaining}
use Rattle.std.specs.Io.KnownBytes.{Keeps}
use Rattle.json_lines.proofs.array.next_byte.Given as goal

abbrev pub invariant-loop : goal.invariant-loop
invariant-loop g l =
    Keeps (reader_remaining g.R.Read.remaining l.initial.reader) (reader_remaining g.R.Read.remaining l.reader)
    × (length l.bytes ≡ 1)
