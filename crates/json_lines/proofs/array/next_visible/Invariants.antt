use Rattle.std.specs.Io.Buffered.{reader_remaining}
use Rattle.json_lines.proofs.Blanks.{Skipped}
use Rattle.json_lines.proofs.array.next_visible.Given as goal

abbrev pub invariant-loop : goal.invariant-loop
invariant-loop g l =
    Skipped (reader_remaining g.R.Read.remaining l.initial.reader) (reader_remaining g.R.Read.remaining l.reader) l.initial.position
    l.position
