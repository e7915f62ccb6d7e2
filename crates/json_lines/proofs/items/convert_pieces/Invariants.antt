use Rattle.std.proofs.Common.{◌+◌, ◌≤◌}
use Rattle.std.specs.Prelude.{◌==◌}
use Rattle.std.specs.Io.Buffered.{reader_remaining}
use Rattle.json_lines.proofs.Pieces.{Going}
use Rattle.json_lines.proofs.items.convert_pieces.Given as goal

abbrev pub invariant-loop-index : goal.invariant-loop-index
invariant-loop-index g l =
    (l.counts.texts + l.counts.refused ≤ l.index)
    × Going (g.C.Convert.becomes l.fn.converter) l.fn.name (g.O.Write.contents l.initial.out) (g.E.Write.contents l.initial.err)
    (g.B.Write.contents l.initial.bad) (reader_remaining g.R.Read.remaining l.initial.reader) l.fn.begin
    (reader_remaining g.R.Read.remaining l.reader) l.position (l.index == 0) l.counts
    (g.O.Write.contents l.out) (g.E.Write.contents l.err) (g.B.Write.contents l.bad)
