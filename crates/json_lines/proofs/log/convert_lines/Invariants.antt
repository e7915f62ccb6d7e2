use Rattle.std.proofs.Common.{◌≤◌, ◌+◌}
use Rattle.std.specs.Io.Buffered.{reader_remaining}
use Rattle.std.specs.Io.KnownBytes.{append_known}
use Rattle.json_lines.specs.Log.{Grows}
use Rattle.json_lines.proofs.Known.{Known}
use Rattle.json_lines.proofs.log.convert_lines.Given as goal

abbrev pub invariant-loop-line : goal.invariant-loop-line
invariant-loop-line g l =
    (l.counts.texts + l.counts.refused + l.fn.origin.first_line ≤ l.line)
    × Known (g.C.Convert.becomes l.fn.converter) l.fn.origin.name.now l.fn.origin.first_line (reader_remaining g.R.Read.remaining l.initial.reader)
    (reader_remaining g.R.Read.remaining l.reader) l.line l.counts
    (g.O.Write.contents l.initial.out) (append_known (g.O.Write.contents l.out) l.batch.items)
    (g.E.Write.contents l.initial.err) (g.E.Write.contents l.err)
    (g.B.Write.contents l.initial.bad) (g.B.Write.contents l.bad)
    × Grows (g.O.Write.contents l.initial.out) (g.O.Write.contents l.out)
