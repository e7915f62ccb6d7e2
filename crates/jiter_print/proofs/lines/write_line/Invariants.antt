use Rattle.std.proofs.Common.{◌≤◌, length, take}
use Rattle.std.specs.Io.KnownBytes.{Appends}
use Rattle.jiter_print.proofs.lines.write_line.Given as goal

abbrev pub invariant-loop : goal.invariant-loop
invariant-loop g l = record {
  within : l.written ≤ length l.line;
  prefix : Appends (g.W.Write.contents l.initial.writer) (g.W.Write.contents l.writer) (take l.written l.line);
}
