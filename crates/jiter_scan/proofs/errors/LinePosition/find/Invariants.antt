use Rattle.jiter_scan.proofs.Words.{◌≡◌, ◌≤◌, ◌+◌, take, line_of, column_of}
use Rattle.jiter_scan.proofs.errors.LinePosition.find.Given as goal

abbrev pub invariant-loop-byte : goal.invariant-loop-byte
invariant-loop-byte l = record {
  line : l.line ≡ line_of (take l.byte-index l.prefix);
  column : l.column ≡ column_of (take l.byte-index l.prefix);
  line_low : l.line ≤ l.byte-index + 1;
  column_low : l.column ≤ l.byte-index;
}
