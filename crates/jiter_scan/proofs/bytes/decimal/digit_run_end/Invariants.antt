use Rattle.jiter_scan.proofs.Words.{◌≡◌, ◌-◌, ◌≤◌, length, digit_run_end}
use Rattle.jiter_scan.proofs.bytes.decimal.digit_run_end.Given as goal

abbrev pub invariant-chunks : goal.invariant-chunks
invariant-chunks l = record {
  above : l.from ≤ l.i;
  within : l.i ≤ length l.bytes;
  run : digit_run_end l.bytes l.from ≡ digit_run_end l.bytes l.i;
}

abbrev pub decreases-chunks : goal.decreases-chunks
decreases-chunks l = length l.bytes - l.i

abbrev pub invariant-bytes : goal.invariant-bytes
invariant-bytes l = record {
  above : l.from ≤ l.i;
  within : l.i ≤ length l.bytes;
  run : digit_run_end l.bytes l.from ≡ digit_run_end l.bytes l.i;
}

abbrev pub decreases-bytes : goal.decreases-bytes
decreases-bytes l = length l.bytes - l.i
