use Rattle.jiter_scan.proofs.Words.{◌≡◌, ◌-◌, ◌≤◌, scan_stop}
use Rattle.jiter_print.proofs.buffer.is_plain_to.Given as goal

abbrev pub invariant-loop-from : goal.invariant-loop-from
invariant-loop-from l = record {
  within : l.i ≤ l.to;
  same : scan_stop l.bytes l.from ≡ scan_stop l.bytes l.i;
}

abbrev pub decreases-loop-from : goal.decreases-loop-from
decreases-loop-from l = l.to - l.i
