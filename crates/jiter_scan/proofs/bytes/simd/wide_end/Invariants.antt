use Rattle.jiter_scan.proofs.Words.{◌≡◌, ◌+◌, ◌-◌, ◌<◌, ◌≤◌, true, length, list_all, chunk, scan_stop, ascii_from, plain_to}
use Rattle.jiter_scan.proofs.bytes.simd.wide_end.Given as goal

abbrev pub invariant-loop-i : goal.invariant-loop-i
invariant-loop-i l = record {
  stop : scan_stop l.bytes l.from ≡ scan_stop l.bytes l.i;
  above : l.from ≤ l.i;
  within : l.i ≤ length l.bytes;
  ascii : l.ascii ≡ true → ascii_from l.bytes l.from ≡ ascii_from l.bytes l.i;
  first : l.from < l.i → (l.from + 64 ≤ length l.bytes) × (list_all (plain_to l.ascii) (chunk l.from 64 l.bytes) ≡ true);
}

abbrev pub decreases-loop-i : goal.decreases-loop-i
decreases-loop-i l = length l.bytes - l.i
