use Rattle.jiter_scan.proofs.Words.{◌≡◌, ◌+◌, ◌≤◌, ◌++◌, ◌&&◌, length, take, slice_range, vec_len, scan_stop}
use Rattle.jiter_scan.proofs.Words.{ascii_from}
use Rattle.jiter_scan.proofs.bytes.simd.copy_plain.Given as goal

abbrev pub invariant-loop-left : goal.invariant-loop-left
invariant-loop-left l = record {
  text : take l.end l.buffer.items ≡ take l.count l.fn.buffer.items ++ slice_range l.bytes l.from l.i;
  stop : scan_stop l.bytes l.from ≡ scan_stop l.bytes l.i;
  ascii : ascii_from l.bytes l.from ≡ (l.clean && ascii_from l.bytes l.i);
  above : l.from ≤ l.i;
  within : l.i + l.left ≤ length l.bytes;
  room : l.end + l.left ≤ vec_len l.buffer;
}

abbrev pub decreases-loop-left : goal.decreases-loop-left
decreases-loop-left l = l.left
