use Rattle.jiter_scan.proofs.Words.{◌≡◌, ◌+◌, ◌-◌, ◌≤◌, length, take, vec_len}
use Rattle.jiter_scan.proofs.bytes.decode_buffer.put_slice.Given as goal

abbrev pub invariant-loop-buffer : goal.invariant-loop-buffer
invariant-loop-buffer l =
    (l.count ≤ vec_len l.buffer) × (take l.count l.buffer.items ≡ take l.count l.fn.buffer.items)

abbrev pub decreases-loop-buffer : goal.decreases-loop-buffer
decreases-loop-buffer l = (l.count + length l.bytes + 32) - vec_len l.buffer
