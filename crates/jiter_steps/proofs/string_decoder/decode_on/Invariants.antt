use Rattle.jiter_steps.proofs.Words.{◌≡◌, ◌+◌, ◌-◌, ◌≤◌, ◌++◌, length, take, true, slice_get, IfSome, IsTrue, IsUtf8}
use Rattle.jiter_steps.proofs.Words.{is_stop, body_at, vec_len}
use Rattle.jiter_steps.proofs.string_decoder.decode_on.Given as goal

abbrev pub invariant-loop-at : goal.invariant-loop-at
invariant-loop-at l = record {
  text : (body_at l.bytes l.from).bytes ≡ take l.end l.buffer.items ++ (body_at l.bytes l.stop).bytes;
  ending : (body_at l.bytes l.from).stop ≡ (body_at l.bytes l.stop).stop;
  within : l.stop ≤ length l.bytes;
  stops : IfSome (slice_get l.bytes l.stop) (λ b. is_stop b ≡ true);
  room : l.end + 16 ≤ vec_len l.buffer;
  utf8 : IsTrue l.known → IsUtf8 (take l.end l.buffer.items);
}

abbrev pub decreases-loop-at : goal.decreases-loop-at
decreases-loop-at l = length l.bytes - l.stop
