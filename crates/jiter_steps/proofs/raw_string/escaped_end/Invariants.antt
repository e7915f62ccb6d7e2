use Rattle.jiter_steps.proofs.Words.{◌≡◌, ◌-◌, ◌≤◌, length, slice_get, IfSome, true, is_stop, body_at}
use Rattle.jiter_steps.proofs.raw_string.escaped_end.Given as goal

abbrev pub invariant-loop-end : goal.invariant-loop-end
invariant-loop-end l = record {
  rest : (body_at l.bytes l.from).stop ≡ (body_at l.bytes l.at).stop;
  place : (l.from ≤ l.at) × (l.at ≤ length l.bytes);
  stop : IfSome (slice_get l.bytes l.at) (λ b. is_stop b ≡ true);
}

abbrev pub decreases-loop-end : goal.decreases-loop-end
decreases-loop-end l = length l.bytes - l.at
