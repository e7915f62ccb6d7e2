use Rattle.jiter_steps.proofs.Words.{◌≡◌, ◌≤◌, Bool, length, only_ends, resume, done, open_frames}
use Rattle.jiter_steps.proofs.skip.fast_after.Given as goal

abbrev pub invariant-closing : goal.invariant-closing
invariant-closing l = record {
  place : (l.from ≤ l.end) × (l.end ≤ length l.bytes);
  few : l.open ≤ 200;
  same : (names : Bool)
      → resume (only_ends names) l.bytes (open_frames l.nest.kinds l.depth) (done tt l.from)
      ≡ resume (only_ends names) l.bytes (open_frames l.nest.kinds l.open) (done tt l.end);
}

abbrev pub decreases-closing : goal.decreases-closing
decreases-closing l = l.open
