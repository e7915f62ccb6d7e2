use Rattle.jiter_steps.proofs.Words.{◌≡◌, ◌≤◌, ◌<◌, ◌-◌, Bool, length, only_ends, value_from, open_frames}
use Rattle.jiter_steps.proofs.skip.fast_turns.Given as goal

abbrev pub invariant-turns : goal.invariant-turns
invariant-turns l = record {
  place : (l.from ≤ l.at) × (l.at < length l.bytes);
  few : l.depth ≤ 200;
  same : (names : Bool)
      → value_from (only_ends names) l.bytes (open_frames l.fn.nest.kinds l.fn.nest.depth) l.from
      ≡ value_from (only_ends names) l.bytes (open_frames l.nest.kinds l.depth) l.at;
}

abbrev pub decreases-turns : goal.decreases-turns
decreases-turns l = length l.bytes - l.at
