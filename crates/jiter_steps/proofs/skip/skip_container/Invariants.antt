use Rattle.jiter_steps.proofs.Words.{◌≡◌, ◌<◌, ◌-◌, length, only_ends, skip_at, value_from, NeverMovesBack, open_frames}
use Rattle.jiter_steps.proofs.skip.skip_container.Given as goal

abbrev pub invariant-skipping : goal.invariant-skipping
invariant-skipping l = record {
  moves : NeverMovesBack l.fn.parser l.parser;
  inside : l.parser.index < length l.fn.parser.bytes.now;
  same : skip_at l.allow_inf_nan l.fn.parser.bytes.now l.fn.parser.index
      ≡ value_from (only_ends l.allow_inf_nan) l.fn.parser.bytes.now (open_frames l.nest.kinds l.nest.depth)
      l.parser.index;
}

abbrev pub decreases-skipping : goal.decreases-skipping
decreases-skipping l = length l.fn.parser.bytes.now - l.parser.index
