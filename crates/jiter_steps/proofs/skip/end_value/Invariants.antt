use Rattle.jiter_steps.proofs.Words.{◌≡◌, Bool, only_ends, resume, NeverMovesBack, done, open_frames}
use Rattle.jiter_steps.proofs.skip.end_value.Given as goal

abbrev pub invariant-closing : goal.invariant-closing
invariant-closing l = record {
  moves : NeverMovesBack l.fn.parser l.parser;
  same : (names : Bool)
      → resume (only_ends names) l.fn.parser.bytes.now (open_frames l.fn.nest.kinds l.fn.nest.depth)
      (done tt l.fn.parser.index)
      ≡ resume (only_ends names) l.fn.parser.bytes.now (open_frames l.nest.kinds l.nest.depth)
      (done tt l.parser.index);
}

abbrev pub decreases-closing : goal.decreases-closing
decreases-closing l = l.nest.depth
