use Rattle.std.proofs.Common.{◌-◌, length}
use Rattle.jiter_c.specs.Parts.{PartsPassed}
use Rattle.jiter_c.specs.Replies.{state_of}
use Rattle.jiter_c.proofs.Walks.{Counted}
use Rattle.jiter_c.proofs.parts.count_parts.Given as goal

abbrev pub invariant-loop-more : goal.invariant-loop-more
invariant-loop-more l =
    Counted (state_of l.reader) l.jiter l.object l.more l.count
    × PartsPassed l.object (state_of l.reader) l.more l.count l.jiter.position

abbrev pub decreases-loop-more : goal.decreases-loop-more
decreases-loop-more l = length l.reader.bytes.now - l.jiter.position
