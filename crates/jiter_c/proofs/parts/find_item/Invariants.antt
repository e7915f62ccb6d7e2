use Rattle.std.specs.Prelude.{option_map}
use Rattle.jiter.specs.Jiter.{byte_of}
use Rattle.jiter_c.specs.Replies.{has_part}
use Rattle.jiter_c.proofs.Passing.{ItemsPassed}
use Rattle.jiter_c.proofs.Walks.{ItemsTo}
use Rattle.jiter_c.proofs.parts.find_item.Given as goal

abbrev pub invariant-loop-item : goal.invariant-loop-item
invariant-loop-item l =
    let more = has_part (option_map byte_of l.item) in
    ItemsTo l.fn.jiter l.jiter more l.number l.before × ItemsPassed l.fn.jiter l.jiter more l.number l.before

abbrev pub decreases-loop-item : goal.decreases-loop-item
decreases-loop-item l = l.before
