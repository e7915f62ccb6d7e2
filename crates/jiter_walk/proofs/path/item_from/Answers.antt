use Rattle.std.proofs.Common.{arith}
use Rattle.std.specs.Prelude.{None}
use Rattle.jiter.specs.Caller.{Node}
use Rattle.jiter_walk.specs.Search.{sought}
use Rattle.jiter_walk.proofs.Paths.{array-inside, items-found}
use Rattle.jiter_walk.proofs.Searches.{items-not_failed, no-memory}
use Rattle.jiter_walk.proofs.path.item_from.Goals as goal

pub returns-in-Ok : goal.returns-in-Ok
returns-in-Ok c = λ b e ns comes.
    let t = c.args.bytes.now in
    let w = rw c.new-search.ensures at (rw c.new_at.ensures at c.in-Ok.ensures) in
    items-found t ns b 0 c.args.index None (sought c.each_item.new.items) (array-inside t c.args.at b e ns comes) (omega arith)
    (omega (arith, c.requires.size)) (w.value (Node.array b e ns) comes)

pub returns-in-Err-2 : goal.returns-in-Err-2
returns-in-Err-2 c = λ b e ns comes.
    let t = c.args.bytes.now in
    let w = rw c.new_at.ensures at c.in-Err.ensures in
    absurd (items-not_failed t ns _ _ _ (w.value (Node.array b e ns) comes
    (no-memory c.in-Err.error c.is_memory.result c.is_memory.ensures c.if-is_memory.false)))
