use Rattle.std.specs.Prelude.{None}
use Rattle.jiter.specs.Caller.{Node}
use Rattle.jiter_walk.specs.Search.{sought}
use Rattle.jiter_walk.proofs.Paths.{members-found}
use Rattle.jiter_walk.proofs.Searches.{members-not_failed, no-memory}
use Rattle.jiter_walk.proofs.path.member_from.Goals as goal

pub returns-in-Ok : goal.returns-in-Ok
returns-in-Ok c = λ b e ms comes.
    let t = c.args.bytes.now in
    let w = rw c.new-search.ensures at (rw c.new_at.ensures at c.in-Ok.ensures) in
    members-found t ms c.args.index 0 None (sought c.each_member.new.members) (w.value (Node.object b e ms) comes)

pub returns-in-Err-2 : goal.returns-in-Err-2
returns-in-Err-2 c = λ b e ms comes.
    let t = c.args.bytes.now in
    let w = rw c.new_at.ensures at c.in-Err.ensures in
    absurd (members-not_failed t ms _ _ _ (w.value (Node.object b e ms) comes
    (no-memory c.in-Err.error c.is_memory.result c.is_memory.ensures c.if-is_memory.false)))
