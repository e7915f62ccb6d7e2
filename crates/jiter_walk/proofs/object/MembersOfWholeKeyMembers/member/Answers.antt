use Rattle.jiter_walk.proofs.Keys.{key-sets, walks-same}
use Rattle.jiter_walk.proofs.object.MembersOfWholeKeyMembers.member.Goals as goal

pub returns : goal.returns
returns g c =
    walks-same _ _ _ _ _ _
    (λ n. key-sets g.O.Object.table c.args.jiter.now.text c.args.key.now c.args.at n _ _ c.key-found.ensures)
    c.member.ensures
