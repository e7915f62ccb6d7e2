use Rattle.std.proofs.Common.{◌-◌, length}
use Rattle.jiter_walk.specs.Walk.{object_walked}
use Rattle.jiter_walk.proofs.MemberForm.{KeyWithin, keys_seen, members, object-cases, opened}
use Rattle.jiter_walk.proofs.PartWalk.{WalkAt}
use Rattle.jiter_walk.proofs.members.each_member.Given as goal

abbrev pub invariant-loop-next : goal.invariant-loop-next
invariant-loop-next g l =
    let after = g.M.Members.after in
    let start = g.M.Members.state l.fn.members in
    WalkAt (members after l.fn.jiter) start (opened after l.fn.jiter) (object_walked after start l.fn.jiter.text)
    (object-cases after l.fn.jiter start) l.jiter (keys_seen after l.fn.jiter l.next)
    (g.M.Members.state l.members)
    × KeyWithin after l.fn.jiter l.next

abbrev pub decreases-loop-next : goal.decreases-loop-next
decreases-loop-next g l = length l.fn.jiter.text - l.jiter.position
