use Rattle.std.proofs.Common.{◌-◌, length}
use Rattle.jiter_c.proofs.Passing.{MembersRead}
use Rattle.jiter_c.proofs.Walks.{MembersTo}
use Rattle.jiter_c.proofs.parts.last_member.Given as goal

abbrev pub invariant-loop-named : goal.invariant-loop-named
invariant-loop-named l =
    MembersTo l.fn.jiter l.jiter l.name l.named l.place × MembersRead l.fn.jiter l.jiter l.name l.named l.place

abbrev pub decreases-loop-named : goal.decreases-loop-named
decreases-loop-named l = length l.fn.jiter.text - l.jiter.position
