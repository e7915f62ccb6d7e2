use Rattle.std.proofs.Common.{◌-◌, length}
use Rattle.jiter.specs.Caller.{MovesOn, at_start}
use Rattle.filter.proofs.Walk.{AllHere}
use Rattle.filter.proofs.members.find_members.Given as goal

abbrev pub invariant-loop-next : goal.invariant-loop-next
invariant-loop-next l = MovesOn (at_start l.line) l.jiter × AllHere l.members l.line l.jiter l.next l.sources

abbrev pub decreases-loop-next : goal.decreases-loop-next
decreases-loop-next l = length l.line - l.jiter.position
