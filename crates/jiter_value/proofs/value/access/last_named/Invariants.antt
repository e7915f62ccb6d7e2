use Rattle.jiter_value.proofs.Words.{◌≡◌, ◌≤◌, None, length, take, bytes_eq, last_such, member_views}
use Rattle.jiter_value.proofs.value.access.last_named.Given as goal

abbrev pub invariant-loop-rest : goal.invariant-loop-rest
invariant-loop-rest l =
    (l.rest ≤ length l.members.items)
    × (last_such (λ key. bytes_eq key l.name) None (member_views (take l.rest l.members.items))
    ≡ last_such (λ key. bytes_eq key l.name) None (member_views l.members.items))

abbrev pub decreases-loop-rest : goal.decreases-loop-rest
decreases-loop-rest l = l.rest
