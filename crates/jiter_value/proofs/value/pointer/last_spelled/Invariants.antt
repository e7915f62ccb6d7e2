use Rattle.jiter_value.proofs.Words.{◌≡◌, ◌≤◌, None, length, take, bytes_eq, last_such, token_of, member_views}
use Rattle.jiter_value.proofs.value.pointer.last_spelled.Given as goal

abbrev pub invariant-loop-rest : goal.invariant-loop-rest
invariant-loop-rest l =
    (l.rest ≤ length l.members.items)
    × (last_such (λ name. bytes_eq (token_of name) l.token) None (member_views (take l.rest l.members.items))
    ≡ last_such (λ name. bytes_eq (token_of name) l.token) None (member_views l.members.items))

abbrev pub decreases-loop-rest : goal.decreases-loop-rest
decreases-loop-rest l = l.rest
