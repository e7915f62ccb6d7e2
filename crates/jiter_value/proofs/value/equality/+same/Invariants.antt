use Rattle.jiter_value.proofs.Words.{◌≡◌, map, take, owned_tree, owned_member, member_view, view}
use Rattle.jiter_value.proofs.value.equality.+same.Given as goal

abbrev pub invariant-same_items-loop-i : goal.invariant-same_items-loop-i
invariant-same_items-loop-i l =
    map owned_tree (map view (take l.i l.one.items)) ≡ map owned_tree (map view (take l.i l.other.items))

abbrev pub invariant-same_members-loop-i : goal.invariant-same_members-loop-i
invariant-same_members-loop-i l =
    map owned_member (map member_view (take l.i l.one.items)) ≡ map owned_member
    (map member_view (take l.i l.other.items))
