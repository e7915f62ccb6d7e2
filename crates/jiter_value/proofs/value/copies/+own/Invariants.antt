use Rattle.jiter_value.proofs.Words.{◌≡◌, map, take, owned_tree, owned_member, member_view, view}
use Rattle.jiter_value.proofs.value.copies.+own.Given as goal

abbrev pub invariant-own_items-loop-i : goal.invariant-own_items-loop-i
invariant-own_items-loop-i l = map view l.copies.items ≡ map owned_tree (map view (take l.i l.items.items))

abbrev pub invariant-own_members-loop-i : goal.invariant-own_members-loop-i
invariant-own_members-loop-i l =
    map member_view l.copies.items ≡ map owned_member (map member_view (take l.i l.members.items))
