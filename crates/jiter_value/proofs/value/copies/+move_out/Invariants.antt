use Rattle.jiter_value.proofs.Words.{◌≡◌, map, take, owned_tree, owned_member, member_view, view}
use Rattle.jiter_value.proofs.value.copies.+move_out.Given as goal

abbrev pub invariant-move_items-loop-i : goal.invariant-move_items-loop-i
invariant-move_items-loop-i l = record {
  moved : map view l.moved.items ≡ map owned_tree (map view (take l.i l.initial.items.items));
  unvisited : goal.unvisited-move_items-loop-i l;
}

abbrev pub invariant-move_members-loop-i : goal.invariant-move_members-loop-i
invariant-move_members-loop-i l = record {
  moved : map member_view l.moved.items ≡ map owned_member (map member_view (take l.i l.initial.members.items));
  unvisited : goal.unvisited-move_members-loop-i l;
}
