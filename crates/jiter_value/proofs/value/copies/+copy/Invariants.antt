use Rattle.jiter_value.proofs.Words.{◌≡◌, map, take, member_view, view}
use Rattle.jiter_value.proofs.value.copies.+copy.Given as goal

abbrev pub invariant-copy_items-loop-i : goal.invariant-copy_items-loop-i
invariant-copy_items-loop-i l = map view l.copies.items ≡ map view (take l.i l.items.items)

abbrev pub invariant-copy_members-loop-i : goal.invariant-copy_members-loop-i
invariant-copy_members-loop-i l = map member_view l.copies.items ≡ map member_view (take l.i l.members.items)
