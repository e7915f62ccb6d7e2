use Rattle.jiter.proofs.Words.{◌+◌, ◌-◌, length, map, option_map, text_view, member_view, view, byte_of}
use Rattle.std.proofs.Common.{◌*◌}
use Rattle.jiter.proofs.Building.{items, members}
use Rattle.jiter.proofs.Containers.{In}
use Rattle.jiter.proofs.client.+build.Given as goal

abbrev pub decreases-build_value : goal.decreases-build_value
decreases-build_value l = 4 * l.levels + 3

abbrev pub decreases-build_array : goal.decreases-build_array
decreases-build_array l = 4 * l.levels + 2

abbrev pub decreases-build_object : goal.decreases-build_object
decreases-build_object l = 4 * l.levels + 2

abbrev pub decreases-build_member : goal.decreases-build_member
decreases-build_member l = 4 * l.levels + 1

abbrev pub decreases-build_inside : goal.decreases-build_inside
decreases-build_inside l = 4 * l.levels

abbrev pub invariant-build_array-loop-next : goal.invariant-build_array-loop-next
invariant-build_array-loop-next l =
    In l.fn.jiter l.jiter (items l.fn.jiter l.levels) (option_map byte_of l.next) (map view l.items.items)

abbrev pub decreases-build_array-loop-next : goal.decreases-build_array-loop-next
decreases-build_array-loop-next l = length l.fn.jiter.text - l.jiter.position

abbrev pub invariant-build_object-loop-next : goal.invariant-build_object-loop-next
invariant-build_object-loop-next l =
    In l.fn.jiter l.jiter (members l.fn.jiter l.levels) (option_map text_view l.next) (map member_view l.members.items)

abbrev pub decreases-build_object-loop-next : goal.decreases-build_object-loop-next
decreases-build_object-loop-next l = length l.fn.jiter.text - l.jiter.position
