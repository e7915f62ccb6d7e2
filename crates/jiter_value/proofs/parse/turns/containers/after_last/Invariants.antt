use Rattle.jiter_value.proofs.Words.{◌≡◌, ◌≤◌, length, after_size, after, Stands, LeavesKeys, work_left}
use Rattle.jiter_value.specs.declared.parse.stacks.Slot.TheVariants as slot
use Rattle.jiter_value.proofs.parse.turns.containers.after_last.Given as goal

abbrev pub invariant-closing : goal.invariant-closing
invariant-closing g l =
    (l.fn.from ≤ l.at) × (l.at ≤ length l.fn.bytes)
    ×
    (after g.T.StringStorage.policy l.fn.reading.settings l.fn.bytes l.fn.reading.stacks l.fn.slot l.fn.from ≡ after g.T.StringStorage.policy l.fn.reading.settings
    l.fn.bytes l.reading.stacks l.inside
    l.at)
    × Stands l.reading.stacks l.inside × (length l.reading.stacks.nest.items ≤ 200)
    × (work_left l.fn.bytes l.reading.stacks l.at ≤ work_left l.fn.bytes l.fn.reading.stacks l.fn.from)
    × (after_size l.reading.stacks l.inside ≡ after_size l.fn.reading.stacks l.fn.slot)
    × (l.fn.slot ≡ slot.Root → l.inside ≡ slot.Root)
    × LeavesKeys l.fn.reading.stacks.members.items l.reading.stacks.members.items
    × (l.reading.settings ≡ l.fn.reading.settings)

abbrev pub decreases-closing : goal.decreases-closing
decreases-closing g l = length l.reading.stacks.nest.items
