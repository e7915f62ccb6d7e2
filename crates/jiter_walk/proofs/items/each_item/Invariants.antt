use Rattle.std.proofs.Common.{◌-◌, length}
use Rattle.std.specs.Prelude.{option_map}
use Rattle.jiter.specs.Caller.{byte_of}
use Rattle.jiter_walk.specs.Walk.{array_walked}
use Rattle.jiter_walk.proofs.ItemForm.{array-cases, items, opened}
use Rattle.jiter_walk.proofs.PartWalk.{WalkAt}
use Rattle.jiter_walk.proofs.items.each_item.Given as goal

abbrev pub invariant-loop-next : goal.invariant-loop-next
invariant-loop-next g l =
    let after = g.I.Items.after in
    let start = g.I.Items.state l.fn.items in
    WalkAt (items after l.fn.jiter) start (opened after l.fn.jiter) (array_walked after start l.fn.jiter.text)
    (array-cases after l.fn.jiter start) l.jiter (option_map byte_of l.next) (g.I.Items.state l.items)

abbrev pub decreases-loop-next : goal.decreases-loop-next
decreases-loop-next g l = length l.fn.jiter.text - l.jiter.position
