use Rattle.std.proofs.Common.{◌+◌, ◌≤◌, take}
use Rattle.json_lines.specs.ItemsRead.{Passes, depth_of, place_of}
use Rattle.json_lines.proofs.array.scan.Given as goal

abbrev pub invariant-loop-index : goal.invariant-loop-index
invariant-loop-index l =
    Passes (place_of l.initial.state) (take l.index l.bytes) (place_of l.state)
    × (depth_of l.state ≤ depth_of l.initial.state + l.index)
