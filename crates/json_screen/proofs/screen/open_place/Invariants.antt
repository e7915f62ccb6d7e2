use Rattle.std.proofs.Common.{◌≡◌, ◌+◌, ◌-◌, ◌≤◌, length, reverse, take}
use Rattle.json_screen.specs.Rows.{closers}
use Rattle.json_screen.proofs.screen.open_place.Given as goal

abbrev pub invariant-loop-place : goal.invariant-loop-place
invariant-loop-place l =
    (l.place ≤ length l.text)
    × (closers l.depth (reverse l.text) ≡ (length l.text - l.place) + closers l.left (reverse (take l.place l.text)))

abbrev pub decreases-loop-place : goal.decreases-loop-place
decreases-loop-place l = l.place
