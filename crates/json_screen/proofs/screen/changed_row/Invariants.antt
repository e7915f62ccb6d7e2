use Rattle.std.proofs.Common.{◌≡◌, ◌≤◌, take}
use Rattle.json_screen.specs.Terminal.{IsWholeRows}
use Rattle.json_screen.proofs.screen.changed_row.Given as goal

abbrev pub invariant-loop-i : goal.invariant-loop-i
invariant-loop-i l =
    (l.begin ≤ l.i) × (take l.i l.old ≡ take l.i l.new) × IsWholeRows (take l.begin l.new)
