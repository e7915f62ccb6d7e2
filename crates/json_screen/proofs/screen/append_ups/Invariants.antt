use Rattle.std.proofs.Common.{◌≡◌, ◌++◌, take}
use Rattle.json_screen.specs.Terminal.{ups}
use Rattle.json_screen.proofs.screen.append_ups.Given as goal

abbrev pub invariant-loop-byte : goal.invariant-loop-byte
invariant-loop-byte l = l.drawn.items ≡ l.fn.drawn.items ++ ups (take l.byte-index l.rows)
