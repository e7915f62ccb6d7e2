use Rattle.std.proofs.Common.{◌≡◌}
use Rattle.std.specs.List.{fold}
use Rattle.json_screen.specs.Rows.{filled, put_char}
use Rattle.json_screen.proofs.screen.Rows.append.Given as goal

abbrev pub invariant-loop-c : goal.invariant-loop-c
invariant-loop-c l =
    (filled l.self ≡ fold (put_char l.fn.self.width) (filled l.fn.self) l.yielded) × (l.self.width ≡ l.fn.self.width)
