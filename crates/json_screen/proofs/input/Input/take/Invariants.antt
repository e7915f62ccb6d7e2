use Rattle.std.proofs.Common.{◌≡◌, take}
use Rattle.std.specs.List.{fold}
use Rattle.json_screen.specs.Parts.{Grows, part_step, parts}
use Rattle.json_screen.proofs.input.Input.take.Given as goal

abbrev pub invariant-loop-byte : goal.invariant-loop-byte
invariant-loop-byte l =
    (parts l.self ≡ fold part_step (parts l.fn.self) (take l.byte-index l.piece))
    × Grows l.fn.self.inside.items l.self.inside.items × (l.self.document ≡ l.fn.self.document)
