use Rattle.jiter_value.proofs.Words.{inl, refl}
use Rattle.jiter_value.proofs.Shapes.{holds-same}
use Rattle.jiter_value.proofs.parse.turns.containers.to_part.Goals as goal

pub returns-then-has_room : goal.returns-then-has_room
returns-then-has_room c =
    rw c.part_of.ensures (inl (refl, c.if-has_room.ensures refl, holds-same c.args.stacks.now))
