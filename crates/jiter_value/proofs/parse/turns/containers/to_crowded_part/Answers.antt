use Rattle.jiter_value.proofs.Words.{inl, inr, refl}
use Rattle.jiter_value.proofs.parse.turns.containers.to_crowded_part.Goals as goal

pub returns-in-Ok : goal.returns-in-Ok
returns-in-Ok c = rw c.part_of.ensures (inl (refl, c.in-Ok.ensures.room, c.in-Ok.ensures.same))

pub returns-in-Err : goal.returns-in-Err
returns-in-Err c = inr (c.no_memory.ensures.place, c.in-Err.refused, c.no_memory.ensures.error)
