use Rattle.std.proofs.Common.{◌∙◌, sym}
use Rattle.jiter_walk.proofs.Coming.{comes-after_peek}
use Rattle.jiter_walk.proofs.scalars.next_place.Goals as goal

pub returns-clause-comes : goal.returns-clause-comes
returns-clause-comes c = comes-after_peek _ _ c.peek.ensures.reads.moves c.peek.ensures.place

pub returns-clause-place : goal.returns-clause-place
returns-clause-place c = (c.current_index.ensures.value ∙ c.peek.ensures.place, sym c.current_index.ensures.value)
