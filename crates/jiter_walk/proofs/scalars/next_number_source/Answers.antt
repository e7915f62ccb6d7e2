use Rattle.jiter.specs.Caller.{never}
use Rattle.jiter_walk.proofs.ScalarWalk.{source-law, scalar-fails, scalar-given}
use Rattle.jiter_walk.proofs.Passing.{never-fails}
use Rattle.jiter_walk.proofs.scalars.next_number_source.Goals as goal

pub returns-clause-walks : goal.returns-clause-walks
returns-clause-walks g c = scalar-given never _ (source-law c.args.jiter.now) _ c.in_ok-next_number_bytes.ensures.reads

pub returns-in_err-next_number_bytes-clause-walks : goal.returns-in_err-next_number_bytes-clause-walks
returns-in_err-next_number_bytes-clause-walks g c =
    scalar-fails never _ (source-law c.args.jiter.now) _ _ c.from_residual.ensures.1 c.in_err-next_number_bytes.ensures.reads

pub returns-in_err-next_number_bytes-clause-never : goal.returns-in_err-next_number_bytes-clause-never
returns-in_err-next_number_bytes-clause-never g c =
    never-fails _ _ c.from_residual.ensures.1 (λ m. c.in_err-next_number_bytes.ensures.reads.memory m)
