use Rattle.jiter.specs.Caller.{never}
use Rattle.jiter_walk.proofs.ScalarWalk.{flag-law, scalar-fails, scalar-given}
use Rattle.jiter_walk.proofs.Passing.{never-fails}
use Rattle.jiter_walk.proofs.scalars.next_flag.Goals as goal

pub returns-clause-walks : goal.returns-clause-walks
returns-clause-walks g c = scalar-given never _ (flag-law c.args.jiter.now) _ c.in_ok-next_bool.ensures.reads

pub returns-in_err-next_bool-clause-walks : goal.returns-in_err-next_bool-clause-walks
returns-in_err-next_bool-clause-walks g c =
    scalar-fails never _ (flag-law c.args.jiter.now) _ _ c.from_residual.ensures.1 c.in_err-next_bool.ensures.reads

pub returns-in_err-next_bool-clause-never : goal.returns-in_err-next_bool-clause-never
returns-in_err-next_bool-clause-never g c =
    never-fails _ _ c.from_residual.ensures.1 (λ m. c.in_err-next_bool.ensures.reads.memory m)
