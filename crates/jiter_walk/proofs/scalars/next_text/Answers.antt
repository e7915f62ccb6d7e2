use Rattle.jiter.specs.Caller.{anywhere}
use Rattle.jiter_walk.proofs.ScalarWalk.{text-law, scalar-fails, scalar-given}
use Rattle.jiter_walk.proofs.scalars.next_text.Goals as goal

pub returns : goal.returns
returns g c = scalar-given anywhere _ (text-law c.args.jiter.now) _ c.in_ok-read_text.ensures.reads

pub returns-in_err-read_text : goal.returns-in_err-read_text
returns-in_err-read_text g c =
    scalar-fails anywhere _ (text-law c.args.jiter.now) _ _ c.from_residual.ensures.1 c.in_err-read_text.ensures.reads
