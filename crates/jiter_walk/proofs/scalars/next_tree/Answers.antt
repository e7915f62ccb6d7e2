use Rattle.jiter.specs.Caller.{value_memory, value_place}
use Rattle.jiter_walk.proofs.ScalarWalk.{scalar-fails, scalar-given, tree-law}
use Rattle.jiter_walk.proofs.scalars.next_tree.Goals as goal

pub returns : goal.returns
returns g c =
    let s0 = c.args.jiter.now in
    scalar-given (value_memory s0 (value_place s0)) _ (tree-law s0) _ c.in_ok-next_value.ensures.reads

pub returns-in_err-next_value : goal.returns-in_err-next_value
returns-in_err-next_value g c =
    let s0 = c.args.jiter.now in
    scalar-fails (value_memory s0 (value_place s0)) _ (tree-law s0) _ _ c.from_residual.ensures.1
    c.in_err-next_value.ensures.reads
