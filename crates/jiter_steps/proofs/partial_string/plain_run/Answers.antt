use Rattle.jiter_steps.proofs.Words.{◌+◌, take, drop, arith, is_plain, prefix_len-pass}
use Rattle.jiter_steps.proofs.Chunks.OpenStrings.{near-range}
use Rattle.jiter_steps.proofs.partial_string.plain_run.Goals as goal

pub returns-clause-plain : goal.returns-clause-plain
returns-clause-plain c =
    let near = take (c.args.at + c.min.result) c.args.chunk.now in
    prefix_len-pass is_plain _ (drop c.args.at near) (omega (arith, c.string_stop.ensures.stop))

pub returns-clause-is : goal.returns-clause-is
returns-clause-is c =
    near-range c.args.chunk.now c.args.at (c.args.at + c.min.result) c.string_stop.result (omega arith)
    c.string_stop.ensures.within.0 c.string_stop.ensures.within.1
