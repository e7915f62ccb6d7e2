use Rattle.jiter_steps.proofs.Words.{arith}
use Rattle.jiter_steps.proofs.Calls.FastSkips.{colon-stands, colon-spaced}
use Rattle.jiter_steps.proofs.fast_skip.after_colon.Goals as goal

pub returns-then-bytes-from-gt32-clause-value : goal.returns-then-bytes-from-gt32-clause-value
returns-then-bytes-from-gt32-clause-value c =
    colon-stands c.args.bytes.now c.args.from (omega arith) c.if-bytes-from-eq58.true c.if-bytes-from-gt32.true

pub returns-then-bytes-from-gt32-2-clause-value : goal.returns-then-bytes-from-gt32-2-clause-value
returns-then-bytes-from-gt32-2-clause-value c =
    colon-spaced c.args.bytes.now c.args.from (omega arith) c.if-bytes-from-eq58-2.true c.if-bytes-from-eq32.true
    c.if-bytes-from-gt32-2.true
