use Rattle.jiter_steps.proofs.Words.{arith, sym}
use Rattle.jiter_steps.proofs.Grammar.Blanks.{past_blanks-above, past_blanks-end}
use Rattle.jiter_steps.proofs.whitespace.past_blanks.Goals as goal

pub returns-then-from-bytes-clause-value : goal.returns-then-from-bytes-clause-value
returns-then-from-bytes-clause-value c = sym (past_blanks-end c.args.bytes.now c.args.from (omega arith))

pub returns-then-bytes-from-gt32-clause-value : goal.returns-then-bytes-from-gt32-clause-value
returns-then-bytes-from-gt32-clause-value c =
    sym (past_blanks-above c.args.bytes.now c.args.from (omega arith)
    (omega (arith, c.if-bytes-from-gt32.true)))
