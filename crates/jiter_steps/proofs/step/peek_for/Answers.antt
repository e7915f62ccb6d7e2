use Rattle.jiter_steps.proofs.Words.{◌∙◌, ap, arith, sym, Some}
use Rattle.jiter_steps.proofs.Grammar.Blanks.{past_blanks-above}
use Rattle.jiter_steps.proofs.Grammar.Places.{got}
use Rattle.jiter_steps.proofs.step.peek_for.Goals as goal

pub returns-then-bytes-from-clause-place : goal.returns-then-bytes-from-clause-place
returns-then-bytes-from-clause-place c =
    sym (past_blanks-above c.args.bytes.now c.args.from (omega (arith, c.if-from-bytes.true))
    (omega (arith, c.if-bytes-from.true, c.requires.wanted)))

pub returns-then-bytes-from-clause-byte : goal.returns-then-bytes-from-clause-byte
returns-then-bytes-from-clause-byte c =
    sym (got c.args.bytes.now c.args.from c.if-from-bytes.true ∙ ap Some c.if-bytes-from.true)
