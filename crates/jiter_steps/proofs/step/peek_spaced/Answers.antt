use Rattle.jiter_steps.proofs.Words.{◌∙◌, sym, ap, is_blank}
use Rattle.jiter_steps.proofs.Grammar.Blanks.{past_blanks-blank}
use Rattle.jiter_steps.proofs.step.peek_spaced.Goals as goal

pub returns-then-bytes-from-eq32-clause-place : goal.returns-then-bytes-from-eq32-clause-place
returns-then-bytes-from-eq32-clause-place c =
    c.peek.ensures.place
    ∙ sym (past_blanks-blank c.args.bytes.now c.args.from c.if-from-bytes.true (ap is_blank c.if-bytes-from-eq32.true))
