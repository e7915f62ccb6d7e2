use Rattle.jiter_steps.proofs.Words.{◌+◌}
use Rattle.jiter_steps.proofs.Calls.RawStrings.{raw-closed, raw-unclosed}
use Rattle.jiter_steps.proofs.raw_string.raw_string_at.Goals as goal

pub returns-in-Some-eq34-clause-value : goal.returns-in-Some-eq34-clause-value
returns-in-Some-eq34-clause-value c =
    let e = c.content_end-end in
    raw-closed c.args.bytes.now c.args.partial (c.args.at + 1) e.result e.ensures.over (cc)

pub returns-in-None-clause-value : goal.returns-in-None-clause-value
returns-in-None-clause-value c =
    let e = c.content_end-end in
    rw c.if-partial.true (raw-unclosed c.args.bytes.now (c.args.at + 1) e.result e.ensures.over (cc))
