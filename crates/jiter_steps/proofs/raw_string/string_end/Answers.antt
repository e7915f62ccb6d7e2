use Rattle.jiter_steps.proofs.Words.{◌+◌, false, ap, seen_as}
use Rattle.jiter_steps.proofs.Calls.RawStrings.{raw-closed}
use Rattle.jiter_steps.proofs.raw_string.string_end.Goals as goal

pub returns-in-Some-eq34-clause-value : goal.returns-in-Some-eq34-clause-value
returns-in-Some-eq34-clause-value c =
    let e = c.content_end-end in
    ap (seen_as (λ s e. tt {0})) (raw-closed c.args.bytes.now false (c.args.at + 1) e.result e.ensures.over (cc))

pub returns-in_default-clause-value : goal.returns-in_default-clause-value
returns-in_default-clause-value c =
    let e = c.content_end-end in
    ap (seen_as (λ s e. tt {0})) (c.fault_of.ensures (c.args.at + 1) false e.ensures.over (λ no. absurd (cc)))
