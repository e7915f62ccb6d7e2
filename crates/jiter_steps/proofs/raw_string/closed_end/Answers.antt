use Rattle.jiter_steps.proofs.Words.{◌+◌, false, ap, arith, seen_as}
use Rattle.jiter_steps.proofs.Calls.RawStrings.{raw-closed, raw-over_after}
use Rattle.jiter_steps.proofs.raw_string.closed_end.Goals as goal

pub returns-in-Some-eq34-clause-value : goal.returns-in-Some-eq34-clause-value
returns-in-Some-eq34-clause-value c =
    let t = c.args.bytes.now in
    let i = c.args.at + 1 in
    let e = c.rest_end-end in
    let over = raw-over_after t i c.args.from e.result (omega arith) (omega arith) c.requires.plain e.ensures.over in
    ap (seen_as (λ s k. tt {0})) (raw-closed t false i e.result over (cc))
