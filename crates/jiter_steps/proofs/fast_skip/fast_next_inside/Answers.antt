use Rattle.jiter_steps.proofs.Words.{◌∙◌, sym, arith}
use Rattle.jiter_steps.proofs.Calls.FastSkips.{some-as, plain-comma}
use Rattle.jiter_steps.proofs.fast_skip.fast_next_inside.Goals as goal

pub returns-in-Some-clause-value : goal.returns-in-Some-clause-value
returns-in-Some-clause-value c =
    let next = c.in-Some in
    some-as _
    (λ v is. plain-comma c.args.bytes.now c.args.shape c.args.from next.next v (omega arith) c.if-bytes-from-ne44.false
    next.ensures.value (omega arith) (sym c.begins_part.ensures ∙ c.if-begins_part.true) is)
    c.fast_inside.ensures.value
