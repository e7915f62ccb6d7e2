use Rattle.jiter_scan.proofs.Words.{sym, ap, ◌∙◌, subst, float, IsSpan, number_at, with_value, taken, span_end}
use Rattle.jiter_scan.proofs.FastNumberValues.{number_at-span}
use Rattle.jiter_scan.proofs.number.number_decoder.slow_number_at.Goals as goal

pub returns-in-Ok-Int-clause-value : goal.returns-in-Ok-Int-clause-value
returns-in-Ok-Int-clause-value c =
    let end = c.in-Ok-Int.end in
    number_at-span c.args.bytes.now c.args.allow_inf_nan end c.args.at
    (c.in-Ok-Int.ensures.value ∙ ap span_end c.in-Ok-Int.field-0-is)
    ∙ ap (λ n. taken n end) (sym c.long_integer-number.ensures)

pub returns-in-Ok-Float-clause-value : goal.returns-in-Ok-Float-clause-value
returns-in-Ok-Float-clause-value c =
    let end = c.in-Ok-Float.end in
    let text = subst (IsSpan c.args.bytes.now c.args.at) c.in-Ok-Float.field-0-is c.in-Ok-Float.ensures.parts in
    number_at-span c.args.bytes.now c.args.allow_inf_nan end c.args.at
    (c.in-Ok-Float.ensures.value ∙ ap span_end c.in-Ok-Float.field-0-is)
    ∙ ap (λ n. taken n end) (text.value ∙ ap float (sym c.ascii_text-text.ensures))

pub returns-in-Err-clause-value : goal.returns-in-Err-clause-value
unfolding number_at
returns-in-Err-clause-value c = ap (with_value c.args.bytes.now c.args.at) c.in-Err.ensures.value
