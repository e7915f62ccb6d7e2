use Rattle.jiter_scan.proofs.Words.{sym, ap, ◌∙◌, float, taken}
use Rattle.jiter_scan.proofs.NumberBytes.{IsAscii-decimal}
use Rattle.jiter_scan.proofs.NumberSpans.{span-signed}
use Rattle.jiter_scan.proofs.FastNumberValues.{number_at-span, short-signed_float}
use Rattle.jiter_scan.proofs.number.number_decoder.number_at.Goals as goal

pub ascii_text-text-requires : goal.ascii_text-text-requires
ascii_text-text-requires c =
    IsAscii-decimal c.args.bytes.now c.args.at c.skip_minus-digits.result c.in-Float.end
    c.skip_minus-digits.ensures.minus c.in-Float.ensures.decimal

pub returns-in-Int-clause-value : goal.returns-in-Int-clause-value
returns-in-Int-clause-value c =
    let t = c.args.bytes.now in
    let names = c.args.allow_inf_nan in
    let end = c.in-Int.end in
    number_at-span t names end c.args.at
    (span-signed t names c.args.at c.skip_minus-digits.result end c.skip_minus-digits.ensures.minus
    c.in-Int.ensures.decimal)
    ∙ ap (λ n. taken n end) (sym c.integer_of-number.ensures)

pub returns-in-Float-clause-value : goal.returns-in-Float-clause-value
returns-in-Float-clause-value c =
    let end = c.in-Float.end in
    short-signed_float c.args.bytes.now c.args.allow_inf_nan c.args.at end c.skip_minus-digits.result
    c.skip_minus-digits.ensures.minus c.in-Float.ensures
    ∙ ap (λ n. taken n end) (ap float (sym c.ascii_text-text.ensures))
