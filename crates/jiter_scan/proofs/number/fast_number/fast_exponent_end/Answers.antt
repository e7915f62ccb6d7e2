use Rattle.jiter_scan.proofs.Words.{get_or, sym, ◌∙◌, arith, IfSome_then, slice_get-get_or}
use Rattle.jiter_scan.proofs.FastNumbers.{exponent_at-run, exponent_at-none}
use Rattle.jiter_scan.proofs.number.fast_number.fast_exponent_end.Goals as goal

pub returns-then-not-is_exponent_letter : goal.returns-then-not-is_exponent_letter
returns-then-not-is_exponent_letter c =
    let t = c.args.bytes.now in
    let i = c.args.at in
    exponent_at-none t i (get_or t i 0) (slice_get-get_or t i 0 (omega arith))
    (sym c.is_exponent_letter.ensures ∙ c.if-not-is_exponent_letter.true)

pub returns : goal.returns
returns c =
    let t = c.args.bytes.now in
    let i = c.args.at in
    let letter = sym c.is_exponent_letter.ensures ∙ c.if-not-is_exponent_letter.false in
    IfSome_then c.few_digits_end.result c.few_digits_end.ensures
    (λ e x. exponent_at-run t i c.sign_end.result e (get_or t i 0) (slice_get-get_or t i 0 (omega arith)) letter
    c.sign_end.ensures.end x.0 x.1 (omega arith))
