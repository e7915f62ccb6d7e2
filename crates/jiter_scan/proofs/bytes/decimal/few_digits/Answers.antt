use Rattle.jiter_scan.proofs.Words.{◌∙◌, ne_eqb, sym, ap, arith, count_trailing_zeros, is_digit}
use Rattle.jiter_scan.proofs.Chunks.{prefix_len-all, prefix_len-failing, prefix_len-some, list_all-failing, list_all-failing-zero}
use Rattle.jiter_scan.proofs.bytes.decimal.few_digits.Goals as goal

pub returns-then-others-eq0-clause-none : goal.returns-then-others-eq0-clause-none
returns-then-others-eq0-clause-none c =
    let all = prefix_len-all is_digit c.args.block
    (list_all-failing-zero is_digit c.args.block (omega (arith, c.no_digits-others.ensures))) in
    omega arith

pub returns-else-others-eq0-clause-some : goal.returns-else-others-eq0-clause-some
returns-else-others-eq0-clause-some c =
    let some = prefix_len-failing is_digit c.args.block (omega arith) (omega (arith, c.no_digits-others.ensures))
    ∙ ap (count_trailing_zeros 64) (sym c.no_digits-others.ensures) in
    let fails = list_all-failing is_digit c.args.block ∙ ne_eqb _ _ (λ e. omega (arith, c.no_digits-others.ensures, e)) in
    (omega arith, omega (arith, some, prefix_len-some is_digit c.args.block fails))
