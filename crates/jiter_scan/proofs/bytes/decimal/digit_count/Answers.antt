use Rattle.jiter_scan.proofs.Words.{◌∙◌, sym, ap, arith, count_trailing_zeros, is_digit}
use Rattle.jiter_scan.proofs.Chunks.{prefix_len-all, prefix_len-failing, list_all-failing-zero}
use Rattle.jiter_scan.proofs.bytes.decimal.digit_count.Goals as goal

pub returns-then-others-eq0 : goal.returns-then-others-eq0
returns-then-others-eq0 c =
    let all = prefix_len-all is_digit c.args.block
    (list_all-failing-zero is_digit c.args.block (omega (arith, c.no_digits-others.ensures))) in
    omega arith

pub returns-else-others-eq0 : goal.returns-else-others-eq0
returns-else-others-eq0 c =
    let some = prefix_len-failing is_digit c.args.block (omega arith) (omega (arith, c.no_digits-others.ensures))
    ∙ ap (count_trailing_zeros 64) (sym c.no_digits-others.ensures) in
    omega arith
