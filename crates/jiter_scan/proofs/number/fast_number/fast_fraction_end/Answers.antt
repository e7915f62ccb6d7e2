use Rattle.jiter_scan.proofs.Words.{◌+◌, get_or, ap, ◌∙◌, arith, Some, ne_eqb, IfSome_then, slice_get-get_or}
use Rattle.jiter_scan.proofs.FastNumbers.{digits-counted, digits-of_block, fraction_at-run, fraction_at-none}
use Rattle.jiter_scan.proofs.number.fast_number.fast_fraction_end.Goals as goal

pub returns-then-bytes-at-ne46-clause-end : goal.returns-then-bytes-at-ne46-clause-end
returns-then-bytes-at-ne46-clause-end c =
    let t = c.args.bytes.now in
    let i = c.args.at in
    fraction_at-none t i _ (slice_get-get_or t i 0 (omega arith)) (ne_eqb (get_or t i 0) 46 c.if-bytes-at-ne46.true)

pub more_digits_end-requires-clause-digits : goal.more_digits_end-requires-clause-digits
more_digits_end-requires-clause-digits c =
    let block = c.full_block_at-block in
    digits-of_block c.args.bytes.now block.result (c.args.at + 1) 16 (omega (arith, c.digit_count-count.ensures))
    (block.ensures 16 (omega arith) (omega arith))

pub returns-then-count-gt15-clause-end : goal.returns-then-count-gt15-clause-end
returns-then-count-gt15-clause-end c =
    let t = c.args.bytes.now in
    let i = c.args.at in
    let point = slice_get-get_or t i 0 (omega arith) ∙ ap Some c.if-bytes-at-ne46.false in
    IfSome_then c.more_digits_end.result c.more_digits_end.ensures
    (λ e x. fraction_at-run t i e point x.0 x.1 (omega arith))

pub returns-then-count-gt15-clause-place : goal.returns-then-count-gt15-clause-place
returns-then-count-gt15-clause-place c =
    IfSome_then c.more_digits_end.result c.more_digits_end.ensures (λ e x. (omega (arith, x.1), omega (arith, x.2)))

pub returns-clause-end : goal.returns-clause-end
returns-clause-end c =
    let t = c.args.bytes.now in
    let i = c.args.at in
    let n = c.digit_count-count.result in
    let run = digits-counted t c.full_block_at-block.result (i + 1) n c.digit_count-count.ensures (omega arith)
    (omega arith)
    c.full_block_at-block.ensures in
    let point = slice_get-get_or t i 0 (omega arith) ∙ ap Some c.if-bytes-at-ne46.false in
    fraction_at-run t i (i + 1 + n) point run (omega arith) (omega arith)
