use Rattle.jiter_scan.proofs.Words.{arith}
use Rattle.jiter_scan.proofs.FastNumbers.{digits-counted}
use Rattle.jiter_scan.proofs.number.fast_number.few_digits_end.Goals as goal

pub returns : goal.returns
returns c =
    let run = digits-counted c.args.bytes.now c.full_block_at-block.result c.args.at c.digit_count-count.result
    c.digit_count-count.ensures (omega arith) c.requires c.full_block_at-block.ensures in
    (run, omega arith)
