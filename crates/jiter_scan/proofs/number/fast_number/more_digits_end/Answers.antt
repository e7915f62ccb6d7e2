use Rattle.jiter_scan.proofs.Words.{arith}
use Rattle.jiter_scan.proofs.FastNumbers.{digits-in_two}
use Rattle.jiter_scan.proofs.number.fast_number.more_digits_end.Goals as goal

pub returns : goal.returns
returns c =
    let run = digits-in_two c.args.bytes.now c.full_block_at-back.result c.args.at c.digit_count-more.result
    c.digit_count-more.ensures (omega arith) c.requires.reach c.full_block_at-back.ensures c.requires.digits in
    (run, omega arith, omega arith)
