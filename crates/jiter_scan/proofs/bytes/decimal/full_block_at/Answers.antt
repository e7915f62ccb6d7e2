use Rattle.jiter_scan.proofs.Words.{◌+◌, ◌-◌, ◌≡◌, ◌∙◌, ap, take, drop, take-take, arith}
use Rattle.jiter_scan.proofs.bytes.decimal.full_block_at.Goals as goal

pub returns : goal.returns
returns c n few within =
    let at = c.args.at in
    let count : n ≡ at + n - at = omega arith in
    take-take n 16 (drop at c.args.bytes.now) few ∙ ap (λ k. take k (drop at c.args.bytes.now)) count
