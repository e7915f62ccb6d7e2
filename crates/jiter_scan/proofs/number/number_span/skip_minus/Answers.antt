use Rattle.jiter_scan.proofs.Words.{inr, refl}
use Rattle.jiter_scan.proofs.NumberSpans.{byte-got}
use Rattle.jiter_scan.proofs.number.number_span.skip_minus.Goals as goal

pub returns-then-bytes-at-eq45-clause-minus : goal.returns-then-bytes-at-eq45-clause-minus
returns-then-bytes-at-eq45-clause-minus c =
    inr (refl, byte-got c.args.bytes.now c.args.at 45 c.requires c.if-bytes-at-eq45.true)
