use Rattle.jiter_scan.proofs.Words.{IfSome_then}
use Rattle.jiter_scan.proofs.NumberSpans.{tail-parts}
use Rattle.jiter_scan.proofs.number.fast_number.fast_float_end.Goals as goal

pub returns-in-Some : goal.returns-in-Some
returns-in-Some c =
    IfSome_then c.fast_exponent_end.result c.fast_exponent_end.ensures
    (λ e x. tail-parts c.args.bytes.now c.args.at c.in-Some.end e c.in-Some.ensures.end x)
