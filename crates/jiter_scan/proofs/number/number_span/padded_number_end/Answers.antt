use Rattle.jiter_scan.proofs.NumberSpans.{span-signed}
use Rattle.jiter_scan.proofs.number.number_span.padded_number_end.Goals as goal

pub returns-in-Int-clause-end : goal.returns-in-Int-clause-end
returns-in-Int-clause-end c names =
    span-signed c.args.bytes.now names c.args.at c.skip_minus.result c.in-Int.end c.skip_minus.ensures.minus
    c.in-Int.ensures.decimal

pub returns-in-Float-clause-end : goal.returns-in-Float-clause-end
returns-in-Float-clause-end c names =
    span-signed c.args.bytes.now names c.args.at c.skip_minus.result c.in-Float.end c.skip_minus.ensures.minus
    c.in-Float.ensures.decimal
