use Rattle.jiter_scan.proofs.Words.{◌+◌, ◌*◌, ap}
use Rattle.jiter_scan.proofs.DigitWords.{power-at}
use Rattle.jiter_scan.proofs.bytes.decimal.joined.Goals as goal

pub returns : goal.returns
returns c = ap (λ x. c.args.prefix * x + c.args.back) (power-at c.args.count c.requires.most)
