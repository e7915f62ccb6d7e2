use Rattle.jiter_scan.proofs.DigitWords.{worth-eight}
use Rattle.jiter_scan.proofs.bytes.decimal.eight_digits.Goals as goal

pub returns : goal.returns
returns c ds long digits e = worth-eight ds c.args.word long digits e
