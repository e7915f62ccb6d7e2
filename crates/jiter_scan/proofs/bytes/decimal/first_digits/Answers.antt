use Rattle.jiter_scan.proofs.Words.{arith, ◌∙◌}
use Rattle.jiter_scan.proofs.DigitWords.{number_l-shifted, number-eight_below}
use Rattle.jiter_scan.proofs.bytes.decimal.first_digits.Goals as goal

pub returns-clause-value : goal.returns-clause-value
returns-clause-value c xs eight digits e =
    let s = number_l-shifted xs c.args.count c.args.word eight digits c.requires.some c.requires.most e in
    c.eight_digits.ensures s.0 s.1 s.2 s.3 ∙ s.4

pub returns-clause-bound : goal.returns-clause-bound
returns-clause-bound c xs eight digits e =
    let s = number_l-shifted xs c.args.count c.args.word eight digits c.requires.some c.requires.most e in
    omega (arith, c.eight_digits.ensures s.0 s.1 s.2 s.3, number-eight_below s.0 s.1 s.2)
