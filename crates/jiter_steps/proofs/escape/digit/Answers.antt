use Rattle.jiter_steps.proofs.Words.{arith}
use Rattle.jiter_steps.proofs.Calls.Letters.{hex-digit, no-digit, most-digit}
use Rattle.jiter_steps.proofs.escape.digit.Goals as goal

pub returns-clause-value : goal.returns-clause-value
returns-clause-value c = hex-digit c.args.byte (omega arith)

pub returns-clause-none : goal.returns-clause-none
returns-clause-none c = no-digit c.args.byte (omega arith)

pub returns-clause-most : goal.returns-clause-most
returns-clause-most c = most-digit c.args.byte (omega arith)
