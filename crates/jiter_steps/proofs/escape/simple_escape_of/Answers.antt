use Rattle.jiter_steps.proofs.Words.{arith}
use Rattle.jiter_steps.proofs.Calls.Letters.{letter-ascii, letter-sign}
use Rattle.jiter_steps.proofs.escape.simple_escape_of.Goals as goal

pub returns-clause-some : goal.returns-clause-some
returns-clause-some c = letter-sign c.args.letter (omega arith)

pub returns-clause-ascii : goal.returns-clause-ascii
returns-clause-ascii c = letter-ascii c.args.letter (omega arith)
