use Rattle.filter.proofs.Pieces.{value-read}
use Rattle.filter.proofs.line.value_of.Goals as goal

pub returns-then-any : goal.returns-then-any
returns-then-any c = value-read c.args.line.now c.parse.result c.ok.result c.ok.ensures.value c.parse.ensures.first
