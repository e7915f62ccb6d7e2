use Rattle.jiter_value.proofs.Words.{view}
use Rattle.jiter_value.proofs.Codes.{eq-is}
use Rattle.jiter_value.proofs.value.equality.JsonValuePartialEq.eq.Goals as goal

pub returns-clause-value : goal.returns-clause-value
returns-clause-value c = eq-is c.same_values.result (view c.args.self.now) (view c.args.other.now) c.same_values.ensures
