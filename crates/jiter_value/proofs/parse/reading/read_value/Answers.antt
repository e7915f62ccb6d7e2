use Rattle.jiter_value.proofs.Words.{subst, Returns, view}
use Rattle.jiter_value.proofs.MadeTexts.{value_at-it_is}
use Rattle.jiter_value.proofs.TurnOutcomes.{refused-weaker, grows-borrowing}
use Rattle.jiter_value.proofs.parse.reading.read_value.Goals as goal

pub returns-clause-value : goal.returns-clause-value
returns-clause-value c =
    let a = c.args in
    subst (Returns view c.run.result c.run.new.parser.index)
    (value_at-it_is a.settings a.parser.now.bytes.now 200 a.parser.now.index) (rw c.new-reading.ensures.settings at c.run.ensures.value)

pub returns-clause-memory : goal.returns-clause-memory
returns-clause-memory c =
    let a = c.args in
    refused-weaker c.run.result _ _ (grows-borrowing a.parser.now.bytes.now a.parser.now.index) c.run.ensures.memory
