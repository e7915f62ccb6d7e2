use Rattle.jiter_value.proofs.TurnOutcomes.{refused-weaker, grows-container}
use Rattle.jiter_value.proofs.parse.parse_owned.own_container.Goals as goal

pub returns-clause-memory : goal.returns-clause-memory
returns-clause-memory c =
    let a = c.args in
    refused-weaker c.run.result _ _
    (grows-container a.parser.now.bytes.now a.parser.now.index (Unit {0}) c.requires.container) c.run.ensures.memory
