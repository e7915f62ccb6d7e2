use Rattle.jiter.specs.Caller.{view}
use Rattle.test_client.proofs.Printed.{owned-again}
use Rattle.test_client.proofs.tests.printed.owned_line.Goals as goal

pub returns-in-Ok-print : goal.returns-in-Ok-print
returns-in-Ok-print c =
    let answer = rw c.in-Ok.is at c.parse_owned.ensures.answer in
    owned-again c.args.bytes.now (view c.in-Ok.value) c.in-Ok-print.line.items answer.0 answer.1 c.in-Ok-print.ensures.text
    c.in-Ok-print.ensures.again
