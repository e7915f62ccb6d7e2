use Rattle.jiter_value.proofs.Words.{ap, arith, length}
use Rattle.jiter_value.proofs.KeptKeys.{leaves-on}
use Rattle.jiter_value.proofs.TurnOutcomes.{leads-weaker}
use Rattle.jiter_value.proofs.parse.turns.containers.empty.Goals as goal

pub returns : goal.returns
returns g c =
    let a = c.args in
    let put = c.put_empty.ensures in
    let then = c.after_value.ensures in
    let deep = ap (λ n. length n.items) put.nest in
    record {
      leads = leads-weaker then.leads (omega arith) (omega (arith, deep)) (omega (arith, put.held))
          (put.value g.T.StringStorage.policy a.reading.now.settings a.bytes.now a.end);
      memory = then.memory;
      root = then.root;
      keys = leaves-on c.after_value.new.reading.stacks c.after_value.result.1 a.reading.now.stacks.members.items
          c.put_empty.new.stacks.members.items _ put.keys then.keys;
      settings = then.settings;
    }
