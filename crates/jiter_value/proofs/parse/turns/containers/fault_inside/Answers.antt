use Rattle.jiter_value.proofs.Words.{arith, refl, reverse, sym, fault_kind}
use Rattle.jiter_value.proofs.StackTurns.{fault-forgiven, fault-kept}
use Rattle.jiter_value.proofs.TurnOutcomes.{leads-weaker}
use Rattle.jiter_value.proofs.parse.turns.containers.fault_inside.Goals as goal

pub returns-then-not-is_forgiven : goal.returns-then-not-is_forgiven
returns-then-not-is_forgiven g c =
    let a = c.args in
    let s = a.reading.now.stacks in
    let asked = c.if-not-is_forgiven in
    record {
      leads = record {
        within = (omega arith, c.requires.within);
        reaches = rw (asked.ensures.error refl)
            (fault-kept g.T.StringStorage.policy a.reading.now.settings a.bytes.now a.shape (reverse s.nest.items)
            s.items.items s.members.items (fault_kind a.kind) a.index a.at (sym asked.ensures.value));
        work_left = tt;
        held = tt;
      };
      keys = tt;
      settings = refl;
    }

pub returns-clause-leads : goal.returns-clause-leads
returns-clause-leads g c =
    let a = c.args in
    let s = a.reading.now.stacks in
    let asked = c.if-not-is_forgiven in
    leads-weaker (rw (asked.ensures.same refl) at c.close_and_go_on.ensures.leads) (omega arith) (omega arith)
    (omega arith)
    (fault-forgiven g.T.StringStorage.policy a.reading.now.settings a.bytes.now a.shape (reverse s.nest.items)
    s.items.items s.members.items (fault_kind a.kind) a.index a.at c.requires.stands (sym asked.ensures.value))
