use Rattle.jiter_value.proofs.Words.{◌∙◌, ap, arith, false, refl, subst, sym, resolve_step, forgives, IsResolved}
use Rattle.jiter_value.proofs.Words.{outcome}
use Rattle.jiter_value.proofs.TurnOutcomes.{leads-weaker, root-grows, refused-weaker, fault-grows}
use Rattle.jiter_value.proofs.StackTurns.{begins-closed, begins-fails}
use Rattle.jiter_value.proofs.parse.turns.containers.begin.Goals as goal

pub returns-then-not-ends : goal.returns-then-not-ends
returns-then-not-ends g c =
    let a = c.args in
    let r = subst (IsResolved a.reading.now.settings false c.ends.new.stacks.error c.first-end.result.0)
    (sym c.first-end.ensures.is) c.if-not-ends.ensures.resolved in
    record {
      leads = record {
        within = (omega (arith, c.first-end.ensures.within.0), c.first-end.ensures.within.1);
        reaches = begins-fails g.T.StringStorage.policy a.reading.now.settings a.bytes.now a.reading.now.stacks a.slot c.requires.at_value.0
            c.requires.at_value.1
            a.at
            a.shape c.first-end.result.0 c.ends.new.stacks.error c.requires.bracket r;
        work_left = tt;
        held = tt;
      };
      memory = λ e. fault-grows c.ends.new.stacks.error r.0 _ r.1;
      keys = tt;
      settings = refl;
    }

pub returns : goal.returns
returns g c =
    let a = c.args in
    let r = outcome c.empty.new.reading.stacks c.empty.result.1 in
    let ends = c.if-not-ends.ensures in
    let empty = c.empty.ensures in
    let same = ends.same refl in
    let forward = c.first-end.ensures.within.0 in
    record {
      leads = leads-weaker (rw same at empty.leads) (omega (arith, forward)) (omega (arith, forward)) (omega arith)
          (begins-closed g.T.StringStorage.policy a.reading.now.settings a.bytes.now a.reading.now.stacks a.slot c.requires.at_value.0
          c.requires.at_value.1 a.at
          a.shape
          c.first-end.result.0 c.requires.bracket
          (ap (resolve_step (forgives a.reading.now.settings.mode)) c.first-end.ensures.is ∙ ends.resolved));
      memory = λ e. root-grows r _ (empty.root e) (refused-weaker r _ _ (λ other. absurd (other e)) empty.memory);
      keys = rw same at empty.keys;
      settings = empty.settings;
    }
