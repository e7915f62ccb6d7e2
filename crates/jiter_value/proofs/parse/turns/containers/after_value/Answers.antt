use Rattle.jiter_value.proofs.Words.{◌∙◌, ap, arith, refl, reverse, sym, fault_kind, resolve_step, forgives}
use Rattle.jiter_value.proofs.KeptKeys.{leaves-all}
use Rattle.jiter_value.proofs.Shapes.{inside-stands, not-root, ready-keys, ready-memory, ready-proceeds}
use Rattle.jiter_value.proofs.Sizes.{after-part-size}
use Rattle.jiter_value.proofs.StackTurns.{after-closed, after-more, after-stuck}
use Rattle.jiter_value.proofs.TurnOutcomes.{leads-weaker, refused-inside}
use Rattle.jiter_value.proofs.parse.turns.containers.after_value.Goals as goal

pub returns-in-Part : goal.returns-in-Part
returns-in-Part g c =
    let a = c.args in
    let p = a.reading.now.settings in
    let t = a.bytes.now in
    let s = a.reading.now.stacks in
    let h = c.in-Some.shape in
    let some = c.in-Some.ensures.some in
    let j = c.next-end.result.0 in
    let stands = rw some at c.requires.stands in
    let found = rw c.in-Part.is at c.next-end.ensures.is in
    let lt = c.next-end.ensures.part c.in-Part.is in
    let forward = c.next-end.ensures.within.0 in
    let size = after-part-size h (reverse s.nest.items) s.items.items s.members.items s.root stands in
    let new = c.to_part.new.stacks in
    let r = c.to_part.result in
    record {
      leads = rw some
          (ready-proceeds g.T.StringStorage.policy p t a.from _ _ _ h s new j r c.to_part.ensures
          (after-more g.T.StringStorage.policy p t h s.items.items s.members.items s.root a.from (reverse s.nest.items) j
          stands found lt)
          (inside-stands s h stands) (λ array. c.requires.levels) (omega (arith, c.requires.levels))
          (omega (arith, forward)) lt (omega (arith, forward)) (omega (arith, size)));
      memory = ready-memory h s new j r _ c.to_part.ensures (λ root. not-root h (sym some ∙ root));
      root = λ root. absurd (not-root h (sym some ∙ root));
      keys = ready-keys h s new j r s.members.items c.to_part.ensures (leaves-all s.members.items);
      settings = refl;
    }

pub returns-in-End : goal.returns-in-End
returns-in-End g c =
    let a = c.args in
    let p = a.reading.now.settings in
    let t = a.bytes.now in
    let s = a.reading.now.stacks in
    let h = c.in-Some.shape in
    let j = c.next-end.result.0 in
    let stands = rw c.in-Some.ensures.some at c.requires.stands in
    let found = rw c.in-End.is at c.next-end.ensures.is in
    let forward = c.next-end.ensures.within.0 in
    let size = after-part-size h (reverse s.nest.items) s.items.items s.members.items s.root stands in
    let some = c.in-Some.ensures.some in
    record {
      leads = leads-weaker c.close_and_go_on.ensures.leads forward (omega (arith, forward)) (rw some (omega (arith, size)))
          (rw some (after-closed g.T.StringStorage.policy p t h s.items.items s.members.items s.root a.from
          (reverse s.nest.items) j stands (ap (resolve_step (forgives p.mode)) found)));
      memory = refused-inside _ c.args.slot (λ root. not-root h (sym some ∙ root));
      root = λ root. absurd (not-root h (sym some ∙ root));
      keys = c.close_and_go_on.ensures.keys;
      settings = c.close_and_go_on.ensures.settings;
    }

pub returns-in-Fault : goal.returns-in-Fault
returns-in-Fault g c =
    let a = c.args in
    let p = a.reading.now.settings in
    let t = a.bytes.now in
    let s = a.reading.now.stacks in
    let h = c.in-Some.shape in
    let j = c.next-end.result.0 in
    let k = fault_kind c.in-Fault.kind in
    let stands = rw c.in-Some.ensures.some at c.requires.stands in
    let found = rw c.in-Fault.is at c.next-end.ensures.is in
    let forward = c.next-end.ensures.within.0 in
    let size = after-part-size h (reverse s.nest.items) s.items.items s.members.items s.root stands in
    let some = c.in-Some.ensures.some in
    record {
      leads = leads-weaker c.fault_inside.ensures.leads forward (omega (arith, forward)) (rw some (omega (arith, size)))
          (rw some (after-stuck g.T.StringStorage.policy p t h s.items.items s.members.items s.root a.from
          (reverse s.nest.items) k j stands found));
      memory = refused-inside _ c.args.slot (λ root. not-root h (sym some ∙ root));
      root = λ root. absurd (not-root h (sym some ∙ root));
      keys = c.fault_inside.ensures.keys;
      settings = c.fault_inside.ensures.settings;
    }
