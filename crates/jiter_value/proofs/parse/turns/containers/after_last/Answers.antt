use Rattle.jiter_value.proofs.Words.{Err, ◌∙◌, ap, false, refl, subst, sym, arith, reverse, resolve_step, forgives}
use Rattle.jiter_value.proofs.Words.{IsResolved}
use Rattle.jiter_value.proofs.KeptKeys.{leaves-then}
use Rattle.jiter_value.proofs.Shapes.{inside-stands, not-root, ready-keys, ready-memory, ready-proceeds}
use Rattle.jiter_value.proofs.Sizes.{after-part-size}
use Rattle.jiter_value.proofs.StackTurns.{after-more, after-closed, after-fails}
use Rattle.jiter_value.proofs.TurnOutcomes.{refused-inside}
use Rattle.jiter_value.proofs.parse.turns.containers.after_last.Goals as goal

pub returns-in-Part : goal.returns-in-Part
returns-in-Part g c =
    let p = c.args.reading.now.settings in
    let t = c.args.bytes.now in
    let l = c.closing in
    let s = l.reading.stacks in
    let h = c.in-Some.shape in
    let j = c.next-end.result.0 in
    let so_far = rw c.in-Some.ensures.some at l.invariant in
    let found = rw c.in-Part.is at c.next-end.ensures.is in
    let lt = c.next-end.ensures.part c.in-Part.is in
    let forward = c.next-end.ensures.within.0 in
    let size = after-part-size h (reverse s.nest.items) s.items.items s.members.items s.root so_far.3 in
    let new = c.to_part.new.stacks in
    let r = c.to_part.result in
    record {
      leads = ready-proceeds g.T.StringStorage.policy p t c.args.from _ _ _ h s new j r c.to_part.ensures
          (so_far.2
          ∙ after-more g.T.StringStorage.policy p t h s.items.items s.members.items s.root l.at (reverse s.nest.items) j
          so_far.3 found lt)
          (inside-stands s h so_far.3) (λ array. so_far.4) (omega (arith, so_far.4)) (omega (arith, so_far.0, forward))
          lt (omega (arith, so_far.5, forward)) (omega (arith, so_far.6, size));
      memory = ready-memory h s new j r _ c.to_part.ensures (λ root. not-root h (so_far.7 root));
      root = λ root. absurd (not-root h (so_far.7 root));
      keys = ready-keys h s new j r c.args.reading.now.stacks.members.items c.to_part.ensures so_far.8;
      settings = so_far.9;
    }

pub returns-then-not-ends : goal.returns-then-not-ends
returns-then-not-ends g c =
    let l = c.closing in
    let s = l.reading.stacks in
    let j = c.next-end.result.0 in
    let so_far = rw c.in-Some.ensures.some at l.invariant in
    let h = c.in-Some.shape in
    record {
      leads = record {
        within = (omega (arith, so_far.0, c.next-end.ensures.within.0), c.next-end.ensures.within.1);
        reaches = rw so_far.2
            (after-fails g.T.StringStorage.policy c.args.reading.now.settings c.args.bytes.now c.in-Some.shape s.items.items s.members.items
            s.root l.at
            (reverse s.nest.items) j c.ends.new.stacks.error so_far.3 (subst (IsResolved c.args.reading.now.settings false c.ends.new.stacks.error j) (sym c.next-end.ensures.is)
            (rw so_far.9 at c.if-not-ends.ensures.resolved)));
        work_left = tt;
        held = tt;
      };
      memory = refused-inside (Err c.ends.new.stacks.error) c.args.slot (λ root. not-root h (so_far.7 root));
      root = λ root. absurd (not-root h (so_far.7 root));
      keys = tt;
      settings = so_far.9;
    }

pub closing-preserved : goal.closing-preserved
closing-preserved g c =
    let p = c.args.reading.now.settings in
    let t = c.args.bytes.now in
    let l = c.closing in
    let s = l.reading.stacks in
    let h = c.in-Some.shape in
    let j = c.next-end.result.0 in
    let so_far = rw c.in-Some.ensures.some at l.invariant in
    let same = c.if-not-ends.ensures.same refl in
    let forward = c.next-end.ensures.within.0 in
    let fewer = rw same at c.in-Ok.ensures.nest in (
      omega (arith, so_far.0, forward),
      c.next-end.ensures.within.1,
      so_far.2
          ∙ after-closed g.T.StringStorage.policy p t h s.items.items s.members.items s.root l.at (reverse s.nest.items) j
          so_far.3
          (ap (resolve_step (forgives p.mode)) c.next-end.ensures.is ∙ (rw so_far.9 at c.if-not-ends.ensures.resolved))
          ∙ (rw same at c.in-Ok.ensures.value g.T.StringStorage.policy p t j),
      c.in-Ok.ensures.stands,
      omega (arith, so_far.4, fewer),
      omega (arith, so_far.5, forward, fewer),
      (rw same at c.in-Ok.ensures.held)
          ∙ sym (after-part-size h (reverse s.nest.items) s.items.items s.members.items s.root so_far.3)
          ∙ so_far.6,
      λ r. absurd (not-root h (so_far.7 r)),
      leaves-then c.args.reading.now.stacks.members.items s.members.items _ so_far.8
          (rw same at c.in-Ok.ensures.keys),
      so_far.9,
    )
