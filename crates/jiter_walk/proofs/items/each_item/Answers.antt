use Rattle.std.proofs.Common.{arith}
use Rattle.jiter.proofs.Walking.{item-ahead, moves-on}
use Rattle.jiter_walk.specs.Walk.{array_walked}
use Rattle.jiter_walk.proofs.Coming.{moved-length, moved-text}
use Rattle.jiter_walk.proofs.ItemForm.{array-cases, array-opens, array-skipped, items, next-item, opened}
use Rattle.jiter_walk.proofs.PartWalk.{less-left, opening-fails, part-fails, step-not_failed, walk-begins, walk-ends}
use Rattle.jiter_walk.proofs.PartWalk.{walk-goes_on, walk-passed}
use Rattle.jiter_walk.proofs.Passing.{reader-fails, walk-fails}
use Rattle.jiter_walk.proofs.items.each_item.Goals as goal

pub returns-in_err-next : goal.returns-in_err-next
returns-in_err-next g c =
    let s0 = c.args.jiter.now in
    let after = g.I.Items.after in
    let start = g.I.Items.state c.args.items.now in
    let h = c.in_err-next.ensures.reads in
    reader-fails _ _ _ s0 _ h.moves c.in_err-next.field-0.0 c.from_residual.ensures.1
    (λ n comes bytes. opening-fails (items after s0) start (opened after s0) (array_walked after start s0.text)
    (array-cases after s0 start) _ _ _ h.value n comes)
    h.index (λ m. absurd (h.memory m))

pub loop-next-init : goal.loop-next-init
loop-next-init g c =
    let s0 = c.args.jiter.now in
    let after = g.I.Items.after in
    let start = g.I.Items.state c.args.items.now in
    let h = c.in_ok-next.ensures.reads in
    let opens = array-opens after s0 _ _ h.value in
    walk-begins (items after s0) start (opened after s0) (array_walked after start s0.text) (array-cases after s0 start) _ _
    h.moves h.value opens.within opens.opens

pub returns-in_err-item : goal.returns-in_err-item
returns-in_err-item g c =
    let s0 = c.args.jiter.now in
    let after = g.I.Items.after in
    let start = g.I.Items.state c.args.items.now in
    let h = rw c.in-Some.is at c.loop-next.invariant in
    let w = c.in_err-item.ensures in
    walk-fails _ _ _ s0 _ (moves-on _ _ _ h.moves w.moves) c.in_err-item.field-0.0 c.from_residual-in_err-item.ensures.1
    (λ n comes bytes. part-fails (items after s0) start (opened after s0) (array_walked after start s0.text)
    (array-cases after s0 start) _ _ _ h _ _ _ w n comes bytes)
    (omega (arith, w.index, moved-length _ _ h.moves)) w.memory

pub returns-in_err-next-2 : goal.returns-in_err-next-2
returns-in_err-next-2 g c =
    let s0 = c.args.jiter.now in
    let after = g.I.Items.after in
    let start = g.I.Items.state c.args.items.now in
    let h = rw c.in-Some.is at c.loop-next.invariant in
    let w = c.in_ok-item.ensures in
    let moved = moves-on _ _ _ h.moves w.moves in
    let next = c.in_err-next-2.ensures.reads in
    reader-fails _ _ _ s0 _ (moves-on _ _ _ moved next.moves) c.in_err-next-2.field-0.0
    c.from_residual-in_err-next-2.ensures.1
    (λ n comes bytes. absurd (step-not_failed (items after s0) start (opened after s0) (array_walked after start s0.text)
    (array-cases after s0 start) _ _ _ h _ _ _ w _ _ _ (next-item after s0 c.item.new.jiter _ (moved-text s0 c.item.new.jiter moved) next.value) n comes))
    (omega (arith, next.index, moved-length _ _ moved)) (λ m. absurd (next.memory m))

pub loop-next-smaller : goal.loop-next-smaller
loop-next-smaller g c =
    let s0 = c.args.jiter.now in
    let after = g.I.Items.after in
    let start = g.I.Items.state c.args.items.now in
    let h = rw c.in-Some.is at c.loop-next.invariant in
    let w = c.in_ok-item.ensures in
    let moved = moves-on _ _ _ h.moves w.moves in
    let next = c.in_ok-next-2.ensures.reads in
    less-left (items after s0) start (opened after s0) (array_walked after start s0.text) (array-cases after s0 start) _ _ _ h _
    _ _ w _ _ next.moves (next-item after s0 c.item.new.jiter _ (moved-text s0 c.item.new.jiter moved) next.value) (item-ahead c.item.new.jiter _ _ next.value)

pub loop-next-preserved : goal.loop-next-preserved
loop-next-preserved g c =
    let s0 = c.args.jiter.now in
    let after = g.I.Items.after in
    let start = g.I.Items.state c.args.items.now in
    let h = rw c.in-Some.is at c.loop-next.invariant in
    let w = c.in_ok-item.ensures in
    let moved = moves-on _ _ _ h.moves w.moves in
    let next = c.in_ok-next-2.ensures.reads in
    walk-goes_on (items after s0) start (opened after s0) (array_walked after start s0.text) (array-cases after s0 start) _ _ _ h
    _ _ _ w _ _ next.moves (next-item after s0 c.item.new.jiter _ (moved-text s0 c.item.new.jiter moved) next.value)

pub returns : goal.returns
returns g c =
    let s0 = c.args.jiter.now in
    let after = g.I.Items.after in
    let start = g.I.Items.state c.args.items.now in
    let h = rw c.in_default.is at c.loop-next.invariant in
    let ends = walk-ends (items after s0) start (opened after s0) (array_walked after start s0.text)
    (array-cases after s0 start) _ _ h in
    let opens = array-opens after s0 _ _ c.in_ok-next.ensures.reads.value in
    record {
      moves = h.moves;
      value = λ n comes. (ends n comes).0;
      place = λ n comes. (ends n comes).1;
      reads = λ strict.
          walk-passed (items after s0) start (opened after s0) (array_walked after start s0.text)
          (array-cases after s0 start) _ _ h strict (λ levels. array-skipped after s0 levels opens.starts);
      index = tt;
      memory = tt;
    }
