use Rattle.std.proofs.Common.{arith, refl}
use Rattle.jiter.proofs.Walking.{moves-on}
use Rattle.jiter_walk.specs.Walk.{object_walked}
use Rattle.jiter_walk.proofs.Coming.{key-after, moved-length, moved-text}
use Rattle.jiter_walk.proofs.MemberForm.{first-error, first-within, next-within, members, next-error, next-gave, object-cases, object-opens}
use Rattle.jiter_walk.proofs.MemberForm.{object-skipped, opened}
use Rattle.jiter_walk.proofs.PartWalk.{less-left, opening-fails, part-fails, step-not_failed, walk-begins, walk-ends}
use Rattle.jiter_walk.proofs.PartWalk.{walk-goes_on, walk-passed}
use Rattle.jiter_walk.proofs.Passing.{reader-fails, walk-fails}
use Rattle.jiter_walk.proofs.members.each_member.Goals as goal

pub returns-in_err-next : goal.returns-in_err-next
returns-in_err-next g c =
    let s0 = c.args.jiter.now in
    let after = g.M.Members.after in
    let start = g.M.Members.state c.args.members.now in
    let h = c.in_err-next.ensures.reads in
    reader-fails _ _ _ s0 _ h.moves c.in_err-next.field-0.0 c.from_residual.ensures.1
    (λ n comes bytes. opening-fails (members after s0) start (opened after s0) (object_walked after start s0.text)
    (object-cases after s0 start) _ _ _ (first-error after s0 _ _ _ (h.value bytes)) n comes)
    h.index (λ m. (h.memory m).0)

pub loop-next-init : goal.loop-next-init
loop-next-init g c =
    let s0 = c.args.jiter.now in
    let after = g.M.Members.after in
    let start = g.M.Members.state c.args.members.now in
    let h = c.in_ok-next.ensures.reads in
    let opens = object-opens after s0 c.in_ok-next.next _ h.value c.in_ok-next.ensures.index in (
      walk-begins (members after s0) start (opened after s0) (object_walked after start s0.text) (object-cases after s0 start)
          _ _ h.moves opens.given opens.within opens.opens,
      first-within after s0 c.in_ok-next.next opens.within c.in_ok-next.ensures.index,
    )

pub returns-in_err-member : goal.returns-in_err-member
returns-in_err-member g c =
    let s0 = c.args.jiter.now in
    let after = g.M.Members.after in
    let start = g.M.Members.state c.args.members.now in
    let h = (rw c.in-Some.is at c.loop-next.invariant).0 in
    let w = rw c.as_str.ensures.value at c.in_err-member.ensures in
    walk-fails _ _ _ s0 _ (moves-on _ _ _ h.moves w.moves) c.in_err-member.field-0.0 c.from_residual-in_err-member.ensures.1
    (λ n comes bytes. part-fails (members after s0) start (opened after s0) (object_walked after start s0.text)
    (object-cases after s0 start) _ _ _ h _ _ _ w n comes bytes)
    (omega (arith, w.index, moved-length _ _ h.moves)) w.memory

pub returns-in_err-next-2 : goal.returns-in_err-next-2
returns-in_err-next-2 g c =
    let s0 = c.args.jiter.now in
    let after = g.M.Members.after in
    let start = g.M.Members.state c.args.members.now in
    let h = (rw c.in-Some.is at c.loop-next.invariant).0 in
    let w = rw c.as_str.ensures.value at c.in_ok-member.ensures in
    let s1 = c.member.new.jiter in
    let moved = moves-on _ _ _ h.moves w.moves in
    let next = c.in_err-next-2.ensures.reads in
    reader-fails _ _ _ s0 _ (moves-on _ _ _ moved next.moves) c.in_err-next-2.field-0.0
    c.from_residual-in_err-next-2.ensures.1
    (λ n comes bytes. absurd (step-not_failed (members after s0) start (opened after s0) (object_walked after start s0.text)
    (object-cases after s0 start) _ _ _ h _ _ _ w _ _ _
    (next-error after s0 s1 _ _ _ (moved-text s0 s1 moved) (next.value bytes)) n comes))
    (omega (arith, next.index, moved-length _ _ moved)) (λ m. (next.memory m).0)

pub loop-next-smaller-in_ok-next-2 : goal.loop-next-smaller-in_ok-next-2
loop-next-smaller-in_ok-next-2 g c =
    let s0 = c.args.jiter.now in
    let after = g.M.Members.after in
    let start = g.M.Members.state c.args.members.now in
    let h = (rw c.in-Some.is at c.loop-next.invariant).0 in
    let w = rw c.as_str.ensures.value at c.in_ok-member.ensures in
    let s1 = c.member.new.jiter in
    let moved = moves-on _ _ _ h.moves w.moves in
    let next = c.in_ok-next-2.ensures.reads in
    less-left (members after s0) start (opened after s0) (object_walked after start s0.text) (object-cases after s0 start) _ _ _
    h _ _ _ w _ _ next.moves
    (next-gave after s0 c.in_ok-next-2.next s1 _ (moved-text s0 s1 moved) next.value c.in_ok-next-2.ensures.index)
    (key-after s0 s1 moved _ _ next.value)

pub loop-next-preserved-in_ok-next-2 : goal.loop-next-preserved-in_ok-next-2
loop-next-preserved-in_ok-next-2 g c =
    let s0 = c.args.jiter.now in
    let after = g.M.Members.after in
    let start = g.M.Members.state c.args.members.now in
    let h = (rw c.in-Some.is at c.loop-next.invariant).0 in
    let w = rw c.as_str.ensures.value at c.in_ok-member.ensures in
    let s1 = c.member.new.jiter in
    let moved = moves-on _ _ _ h.moves w.moves in
    let next = c.in_ok-next-2.ensures.reads in (
      walk-goes_on (members after s0) start (opened after s0) (object_walked after start s0.text) (object-cases after s0 start) _ _
          _ h _ _ _ w _ _ next.moves
          (next-gave after s0 c.in_ok-next-2.next s1 _ (moved-text s0 s1 moved) next.value c.in_ok-next-2.ensures.index),
      next-within after s0 c.in_ok-next-2.next s1 moved c.in_ok-next-2.ensures.index,
    )

pub loop-next-smaller : goal.loop-next-smaller
loop-next-smaller g c =
    let s0 = c.args.jiter.now in
    let after = g.M.Members.after in
    let start = g.M.Members.state c.args.members.now in
    let h = (rw c.in-Some.is at c.loop-next.invariant).0 in
    let w = rw c.as_str.ensures.value at c.in_ok-member.ensures in
    let s1 = c.member.new.jiter in
    let moved = moves-on _ _ _ h.moves w.moves in
    let next = c.in_ok-next-2.ensures.reads in
    less-left (members after s0) start (opened after s0) (object_walked after start s0.text) (object-cases after s0 start) _ _ _
    h _ _ _ w _ _ next.moves
    (next-gave after s0 c.in_ok-next-2.next s1 _ (moved-text s0 s1 moved) next.value c.in_ok-next-2.ensures.index)
    (key-after s0 s1 moved _ _ next.value)

pub loop-next-preserved : goal.loop-next-preserved
loop-next-preserved g c =
    let s0 = c.args.jiter.now in
    let after = g.M.Members.after in
    let start = g.M.Members.state c.args.members.now in
    let h = (rw c.in-Some.is at c.loop-next.invariant).0 in
    let w = rw c.as_str.ensures.value at c.in_ok-member.ensures in
    let s1 = c.member.new.jiter in
    let moved = moves-on _ _ _ h.moves w.moves in
    let next = c.in_ok-next-2.ensures.reads in (
      walk-goes_on (members after s0) start (opened after s0) (object_walked after start s0.text) (object-cases after s0 start) _ _
          _ h _ _ _ w _ _ next.moves
          (next-gave after s0 c.in_ok-next-2.next s1 _ (moved-text s0 s1 moved) next.value c.in_ok-next-2.ensures.index),
      next-within after s0 c.in_ok-next-2.next s1 moved c.in_ok-next-2.ensures.index,
    )

pub returns : goal.returns
returns g c =
    let s0 = c.args.jiter.now in
    let after = g.M.Members.after in
    let start = g.M.Members.state c.args.members.now in
    let h = (rw c.in_default.is at c.loop-next.invariant).0 in
    let ends = walk-ends (members after s0) start (opened after s0) (object_walked after start s0.text)
    (object-cases after s0 start) _ _ h in
    let first = c.in_ok-next.ensures in
    let opens = object-opens after s0 c.in_ok-next.next _ first.reads.value first.index in
    record {
      moves = h.moves;
      value = λ n comes. (ends n comes).0;
      place = λ n comes. (ends n comes).1;
      reads = λ strict.
          walk-passed (members after s0) start (opened after s0) (object_walked after start s0.text)
          (object-cases after s0 start) _ _ h strict (λ levels. object-skipped after s0 levels opens.starts);
      index = tt;
      memory = tt;
    }

pub member-requires : goal.member-requires
member-requires g c = λ k.
    let h = rw c.in-Some.is at c.loop-next.invariant in
    ((refl, tt), omega (arith, h.1, moved-length _ _ h.0.moves))
