use Rattle.jiter_value.proofs.Words.{ap, arith, Text, Tree, owned_tree, owned_member, member_view, view}
use Rattle.jiter_value.proofs.Equal.{array-decides, object-decides, differ-at}
use Rattle.jiter_value.proofs.value.equality.+same.Goals as goal

pub same_values-returns-in-Array-Array : goal.same_values-returns-in-Array-Array
same_values-returns-in-Array-Array t c =
    rw (c.in-Array-Array.is-0, c.in-Array-Array.is-1)
    (array-decides c.same_items.result c.in-Array-Array.a c.in-Array-Array.b c.same_items.ensures)

pub same_values-returns-in-Object-Object : goal.same_values-returns-in-Object-Object
same_values-returns-in-Object-Object t c =
    rw (c.in-Object-Object.is-0, c.in-Object-Object.is-1)
    (object-decides c.same_members.result c.in-Object-Object.a c.in-Object-Object.b c.same_members.ensures)

pub same_items-returns-then-not-same_values : goal.same_items-returns-then-not-same_values
same_items-returns-then-not-same_values t c =
    let one = c.args.one.now in
    let other = c.args.other.now in
    differ-at view owned_tree one.items other.items c.loop-i.i _ _ c.same_values.result _ (omega (arith, one.ok.0))
    (omega (arith, one.ok.0, other.ok.0)) c.index.ensures c.index-in-loop-i.ensures (λ e. e) c.same_values.ensures
    c.if-not-same_values.true

pub same_members-returns-then-not-same_texts : goal.same_members-returns-then-not-same_texts
same_members-returns-then-not-same_texts t c =
    let one = c.args.one.now in
    let other = c.args.other.now in
    differ-at member_view owned_member one.items other.items c.loop-i.i _ _ c.same_texts.result _
    (omega (arith, one.ok.0)) (omega (arith, one.ok.0, other.ok.0)) c.index-member.ensures c.index-mate.ensures
    (ap (λ (m : Text × Tree). m.0)) c.same_texts.ensures c.if-not-same_texts.true

pub same_members-returns-then-not-same_values : goal.same_members-returns-then-not-same_values
same_members-returns-then-not-same_values t c =
    let one = c.args.one.now in
    let other = c.args.other.now in
    differ-at member_view owned_member one.items other.items c.loop-i.i _ _ c.same_values.result _
    (omega (arith, one.ok.0)) (omega (arith, one.ok.0, other.ok.0)) c.index-member.ensures c.index-mate.ensures
    (ap (λ (m : Text × Tree). m.1)) c.same_values.ensures c.if-not-same_values.true
