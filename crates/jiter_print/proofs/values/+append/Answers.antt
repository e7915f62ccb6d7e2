use Rattle.std.proofs.Common.{◌++◌, ◌∷◌, [], ◌∙◌, take, ap, arith}
use Rattle.std.proofs.lemmas.Result.{IfOk-weaker}
use Rattle.jiter_steps.specs.StringDecoder.{text_view}
use Rattle.jiter_steps.specs.Tree.{array, object}
use Rattle.jiter_value.specs.Value.{view, views, member_views}
use Rattle.jiter_print.specs.Layout.{layout_of, deeper, line_break, space, laid_out, items_laid_out, members_laid_out}
use Rattle.jiter_print.specs.Print.{comma, print_text, Appends}
use Rattle.jiter_print.proofs.PrintMore.{is_pretty, inner-layout, parts_more, part-grown, array-closed, object-closed}
use Rattle.jiter_print.proofs.PrintMore.{print_item, item_prints-are, print_member, member_prints-are, item-grown, member-grown}
use Rattle.jiter_print.proofs.values.+append.Goals as goal

pub append_items-loop-i-preserved : goal.append_items-loop-i-preserved
append_items-loop-i-preserved g t c =
    let P = is_pretty g.row.PRETTY in
    let items = c.args.items.now in
    let within = deeper (layout_of P c.args.indent c.args.margin) in
    let same = inner-layout P c.args.indent c.args.margin c.saturating_add-inner.result c.saturating_add-inner.ensures
    c.in_ok-end-2.ensures.fits in
    let more =
    parts_more (print_item within) (λ xs. items_laid_out within (views xs)) (item_prints-are within) items.items c.loop-i.i
    c.index.result.now (omega (arith, items.ok.0)) in
    let before = take c.append_comma-end.result c.append_comma-end.new.line.items in
    let part =
    item-grown before _ _ _ _ (c.in_ok-end-2.ensures.text c.args.indent) c.in_ok-end-3.ensures.0
    ∙ ap (λ l. before ++ (line_break l ++ laid_out l (view c.index.result.now))) same in
    record {
      room = c.in_ok-end-3.ensures.1;
      text =
          rw (more, ← c.index.ensures)
          (part-grown _ _ (comma c.loop-i.i) (print_item within c.index.result.now) _ _ _ c.loop-i.invariant.text
          c.append_comma-end.ensures.text part);
    }

pub append_items-returns : goal.append_items-returns
append_items-returns g t c =
    let P = is_pretty g.row.PRETTY in
    let items = c.args.items.now in
    let outer = layout_of P c.args.indent c.args.margin in
    let closed = c.append_bytes-2 in
    let whole = array-closed outer items.items c.loop-i.i c.len.result (take c.args.count c.args.line.now.items) _ _
    (take c.in_ok-end-4.end c.append_last_break.new.line.items)
    (omega (arith, items.ok.0, c.loop-i-test.false)) (omega (arith, items.ok.0, c.len.ensures)) c.in_ok-end.ensures.text.0
    c.loop-i.invariant.text (c.in_ok-end-4.ensures.text c.args.indent) in
    IfOk-weaker closed.result
    (Appends c.append_last_break.new.line.items closed.new.line.items c.in_ok-end-4.end (93 ∷ []))
    (Appends c.args.line.now.items closed.new.line.items c.args.count (laid_out outer (array (views items.items))))
    (λ end h. (h.0 ∙ whole, h.1)) closed.ensures.text

pub append_members-loop-i-preserved : goal.append_members-loop-i-preserved
append_members-loop-i-preserved g t c =
    let P = is_pretty g.row.PRETTY in
    let members = c.args.members.now in
    let member = c.index-member.result.now in
    let within = deeper (layout_of P c.args.indent c.args.margin) in
    let same = inner-layout P c.args.indent c.args.margin c.saturating_add-inner.result c.saturating_add-inner.ensures
    c.in_ok-end-2.ensures.fits in
    let more =
    parts_more (print_member within) (λ ms. members_laid_out within (member_views ms)) (member_prints-are within)
    members.items c.loop-i.i member (omega (arith, members.ok.0)) in
    let before = take c.append_comma-end.result c.append_comma-end.new.line.items in
    let key = rw c.as_str.ensures.value at c.in_ok-end-3.ensures.text.0 in
    let part =
    member-grown before _ _ _ _ _ _ _ _ (c.in_ok-end-2.ensures.text c.args.indent) key
    (c.in_ok-end-4.ensures.text c.args.indent c.saturating_add-inner.result) c.in_ok-end-5.ensures.0
    ∙ ap (λ l. before ++ (line_break l ++ (print_text (text_view member.0).bytes ++ 58 ∷ (space l ++ laid_out l (view member.1)))))
    same in
    record {
      room = c.in_ok-end-5.ensures.1;
      text =
          rw (more, ← c.index-member.ensures)
          (part-grown _ _ (comma c.loop-i.i) (print_member within member) _ _ _ c.loop-i.invariant.text
          c.append_comma-end.ensures.text part);
    }

pub append_members-returns : goal.append_members-returns
append_members-returns g t c =
    let P = is_pretty g.row.PRETTY in
    let members = c.args.members.now in
    let outer = layout_of P c.args.indent c.args.margin in
    let closed = c.append_bytes-2 in
    let whole = object-closed outer members.items c.loop-i.i c.len.result (take c.args.count c.args.line.now.items) _ _
    (take c.in_ok-end-6.end c.append_last_break.new.line.items)
    (omega (arith, members.ok.0, c.loop-i-test.false)) (omega (arith, members.ok.0, c.len.ensures)) c.in_ok-end.ensures.text.0
    c.loop-i.invariant.text (c.in_ok-end-6.ensures.text c.args.indent) in
    IfOk-weaker closed.result
    (Appends c.append_last_break.new.line.items closed.new.line.items c.in_ok-end-6.end (125 ∷ []))
    (Appends c.args.line.now.items closed.new.line.items c.args.count (laid_out outer (object (member_views members.items))))
    (λ end h. (h.0 ∙ whole, h.1)) closed.ensures.text
