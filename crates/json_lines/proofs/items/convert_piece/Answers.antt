use Rattle.std.proofs.Common.{◌∙◌, ap, eq-eqb, length, ne_eqb, refl, sym}
use Rattle.json_lines.specs.Items.{blanks, trim_end}
use Rattle.json_lines.proofs.Cases.{if-ok, is-kept, item-parts, item-starts, on-err, piece-nothing, piece-wrong, rest-is}
use Rattle.json_lines.proofs.ItemsWriting.{parts-as, partly-as, wrote-none, wrote-nothing, wrote-wrong, wrote-wrong-partly}
use Rattle.json_lines.proofs.Known.{if-err}
use Rattle.json_lines.proofs.Positions.{starts-end}
use Rattle.json_lines.proofs.items.convert_piece.Goals as goal

pub returns-in_err-end-clause-part : goal.returns-in_err-end-clause-part
returns-in_err-end-clause-part g c =
    if-err c.from_residual.result (λ i at starts. wrote-nothing (g.C.Convert.becomes c.args.converter.now) c.args.name.now at _ _ _ _)

pub returns-in_err-kept-clause-part : goal.returns-in_err-kept-clause-part
returns-in_err-kept-clause-part g c =
    if-err c.from_residual-in_err-kept.result (λ i at starts. wrote-nothing (g.C.Convert.becomes c.args.converter.now) c.args.name.now at _ _ _ _)

pub returns-in_err-write_report-clause-part : goal.returns-in_err-write_report-clause-part
returns-in_err-write_report-clause-part g c =
    let bs = c.args.piece.now in
    let is = rw c.blanks-start.ensures.value at (rw c.in-Some.is at c.error_of.ensures) in
    let start = c.blanks-start.result in
    let bytes = c.trim_end-item.ensures ∙ ap trim_end (rest-is start bs) in
    let kept = is-kept 0 bs start c.trim_end-item.result.now c.blanks-start.ensures.value bytes in
    let part = rw kept at (rw c.in_ok-kept.ensures at (rw c.as_slice.ensures.value at c.in_err-write_report.ensures.part)) in
    if-err c.from_residual-in_err-write_report.result (λ i at starts.
    partly-as (g.C.Convert.becomes c.args.converter.now) c.args.name.now at _ _ (sym (piece-wrong i bs c.args.ended c.args.is_first c.in-Some.cause.now is))
    (wrote-wrong-partly (g.C.Convert.becomes c.args.converter.now) c.args.name.now at _ c.in-Some.cause.now _ c.in_ok-end.end
    (c.in_ok-end.ensures ∙ sym (starts-end at i c.args.position.now bs starts)) _ _ _ _ _ part.0 part.1))

pub returns-in-Some-clause-all : goal.returns-in-Some-clause-all
returns-in-Some-clause-all g c i at starts =
    let bs = c.args.piece.now in
    let is = rw c.blanks-start.ensures.value at (rw c.in-Some.is at c.error_of.ensures) in
    let start = c.blanks-start.result in
    let bytes = c.trim_end-item.ensures ∙ ap trim_end (rest-is start bs) in
    let kept = is-kept i bs start c.trim_end-item.result.now c.blanks-start.ensures.value bytes in
    let whole = rw kept at (rw c.in_ok-kept.ensures at (rw c.as_slice.ensures.value at c.in_ok-write_report.ensures.whole)) in
    parts-as (g.C.Convert.becomes c.args.converter.now) c.args.name.now at _ _ (sym (piece-wrong i bs c.args.ended c.args.is_first c.in-Some.cause.now is))
    (wrote-wrong (g.C.Convert.becomes c.args.converter.now) c.args.name.now at _ c.in-Some.cause.now _ c.in_ok-end.end
    (c.in_ok-end.ensures ∙ sym (starts-end at i c.args.position.now bs starts)) _ _ _ _ _ _ refl refl whole.0 whole.1)

pub returns-then-is_blank-clause-all : goal.returns-then-is_blank-clause-all
returns-then-is_blank-clause-all g c i at starts =
    let is = rw c.blanks-start.ensures.value at (rw c.in_default.is at c.error_of.ensures) in
    parts-as (g.C.Convert.becomes c.args.converter.now) c.args.name.now at _ _ (sym (piece-nothing i c.args.piece.now c.args.ended c.args.is_first is (eq-eqb _ _ (sym c.blanks-start.ensures.value ∙ c.if-is_blank.true))))
    (wrote-none (g.C.Convert.becomes c.args.converter.now) c.args.name.now at _ _ _ _ refl refl)

pub returns-in_err-position-clause-part : goal.returns-in_err-position-clause-part
returns-in_err-position-clause-part g c =
    if-err c.from_residual-in_err-position.result
    (λ i at starts. wrote-nothing (g.C.Convert.becomes c.args.converter.now) c.args.name.now at _ _ _ _)

pub returns-clause-all : goal.returns-clause-all
returns-clause-all g c =
    let bs = c.args.piece.now in
    let start = c.blanks-start.result in
    let bytes = c.trim_end-item.ensures ∙ ap trim_end (rest-is start bs) in
    let some = ne_eqb (blanks bs) (length bs) (λ e. c.if-is_blank.false (c.blanks-start.ensures.value ∙ e)) in
    let is = rw c.blanks-start.ensures.value at (rw c.in_default.is at c.error_of.ensures) in
    if-ok c.convert_item.result (λ counts all i at starts.
    parts-as (g.C.Convert.becomes c.args.converter.now) c.args.name.now at _ _
    (item-parts i bs start c.trim_end-item.result.now c.blanks-start.ensures.value bytes c.args.ended c.args.is_first is some)
    (all _ at (item-starts i bs start c.trim_end-item.result.now c.blanks-start.ensures.value bytes at
    c.args.position.now c.in_ok-position.position c.in_ok-position.ensures starts)))
    c.convert_item.ensures.all

pub returns-clause-part : goal.returns-clause-part
returns-clause-part g c =
    let bs = c.args.piece.now in
    let start = c.blanks-start.result in
    let bytes = c.trim_end-item.ensures ∙ ap trim_end (rest-is start bs) in
    let some = ne_eqb (blanks bs) (length bs) (λ e. c.if-is_blank.false (c.blanks-start.ensures.value ∙ e)) in
    let is = rw c.blanks-start.ensures.value at (rw c.in_default.is at c.error_of.ensures) in
    on-err c.convert_item.result (λ part i at starts.
    partly-as (g.C.Convert.becomes c.args.converter.now) c.args.name.now at _ _
    (item-parts i bs start c.trim_end-item.result.now c.blanks-start.ensures.value bytes c.args.ended c.args.is_first is some)
    (part _ at (item-starts i bs start c.trim_end-item.result.now c.blanks-start.ensures.value bytes at
    c.args.position.now c.in_ok-position.position c.in_ok-position.ensures starts)))
    c.convert_item.ensures.part
