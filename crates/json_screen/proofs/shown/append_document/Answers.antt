use Rattle.std.proofs.Common.{◌≡◌, ◌∙◌}
use Rattle.jiter.specs.Caller.{view}
use Rattle.jiter_print.specs.Layout.{pretty_of}
use Rattle.json_screen.specs.Rows.{filled}
use Rattle.json_screen.proofs.Told.{if-ok, marked-told, whole-told}
use Rattle.json_screen.proofs.shown.append_document.Goals as goal

pub returns-then-input-eq0-clause-rows : goal.returns-then-input-eq0-clause-rows
returns-then-input-eq0-clause-rows c = λ options t h is.
    let input = c.args.input.now in
    let text : c.as_slice-then-input-eq0.result.now ≡ pretty_of 2 (view c.in-Ok.value.now) =
    c.as_slice-then-input-eq0.ensures.value ∙ c.in_ok-text.ensures.text in
    if-ok c.append-then-input-eq0.result c.append-then-input-eq0.ensures.rows (λ rows.
    rows ∙ whole-told options input.document t h c.args.rows.now.width input.span.depth (filled c.args.rows.now)
    c.in-Ok.value.now c.in-Ok.ensures _ text c.if-input-eq0.true)

pub returns-clause-rows : goal.returns-clause-rows
returns-clause-rows c = λ options t h is.
    let input = c.args.input.now in
    let text : c.as_slice-2.result.now ≡ pretty_of 2 (view c.in-Ok.value.now) =
    c.as_slice-2.ensures.value ∙ c.in_ok-text.ensures.text in
    if-ok c.append_marked.result c.append_marked.ensures.rows (λ rows.
    rows ∙ marked-told options input.document t h c.args.rows.now.width input.span.depth (filled c.args.rows.now)
    c.in-Ok.value.now c.in-Ok.ensures _ text c.if-input-eq0.false)
