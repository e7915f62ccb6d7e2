use Rattle.std.proofs.Common.{◌≡◌, ap₂, inr, subst, sym}
use Rattle.json_screen.specs.Rows.{rows_of}
use Rattle.json_screen.specs.Terminal.{IsPlain}
use Rattle.viewer.specs.Shown.{look, look_at}
use Rattle.viewer.proofs.Following.{if-err}
use Rattle.json_screen.proofs.Plain.{plain-rows}
use Rattle.viewer.proofs.view.show_rows.Goals as goal

pub returns-in_err-write_line-clause-prefix : goal.returns-in_err-write_line-clause-prefix
returns-in_err-write_line-clause-prefix g c = λ options t h.
    let width = c.args.width in
    let drawn = c.in_ok-drawn.drawn.items in
    let shown = c.in_ok-shown.shown in
    let text : shown.text.items ≡ (rows_of options width t).text = c.in_ok-shown.ensures.text options t h in
    let new : look shown ≡ look_at options width t = ap₂ (λ a b. (a, b)) text (c.in_ok-shown.ensures.dim options t h) in
    let plain = subst IsPlain (sym text) (plain-rows options width t) in
    let prefix = rw c.as_slice.ensures.value at c.in_err-write_line.ensures.prefix in
    if-err c.from_residual-in_err-write_line.result
    (inr (look shown, (drawn, (new, λ old. c.in_ok-drawn.ensures old plain), prefix)))

pub returns-clause-whole : goal.returns-clause-whole
returns-clause-whole g c = λ options t h.
    let width = c.args.width in
    let drawn = c.in_ok-drawn.drawn.items in
    let shown = c.in_ok-shown.shown in
    let text : shown.text.items ≡ (rows_of options width t).text = c.in_ok-shown.ensures.text options t h in
    let new : look shown ≡ look_at options width t = ap₂ (λ a b. (a, b)) text (c.in_ok-shown.ensures.dim options t h) in
    let plain = subst IsPlain (sym text) (plain-rows options width t) in
    let whole = rw c.as_slice.ensures.value at c.in_ok-write_line.ensures.whole in
    (drawn, (new, λ old. c.in_ok-drawn.ensures old plain), whole)
