use Rattle.std.proofs.Common.{◌≡◌, ◌∙◌, ◌≤◌, ap, arith, false, length, refl, subst, ◌-◌}
use Rattle.std.specs.Prelude.{IfOk, option_map}
use Rattle.std.proofs.lemmas.Grind.{common_steps}
use Rattle.json_screen.specs.Report.{cause_seen, has_mark, next_document, trailing_error}
use Rattle.json_screen.proofs.Told.{after-fits, after-told}
use Rattle.json_screen.proofs.report.cause_of.Goals as goal

pub returns-in-Ok : goal.returns-in-Ok
returns-in-Ok c = λ options t h all.
    let after = c.args.input.after.items in
    let unmarked : has_mark t ≡ false = grind (arith, common_steps) in
    let same : c.as_slice.result.now ≡ after = c.as_slice.ensures.value in
    let len : length c.args.bytes.now ≡ length t = ap length all in
    let fits : length c.as_slice.result.now ≤ length c.args.bytes.now =
    omega (arith, after-fits options c.args.input t h, len, ap length same) in
    let told : trailing_error (length c.args.bytes.now - length c.as_slice.result.now) (next_document 0 c.as_slice.result.now)
    ≡ trailing_error (length t - length after) (next_document 0 after) =
    rw all (rw same refl) in
    subst (λ o. IfOk c.trailing_cause.result (λ cause. option_map cause_seen cause ≡ o))
    (told ∙ after-told options c.args.input t h unmarked c.in-Ok.field-0 c.in-Ok.ensures) (c.trailing_cause.ensures fits)
