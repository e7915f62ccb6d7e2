use Rattle.std.proofs.Common.{◌≡◌, ◌∙◌, ap, subst, sym}
use Rattle.std.specs.Prelude.{option_map, string_bytes}
use Rattle.json_screen.specs.Parts.{whole}
use Rattle.json_screen.specs.Report.{cause_seen, error_text}
use Rattle.json_screen.proofs.Reporting.{none-reported, some-reported}
use Rattle.json_screen.proofs.Split.{whole-is}
use Rattle.json_screen.proofs.report.error_report.Goals as goal

pub returns-in-Some : goal.returns-in-Some
returns-in-Some c = λ options t h.
    let name = c.args.name.now in
    let all = c.in_ok-bytes.ensures ∙ ap whole h.split ∙ whole-is t in
    let seen = c.in_ok-cause.ensures options t h (c.as_slice.ensures.value ∙ all) in
    let x = cause_seen c.in-Some.cause in
    let text = string_bytes c.in_ok-error_text-in-Some.field-0 in
    some-reported name t _ x text (ap (option_map cause_seen) (sym c.in-Some.is) ∙ seen)
    (subst (λ b. text ≡ error_text name b x.0 x.1) (c.as_slice-in-Some.ensures.value ∙ all) c.in_ok-error_text-in-Some.ensures)

pub returns : goal.returns
returns c = λ options t h.
    let all = c.in_ok-bytes.ensures ∙ ap whole h.split ∙ whole-is t in
    let seen = c.in_ok-cause.ensures options t h (c.as_slice.ensures.value ∙ all) in
    none-reported c.args.name.now t _ (ap (option_map cause_seen) (sym c.in-None.is) ∙ seen)
