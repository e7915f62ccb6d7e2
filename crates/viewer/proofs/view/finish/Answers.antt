use Rattle.std.proofs.Common.{subst}
use Rattle.std.proofs.KnownBytes.{Keeps-refl}
use Rattle.std.specs.Prelude.{option_map, string_bytes}
use Rattle.json_screen.specs.Report.{error_of, IsReport}
use Rattle.viewer.proofs.StringEnd.{all-told, half-told, nothing-told, untold}
use Rattle.viewer.proofs.view.finish.Goals as goal

pub returns-in_default : goal.returns-in_default
returns-in_default g c = λ t h.
    let name = c.args.settings.name.now in
    let o = error_of c.args.settings.options.inf_nan t in
    let told = c.in_ok-report.ensures c.args.settings.options t h in
    nothing-told _ name t o (subst (λ x. IsReport name t o (option_map string_bytes x)) c.in_default.is told) _ _ (Keeps-refl _)

pub returns-in_err-report : goal.returns-in_err-report
returns-in_err-report g c = λ t h.
    let end = c.from_residual in
    untold c.args.settings.name.now t (error_of c.args.settings.options.inf_nan t) end.result end.ensures.0 _

pub returns-in_err-write_line : goal.returns-in_err-write_line
returns-in_err-write_line g c = λ t h.
    let name = c.args.settings.name.now in
    let o = error_of c.args.settings.options.inf_nan t in
    let report = string_bytes c.in-Some.report in
    let told = subst (λ x. IsReport name t o (option_map string_bytes x)) c.in-Some.is
    (c.in_ok-report.ensures c.args.settings.options t h) in
    let end = c.from_residual-in_err-write_line in
    let prefix = rw c.as_bytes.ensures.value at c.in_err-write_line.ensures.prefix in
    half-told end.result end.ensures.0 name t o report told _ _ prefix

pub returns : goal.returns
returns g c = λ t h.
    let name = c.args.settings.name.now in
    let o = error_of c.args.settings.options.inf_nan t in
    let report = string_bytes c.in-Some.report in
    let told = subst (λ x. IsReport name t o (option_map string_bytes x)) c.in-Some.is
    (c.in_ok-report.ensures c.args.settings.options t h) in
    let written = rw c.as_bytes.ensures.value at c.in_ok-write_line.ensures.whole in
    all-told _ name t o report told _ _ written
