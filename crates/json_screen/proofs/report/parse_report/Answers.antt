use Rattle.std.proofs.Common.{◌≡◌, IfOk, subst, string_bytes}
use Rattle.json_screen.specs.Report.{error_text}
use Rattle.json_screen.proofs.report.parse_report.Goals as goal

pub returns : goal.returns
returns c =
    subst (λ cause. IfOk c.error_text.result (λ text. string_bytes text
    ≡ error_text c.args.name.now c.args.bytes.now c.args.error.now.index cause)) c.in_ok-text.ensures c.error_text.ensures
