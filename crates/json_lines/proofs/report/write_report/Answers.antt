use Rattle.json_lines.proofs.Known.{err-with, if-err, no-part}
use Rattle.json_lines.proofs.Lines.{whole-part}
use Rattle.json_lines.proofs.report.write_report.Goals as goal

pub returns-in_err-write_error-clause-part : goal.returns-in_err-write_error-clause-part
returns-in_err-write_error-clause-part g c =
    if-err c.from_residual.result (c.in_err-write_error.ensures.part, no-part _ _)

pub returns-clause-part : goal.returns-clause-part
returns-clause-part g c =
    err-with _ c.write_line.result (whole-part _ _ _ c.in_ok-write_error.ensures.whole) c.write_line.ensures.prefix
