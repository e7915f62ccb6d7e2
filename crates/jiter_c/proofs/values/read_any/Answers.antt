use Rattle.jiter_c.proofs.DocumentReports.{parse_refused}
use Rattle.jiter_c.proofs.values.read_any.Goals as goal

pub returns-in-Err : goal.returns-in-Err
returns-in-Err c = record { read = parse_refused _ _ _ _ _ c.in-Err.ensures c.document_fault.ensures }
