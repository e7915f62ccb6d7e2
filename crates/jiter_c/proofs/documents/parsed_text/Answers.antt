use Rattle.jiter_c.proofs.DocumentReports.{prints_value}
use Rattle.jiter_c.proofs.documents.parsed_text.Goals as goal

pub returns-in-Ok-clause-prints : goal.returns-in-Ok-clause-prints
returns-in-Ok-clause-prints c =
    prints_value _ _ _ c.in-Ok.value c.print_text.result c.in-Ok.ensures.answer c.print_text.ensures.text
    c.print_text.ensures.memory
