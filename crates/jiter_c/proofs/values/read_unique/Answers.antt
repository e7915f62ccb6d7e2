use Rattle.jiter_c.proofs.DocumentReports.{unique_no_memory}
use Rattle.jiter_c.proofs.values.read_unique.Goals as goal

pub returns-in-Err-into_static : goal.returns-in-Err-into_static
returns-in-Err-into_static c = record {
  read = unique_no_memory _ _ _ c.in-Ok.value _ c.in-Ok.ensures.answer c.in-Err-into_static.ensures.memory
      c.memory_fault.ensures;
}
