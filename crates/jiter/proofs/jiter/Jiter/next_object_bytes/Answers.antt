use Rattle.jiter.proofs.Words.{raw}
use Rattle.jiter.proofs.ReadLaws.{no-object}
use Rattle.jiter.proofs.jiter.Jiter.next_object_bytes.Goals as goal

pub returns-in-Err-clause-reads : goal.returns-in-Err-clause-reads
returns-in-Err-clause-reads c = no-object raw c.stop_at.result c.in-Err.ensures.other c.stop_at.ensures
