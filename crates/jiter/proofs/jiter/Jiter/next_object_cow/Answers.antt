use Rattle.jiter.proofs.Words.{None, whole, key_bytes}
use Rattle.jiter.proofs.ReadLaws.{error-seen, no-object, read-never}
use Rattle.jiter.proofs.jiter.Jiter.next_object_cow.Goals as goal

pub returns-in-Err-clause-reads : goal.returns-in-Err-clause-reads
returns-in-Err-clause-reads c =
    read-never _ (error-seen key_bytes (no-object {X = Unit {0}} {view = λ _. None} whole c.stop_at.result c.in-Err.ensures.other c.stop_at.ensures))
