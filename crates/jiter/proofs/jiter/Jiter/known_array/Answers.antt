use Rattle.jiter.proofs.Words.{arith, array_read}
use Rattle.jiter.proofs.Peeking.{known-above}
use Rattle.jiter.proofs.jiter.Jiter.known_array.Goals as goal

pub returns-clause-reads : goal.returns-clause-reads
returns-clause-reads c =
    let s = c.args.self.now in
    rw (known-above s (array_read s) 91 c.requires (omega arith)) c.next_array.ensures.reads
