use Rattle.jiter.proofs.Words.{arith, null_read}
use Rattle.jiter.proofs.Peeking.{known-above}
use Rattle.jiter.proofs.jiter.Jiter.known_null.Goals as goal

pub returns : goal.returns
returns c =
    let s = c.args.self.now in
    record { reads = rw (known-above s (null_read s) 110 c.requires (omega arith)) c.next_null.ensures.reads }
