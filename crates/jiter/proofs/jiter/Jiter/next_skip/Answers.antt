use Rattle.jiter.proofs.Words.{refl, byte_of, skip_read}
use Rattle.jiter.proofs.Peeking.{read-peeked}
use Rattle.jiter.proofs.SkipReplies.{next-read-skipped}
use Rattle.jiter.proofs.jiter.Jiter.next_skip.Goals as goal

pub returns-clause-reads : goal.returns-clause-reads
returns-clause-reads c =
    let p = c.in_ok-peek.ensures in
    read-peeked skip_read c.args.self.now c.peek.new.self (byte_of c.in_ok-peek.peek) (λ i. refl) p.reads.moves c.peek.ensures.place
    p.here c.known_skip.ensures.reads

pub returns-clause-as_read : goal.returns-clause-as_read
returns-clause-as_read c = next-read-skipped (returns-clause-reads c)
