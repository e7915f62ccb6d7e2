use Rattle.jiter.proofs.Words.{refl, byte_of, number_read}
use Rattle.jiter.proofs.Peeking.{read-peeked}
use Rattle.jiter.proofs.jiter.Jiter.next_number.Goals as goal

pub returns : goal.returns
returns c =
    let s = c.args.self.now in
    let p = c.in_ok-peek.ensures in
    record {
      reads = read-peeked number_read s c.peek.new.self (byte_of c.in_ok-peek.peek) (λ i. refl) p.reads.moves c.peek.ensures.place p.here
          c.known_number.ensures.reads;
    }
