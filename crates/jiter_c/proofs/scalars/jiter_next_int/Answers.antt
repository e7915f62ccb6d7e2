use Rattle.jiter.specs.Reader.{int_read, next}
use Rattle.jiter.proofs.Peeking.{scalars-stay}
use Rattle.jiter_c.specs.Replies.{state_of}
use Rattle.jiter_c.proofs.Staying.{answer-stays}
use Rattle.jiter_c.proofs.scalars.jiter_next_int.Goals as goal

pub returns-clause-stays : goal.returns-clause-stays
returns-clause-stays c = λ no.
    let s = state_of c.args.reader.now in
    answer-stays _ _ s _ (next s (int_read s)) _ c.args.reader.now _
    (rw c.jiter_at-jiter.ensures at c.next_int-read.ensures.reads.value) (scalars-stay s).3 c.answer.ensures.given
    c.in-None.is c.answer.ensures.place
