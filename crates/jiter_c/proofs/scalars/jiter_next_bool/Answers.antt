use Rattle.jiter.specs.Reader.{bool_read, next}
use Rattle.jiter.proofs.Peeking.{scalars-stay}
use Rattle.jiter_c.specs.Replies.{state_of}
use Rattle.jiter_c.proofs.Staying.{answer-stays}
use Rattle.jiter_c.proofs.scalars.jiter_next_bool.Goals as goal

pub returns-in_default-clause-stays : goal.returns-in_default-clause-stays
returns-in_default-clause-stays c = λ no.
    let s = state_of c.args.reader.now in
    answer-stays _ _ s _ (next s (bool_read s)) _ c.args.reader.now _
    (rw c.jiter_at-jiter.ensures at c.next_bool-read.ensures.reads.value) (scalars-stay s).1 c.answer.ensures.given
    c.in_default.is c.answer.ensures.place
