use Rattle.jiter.specs.Reader.{next, null_read}
use Rattle.jiter.proofs.Peeking.{scalars-stay}
use Rattle.jiter_c.specs.Replies.{state_of}
use Rattle.jiter_c.proofs.Staying.{answer-stays, no-some}
use Rattle.jiter_c.proofs.scalars.jiter_next_null.Goals as goal

pub returns-clause-stays : goal.returns-clause-stays
returns-clause-stays c = λ no.
    let s = state_of c.args.reader.now in
    answer-stays _ _ s _ (next s (null_read s)) _ c.args.reader.now _
    (rw c.jiter_at-jiter.ensures at c.next_null-read.ensures.reads.value) (scalars-stay s).0 c.answer.ensures.given
    (no-some _ _ c.is_some.ensures no) c.answer.ensures.place
