use Rattle.jiter.specs.Jiter.{byte_of}
use Rattle.jiter_c.proofs.Staying.{peeks-again, replies-place}
use Rattle.jiter_c.proofs.reader.jiter_peek.Goals as goal

pub returns-in_default-clause-again : goal.returns-in_default-clause-again
returns-in_default-clause-again c =
    let p = rw c.jiter_at-jiter.ensures at c.peek-read.ensures.reads in
    peeks-again c.args.reader.now _ _ p.moves (replies-place byte_of _ _ _ p.value) c.answer.ensures.place

pub returns-clause-again : goal.returns-clause-again
returns-clause-again c =
    let p = rw c.jiter_at-jiter.ensures at c.peek-read.ensures.reads in
    peeks-again c.args.reader.now _ _ p.moves (replies-place byte_of _ _ _ p.value) c.answer.ensures.place
