use Rattle.jiter.proofs.Words.{subst, sym, take, take-take, arith, Ok, length-take, answer_in, as_read, reading_as}
use Rattle.jiter.proofs.Words.{Answers}
use Rattle.jiter.proofs.Growth.{prefixes-grow}
use Rattle.jiter.proofs.client.prefixes.two_prefixes.Goals as goal

pub returns-clause-grows : goal.returns-clause-grows
returns-clause-grows c = λ active f clean.
    let a = c.args in
    let u = take a.longer a.bytes.now in
    let earlier = subst
    (λ t. Answers (Ok c.in_ok-first.first) (reading_as as_read (answer_in a.allow_inf_nan a.mode t)))
    (sym (take-take a.shorter a.longer a.bytes.now c.requires.ordered)) c.in_ok-first.ensures.parses.answer in
    prefixes-grow as_read (λ v w h. h) a.allow_inf_nan a.mode u f a.shorter c.in_ok-first.first c.in_ok-second.second
    active clean (omega (arith, length-take a.longer a.bytes.now, c.requires.ordered, c.requires.within)) earlier
    c.in_ok-second.ensures.parses.answer
