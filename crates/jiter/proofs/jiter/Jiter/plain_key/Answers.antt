use Rattle.jiter.proofs.Words.{false}
use Rattle.jiter.proofs.FastReplies.{plain-key}
use Rattle.jiter.proofs.jiter.Jiter.plain_key.Goals as goal

pub returns-in-Ok-clause-reads : goal.returns-in-Ok-clause-reads
returns-in-Ok-clause-reads c =
    let past = c.past_colon in
    rw c.in_default-Part.is-1 (plain-key past.result _ c.args.self.now c.args.found.0 _ c.in-Ok.key c.self.view_is
    (c.in-Ok.ensures.value false) past.ensures.key past.ensures.reads)
