use Rattle.jiter_c.specs.Replies.{array_reply}
use Rattle.jiter_c.proofs.Into.{refusal-told}
use Rattle.jiter_c.proofs.parts.jiter_item.Goals as goal

pub returns-in_default-clause-into : goal.returns-in_default-clause-into
returns-in_default-clause-into c =
    let old = c.args.reader.now in
    refusal-told (array_reply old) _ _ c.args.fault.now _ c.answer.ensures.fault old _ c.answer.ensures.place
    (rw c.jiter_at-jiter.ensures at c.find_item-read.ensures.into)
