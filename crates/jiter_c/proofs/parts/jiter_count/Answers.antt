use Rattle.jiter_c.specs.Parts.{into_read}
use Rattle.jiter_c.specs.Replies.{next_reply}
use Rattle.jiter_c.proofs.Into.{refusal-counted}
use Rattle.jiter_c.proofs.parts.jiter_count.Goals as goal

pub returns-in_default-clause-into : goal.returns-in_default-clause-into
returns-in_default-clause-into c =
    let into = c.count_parts.ensures.into in
    refusal-counted (next_reply c.args.reader.now into_read) into.0 _ c.args.fault.now _ c.report.ensures.fault into.1
