use Rattle.jiter_value.proofs.OwnedAnswers.{owned-parses}
use Rattle.jiter_value.proofs.parse.parse_owned.own_scalar.Goals as goal

pub returns : goal.returns
returns c =
    let p = c.args.settings in
    owned-parses p.allow_inf_nan p.mode c.args.bytes.now c.read_text-read.result c.own_answer.result
    c.own_answer.ensures (rw c.new-borrowed.ensures.settings at c.read_text-read.ensures.parses)
