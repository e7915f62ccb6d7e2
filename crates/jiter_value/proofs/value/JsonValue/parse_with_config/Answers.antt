use Rattle.jiter_value.proofs.Words.{subst, answer, answer_in, one_node, Answers}
use Rattle.jiter_value.proofs.ParsedDocuments.{as_read-is, as_read-cut}
use Rattle.jiter_value.proofs.value.JsonValue.parse_with_config.Goals as goal

pub returns : goal.returns
returns c =
    let names = c.args.allow_inf_nan in
    let mode = c.args.allow_partial in
    let t = c.args.bytes.now in
    let r = c.read_text.result in
    let read = rw c.new-reading.ensures.settings at c.read_text.ensures.parses in
    record {
      found = read.found;
      accepts = read.accepts;
      one = one_node names t;
      cut = λ on f. as_read-cut names t mode f r (read.cut on f);
      answer = subst (Answers r) (as_read-is (answer_in names mode t)) read.answer;
      first = λ off. subst (Answers r) (as_read-is (answer names t)) (read.first off);
      parses = read;
    }
