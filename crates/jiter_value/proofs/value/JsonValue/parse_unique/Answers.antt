use Rattle.jiter_value.proofs.Words.{◌∙◌, ap, subst, arith, length, Ok, Err, unique_answer_in, AnswersBy}
use Rattle.jiter_value.proofs.Words.{refusing_repeats}
use Rattle.jiter_value.proofs.ParsedDocuments.{as_read-is}
use Rattle.jiter_value.proofs.ParsedUnique.{value-parses, error-parses}
use Rattle.jiter_value.proofs.value.JsonValue.parse_unique.Goals as goal

pub returns-in-Ok : goal.returns-in-Ok
returns-in-Ok c =
    let names = c.args.allow_inf_nan in
    let mode = c.args.allow_partial in
    let t = c.args.bytes.now in
    let v = c.in-Ok.value in
    let read = value-parses names mode t v c.read_unique.new.parser.index
    (rw (c.new-parser.ensures.same, c.new-reading.ensures.settings) at c.in-Ok.ensures.value) in
    record {
      found = read.found;
      accepts = read.accepts;
      answer = subst (AnswersBy (refusing_repeats names) (Ok v)) (as_read-is (unique_answer_in names mode t))
          read.answer;
      parses = read;
    }

pub returns : goal.returns
returns c =
    let names = c.args.allow_inf_nan in
    let mode = c.args.allow_partial in
    let t = c.args.bytes.now in
    let e = c.unique_error_at.result in
    let given = c.in-Err.ensures in
    let i = c.read_unique.new.parser.index in
    let same = ap (λ b. length b.now) (given.moves.same ∙ c.new-parser.ensures.same) in
    let read = error-parses names mode t i (omega (arith, c.read_unique.new.parser.within, same)) c.in-Err.stopped e
    c.unique_error_at.ensures (rw (c.new-parser.ensures.same, c.new-reading.ensures.settings) at given.value)
    (rw c.new-parser.ensures.same at given.memory) (rw c.new-parser.ensures.same at given.place) in
    record {
      found = read.found;
      accepts = read.accepts;
      answer = subst (AnswersBy (refusing_repeats names) (Err e)) (as_read-is (unique_answer_in names mode t))
          read.answer;
      parses = read;
    }
