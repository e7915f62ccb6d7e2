use Rattle.jiter_value.proofs.Words.{◌≤◌, ap, arith, length, Ok, Err, past_blanks, as_read, MayGrow, JsonValue}
use Rattle.jiter_value.proofs.MadeAnswers.{borrowed-gives}
use Rattle.jiter_value.proofs.ParsedDocuments.{value-parses, error-parses}
use Rattle.jiter_value.proofs.TurnOutcomes.{refused-weaker}
use Rattle.jiter_value.proofs.parse.machine.answer.Goals as goal

pub returns-in-Ok-clause-parses : goal.returns-in-Ok-clause-parses
returns-in-Ok-clause-parses c =
    let p = c.args.reading.now.settings in
    let t = c.args.bytes.now in
    let i = c.finish_whole.new.parser.index in
    value-parses as_read (MayGrow t) p t i c.in-Ok.whole (borrowed-gives p t (Ok c.in-Ok.whole) i c.in-Ok.ensures.value)

pub returns-in-Err-clause-parses : goal.returns-in-Err-clause-parses
returns-in-Err-clause-parses c =
    let p = c.args.reading.now.settings in
    let t = c.args.bytes.now in
    let e = c.in-Err.error in
    let i = c.finish_whole.new.parser.index in
    let read = c.in-Err.ensures in
    let within : i ≤ length t = omega (arith, c.finish_whole.new.parser.within, ap (λ b. length b.now) read.moves.same) in
    error-parses as_read (MayGrow t) p t i e c.error_at.result c.error_at.ensures (borrowed-gives p t (Err e) i read.value) within
    (refused-weaker {X = JsonValue} (Err e) ⊥ (MayGrow t) (λ no. absurd no) read.memory)
    (refused-weaker {X = JsonValue} (Err e) ⊥ (past_blanks t 0 ≤ i) (λ no. absurd no) read.memory)

pub returns-in-GivenUp-clause-parses : goal.returns-in-GivenUp-clause-parses
returns-in-GivenUp-clause-parses c =
    let r = c.args.reading.now in
    let t = c.args.bytes.now in
    let over = rw c.in-GivenUp.is at c.requires.over in
    let e = r.stacks.error in
    error-parses as_read (MayGrow t) r.settings t r.at e c.error_at-in-GivenUp.result
    (rw c.take_error-error.ensures at c.error_at-in-GivenUp.ensures) (borrowed-gives r.settings t (Err e) r.at over.0) over.1
    over.2 over.3
