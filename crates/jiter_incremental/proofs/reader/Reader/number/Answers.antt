use Rattle.jiter_incremental.proofs.Words.{view, after_level}
use Rattle.jiter_incremental.specs.declared.reader.Token.TheVariants as token_kind
use Rattle.jiter_incremental.proofs.Arms.{turned}
use Rattle.jiter_incremental.proofs.Separators.{with-separator}
use Rattle.jiter_incremental.proofs.Documents.Blanks.{if-refused}
use Rattle.jiter_incremental.proofs.NumberBegins.{stays-so, whole-number}
use Rattle.jiter_incremental.proofs.reader.Reader.number.Goals as goal

pub returns-in_err-value-in-Some-clause-stays : goal.returns-in_err-value-in-Some-clause-stays
returns-in_err-value-in-Some-clause-stays c =
    let i = c.args.self.now in
    if-refused c.from_residual.result
    (stays-so c.args.level c.args.chunk.now i (view c.args.slot.now) c.requires.here c.requires.token
    c.requires.awaited.free i.number i.buffer)

pub returns-in_ok-value-in-Some-clause-steps : goal.returns-in_ok-value-in-Some-clause-steps
returns-in_ok-value-in-Some-clause-steps c =
    let i = c.args.self.now in
    let level = c.args.level in
    let chunk = c.args.chunk.now in
    let v = view c.args.slot.now in
    let w = view c.put.new.slot in
    let e = c.in-Some.end in
    let key = c.put.new.self.key in
    let put = whole-number level chunk i v c.requires.here c.requires.token c.requires.awaited c.requires.other c.requires.low
    c.requires.begins key _ _ w e c.in-Some.ensures c.in_ok-value-in-Some.ensures c.put.ensures.put in
    let q = record (turned i (after_level level) i.depth key) { token = token_kind.Nothing } in
    with-separator level chunk i v q w e c.requires.here put (λ _. (c.requires.here.unset, c.requires.here.here))
    c.put.new.self c.past_separator.new.self c.past_separator.result c.put.ensures.is c.past_separator.ensures
