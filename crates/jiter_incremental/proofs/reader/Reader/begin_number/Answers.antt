use Rattle.jiter_incremental.proofs.NumberBegins.{number-kept, stays-so}
use Rattle.jiter_incremental.proofs.Words.{◌-◌, subst, sym, view, Steps, Reader}
use Rattle.jiter_incremental.specs.declared.reader.Awaits.TheVariants as awaits
use Rattle.jiter_incremental.proofs.Documents.Blanks.{if-refused}
use Rattle.jiter_incremental.proofs.reader.Reader.begin_number.Goals as goal

pub returns-in_err-begin-clause-stays : goal.returns-in_err-begin-clause-stays
returns-in_err-begin-clause-stays c =
    let i = c.args.self.now in
    if-refused c.from_residual.result
    (stays-so c.args.level c.args.chunk.now i (view c.args.slot.now) c.requires.here c.requires.token
    c.requires.awaited.free c.begin.new.self i.buffer)

pub returns-clause-steps : goal.returns-clause-steps
returns-clause-steps c =
    let i = c.args.self.now in
    let level = c.args.level in
    let chunk = c.args.chunk.now in
    let v = view c.args.slot.now in
    let e = c.begun_at-stage.result.1 in
    let begun = λ (r : Reader). record r { awaits = awaits.Value } in
    let there = c.begun_at-stage.ensures in
    subst (λ r. Steps level chunk i v (begun r) v (e - (begun r).at)) (sym c.begin_token.ensures)
    (number-kept level chunk i v c.requires.here c.requires.token c.requires.awaited c.requires.other c.requires.low
    c.requires.begins c.begin.new.self e there.ahead there.within c.in_ok-begin.ensures.held)
