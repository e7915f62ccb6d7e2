use Rattle.jiter_incremental.proofs.Words.{◌-◌, arith, view}
use Rattle.jiter_incremental.proofs.Arms.{awaits-value, blanks-step}
use Rattle.jiter_incremental.proofs.Documents.Blanks.{if-refused, not-passed}
use Rattle.jiter_incremental.proofs.reader.Reader.next.Goals as goal

pub returns-then-self-end-clause-steps : goal.returns-then-self-end-clause-steps
returns-then-self-end-clause-steps c =
    let i = c.args.self.now in
    let chunk = c.args.chunk.now in
    let n = c.past_blanks-end.result - i.at in
    let e = c.past_blanks-end.ensures in
    blanks-step c.args.level chunk i (view c.args.slot.now) c.requires.here c.requires.token n
    (omega (arith, c.if-self-end.true)) (omega (arith, e.value, c.if-self-end.true)) (omega (arith, e.bound, c.if-self-end.true))

pub value-requires-clause-awaited : goal.value-requires-clause-awaited
value-requires-clause-awaited c =
    awaits-value c.args.level c.args.chunk.now c.args.self.now (view c.args.slot.now) c.requires.here c.requires.token
    c.in-Value.is

pub value-requires-clause-other : goal.value-requires-clause-other
value-requires-clause-other c =
    let e = c.past_blanks-end.ensures in
    not-passed c.args.chunk.now c.args.self.now.at c.requires.here.inside
    (omega (arith, e.value, e.after, c.if-self-end.false))

pub colon-requires-clause-other : goal.colon-requires-clause-other
colon-requires-clause-other c =
    let e = c.past_blanks-end.ensures in
    not-passed c.args.chunk.now c.args.self.now.at c.requires.here.inside
    (omega (arith, e.value, e.after, c.if-self-end.false))

pub between-requires-clause-other : goal.between-requires-clause-other
between-requires-clause-other c =
    let e = c.past_blanks-end.ensures in
    not-passed c.args.chunk.now c.args.self.now.at c.requires.here.inside
    (omega (arith, e.value, e.after, c.if-self-end.false))

pub after-requires-clause-other : goal.after-requires-clause-other
after-requires-clause-other c =
    let e = c.past_blanks-end.ensures in
    not-passed c.args.chunk.now c.args.self.now.at c.requires.here.inside
    (omega (arith, e.value, e.after, c.if-self-end.false))

pub returns-in-Value-clause-wanted : goal.returns-in-Value-clause-wanted
returns-in-Value-clause-wanted c =
    let e = c.past_blanks-end.ensures in
    if-refused c.value.result
    (not-passed c.args.chunk.now c.args.self.now.at c.requires.here.inside
    (omega (arith, e.value, e.after, c.if-self-end.false)))

pub returns-in-First-clause-wanted : goal.returns-in-First-clause-wanted
returns-in-First-clause-wanted c =
    let e = c.past_blanks-end.ensures in
    if-refused c.between.result
    (not-passed c.args.chunk.now c.args.self.now.at c.requires.here.inside
    (omega (arith, e.value, e.after, c.if-self-end.false)))
