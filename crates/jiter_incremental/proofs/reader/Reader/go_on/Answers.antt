use Rattle.jiter_incremental.proofs.Words.{arith, view}
use Rattle.std.proofs.lemmas.Result.{on_err_weaker}
use Rattle.jiter_incremental.proofs.Documents.Blanks.{if-refused}
use Rattle.jiter_incremental.proofs.Leading.{outermost, outermost-ready, outermost-refuses, ready-then, refuses-then, went-then}
use Rattle.jiter_incremental.proofs.reader.Reader.go_on.Goals as goal

pub innermost-requires-clause-ready : goal.innermost-requires-clause-ready
innermost-requires-clause-ready c =
    outermost-ready c.args.chunk.now c.args.self.now (view c.args.root.now) c.requires.ready (omega (arith, c.if-self-eq0.false))

pub returns-in_err-innermost-clause-went : goal.returns-in_err-innermost-clause-went
returns-in_err-innermost-clause-went c =
    outermost c.args.chunk.now c.args.self.now (view c.args.root.now) c.innermost.new.self (view c.innermost.new.slot)
    c.innermost.ensures.went

pub returns-in_err-innermost-clause-wanted : goal.returns-in_err-innermost-clause-wanted
returns-in_err-innermost-clause-wanted c =
    if-refused c.from_residual.result
    (outermost-refuses c.args.chunk.now c.args.self.now (view c.args.root.now) c.innermost.new.self
    c.in_err-innermost.ensures.wanted)

pub returns-then-self-chunk-clause-went : goal.returns-then-self-chunk-clause-went
returns-then-self-chunk-clause-went c =
    outermost c.args.chunk.now c.args.self.now (view c.args.root.now) c.innermost.new.self (view c.innermost.new.slot)
    c.innermost.ensures.went

pub parts-requires-2-clause-ready : goal.parts-requires-2-clause-ready
parts-requires-2-clause-ready c =
    let chunk = c.args.chunk.now in
    let i = c.args.self.now in
    let v = view c.args.root.now in
    let j = c.innermost.new.self in
    let w = view c.innermost.new.slot in
    ready-then 0 chunk i v j w c.requires.ready (outermost chunk i v j w c.innermost.ensures.went) (omega (arith))

pub parts-requires-2-clause-inside : goal.parts-requires-2-clause-inside
parts-requires-2-clause-inside c = omega (arith, c.innermost.ensures.went.within, c.if-self-chunk.false)

pub parts-requires-2-clause-unset : goal.parts-requires-2-clause-unset
parts-requires-2-clause-unset c =
    c.in_ok-innermost.ensures.calm (omega (arith, c.innermost.ensures.went.within, c.if-self-chunk.false))

pub returns-clause-went : goal.returns-clause-went
returns-clause-went c =
    let chunk = c.args.chunk.now in
    let i = c.args.self.now in
    let v = view c.args.root.now in
    let j = c.innermost.new.self in
    let w = view c.innermost.new.slot in
    went-then 0 chunk i v j w c.parts-2.new.self (view c.parts-2.new.slot) (outermost chunk i v j w c.innermost.ensures.went)
    c.parts-2.ensures.went

pub returns-clause-wanted : goal.returns-clause-wanted
returns-clause-wanted c =
    let chunk = c.args.chunk.now in
    let i = c.args.self.now in
    let v = view c.args.root.now in
    let j = c.innermost.new.self in
    let w = view c.innermost.new.slot in
    on_err_weaker c.parts-2.result
    (refuses-then 0 chunk i v j w c.parts-2.new.self (outermost chunk i v j w c.innermost.ensures.went)) c.parts-2.ensures.wanted
