use Rattle.jiter_incremental.proofs.Words.{arith, [], refl, sym, view, ◌∙◌}
use Rattle.std.proofs.lemmas.Result.{on_err_weaker, on_ok_weaker}
use Rattle.jiter_incremental.proofs.Leading.{arrived-all, arrived-free, chunk-begun, ready-start, went-from}
use Rattle.jiter_incremental.proofs.Over.{fault-arrived}
use Rattle.jiter_incremental.proofs.reader.Reader.read.Goals as goal

pub go_on-requires-clause-ready : goal.go_on-requires-clause-ready
go_on-requires-clause-ready c =
    ready-start c.args.chunk.now c.args.self.now (view c.args.root.now) c.requires.arrived.0 c.requires.arrived.1
    c.requires.start c.requires.low c.requires.room

pub returns-clause-taken : goal.returns-clause-taken
returns-clause-taken c = λ t h.
    let chunk = c.args.chunk.now in
    let i = c.args.self.now in
    let v = view c.args.root.now in
    let j = c.go_on.new.self in
    let w = view c.go_on.new.root in
    let went = c.go_on.ensures.went in
    on_ok_weaker c.go_on.result
    (λ all.
    arrived-all chunk j w t c.go_on.ensures.complete (omega (arith, all)) went.within
    (went-from chunk i v j w went c.requires.start t h))
    c.go_on.ensures.all

pub returns-clause-refused : goal.returns-clause-refused
returns-clause-refused c = λ t h.
    let chunk = c.args.chunk.now in
    let i = c.args.self.now in
    let v = view c.args.root.now in
    let j = c.go_on.new.self in
    let w = view c.go_on.new.root in
    on_err_weaker c.go_on.result
    (λ q. arrived-free chunk j w _ q.free c.go_on.ensures.complete (went-from chunk i v j w c.go_on.ensures.went c.requires.start t h))
    c.go_on.ensures.wanted

pub returns-clause-wanted : goal.returns-clause-wanted
returns-clause-wanted c = λ t h.
    on_err_weaker c.go_on.result
    (λ q. q.goes t [] refl (chunk-begun c.args.chunk.now c.args.self.now (view c.args.root.now) t h c.requires.start))
    c.go_on.ensures.wanted

pub returns-then-is_some-clause-taken : goal.returns-then-is_some-clause-taken
returns-then-is_some-clause-taken c = λ t h.
    fault-arrived c.args.chunk.now c.args.self.now (view c.args.root.now) t (sym c.is_some.ensures ∙ c.if-is_some.true)
    c.requires.start h
