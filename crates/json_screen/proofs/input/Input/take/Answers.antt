use Rattle.std.proofs.Common.{◌≡◌, ◌∙◌, ap, arith, length, subst, sym}
use Rattle.std.proofs.lemmas.Result.{on_ok_weaker}
use Rattle.jiter_incremental.specs.Caller.{HasReceived, Received}
use Rattle.json_screen.specs.Parts.{inside_of}
use Rattle.json_screen.proofs.Arriving.{arrived-then}
use Rattle.json_screen.proofs.input.Input.take.Goals as goal

-- src/input.rt:105:5
pub returns : goal.returns
returns c options t h =
    let same : c.loop-byte.self.document ≡ c.args.self.now.document = c.loop-byte.invariant.2 in
    let count : c.len-count.result ≡ length c.args.self.now.inside.items =
    omega (arith, c.len-count.ensures, c.args.self.now.inside.ok.0) in
    on_ok_weaker c.push.result
    (arrived-then options c.args.self.now _ t c.args.piece.now c.deref.result.now c.loop-byte.byte-index c.len-count.result
    h c.loop-byte.invariant.0 c.loop-byte-test.false c.loop-byte.invariant.1 count c.deref.ensures.value
    (c.push.ensures.settings ∙ ap (λ (d : Received). d.settings) same))
    (c.push.ensures.ok (inside_of t) (subst (λ d. HasReceived d (inside_of t)) (sym same) h.read.received))
