use Rattle.std.proofs.Common.{◌<◌, ◌++◌, ◌∷◌, [], ◌∙◌, length, take, arith}
use Rattle.std.specs.Prelude.{flat_map}
use Rattle.std.proofs.lemmas.Result.{IfOk-weaker, on_err_weaker}
use Rattle.jiter_print.specs.Print.{print_byte, Appends}
use Rattle.jiter_print.proofs.Printing.{run-stopped, run-ended, stopped-needs, text-closed, kept-through, if-err}
use Rattle.jiter_print.proofs.strings.append_escaped.Goals as goal

pub append_escape-requires-clause-needs : goal.append_escape-requires-clause-needs
append_escape-requires-clause-needs c =
    let stop = c.string_stop-stop in
    stopped-needs c.args.bytes.now c.loop-end.begin stop.result stop.ensures.stop (omega (arith, stop.ensures.within.1))

pub loop-end-preserved : goal.loop-end-preserved
loop-end-preserved c =
    let bytes = c.args.bytes.now in
    let before = take c.args.count c.args.line.now.items in
    let l = c.loop-end in
    let stop = c.string_stop-stop in
    let inside : stop.result < length bytes = omega (arith, stop.ensures.within.1) in
    let run = run-stopped bytes (take l.end l.line.items) before l.begin stop.result l.invariant.within
    stop.ensures.stop l.invariant.printed in
    let needs = stopped-needs bytes l.begin stop.result stop.ensures.stop inside in
    record {
      within = omega arith;
      room = omega (arith, c.in_ok-end-2.ensures.text.1);
      printed = c.in_ok-end-2.ensures.text.0
          ∙ run-ended bytes (take c.in_ok-end.end c.append_bytes.new.line.items) before stop.result inside needs
          (c.in_ok-end.ensures.text.0 ∙ run);
    }

pub returns-then-stop-bytes : goal.returns-then-stop-bytes
returns-then-stop-bytes c =
    let bytes = c.args.bytes.now in
    let before = take c.args.count c.args.line.now.items in
    let l = c.loop-end in
    let stop = c.string_stop-stop in
    let closed = c.append_bytes-then-stop-bytes in
    let middle = c.append_bytes.new.line.items in
    let run = run-stopped bytes (take l.end l.line.items) before l.begin stop.result l.invariant.within
    stop.ensures.stop l.invariant.printed in
    let here = c.in_ok-end.ensures.text.0 ∙ run in
    let whole = text-closed bytes before (take c.in_ok-end.end middle) stop.result c.if-stop-bytes.true here in
    let old = c.args.line.now in
    record {
      text =
          IfOk-weaker closed.result (Appends middle closed.new.line.items c.in_ok-end.end (34 ∷ []))
          (Appends old.items closed.new.line.items c.args.count (flat_map print_byte bytes ++ 34 ∷ []))
          (λ end h. (h.0 ∙ whole, h.1)) closed.ensures.text;
      kept =
          on_err_weaker closed.result
          (λ same. kept-through old.items middle closed.new.line.items _ c.args.count c.in_ok-end.end
          (omega (arith, old.ok.0)) here same)
          closed.ensures.kept;
    }

pub returns-in_err-end-clause-kept : goal.returns-in_err-end-clause-kept
returns-in_err-end-clause-kept c =
    let old = c.args.line.now in
    if-err c.from_residual.result
    (kept-through old.items c.loop-end.line.items c.append_bytes.new.line.items _ c.args.count c.loop-end.end
    (omega (arith, old.ok.0)) c.loop-end.invariant.printed c.in_err-end.ensures.kept)

pub returns-in_err-end-2-clause-kept : goal.returns-in_err-end-2-clause-kept
returns-in_err-end-2-clause-kept c =
    let bytes = c.args.bytes.now in
    let old = c.args.line.now in
    let before = take c.args.count old.items in
    let l = c.loop-end in
    let stop = c.string_stop-stop in
    let run = run-stopped bytes (take l.end l.line.items) before l.begin stop.result l.invariant.within
    stop.ensures.stop l.invariant.printed in
    if-err c.from_residual-in_err-end-2.result
    (kept-through old.items c.append_bytes.new.line.items c.append_escape.new.line.items _ c.args.count c.in_ok-end.end
    (omega (arith, old.ok.0)) (c.in_ok-end.ensures.text.0 ∙ run) c.in_err-end-2.ensures.kept)
