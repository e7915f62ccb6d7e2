use Rattle.std.proofs.lemmas.List.{append-nil}
use Rattle.std.proofs.Common.{◌≤◌, ◌+◌, ◌++◌, ◌∷◌, [], ◌∙◌, length, take, sym, ap, arith, length-set}
use Rattle.std.specs.Prelude.{flat_map}
use Rattle.std.proofs.lemmas.Result.{IfOk-weaker, on_err_weaker}
use Rattle.jiter_print.specs.Print.{print_byte, print_text, Appends}
use Rattle.jiter_print.proofs.Printing.{text-after, text-whole, kept-through}
use Rattle.jiter_print.proofs.strings.append_text.Goals as goal

pub returns-then-is_plain_to : goal.returns-then-is_plain_to
returns-then-is_plain_to c =
    let bytes = c.as_bytes-bytes.result.now in
    let old = c.args.line.now in
    let roomy = c.make_room_for.new.buffer in
    let laid = c.put.new.line.items in
    let at = c.args.count in
    let plain = rw c.as_slice.ensures.value at (sym c.is_plain_to.ensures ∙ c.if-is_plain_to.true) in
    let whole = text-whole old.items roomy.items laid bytes at (omega (arith, old.ok.0))
    (omega (arith, roomy.ok.0, c.in_ok-make_room_for.ensures.room)) c.in_ok-make_room_for.ensures.kept
    c.put.ensures.text
    (omega (arith, roomy.ok.0, c.in_ok-make_room_for.ensures.room, c.put.ensures.len, c.put.new.line.ok.0)) plain in
    record {
      text = (
        whole ∙ ap (λ w. take at old.items ++ print_text w) c.as_bytes-bytes.ensures.value,
        omega (
          arith,
          length-set laid (at + 1 + length bytes) 34,
          roomy.ok.0,
          c.in_ok-make_room_for.ensures.room,
          c.put.ensures.len,
          c.put.new.line.ok.0,
        ),
      );
      kept = tt;
    }

pub returns : goal.returns
returns c =
    let bytes = c.as_bytes-bytes.result.now in
    let old = c.args.line.now in
    let roomy = c.make_room_for.new.buffer in
    let laid = c.put.new.line.items in
    let at = c.args.count in
    let printed = flat_map print_byte bytes ++ 34 ∷ [] in
    let after = text-after old.items roomy.items laid bytes at (omega (arith, old.ok.0))
    (omega (arith, roomy.ok.0, c.in_ok-make_room_for.ensures.room)) c.in_ok-make_room_for.ensures.kept
    c.put.ensures.text
    printed in
    let text = ap (λ w. take at old.items ++ print_text w) c.as_bytes-bytes.ensures.value in
    let closed = c.append_escaped in
    let within : at ≤ length old.items = omega (arith, old.ok.0) in
    let quote = text-after old.items roomy.items laid bytes at within
    (omega (arith, roomy.ok.0, c.in_ok-make_room_for.ensures.room)) c.in_ok-make_room_for.ensures.kept
    c.put.ensures.text
    [] in
    record {
      text =
          IfOk-weaker closed.result (Appends laid closed.new.line.items (at + 1) printed)
          (Appends old.items closed.new.line.items at (print_text c.args.text.now))
          (λ end h. (h.0 ∙ after ∙ text, h.1)) closed.ensures.text;
      kept =
          on_err_weaker closed.result
          (λ same. kept-through old.items laid closed.new.line.items (34 ∷ []) at (at + 1) within
          (sym (append-nil (take (at + 1) laid)) ∙ quote) same)
          closed.ensures.kept;
    }
