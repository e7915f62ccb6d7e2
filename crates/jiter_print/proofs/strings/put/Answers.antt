use Rattle.std.proofs.Common.{◌+◌, ◌++◌, ◌∙◌, ap, arith, length, take, drop, take_at}
use Rattle.jiter_print.proofs.strings.put.Goals as goal

pub returns-clause-text : goal.returns-clause-text
returns-clause-text c =
    let room = c.place_text.new.room in
    let items = c.args.line.now.items in
    let whole = take_at room (drop (length room) items) c.args.line.now.len (omega (arith, c.place_text.ensures.len)) in
    ap (take (c.args.count + length c.args.bytes.now)) whole ∙ c.place_text.ensures.text
    ∙ ap (λ l. take c.args.count l ++ c.args.bytes.now) c.as_mut_slice.ensures.value
