use Rattle.json_lines.proofs.Cases.{tail-part, tail-whole}
use Rattle.json_lines.proofs.Known.{if-err}
use Rattle.json_lines.proofs.items.end_input.Goals as goal

pub returns-in_err-write_error-clause-part : goal.returns-in_err-write_error-clause-part
returns-in_err-write_error-clause-part g c =
    let read = rw c.in-Some.is at (rw c.in_ok-position.ensures at c.in_ok-next_visible.ensures) in
    if-err c.from_residual-in_err-write_error.result
    (tail-part _ _ c.args.name.now c.args.position.now c.next_visible.new.position c.in-Some.field-0 read _ _ c.in_err-write_error.ensures.part)

pub returns-clause-all : goal.returns-clause-all
returns-clause-all g c =
    let read = rw c.in-Some.is at (rw c.in_ok-position.ensures at c.in_ok-next_visible.ensures) in
    tail-whole _ _ c.args.name.now c.args.position.now c.next_visible.new.position c.in-Some.field-0 read _ _ c.in_ok-write_error.ensures.whole
