use Rattle.jiter_scan.proofs.Words.{◌-◌, ◌∙◌, ap, arith, drop, sym, take, take-take}
use Rattle.jiter_scan.proofs.bytes.decode_buffer.put_first.Goals as goal

pub returns-then-len-ge32-clause-text : goal.returns-then-len-ge32-clause-text
returns-then-len-ge32-clause-text c =
    let n = c.args.stop - c.args.from in
    sym (take-take n 16 c.put_sixteen.new.buffer.items (omega arith)) ∙ ap (take n) c.put_sixteen.ensures.text
    ∙ take-take n 16 (drop c.args.from c.args.bytes.now) (omega arith)
