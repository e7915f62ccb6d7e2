use Rattle.jiter_scan.proofs.Words.{◌-◌, length, arith, take_rest}
use Rattle.jiter_print.proofs.OverlaidTexts.{ends-placed}
use Rattle.jiter_print.proofs.buffer.place_ends.Goals as goal

pub returns-clause-text : goal.returns-clause-text
returns-clause-text g c =
    let text = c.args.text.now in
    let covers = c.requires.covers in
    ends-placed c.args.room.now c.place_prefix.new.room c.place_prefix-2.new.room text c.args.at g.row.N (omega arith)
    covers.0 covers.1 c.place_prefix.ensures.text
    (rw (take_rest text (length text - g.row.N)) at c.place_prefix-2.ensures.text)
