use Rattle.jiter_scan.proofs.Words.{◌≡◌, length, take, arith, length-take-le, take_more_put_chunk}
use Rattle.jiter_print.proofs.buffer.place_prefix.Goals as goal

pub returns-clause-text : goal.returns-clause-text
returns-clause-text g c =
    let prefix = take g.row.N c.args.text.now in
    let long : length prefix ≡ g.row.N = length-take-le g.row.N c.args.text.now c.requires.some in
    take_more_put_chunk c.args.at c.args.room.now prefix _ (omega arith) c.requires.room
