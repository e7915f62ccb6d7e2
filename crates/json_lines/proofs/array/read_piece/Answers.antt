use Rattle.json_lines.specs.ItemsRead.{end_bytes, place_of}
use Rattle.json_lines.proofs.Scanning.{bytes-taken, known-before, no-end, piece-goes-on, takes-piece}
use Rattle.json_lines.proofs.array.read_piece.Goals as goal

pub loop-preserved : goal.loop-preserved
loop-preserved g c =
    let step = c.in_ok-ended.ensures in
    let held = c.loop.invariant in
    let taken = bytes-taken _ _ _ c.loop.buffer.items c.append_piece.new.buffer.items (end_bytes c.in_ok-ended.field-0) step.grows held.2 step.bytes in (
      piece-goes-on (place_of c.loop.state) (place_of c.append_piece.new.state) c.loop.buffer.items c.append_piece.new.buffer.items step.grows held.0 step.passes,
      step.depth,
      no-end _ _ c.append_piece.new.buffer.items c.in_ok-ended.field-0 c.in_default.is taken,
    )

pub returns-in-Some : goal.returns-in-Some
returns-in-Some g c =
    let step = c.in_ok-ended.ensures in
    let held = c.loop.invariant in
    let bytes = rw c.in-Some.is at step.bytes in
    let ends = rw c.in-Some.is at step.ends in
    let passes =
    piece-goes-on (place_of c.loop.state) (place_of c.append_piece.new.state) c.loop.buffer.items c.append_piece.new.buffer.items step.grows held.0 step.passes in
    let taken = bytes-taken _ _ _ c.loop.buffer.items c.append_piece.new.buffer.items _ step.grows held.2 bytes in
    takes-piece (place_of c.append_piece.new.state) c.in-Some.ended c.append_piece.new.buffer.items _ _ passes taken (known-before _ _ _ _ held.2 ends)
