use Rattle.std.proofs.Common.{◌≤◌, vec_items, vec_len}
use Rattle.std.specs.Io.Buffered.{reader_remaining}
use Rattle.std.specs.Io.KnownBytes.{Consumes}
use Rattle.json_lines.specs.Items.{outside}
use Rattle.json_lines.specs.ItemsRead.{Passes, depth_of, place_of}
use Rattle.json_lines.proofs.array.read_piece.Given as goal

abbrev pub invariant-loop : goal.invariant-loop
invariant-loop g l =
    Passes (outside 0) (vec_items l.buffer) (place_of l.state)
    × (depth_of l.state ≤ vec_len l.buffer)
    × Consumes (reader_remaining g.R.Read.remaining l.initial.reader) (reader_remaining g.R.Read.remaining l.reader) (vec_items l.buffer)
