use Rattle.jiter_incremental.proofs.Words.{◌≡◌, ◌+◌, ◌≤◌, take}
use Rattle.jiter_incremental.proofs.LinePlaces.{Place, at_start, place_in}
use Rattle.jiter_incremental.proofs.line_index.position_in.Given as goal

abbrev pub invariant-loop-feed : goal.invariant-loop-feed
invariant-loop-feed l = record {
  place : ◌≡◌ {A = Place} (record { line = l.line; begin = l.begin }) (place_in l.end at_start (take l.feed-index l.feeds));
  line_low : l.line ≤ l.feed-index + 1;
  begin_low : l.begin ≤ l.end;
}
