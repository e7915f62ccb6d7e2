use Rattle.jiter_steps.proofs.Words.{length, List, ℕ, ◌≡◌, ◌-◌, ◌<◌, ◌≤◌, ◌++◌, None, true, slice_index, slice_range, HasTaken}
use Rattle.jiter_scan.specs.Ascii as ascii
use Rattle.jiter_scan.specs.Scan.{is_stop}
use Rattle.jiter_steps.proofs.partial_string.PartialString.next.Given as goal

abbrev pub invariant-turning : goal.invariant-turning
invariant-turning l = record {
  after : l.at ≤ l.end;
  within : l.end < length l.chunk;
  none : l.self.escape ≡ None;
  goes_on : is_stop (slice_index l.chunk l.end) ≡ true → slice_index l.chunk l.end ≡ ascii.backslash;
  same : l.end ≡ l.at → l.self ≡ l.initial.self;
  taken : (w : List ℕ) → HasTaken l.initial.self w → HasTaken l.self (w ++ slice_range l.chunk l.at l.end);
}

abbrev pub decreases-turning : goal.decreases-turning
decreases-turning l = length l.chunk - l.end
