use Rattle.jiter_scan.proofs.Words.{◌≡◌, ◌-◌, ◌≤◌, length, slice_range, decimal_of, digit_run_end}
use Rattle.jiter_scan.proofs.number.fast_number.last_integer_at.Given as goal

abbrev pub invariant-digits : goal.invariant-digits
invariant-digits l = record {
  above : l.at ≤ l.end;
  within : l.end ≤ length l.bytes;
  run : digit_run_end l.bytes l.at ≡ digit_run_end l.bytes l.end;
  value : l.magnitude ≡ decimal_of (slice_range l.bytes l.at l.end);
}

abbrev pub decreases-digits : goal.decreases-digits
decreases-digits l = length l.bytes - l.end
