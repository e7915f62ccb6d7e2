use Rattle.jiter_steps.proofs.Words.{length, ◌-◌, ◌≡◌, ◌≤◌, past_blanks}
use Rattle.jiter_steps.proofs.whitespace.blanks_end.Given as goal

abbrev pub invariant-chunks : goal.invariant-chunks
invariant-chunks l = record {
  above : l.from ≤ l.at;
  within : l.at ≤ length l.bytes;
  run : past_blanks l.bytes l.from ≡ past_blanks l.bytes l.at;
}

abbrev pub decreases-chunks : goal.decreases-chunks
decreases-chunks l = length l.bytes - l.at

abbrev pub invariant-bytes : goal.invariant-bytes
invariant-bytes l = record {
  above : l.from ≤ l.at;
  within : l.at ≤ length l.bytes;
  run : past_blanks l.bytes l.from ≡ past_blanks l.bytes l.at;
}

abbrev pub decreases-bytes : goal.decreases-bytes
decreases-bytes l = length l.bytes - l.at
