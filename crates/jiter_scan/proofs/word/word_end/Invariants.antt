use Rattle.jiter_scan.proofs.Words.{◌≡◌, ◌+◌, ◌≤◌, length, drop, word_at}
use Rattle.jiter_scan.proofs.word.word_end.Given as goal

abbrev pub invariant-loop-expected : goal.invariant-loop-expected
invariant-loop-expected l = record {
  place : l.index ≡ l.from + l.expected-index;
  within : l.index ≤ length l.bytes;
  same : word_at l.bytes l.word l.from ≡ word_at l.bytes (drop l.expected-index l.word) l.index;
}
