use Rattle.std.proofs.Common.{◌≡◌, ◌==◌, ◌≤◌, count_by, take}
use Rattle.json_lines.proofs.progress.line_feeds.Given as goal

abbrev pub invariant-loop-byte : goal.invariant-loop-byte
invariant-loop-byte l =
    (l.feeds ≤ l.byte-index) × (l.feeds ≡ count_by (λ byte. byte == 10) (take l.byte-index l.bytes))
