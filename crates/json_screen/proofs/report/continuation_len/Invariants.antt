use Rattle.std.proofs.Common.{◌≡◌, ◌+◌, drop}
use Rattle.std.specs.List.{prefix_len}
use Rattle.json_screen.specs.Report.{is_continuation}
use Rattle.json_screen.proofs.report.continuation_len.Given as goal

abbrev pub invariant-loop-i : goal.invariant-loop-i
invariant-loop-i l = prefix_len is_continuation l.bytes ≡ l.i + prefix_len is_continuation (drop l.i l.bytes)
