use Rattle.std.proofs.Common.{◌≡◌, ◌+◌, drop, not}
use Rattle.std.specs.List.{prefix_len}
use Rattle.jiter_scan.specs.Position.{is_newline}
use Rattle.json_screen.proofs.report.line_len.Given as goal

abbrev pub invariant-loop-i : goal.invariant-loop-i
invariant-loop-i l =
    prefix_len (λ b. not (is_newline b)) l.bytes ≡ l.i + prefix_len (λ b. not (is_newline b)) (drop l.i l.bytes)
