use Rattle.std.proofs.Common.{◌≡◌, drop}
use Rattle.json_screen.specs.Report.{next_document}
use Rattle.json_screen.proofs.report.next_document.Given as goal

abbrev pub invariant-loop-i : goal.invariant-loop-i
invariant-loop-i l = next_document 0 l.text ≡ next_document l.i (drop l.i l.text)
