use Rattle.std.proofs.Common.{◌≡◌, ◌≤◌, ◌∷◌, ◌++◌, [], length}
use Rattle.csv_of.proofs.Quotes.{doubled}
use Rattle.csv_of.proofs.row.push_quoted.Given as goal

abbrev pub invariant-loop-at : goal.invariant-loop-at
invariant-loop-at l =
    (l.row.items ++ doubled l.rest ≡ (l.fn.row.items ++ 34 ∷ []) ++ doubled l.text) × (length l.rest ≤ length l.text)

abbrev pub decreases-loop-at : goal.decreases-loop-at
decreases-loop-at l = length l.rest
