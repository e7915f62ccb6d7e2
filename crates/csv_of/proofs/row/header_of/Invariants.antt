use Rattle.std.proofs.Common.{◌≡◌, drop}
use Rattle.csv_of.specs.Row.{header_of, names_after}
use Rattle.csv_of.proofs.row.header_of.Given as goal

abbrev pub invariant-loop-column : goal.invariant-loop-column
invariant-loop-column l = names_after l.columns.separator (drop l.column-index l.columns.others.items) l.row.items ≡ header_of l.columns
