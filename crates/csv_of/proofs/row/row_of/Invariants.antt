use Rattle.std.proofs.Common.{◌≡◌, drop}
use Rattle.jiter.specs.Caller.{view}
use Rattle.csv_of.specs.Row.{row_after, row_of}
use Rattle.csv_of.proofs.row.row_of.Given as goal

abbrev pub invariant-loop-column : goal.invariant-loop-column
invariant-loop-column l =
    row_after l.columns.nested l.columns.separator (drop l.column-index l.columns.others.items) (view l.object) l.row.items
    ≡ row_of l.columns (view l.object)
