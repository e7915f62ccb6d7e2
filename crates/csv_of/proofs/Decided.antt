-- What becomes of a line is decided.
use Rattle.std.proofs.Common.{◌∙◌, sym}
use Rattle.json_lines.specs.Cut.{IsDecided}
use Rattle.csv_of.specs.Row.{Becomes}
use Rattle.csv_of.specs.declared.columns.Columns.{Columns}

pub decided : (columns : Columns) → IsDecided (Becomes columns)
decided columns line o o' p q = p ∙ sym q
