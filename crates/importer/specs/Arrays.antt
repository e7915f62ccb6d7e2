-- What becomes of an array that is read item by item.
use Rattle.std.specs.Prelude.{◌≡◌, ℕ, false, List, Option}
use Rattle.jiter_steps.specs.Tree.{Items, Tree}
use Rattle.jiter_print.specs.Print.{print_of, with_line_feed}
use Rattle.json_lines.specs.ArrayWritten.{WritesArray}
use Rattle.json_lines.specs.ItemsLaw.{IsArrayOf}
use Rattle.json_lines.specs.ItemsWritten.{WritesItems}
use Rattle.json_lines.specs.declared.log.Counts.{Counts}
use Rattle.importer.specs.Line.{Becomes}
use Rattle.importer.specs.declared.import.Importer.{Importer}

-- a value's compact text, on a line of its own
abbrev pub line_of : Tree → List ℕ
line_of value = with_line_feed (print_of value)

-- Where duplicate keys are kept, the compact text of each value of an array is written, and nothing is reported.
abbrev pub IsArrayImported : Type 0
IsArrayImported = (name : List ℕ) (first : ℕ) (t : List ℕ) (values : Items) (counts : Counts)
    (out out' err err' bad bad' : Option (List ℕ)) → IsArrayOf false t values
    → WritesItems (Becomes (record { unique = false })) name first t counts out out' err err' bad bad'
    → WritesArray line_of values counts out out' err err' bad bad'

-- An input without an error is an array.
abbrev pub IsNoOtherImported : Type 0
IsNoOtherImported = (importer : Importer) (name : List ℕ) (first : ℕ) (t : List ℕ) (counts : Counts)
    (out out' err err' bad bad' : Option (List ℕ))
    → WritesItems (Becomes importer) name first t counts out out' err err' bad bad' → counts.refused ≡ 0
    → (values : Items) × IsArrayOf false t values
