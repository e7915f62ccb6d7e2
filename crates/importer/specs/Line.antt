-- What becomes of a line.
use Rattle.std.specs.Prelude.{◌≡◌, ℕ, ◌+◌, Bool, false, List, if◌then◌else◌}
use Rattle.jiter_scan.specs.Kind.{kind_text}
use Rattle.jiter_scan.specs.declared.partial_mode.PartialMode.{PartialMode}
use Rattle.jiter_steps.specs.Answer.{answer_in}
use Rattle.jiter_steps.specs.Read.{Reading, done, fault}
use Rattle.jiter_steps.specs.Tree.{Tree}
use Rattle.jiter_steps.specs.Unique.{unique_answer_in}
use Rattle.jiter_print.specs.Print.{print_of, with_line_feed}
use Rattle.json_lines.specs.Line.{Seen, refused, written}
use Rattle.importer.specs.declared.import.Importer.{Importer}

-- what a line is read as, a repeated key refused or kept
abbrev pub reading_of : Bool → List ℕ → Reading Tree
reading_of unique line =
    if unique then unique_answer_in false PartialMode.Off line else answer_in false PartialMode.Off line

-- a document is written; any other line is refused for its first error, its first byte being in column 1
abbrev pub outcome_of : Reading Tree → Seen
outcome_of (done v e) = written (with_line_feed (print_of v))
outcome_of (fault k i stop) = refused (i + 1) (kind_text k)

abbrev pub Becomes : Importer → List ℕ → Seen → Type 0
Becomes importer line o = o ≡ outcome_of (reading_of importer.unique line)
