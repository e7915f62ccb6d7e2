-- What is written of a document, or of its error.
use Rattle.std.specs.Prelude.{◌≡◌, ℕ, Bool, true, false, List, [], ◌++◌, Option, Some, None, Result, Ok, Err, codes}
use Rattle.std.specs.Prelude.{string_bytes}
use Rattle.std.specs.Io.KnownBytes.{Keeps, Appends}
use Rattle.jiter.specs.Caller.{Reading, done, fault, Tree, pointed_by}
use Rattle.jiter_print.specs.Layout.{pretty_of}
use Rattle.jiter_print.specs.Print.{print_of, with_line_feed}
use Rattle.jiter_print.specs.Printed.{IsLineOf}
use Rattle.jiter_print.specs.Written.{AppendsPrefix}
use Rattle.json_screen.specs.Report.{parse_text}
use Rattle.format.specs.declared.document.Format.{Format}
use Rattle.format.specs.declared.document.Outcome.{Outcome}
use Rattle.format.specs.declared.document.Outcome.TheVariants as outcome
use Rattle.format.specs.declared.document.Style.{Style}
use Rattle.format.specs.declared.document.Style.TheVariants as style

-- to standard output, or an error to standard error
pub data Seen : Type 0 where
  written : List ℕ → Seen
  refused : List ℕ → Seen

abbrev pub seen : Outcome → Seen
seen (outcome.Text text) = written text.items
seen (outcome.Refused report) = refused (string_bytes report)

-- the text of a value
abbrev pub text_in : Style → Tree → List ℕ
text_in style.Pretty v = with_line_feed (pretty_of 2 v)
text_in style.Compact v = with_line_feed (print_of v)
text_in style.Silent v = []

-- an error, unless nothing is written
abbrev pub report_in : Style → List ℕ → List ℕ
report_in style.Pretty report = report
report_in style.Compact report = report
report_in style.Silent report = []

-- by what the pointer leads to, if it leads anywhere
abbrev pub part_outcome : Format → List ℕ → Option Tree → Seen
part_outcome f name (Some v) = written (text_in f.style v)
part_outcome f name None =
    refused (report_in f.style (name ++ (codes ": no value at " ++ with_line_feed f.pointer.now)))

-- by what is read: the part of a document, or the first error with its line, column and cause
abbrev pub outcome_of : Format → (name t : List ℕ) → Reading Tree → Seen
outcome_of f name t (done v end) = part_outcome f name (pointed_by f.pointer.now v)
outcome_of f name t (fault kind index stop) = refused (report_in f.style (parse_text name t index kind))

-- The text of a value is a document of this value again.
abbrev pub IsTextAgain : Style → Tree → Type 0
IsTextAgain style.Pretty v = IsLineOf false v (text_in style.Pretty v)
IsTextAgain style.Compact v = IsLineOf false v (text_in style.Compact v)
IsTextAgain style.Silent v = Unit {0}

-- What the two writers hold after a run that returned: the output in its own, a prefix of it after an error, and nothing new
-- in the other.
abbrev pub Wrote : {E : Type 0} → Seen → Result Bool E → Option (List ℕ) → Option (List ℕ) → Option (List ℕ)
    → Option (List ℕ) → Type 0
Wrote (written text) (Ok is_clean) out out' err err' = (is_clean ≡ true) × Appends out out' text × Keeps err err'
Wrote (written text) (Err e) out out' err err' = AppendsPrefix out out' text × Keeps err err'
Wrote (refused text) (Ok is_clean) out out' err err' = (is_clean ≡ false) × Keeps out out' × Appends err err' text
Wrote (refused text) (Err e) out out' err err' = Keeps out out' × AppendsPrefix err err' text
