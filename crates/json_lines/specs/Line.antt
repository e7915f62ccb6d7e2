-- What becomes of a line, and how an error is reported.
use Rattle.std.specs.Prelude.{ℕ, List, [], ◌∷◌, ◌++◌, codes, decimal, if◌then◌else◌, nat_eq, string_bytes}
use Rattle.std.specs.List.{starts_with}
use Rattle.jiter_print.specs.Print.{with_line_feed}
use Rattle.json_lines.specs.declared.line.Outcome.{Outcome}
use Rattle.json_lines.specs.declared.line.Outcome.TheVariants as outcome

-- a text is written; or there is an error in a column, for a cause
pub data Seen : Type 0 where
  written : List ℕ → Seen
  refused : ℕ → List ℕ → Seen

-- what the code returns
abbrev pub seen : Outcome → Seen
seen (outcome.Text text) = written text.items
seen (outcome.Refused column cause) = refused column (string_bytes cause)

-- the cause that is reported; a byte order mark at the start is named
abbrev pub cause_in : List ℕ → List ℕ → List ℕ
cause_in text cause = if starts_with nat_eq text (239 ∷ 187 ∷ 191 ∷ []) then codes "byte order mark" else cause

-- `NAME:LINE:COLUMN: CAUSE`
abbrev pub refusal_text : List ℕ → ℕ → ℕ → List ℕ → List ℕ
refusal_text name line column cause =
    name ++ (codes ":" ++ (decimal line ++ (codes ":" ++ (decimal column ++ (codes ": " ++ with_line_feed cause)))))
