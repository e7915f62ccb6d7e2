-- What is written of the items of an array.
use Rattle.std.specs.Prelude.{◌≡◌, ℕ, ◌+◌, ◌-◌, List, [], ◌∷◌, ◌++◌, map, min, length, take, count_by, Option, Some}
use Rattle.std.specs.List.{All}
use Rattle.std.specs.Io.KnownBytes.{Appends}
use Rattle.jiter_print.specs.Print.{with_line_feed}
use Rattle.jiter_print.specs.Written.{AppendsPrefix}
use Rattle.jiter_scan.specs.Position.{column_of, is_newline}
use Rattle.jiter_scan.specs.declared.errors.LinePosition.{LinePosition}
use Rattle.json_lines.specs.Items.{Part, item, wrong, parts}
use Rattle.json_lines.specs.Line.{Seen, cause_in, refusal_text, refused, written}
use Rattle.json_lines.specs.Log.{refusals_in, text_of, texts_in}
use Rattle.json_lines.specs.declared.log.Counts.{Counts}

-- The line and column of an index of an input: its first line has this number, and columns count from 1, in bytes.
abbrev pub position_at : ℕ → List ℕ → ℕ → LinePosition
position_at first t i = record { line = first + count_by is_newline (take i t); column = 1 + column_of (take i t) }

-- a part, and what it becomes
pub record Answer : Type 0 where
  pub part : Part
  pub outcome : Seen

abbrev pub IsRight : (List ℕ → Seen → Type 0) → Part → Seen → Type 0
IsRight becomes (item i bs) o = becomes bs o
IsRight becomes (wrong i cause kept) o = o ≡ refused 1 cause

-- the index of a part's error; that of an item by its column there, at most at the item's end
abbrev pub error_index : Part → ℕ → ℕ
error_index (item i bs) column = i + min (column - 1) (length bs)
error_index (wrong i cause kept) column = i

-- the cause that is reported; a byte order mark at the start of an item is named
abbrev pub named_cause : Part → List ℕ → List ℕ
named_cause (item i bs) cause = cause_in bs cause
named_cause (wrong i c kept) cause = cause

abbrev pub report_at : List ℕ → LinePosition → List ℕ → List ℕ
report_at name p cause = refusal_text name p.line p.column cause

-- what is reported of a part, where this is the position of each index
abbrev pub report_of : List ℕ → (ℕ → LinePosition) → Part → Seen → List ℕ
report_of name at part (refused column cause) = report_at name (at (error_index part column)) (named_cause part cause)
report_of name at part (written text) = []

-- with a line feed, if there are any bytes
abbrev pub kept_line : List ℕ → List ℕ
kept_line [] = []
kept_line (b ∷ bs) = with_line_feed (b ∷ bs)

abbrev pub kept_bytes : Part → List ℕ
kept_bytes (item i bs) = bs
kept_bytes (wrong i cause kept) = kept

-- what is kept of a part, if it has an error
abbrev pub kept_of : Part → Seen → List ℕ
kept_of part (refused column cause) = kept_line (kept_bytes part)
kept_of part (written text) = []

-- ---- of all these parts, in their order
abbrev pub texts_of : List Answer → List ℕ
texts_of [] = []
texts_of (a ∷ more) = text_of (Some a.outcome) ++ texts_of more

abbrev pub reports_of : List ℕ → (ℕ → LinePosition) → List Answer → List ℕ
reports_of name at [] = []
reports_of name at (a ∷ more) = report_of name at a.part a.outcome ++ reports_of name at more

abbrev pub kept_from : List Answer → List ℕ
kept_from [] = []
kept_from (a ∷ more) = kept_of a.part a.outcome ++ kept_from more

abbrev pub texts_among : List Answer → ℕ
texts_among [] = 0
texts_among (a ∷ more) = texts_in (Some a.outcome) + texts_among more

abbrev pub refusals_among : List Answer → ℕ
refusals_among [] = 0
refusals_among (a ∷ more) = refusals_in (Some a.outcome) + refusals_among more

-- What is written of these parts: what became of each of them, in their order.
pub record WritesParts (becomes : List ℕ → Seen → Type 0) (name : List ℕ) (at : ℕ → LinePosition) (ps : List Part)
    (counts : Counts) (out out' err err' bad bad' : Option (List ℕ)) : Type 0 where
  pub answers : List Answer
  pub parts : map (λ a. a.part) answers ≡ ps
  pub right : All (λ a. IsRight becomes a.part a.outcome) answers
  pub texts : Appends out out' (texts_of answers)
  pub reports : Appends err err' (reports_of name at answers)
  pub kept : Appends bad bad' (kept_from answers)
  pub texts_counted : counts.texts ≡ texts_among answers
  pub refusals_counted : counts.refused ≡ refusals_among answers

-- a prefix of what is written of the first of them
pub record WritesPartly (becomes : List ℕ → Seen → Type 0) (name : List ℕ) (at : ℕ → LinePosition) (ps : List Part)
    (out out' err err' bad bad' : Option (List ℕ)) : Type 0 where
  pub answers : List Answer
  pub others : List Part
  pub parts : map (λ a. a.part) answers ++ others ≡ ps
  pub right : All (λ a. IsRight becomes a.part a.outcome) answers
  pub texts : AppendsPrefix out out' (texts_of answers)
  pub reports : AppendsPrefix err err' (reports_of name at answers)
  pub kept : AppendsPrefix bad bad' (kept_from answers)

-- What is written of an input that is an array, whose first line has this number.
abbrev pub WritesItems : (List ℕ → Seen → Type 0) → List ℕ → ℕ → List ℕ → Counts → Option (List ℕ) → Option (List ℕ)
    → Option (List ℕ) → Option (List ℕ) → Option (List ℕ) → Option (List ℕ) → Type 0
WritesItems becomes name first t = WritesParts becomes name (position_at first t) (parts t)

abbrev pub WritesItemsPart : (List ℕ → Seen → Type 0) → List ℕ → ℕ → List ℕ → Option (List ℕ) → Option (List ℕ)
    → Option (List ℕ) → Option (List ℕ) → Option (List ℕ) → Option (List ℕ) → Type 0
WritesItemsPart becomes name first t = WritesPartly becomes name (position_at first t) (parts t)
