-- The lines of a log, and what is written of each.
use Rattle.std.specs.Prelude.{◌≡◌, ℕ, ◌+◌, ◌==◌, ◌⊎◌, List, [], ◌∷◌, ◌++◌, if◌then◌else◌, map, Option, Some, None}
use Rattle.std.specs.List.{All}
use Rattle.std.specs.Io.BufRead.{strip_last}
use Rattle.std.specs.Io.KnownBytes.{Appends}
use Rattle.jiter_print.specs.Print.{with_line_feed}
use Rattle.jiter_print.specs.Written.{AppendsPrefix}
use Rattle.json_lines.specs.Line.{Seen, cause_in, refusal_text, refused, written}
use Rattle.json_lines.specs.declared.log.Counts.{Counts}

-- the lines, with one byte more before the first
abbrev pub with_first : ℕ → List (List ℕ) → List (List ℕ)
with_first b [] = (b ∷ []) ∷ []
with_first b (l ∷ ls) = (b ∷ l) ∷ ls

-- The lines of a text, each with the line feed at its end; the last one may have none.
abbrev pub raw_lines : List ℕ → List (List ℕ)
raw_lines [] = []
raw_lines (b ∷ bs) = if b == 10 then (b ∷ []) ∷ raw_lines bs else with_first b (raw_lines bs)

-- a line without the `\n` or `\r\n` at its end
abbrev pub chomp : List ℕ → List ℕ
chomp line = strip_last 13 (strip_last 10 line)

-- no byte but a space, a tab, a line feed or a carriage return
abbrev pub IsBlankLine : List ℕ → Type 0
IsBlankLine line = All (λ b. (b ≡ 32) ⊎ (b ≡ 9) ⊎ (b ≡ 10) ⊎ (b ≡ 13)) line

-- a line as it is in the log, and what it becomes; none where it is passed over
pub record Answer : Type 0 where
  pub line : List ℕ
  pub outcome : Option Seen

-- Lines of whitespace are passed over, and no others.
abbrev pub IsRight : (List ℕ → Seen → Type 0) → List ℕ → Option Seen → Type 0
IsRight becomes line None = IsBlankLine line
IsRight becomes line (Some o) = (IsBlankLine line → ⊥) × becomes line o

-- what is written of a line to the output
abbrev pub text_of : Option Seen → List ℕ
text_of (Some (written text)) = text
text_of o = []

-- a line with a line feed at its end
abbrev pub ended : List ℕ → List ℕ
ended line = with_line_feed (strip_last 10 line)

-- what is kept of a line: all of it, if it has an error
abbrev pub kept_of : List ℕ → Option Seen → List ℕ
kept_of line (Some (refused column cause)) = ended line
kept_of line o = []

-- what is reported of a line
abbrev pub refusal_of : List ℕ → ℕ → List ℕ → Option Seen → List ℕ
refusal_of name number line (Some (refused column cause)) = refusal_text name number column (cause_in line cause)
refusal_of name number line o = []

abbrev pub texts_in : Option Seen → ℕ
texts_in (Some (written text)) = 1
texts_in o = 0

abbrev pub refusals_in : Option Seen → ℕ
refusals_in (Some (refused column cause)) = 1
refusals_in o = 0

-- the texts of these lines, in their order
abbrev pub texts_of : List Answer → List ℕ
texts_of [] = []
texts_of (a ∷ more) = text_of a.outcome ++ texts_of more

-- the reports of these lines, in their order, where the first of them has this number
abbrev pub refusals_from : List ℕ → ℕ → List Answer → List ℕ
refusals_from name number [] = []
refusals_from name number (a ∷ more) =
    refusal_of name number (chomp a.line) a.outcome ++ refusals_from name (number + 1) more

-- the lines with an error, in their order
abbrev pub kept_from : List Answer → List ℕ
kept_from [] = []
kept_from (a ∷ more) = kept_of a.line a.outcome ++ kept_from more

-- how many of these lines have a text
abbrev pub texts_among : List Answer → ℕ
texts_among [] = 0
texts_among (a ∷ more) = texts_in a.outcome + texts_among more

-- how many of these lines have an error
abbrev pub refusals_among : List Answer → ℕ
refusals_among [] = 0
refusals_among (a ∷ more) = refusals_in a.outcome + refusals_among more

-- known bytes stay at the front of others
abbrev pub Grows : Option (List ℕ) → Option (List ℕ) → Type 0
Grows old new = (bs : List ℕ) × Appends old new bs

-- What is written of a whole log, whose first line has this number: what became of each of its lines, in their order.
pub record WritesAll (becomes : List ℕ → Seen → Type 0) (name : List ℕ) (first : ℕ) (t : List ℕ) (counts : Counts)
    (out out' err err' bad bad' : Option (List ℕ)) : Type 0 where
  pub answers : List Answer
  pub lines : map (λ a. a.line) answers ≡ raw_lines t
  pub right : All (λ a. IsRight becomes (chomp a.line) a.outcome) answers
  pub texts : Appends out out' (texts_of answers)
  pub refusals : Appends err err' (refusals_from name first answers)
  pub kept : Appends bad bad' (kept_from answers)
  pub texts_counted : counts.texts ≡ texts_among answers
  pub refusals_counted : counts.refused ≡ refusals_among answers

-- a prefix of what is written of its first lines
pub record WritesPart (becomes : List ℕ → Seen → Type 0) (name : List ℕ) (first : ℕ) (t : List ℕ)
    (out out' err err' bad bad' : Option (List ℕ)) : Type 0 where
  pub answers : List Answer
  pub others : List (List ℕ)
  pub lines : map (λ a. a.line) answers ++ others ≡ raw_lines t
  pub right : All (λ a. IsRight becomes (chomp a.line) a.outcome) answers
  pub texts : AppendsPrefix out out' (texts_of answers)
  pub refusals : AppendsPrefix err err' (refusals_from name first answers)
  pub kept : AppendsPrefix bad bad' (kept_from answers)
