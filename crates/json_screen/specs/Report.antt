-- Why an input is no document, as its reader is told.
use Rattle.std.specs.Prelude.{◌≡◌, ℕ, ◌+◌, ◌-◌, Bool, List, [], ◌∷◌, ◌++◌, if◌then◌else◌, codes, decimal, drop, length, min}
use Rattle.std.specs.Prelude.{nat_eq, not, string_bytes, take, Option, Some, None}
use Rattle.std.specs.Int.{is_in_range}
use Rattle.std.specs.List.{prefix_len, repeat, starts_with}
use Rattle.jiter.specs.Caller.{Reading, done, fault, Tree, answer, kind_text}
use Rattle.jiter_scan.specs.Kind.{Kind, trailing_characters}
use Rattle.jiter_scan.specs.Position.{column_of, is_newline, line_of}
use Rattle.jiter_steps.specs.Blank.{is_blank}
use Rattle.json_screen.specs.Parts.{is_open, parts_of}
use Rattle.json_screen.specs.Rows.{empty_row, endless, put_bytes}
use Rattle.json_screen.specs.declared.report.Cause.{Cause}

-- a byte order mark
abbrev pub has_mark : List ℕ → Bool
has_mark t = starts_with nat_eq t (239 ∷ 187 ∷ 191 ∷ [])

-- where another document begins in a text that is counted from i, with only whitespace before it
abbrev pub next_document : ℕ → List ℕ → Option ℕ
next_document i [] = None
next_document i (b ∷ bs) = if is_open b then Some i else (if is_blank b then next_document (i + 1) bs else None)

-- an error after the document, whose end is given
abbrev pub trailing_error : ℕ → Option ℕ → Option (ℕ × List ℕ)
trailing_error end None = None
trailing_error end (Some i) = Some (end + i, kind_text trailing_characters)

-- the index of an error in the document, and its cause, or those of what follows
abbrev pub document_error : ℕ → Reading Tree → Option (ℕ × List ℕ) → Option (ℕ × List ℕ)
document_error begin (done v e) after = after
document_error begin (fault k i stop) after = Some (begin + i, kind_text k)

-- the same for the input
abbrev pub error_of : Bool → List ℕ → Option (ℕ × List ℕ)
error_of names t =
    let p = parts_of t in
    let begin = length p.before in
    if has_mark t then Some (0, codes "byte order mark")
    else document_error begin (answer names p.inside) (trailing_error (begin + length p.inside) (next_document 0 p.after))

abbrev pub cause_seen : Cause → ℕ × List ℕ
cause_seen c = (c.index, string_bytes c.text)

-- a byte of a character after its first one
abbrev pub is_continuation : ℕ → Bool
is_continuation b = is_in_range 128 191 b

-- of the bytes before an error, at most the last 59 of its line, from a character's first byte on
abbrev pub excerpt_before : List ℕ → ℕ → List ℕ
excerpt_before bs column =
    let last = drop (length bs - min 59 column) bs in
    drop (prefix_len is_continuation last) last

-- the bytes before a line feed
abbrev pub line : List ℕ → List ℕ
line bs = take (prefix_len (λ b. not (is_newline b)) bs) bs

-- of the bytes from an error on, at most the first 20 of its line, and at most three more that complete the last character
abbrev pub excerpt_after : List ℕ → List ℕ
excerpt_after bs = take (20 + prefix_len is_continuation (take 3 (drop 20 (line bs)))) (line bs)

-- one row with no end, and a caret below the column in which the second part begins
abbrev pub excerpt : List ℕ → List ℕ → List ℕ
excerpt first second =
    let r = put_bytes endless (empty_row endless) first in
    (put_bytes endless r second).text ++ (codes "\n" ++ (repeat (endless - r.left) (codes " ") ++ codes "^\n"))

-- the byte of an error; at the end of the input it is the last one
abbrev pub error_byte : List ℕ → ℕ → ℕ
error_byte t index = min index (length t - 1)

-- `NAME:LINE:COLUMN: CAUSE`, of the byte, from 1, where a line feed is the last byte of its line; what is around the byte
-- in its line, and a caret below it
abbrev pub error_text : List ℕ → List ℕ → ℕ → List ℕ → List ℕ
error_text name t index cause =
    let before = take (error_byte t index) t in
    let around = excerpt (excerpt_before before (column_of before)) (excerpt_after (drop (error_byte t index) t)) in
    name ++ (codes ":" ++ (decimal (line_of before) ++ (codes ":" ++ (decimal (column_of before + 1) ++ (codes ": "
    ++ (cause ++ (codes "\n" ++ around)))))))

-- the cause of an error in bytes that are read as one document; a byte order mark at the start is named
abbrev pub parse_cause : List ℕ → Kind → List ℕ
parse_cause t kind = if has_mark t then codes "byte order mark" else kind_text kind

-- and its report
abbrev pub parse_text : List ℕ → List ℕ → ℕ → Kind → List ℕ
parse_text name t index kind = error_text name t index (parse_cause t kind)

-- what is told of an input with this error, or with none
abbrev pub IsReport : List ℕ → List ℕ → Option (ℕ × List ℕ) → Option (List ℕ) → Type 0
IsReport name t None None = Unit {0}
IsReport name t None (Some text) = ⊥
IsReport name t (Some error) None = ⊥
IsReport name t (Some error) (Some text) = text ≡ error_text name t error.0 error.1
