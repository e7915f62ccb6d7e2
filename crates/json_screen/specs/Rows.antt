-- Bytes as rows of a terminal.
use Rattle.std.specs.Prelude.{ℕ, zero, suc, ◌+◌, ◌-◌, ◌/◌, ◌%◌, ◌^◌, ◌==◌, ◌||◌, Bool, false, List, [], ◌∷◌, ◌++◌, chars, codes}
use Rattle.std.specs.Prelude.{drop, if◌then◌else◌, length, nat_lt, reverse, string_bytes, take}
use Rattle.std.specs.Char.{encode_utf8}
use Rattle.std.specs.Fmt.{digits, format_spec, padded_integral}
use Rattle.std.specs.Int.{is_in_range}
use Rattle.std.specs.List.{fold}
use Rattle.std.specs.Str.Lossy.{utf8_lossy}
use Rattle.jiter.specs.Caller.{Reading, done, fault, Tree, answer_in}
use Rattle.jiter_print.specs.Layout.{pretty_of}
use Rattle.json_screen.specs.Parts.{is_close, Parts, parts_of}
use Rattle.json_screen.specs.declared.input.Options.{Options}
use Rattle.json_screen.specs.declared.screen.Rows.{Rows}

-- control characters, DEL, C1 controls, and the marks that turn the direction of text
abbrev pub is_hidden : ℕ → Bool
is_hidden c =
    is_in_range 0 31 c || is_in_range 127 159 c || c == 1564 || is_in_range 8206 8207 c || is_in_range 8234 8238 c
    || is_in_range 8294 8297 c

abbrev pub columns_of : ℕ → ℕ
columns_of c = if is_hidden c then 6 else (if nat_lt c 2048 then 1 else 2)

-- a number below 256 as two hexadecimal digits
abbrev pub two_digits : ℕ → List ℕ
two_digits n = padded_integral (format_spec 32 0 4 2 (2 ^ 64 - 1)) false [] (digits 16 false n)

-- `\u` and four hexadecimal digits
abbrev pub escape_of : ℕ → List ℕ
escape_of c = codes "\\u" ++ (two_digits (c / 256) ++ two_digits (c % 256))

abbrev pub shown_char : ℕ → List ℕ
shown_char c = if is_hidden c then escape_of c else encode_utf8 c

-- the rows, how many columns of the last one are free, and where the text is dim from
pub record Filled : Type 0 where
  pub text : List ℕ
  pub left : ℕ
  pub mark : ℕ

abbrev pub filled : Rows → Filled
filled rows = record { text = string_bytes rows.text; left = rows.left; mark = rows.mark }

abbrev pub new_row : ℕ → Filled → Filled
new_row width r = record { text = r.text ++ 10 ∷ []; left = width; mark = r.mark }

abbrev pub fill : Filled → ℕ → Filled
fill r c = record { text = r.text ++ shown_char c; left = r.left - columns_of c; mark = r.mark }

-- One more character: in a new row if the last one is full. A carriage return is left out.
abbrev pub put_char : ℕ → Filled → ℕ → Filled
put_char width r c =
    if c == 10 then new_row width r
    else (if c == 13 then r
    else (if nat_lt r.left (columns_of c) then fill (new_row width r) c else fill r c))

-- the characters of these bytes too, U+FFFD for those that are none
abbrev pub put_bytes : ℕ → Filled → List ℕ → Filled
put_bytes width r bytes = fold (put_char width) r (chars (utf8_lossy bytes))

-- no column of a row, and no index of a text, is so great
abbrev pub endless : ℕ
endless = 2 ^ 64 - 1

-- one empty row; nothing is dim
abbrev pub empty_row : ℕ → Filled
empty_row width = record { text = []; left = width; mark = endless }

-- what comes now is dim
abbrev pub dim_on : Filled → Filled
dim_on r = record { text = r.text; left = r.left; mark = length r.text }

-- `…`
abbrev pub mark : List ℕ
mark = 226 ∷ 128 ∷ 166 ∷ []

-- a space or a line feed
abbrev pub is_blank : ℕ → Bool
is_blank b = b == 32 || b == 10

-- how many bytes of a text, from its last one back, are its last closing brackets, with the whitespace before each
abbrev pub closers : ℕ → List ℕ → ℕ
closers depth [] = 0
closers zero (b ∷ bs) = if is_blank b then 1 + closers zero bs else 0
closers (suc depth) (b ∷ bs) =
    if is_blank b then 1 + closers (suc depth) bs else (if is_close b then 1 + closers depth bs else 0)

-- where they begin: the open place of a value in which so many containers are open
abbrev pub open_place : ℕ → List ℕ → ℕ
open_place depth text = length text - closers depth (reverse text)

-- the text of a value, with the mark at its open place; it is dim from the mark on
abbrev pub put_marked : ℕ → ℕ → Filled → List ℕ → Filled
put_marked depth width r text =
    let place = open_place depth text in
    put_bytes width (put_bytes width (dim_on (put_bytes width r (take place text))) mark) (drop place text)

-- no mark in a complete value
abbrev pub put_value : ℕ → ℕ → Filled → List ℕ → Filled
put_value width zero r text = put_bytes width r text
put_value width (suc depth) r text = put_marked (suc depth) width r text

-- the pretty text of what was read; what has an error stays as it is
abbrev pub put_reading : ℕ → ℕ → Filled → List ℕ → Reading Tree → Filled
put_reading width depth r t (done v e) = put_value width depth r (pretty_of 2 v)
put_reading width depth r t (fault k i stop) = put_bytes width r t

-- the last row ends too, if it is not empty
abbrev pub ended : ℕ → Filled → Filled
ended width r = if nat_lt r.left width then new_row width r else r

-- the text before the document, the document's value so far, and the text after it
abbrev pub put_parts : Options → ℕ → Parts → Filled
put_parts options width p =
    let value = answer_in options.inf_nan options.mode p.inside in
    let before = put_bytes width (empty_row width) p.before in
    put_bytes width (put_reading width p.span.depth before p.inside value) p.after

-- the rows of an input so far
abbrev pub rows_of : Options → ℕ → List ℕ → Filled
rows_of options width t = ended width (put_parts options width (parts_of t))
