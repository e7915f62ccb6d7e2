-- Where an index is in a text, by line and column, and how errors and positions print.
use Rattle.std.specs.Prelude.{ℕ, ◌+◌, ◌++◌, Bool, not, List, codes, length, take, reverse, count_by, take_while, nat_eq}
use Rattle.std.specs.Prelude.{decimal}
use Rattle.jiter_scan.specs.Ascii as ascii
use Rattle.jiter_scan.specs.Kind.{Kind, kind_text}
use Rattle.jiter_scan.specs.declared.errors.LinePosition.{LinePosition}

-- a line feed
abbrev pub is_newline : ℕ → Bool
is_newline b = nat_eq b ascii.line_feed

-- the bytes up to and including the one at the index, or all
abbrev pub bytes_through : List ℕ → ℕ → List ℕ
bytes_through t index = take (index + 1) t

-- 1 and the newlines
abbrev pub line_of : List ℕ → ℕ
line_of f = 1 + count_by is_newline f

-- the bytes after the last newline
abbrev pub column_of : List ℕ → ℕ
column_of f = length (take_while (λ b. not (is_newline b)) (reverse f))

-- The line and column of an index: of the bytes up to it, itself included.
abbrev pub position_of : List ℕ → ℕ → LinePosition
position_of t index = record { line = line_of (bytes_through t index); column = column_of (bytes_through t index) }

-- `line L column C`
abbrev pub position_text : LinePosition → List ℕ
position_text p = codes "line " ++ (decimal p.line ++ (codes " column " ++ decimal p.column))

-- `L:C`
abbrev pub short_text : LinePosition → List ℕ
short_text p = decimal p.line ++ (codes ":" ++ decimal p.column)

-- `TEXT at index N`
abbrev pub at_index : List ℕ → ℕ → List ℕ
at_index text index = text ++ (codes " at index " ++ decimal index)

-- `KIND at line L column C`, of an index in a text
abbrev pub description_text : Kind → ℕ → List ℕ → List ℕ
description_text kind index t = kind_text kind ++ (codes " at " ++ position_text (position_of t index))
