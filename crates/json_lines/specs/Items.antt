-- The items of an array that is read as a log: its text is cut at commas, and each item is converted as a line is.
use Rattle.std.specs.Prelude.{ℕ, ◌+◌, ◌-◌, ◌==◌, ◌||◌, ◌&&◌, Bool, true, false, if◌then◌else◌, List, [], ◌∷◌, ◌++◌, codes, length, take, drop}
use Rattle.std.specs.List.{prefix_len, suffix_len}
use Rattle.json_lines.specs.Line.{cause_in}

-- a space, a tab, a line feed or a carriage return
abbrev pub is_white : ℕ → Bool
is_white b = (b == 32) || ((b == 9) || ((b == 10) || (b == 13)))

-- how many whitespace bytes a text begins with, and what follows them
abbrev pub blanks : List ℕ → ℕ
blanks bs = prefix_len is_white bs

abbrev pub after_blanks : List ℕ → List ℕ
after_blanks bs = drop (blanks bs) bs

-- a text without the whitespace at its end
abbrev pub trim_end : List ℕ → List ℕ
trim_end bs = take (length bs - suffix_len is_white bs) bs

-- ---- where the array's text is cut
-- where a byte of an item is: outside its strings, in one, or after a backslash in one; and in how many of its brackets
pub data Place : Type 0 where
  outside : ℕ → Place
  in_string : ℕ → Place
  after_backslash : ℕ → Place

abbrev pub begins_bracket : ℕ → Bool
begins_bracket b = (b == 91) || (b == 123)

abbrev pub ends_bracket : ℕ → Bool
ends_bracket b = (b == 93) || (b == 125)

-- Where the next byte is. A closing bracket without an opening one changes nothing.
abbrev pub place_after : Place → ℕ → Place
place_after (outside d) b =
    if b == 34 then in_string d
    else if begins_bracket b then outside (d + 1)
    else if ends_bracket b then outside (d - 1)
    else outside d
place_after (in_string d) b = if b == 34 then outside d else if b == 92 then after_backslash d else in_string d
place_after (after_backslash d) b = in_string d

-- an item ends before a comma or `]` outside its strings and brackets
abbrev pub ends_item : Place → ℕ → Bool
ends_item (outside d) b = (d == 0) && ((b == 44) || (b == 93))
ends_item (in_string d) b = false
ends_item (after_backslash d) b = false

-- The text after an array's `[`, cut at these bytes.
pub data Pieces : Type 0 where
  comma : List ℕ → Pieces → Pieces  -- these bytes, a comma, and the rest
  bracket : List ℕ → List ℕ → Pieces  -- these bytes, `]`, and what follows it
  cut : List ℕ → Pieces  -- these bytes; the input ends before the array does

-- the pieces, with one byte more before the first
abbrev pub with_byte : ℕ → Pieces → Pieces
with_byte b (comma bs more) = comma (b ∷ bs) more
with_byte b (bracket bs rest) = bracket (b ∷ bs) rest
with_byte b (cut bs) = cut (b ∷ bs)

abbrev pub pieces : Place → List ℕ → Pieces
pieces p [] = cut []
pieces p (b ∷ bs) =
    if ends_item p b then (if b == 44 then comma [] (pieces (outside 0) bs) else bracket [] bs)
    else with_byte b (pieces (place_after p b) bs)

-- ---- what is read of the input, in its order
pub data Part : Type 0 where
  item : ℕ → List ℕ → Part  -- an item, without the whitespace around it, at this index of the input
  wrong : ℕ → List ℕ → List ℕ → Part  -- an error at this index, for this cause; these bytes are kept

-- a piece that begins at this index, without the whitespace before it: an item; or, if no byte is left, an error at its end
abbrev pub item_or : ℕ → List ℕ → List ℕ → ℕ → Part
item_or i [] cause end = wrong end cause []
item_or i (b ∷ bs) cause end = item i (trim_end (b ∷ bs))

-- the last piece, if it is the first one or not: `[]` has no item
abbrev pub last_of : Bool → ℕ → List ℕ → ℕ → List Part
last_of true i [] end = []
last_of false i [] end = wrong end (codes "trailing comma") [] ∷ []
last_of first i (b ∷ bs) end = item i (trim_end (b ∷ bs)) ∷ []

-- what follows the array, without the whitespace before it
abbrev pub after_array : ℕ → List ℕ → List Part
after_array i [] = []
after_array i (b ∷ bs) = wrong i (codes "trailing characters") [] ∷ []

-- The parts of these pieces: the first of them begins at this index, and is the array's first one or not. An item that the
-- input cuts is no part: it is kept.
abbrev pub parts_of : ℕ → Bool → Pieces → List Part
parts_of i first (comma bs more) =
    item_or (i + blanks bs) (after_blanks bs) (codes "expected value") (i + length bs) ∷ parts_of (i + length bs + 1) false more
parts_of i first (bracket bs rest) =
    last_of first (i + blanks bs) (after_blanks bs) (i + length bs)
    ++ after_array (i + length bs + 1 + blanks rest) (after_blanks rest)
parts_of i first (cut bs) = wrong (i + length bs) (codes "EOF while parsing a list") (trim_end (after_blanks bs)) ∷ []

-- the parts of an input, where this is the index of its first byte that is no whitespace
abbrev pub parts_at : ℕ → List ℕ → List Part
parts_at i [] = wrong i (codes "EOF while parsing a value") [] ∷ []
parts_at i (b ∷ bs) =
    if b == 91 then parts_of (i + 1) true (pieces (outside 0) bs)
    else wrong i (cause_in (b ∷ bs) (codes "not an array")) [] ∷ []

abbrev pub parts : List ℕ → List Part
parts t = parts_at (blanks t) (after_blanks t)
