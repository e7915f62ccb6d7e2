-- A small terminal: its rows, its cursor, and what the bytes that it is sent do to them.
use Rattle.std.specs.Prelude.{◌≡◌, ℕ, ◌==◌, ◌||◌, ◌⊎◌, Bool, true, false, List, [], ◌∷◌, ◌++◌, drop, if◌then◌else◌, length}
use Rattle.std.specs.Prelude.{bytes_eq, nat_le, take}
use Rattle.std.specs.Int.{is_in_range}
use Rattle.std.specs.List.{flat_map, fold}

-- What the next byte is: a character or a control, what follows an escape, or a part of a control sequence that began so.
pub data Awaits : Type 0 where
  anything : Awaits
  escape : Awaits
  sequence : List ℕ → Awaits

-- each byte of a row, and whether it is dim
abbrev pub Row : Type 0
Row = List (ℕ × Bool)

-- The rows have no end in any direction: nothing scrolls away or wraps.
pub record Screen : Type 0 where
  pub awaits : Awaits
  -- whether what comes now is dim
  pub dim : Bool
  -- the rows above the cursor's row, the nearest one first
  pub above : List Row
  -- the cursor's row: the bytes left of the cursor, and the others
  pub left : Row
  pub right : Row
  pub below : List Row

-- the cursor in the same column of the row above, if there is one
abbrev pub in_row_above : Screen → List Row → Screen
in_row_above s [] = record { awaits = anything; dim = s.dim; above = []; left = s.left; right = s.right; below = s.below }
in_row_above s (row ∷ rows) = record {
  awaits = anything;
  dim = s.dim;
  above = rows;
  left = take (length s.left) row;
  right = drop (length s.left) row;
  below = (s.left ++ s.right) ∷ s.below;
}

abbrev pub up : Screen → Screen
up s = in_row_above s s.above

-- the cursor in the first column
abbrev pub home : Screen → Screen
home s = record { awaits = anything; dim = s.dim; above = s.above; left = []; right = s.left ++ s.right; below = s.below }

-- nothing from the cursor on
abbrev pub clear : Screen → Screen
clear s = record { awaits = anything; dim = s.dim; above = s.above; left = s.left; right = []; below = [] }

-- the cursor in the first column of the row below
abbrev pub in_row_below : Screen → List Row → Screen
in_row_below s [] = record { awaits = anything; dim = s.dim; above = (s.left ++ s.right) ∷ s.above; left = []; right = []; below = [] }
in_row_below s (row ∷ rows) =
    record { awaits = anything; dim = s.dim; above = (s.left ++ s.right) ∷ s.above; left = []; right = row; below = rows }

abbrev pub down : Screen → Screen
down s = in_row_below s s.below

-- one more byte of text
abbrev pub put : Screen → ℕ → Screen
put s b = record { awaits = anything; dim = s.dim; above = s.above; left = s.left ++ (b, s.dim) ∷ []; right = drop 1 s.right; below = s.below }

abbrev pub await : Screen → Awaits → Screen
await s a = record { awaits = a; dim = s.dim; above = s.above; left = s.left; right = s.right; below = s.below }

-- what comes now is dim, or not
abbrev pub look : Screen → Bool → Screen
look s dim = record { awaits = anything; dim = dim; above = s.above; left = s.left; right = s.right; below = s.below }

-- a byte of text, a carriage return, a line feed or an escape
abbrev pub sent : Screen → ℕ → Screen
sent s b =
    if b == 27 then await s escape else (if b == 13 then home s else (if b == 10 then down s else put s b))

-- `ESC M` is up, and `ESC [` begins a control sequence
abbrev pub sent_after_escape : Screen → ℕ → Screen
sent_after_escape s b = if b == 77 then up s else (if b == 91 then await s (sequence []) else await s anything)

-- a byte within a control sequence, which any other one ends
abbrev pub is_parameter : ℕ → Bool
is_parameter b = is_in_range 48 63 b

-- `ESC [ J` clears, `ESC [ 2 m` is dim and `ESC [ m` plain; no other sequence changes the rows or their look
abbrev pub sent_in_sequence : Screen → List ℕ → ℕ → Screen
sent_in_sequence s bs b =
    if is_parameter b then await s (sequence (bs ++ b ∷ []))
    else (if b == 74 then clear s
    else (if b == 109 then look s (bytes_eq bs (50 ∷ [])) else await s anything))

abbrev pub step_by : Awaits → Screen → ℕ → Screen
step_by anything s b = sent s b
step_by escape s b = sent_after_escape s b
step_by (sequence bs) s b = sent_in_sequence s bs b

abbrev pub step : Screen → ℕ → Screen
step s b = step_by s.awaits s b

-- the screen after these bytes
abbrev pub draws : Screen → List ℕ → Screen
draws s bs = fold step s bs

abbrev pub blank : Screen
blank = record { awaits = anything; dim = false; above = []; left = []; right = []; below = [] }

-- the screen that ends with these rows, the cursor at their end
abbrev pub screen_of : List ℕ → Screen
screen_of t = draws blank t

-- a line feed, or a byte that is no control
abbrev pub is_plain : ℕ → Bool
is_plain b = b == 10 || nat_le 32 b

abbrev pub IsPlain : List ℕ → Type 0
IsPlain [] = Unit {0}
IsPlain (b ∷ bs) = (is_plain b ≡ true) × IsPlain bs

-- up one row for each line feed of these bytes
abbrev pub up_of : ℕ → List ℕ
up_of b = if b == 10 then 27 ∷ 77 ∷ [] else []

abbrev pub ups : List ℕ → List ℕ
ups bs = flat_map up_of bs

-- nothing, or some rows that end
abbrev pub IsWholeRows : List ℕ → Type 0
IsWholeRows t = (t ≡ []) ⊎ ((u : List ℕ) × (t ≡ u ++ 10 ∷ []))

-- dim from here on, and plain from here on
abbrev pub dims : List ℕ
dims = 27 ∷ 91 ∷ 50 ∷ 109 ∷ []

abbrev pub undims : List ℕ
undims = 27 ∷ 91 ∷ 109 ∷ []

-- a text that is dim from an index on
abbrev pub dimmed : List ℕ → ℕ → List ℕ
dimmed t mark = take mark t ++ (dims ++ (drop mark t ++ undims))

-- These bytes turn any screen that ends with the rows `old` into the same screen with the rows `new` in their place.
abbrev pub Redraws : List ℕ → List ℕ → List ℕ → Type 0
Redraws old new bytes =
    (top : List ℕ) → IsPlain top → IsWholeRows top → draws (screen_of (top ++ old)) bytes ≡ screen_of (top ++ new)
