-- What the steps do that read an array.
use Rattle.std.specs.Prelude.{◌≡◌, ℕ, ◌+◌, ◌≤◌, ◌==◌, ◌&&◌, Bool, not, true, false, nat_eq, List, [], ◌∷◌, ◌++◌, if◌then◌else◌, codes, length, take, Option, Some, None, IfSome, ⊤}
use Rattle.std.specs.List.{starts_with}
use Rattle.std.specs.Io.KnownBytes.{IsAtEnd}
use Rattle.jiter_scan.specs.declared.errors.LinePosition.{LinePosition}
use Rattle.json_lines.specs.Items.{Part, Pieces, Place, after_backslash, after_blanks, blanks, bracket, comma, cut, in_string}
use Rattle.json_lines.specs.Items.{ends_item, item_or, last_of, outside, pieces, trim_end, with_byte, wrong}
use Rattle.json_lines.specs.Line.{cause_in, refusal_text}
use Rattle.json_lines.specs.declared.array.State.{State}
use Rattle.json_lines.specs.declared.array.State.TheVariants as state
use Rattle.json_lines.specs.declared.array.Ended.{Ended}
use Rattle.json_lines.specs.declared.array.Ended.TheVariants as ended

-- what the code's values are
abbrev pub place_of : State → Place
place_of (state.Outside depth) = outside depth
place_of (state.InString depth) = in_string depth
place_of (state.AfterBackslash depth) = after_backslash depth

abbrev pub depth_of : State → ℕ
depth_of (state.Outside depth) = depth
depth_of (state.InString depth) = depth
depth_of (state.AfterBackslash depth) = depth

-- ---- pieces
abbrev pub with_bytes : List ℕ → Pieces → Pieces
with_bytes [] ps = ps
with_bytes (b ∷ bs) ps = with_byte b (with_bytes bs ps)

-- these bytes belong to a piece, and bring it from one place to the other
abbrev pub Passes : Place → List ℕ → Place → Type 0
Passes p bs q = (rest : List ℕ) → pieces p (bs ++ rest) ≡ with_bytes bs (pieces q rest)

-- the byte that ends a piece
abbrev pub end_byte : Ended → List ℕ
end_byte ended.Comma = 44 ∷ []
end_byte ended.Bracket = 93 ∷ []
end_byte ended.Input = []

abbrev pub end_bytes : Option Ended → List ℕ
end_bytes None = []
end_bytes (Some e) = end_byte e

-- a piece ends here so, where these known bytes are left; or it goes on
abbrev pub EndsSo : Place → Option (List ℕ) → Option Ended → Type 0
EndsSo p left None = ⊤
EndsSo p left (Some ended.Comma) = ends_item p 44 ≡ true
EndsSo p left (Some ended.Bracket) = ends_item p 93 ≡ true
EndsSo p left (Some ended.Input) = IsAtEnd left

-- the pieces of a text: the first one has these bytes and is ended so, and this text follows it
abbrev pub pieces_by : Ended → List ℕ → List ℕ → Pieces
pieces_by ended.Comma bs rest = comma bs (pieces (outside 0) rest)
pieces_by ended.Bracket bs rest = bracket bs rest
pieces_by ended.Input bs rest = cut bs

-- a piece was read of known bytes
abbrev pub TakesPiece : Option (List ℕ) → Option (List ℕ) → Ended → List ℕ → Type 0
TakesPiece old new e bs = IfSome old (λ xs. (rest : List ℕ) × (new ≡ Some rest) × (xs ≡ bs ++ (end_byte e ++ rest))
    × (pieces (outside 0) xs ≡ pieces_by e bs rest))

-- the parts of such a piece
abbrev pub piece_parts : Ended → Bool → ℕ → List ℕ → List Part
piece_parts ended.Comma first i bs =
    item_or (i + blanks bs) (after_blanks bs) (codes "expected value") (i + length bs) ∷ []
piece_parts ended.Bracket first i bs = last_of first (i + blanks bs) (after_blanks bs) (i + length bs)
piece_parts ended.Input first i bs =
    wrong (i + length bs) (codes "EOF while parsing a list") (trim_end (after_blanks bs)) ∷ []

-- ---- single bytes
-- the first byte of a text, and the others
abbrev pub IsNext : Option ℕ → List ℕ → List ℕ → Type 0
IsNext None xs rest = (xs ≡ []) × (rest ≡ [])
IsNext (Some b) xs rest = xs ≡ b ∷ rest

-- a byte was read of known bytes
abbrev pub TakesByte : Option (List ℕ) → Option (List ℕ) → Option ℕ → Type 0
TakesByte old new b = IfSome old (λ xs. (rest : List ℕ) × (new ≡ Some rest) × IsNext b xs rest)

-- whether a known text's first byte is this one, and what is left if it is
abbrev pub IsNextByte : Bool → ℕ → List ℕ → Option (List ℕ) → Type 0
IsNextByte true byte xs new = (rest : List ℕ) × (new ≡ Some rest) × (xs ≡ byte ∷ rest)
IsNextByte false byte xs new = starts_with nat_eq xs (byte ∷ []) ≡ false

abbrev pub begins_with_mark : List ℕ → Bool
begins_with_mark xs = starts_with nat_eq xs (239 ∷ 187 ∷ 191 ∷ [])

-- why a text with this first byte is no array
abbrev pub head_error : Option ℕ → List ℕ → Option (List ℕ)
head_error None rest = Some (codes "EOF while parsing a value")
head_error (Some b) rest = if b == 91 then None else Some (cause_in (b ∷ rest) (codes "not an array"))

-- ---- positions
abbrev pub next_position : LinePosition → ℕ → LinePosition
next_position p b =
    if b == 10 then record { line = p.line + 1; column = 1 } else record { line = p.line; column = p.column + 1 }

-- the position after these bytes
abbrev pub past : LinePosition → List ℕ → LinePosition
past p [] = p
past p (b ∷ bs) = past (next_position p b) bs

-- these bytes begin at this index, which has this position
abbrev pub StartsAt : (ℕ → LinePosition) → ℕ → LinePosition → List ℕ → Type 0
StartsAt at i p bs = (k : ℕ) → k ≤ length bs → at (i + k) ≡ past p (take k bs)

-- whitespace and the byte after it were read, from this position to that one
abbrev pub TakesVisible : Option (List ℕ) → Option (List ℕ) → LinePosition → LinePosition → Option ℕ → Type 0
TakesVisible old new p q b = IfSome old (λ xs. (rest : List ℕ) × (new ≡ Some rest) × IsNext b (after_blanks xs) rest
    × (q ≡ past p (take (blanks xs) xs)))

-- ---- errors of the array itself
-- why a piece is no item, if it isn't one
abbrev pub piece_error : Ended → Bool → Bool → Option (List ℕ)
piece_error ended.Input first blank = Some (codes "EOF while parsing a list")
piece_error ended.Comma first blank = if blank then Some (codes "expected value") else None
piece_error ended.Bracket first blank = if blank && not first then Some (codes "trailing comma") else None

-- what is reported of a text after the array, and how many errors it has
abbrev pub tail_report : List ℕ → LinePosition → List ℕ → List ℕ
tail_report name p [] = []
tail_report name p (b ∷ bs) = refusal_text name p.line p.column (codes "trailing characters")

abbrev pub tail_count : List ℕ → ℕ
tail_count [] = 0
tail_count (b ∷ bs) = 1
