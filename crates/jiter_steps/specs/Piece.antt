-- The grammar of a string (RFC 8259, 7): what its pieces spell. An unpaired surrogate escape is no piece.
use Rattle.std.specs.Prelude.{◌≡◌, ◌≢◌, ◌⊎◌, ℕ, ◌+◌, ◌≤◌, List, [], ◌∷◌, ◌++◌, map, slice_get, Some, true}
use Rattle.std.specs.Prelude.{if◌then◌else◌, nat_le}
use Rattle.std.specs.Char.{IsScalar, encode_utf8}
use Rattle.std.specs.Str.{encode_utf8_all}
use Rattle.jiter_scan.specs.Ascii as ascii
use Rattle.jiter_scan.specs.Stands.{Stands}
use Rattle.jiter_steps.specs.Escape.{short_escape, is_hex, unit_of, is_high, is_low, pair_of}

-- p is the UTF-8 of c, which may stand for itself
pub record IsPlain (p : List ℕ) (c : ℕ) : Type 0 where
  pub is : p ≡ encode_utf8 c
  pub scalar : IsScalar c
  pub printed : ascii.space ≤ c
  pub no_quote : c ≢ ascii.quote
  pub no_backslash : c ≢ ascii.backslash

-- p is a backslash and a letter or a sign for c
pub record IsShort (p : List ℕ) (c : ℕ) : Type 0 where
  pub sign : ℕ
  pub is : p ≡ ascii.backslash ∷ sign ∷ []
  pub means : short_escape sign ≡ Some c

-- p is `\u` and four hex digits of the number u
pub record IsUnit (p : List ℕ) (u : ℕ) : Type 0 where
  pub a : ℕ
  pub b : ℕ
  pub c : ℕ
  pub d : ℕ
  pub is : p ≡ ascii.backslash ∷ ascii.small_u ∷ a ∷ b ∷ c ∷ d ∷ []
  pub digits : (is_hex a ≡ true) × (is_hex b ≡ true) × (is_hex c ≡ true) × (is_hex d ≡ true)
  pub means : unit_of a b c d ≡ u

-- p is two such, of a high and a low surrogate, which together are c
pub record IsPair (p : List ℕ) (c : ℕ) : Type 0 where
  pub prefix : List ℕ
  pub back : List ℕ
  pub high : ℕ
  pub low : ℕ
  pub is : p ≡ prefix ++ back
  pub first : IsUnit prefix high
  pub second : IsUnit back low
  pub is_high : is_high high ≡ true
  pub is_low : is_low low ≡ true
  pub means : c ≡ pair_of high low

-- p is an escape of c
abbrev pub IsEscape : List ℕ → ℕ → Type 0
IsEscape p c = IsShort p c ⊎ ((IsUnit p c × IsScalar c) ⊎ IsPair p c)

-- the bytes p spell the character c
abbrev pub IsPiece : List ℕ → ℕ → Type 0
IsPiece p c = IsPlain p c ⊎ IsEscape p c

-- a piece's character, and where it ends
pub record Piece : Type 0 where
  pub character : ℕ
  pub end : ℕ

-- `t[i..j]` spells c
pub record SpellsChar (t : List ℕ) (i j c : ℕ) : Type 0 where
  pub bytes : List ℕ
  pub stands : Stands t i j bytes
  pub piece : IsPiece bytes c

-- these pieces are one after another from i to e
abbrev pub SpellsPieces : List ℕ → ℕ → List Piece → ℕ → Type 0
SpellsPieces t i [] e = i ≡ e
SpellsPieces t i (p ∷ ps) e = SpellsChar t i p.end p.character × SpellsPieces t p.end ps e

-- the characters that pieces stand for
abbrev pub characters : List Piece → List ℕ
characters ps = map (λ p. p.character) ps

-- `t[i..e]` is a quote, these pieces, and a quote
pub record SpellsString (t : List ℕ) (i : ℕ) (ps : List Piece) (e : ℕ) : Type 0 where
  pub opens : slice_get t i ≡ Some ascii.quote
  pub close : ℕ
  pub spelled : SpellsPieces t (i + 1) ps close
  pub closes : slice_get t close ≡ Some ascii.quote
  pub ends : e ≡ close + 1

-- the text that pieces stand for, as UTF-8
abbrev pub text_of : List Piece → List ℕ
text_of ps = encode_utf8_all (characters ps)

-- the pieces before the first that ends after k
abbrev pub pieces_to : ℕ → List Piece → List Piece
pieces_to k [] = []
pieces_to k (p ∷ ps) = if nat_le p.end k then p ∷ pieces_to k ps else []
