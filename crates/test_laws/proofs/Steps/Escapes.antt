-- What signs, hex digits, surrogates, characters and words stand for, by computation.
use Rattle.std.proofs.Common.{◌≡◌, ℕ, Bool, true, false, List, [], ◌∷◌, refl, codes, map}
use Rattle.std.specs.Prelude.{Option, Some, None}
use Rattle.std.specs.Char.{encode_utf8}
use Rattle.jiter_scan.specs.Number.{digit_limit}
use Rattle.jiter_steps.specs.Escape.{short_escape, unit_of, is_hex, is_high, is_low, pair_of}
use Rattle.jiter_steps.specs.Literal.{word_of}
use Rattle.jiter_steps.specs.Node.{nesting_limit}
use Rattle.jiter_steps.specs.declared.parse.Literal.{Literal}
use Rattle.jiter_steps.specs.declared.parse.Literal.TheVariants as literal
use Rattle.jiter_steps.proofs.Computed.{computed_strings}

-- after a backslash
abbrev signs : List (ℕ × Option ℕ)
signs =
    (34, Some 34) ∷
    (92, Some 92) ∷
    (47, Some 47) ∷
    (98, Some 8) ∷
    (102, Some 12) ∷
    (110, Some 10) ∷
    (114, Some 13) ∷
    (116, Some 9) ∷
    (117, None) ∷
    (85, None) ∷
    (78, None) ∷
    (39, None) ∷
    (48, None) ∷
    (0, None) ∷
    (118, None) ∷
    (120, None) ∷
    []

signs_stand : map (λ r. short_escape r.0) signs ≡ map (λ r. r.1) signs
signs_stand = refl

abbrev hex_digits : List ℕ
hex_digits = codes "0123456789abcdefABCDEF"

abbrev no_hex_digits : List ℕ
no_hex_digits = 128 ∷ 255 ∷ 0 ∷ codes "/:@G`gx-+ uU"

hex_known : map is_hex hex_digits ≡ map (λ c. true) hex_digits
hex_known = refl

others_known : map is_hex no_hex_digits ≡ map (λ c. false) no_hex_digits
others_known = refl

-- the number of four hex digits
abbrev units : List (ℕ × ℕ × ℕ × ℕ × ℕ)
units =
    (48, 48, 48, 48, 0) ∷
    (48, 48, 52, 49, 0x41) ∷
    (48, 48, 101, 57, 0xe9) ∷
    (50, 48, 65, 67, 0x20ac) ∷
    (68, 56, 51, 100, 0xd83d) ∷
    (102, 70, 70, 102, 0xffff) ∷
    []

units_stand : map (λ r. unit_of r.0 r.1 r.2 r.3) units ≡ map (λ r. r.4) units
units_stand = refl

-- whether a number is the first of a surrogate pair, and whether it is the second
abbrev halves : List (ℕ × Bool × Bool)
halves =
    (0xd7ff, false, false) ∷
    (0xd800, true, false) ∷
    (0xdbff, true, false) ∷
    (0xdc00, false, true) ∷
    (0xdfff, false, true) ∷
    (0xe000, false, false) ∷
    (0, false, false) ∷
    []

halves_first : map (λ r. is_high r.0) halves ≡ map (λ r. r.1) halves
halves_first = refl

halves_second : map (λ r. is_low r.0) halves ≡ map (λ r. r.2) halves
halves_second = refl

-- the character of a pair
abbrev pairs : List (ℕ × ℕ × ℕ)
pairs =
    (0xd800, 0xdc00, 0x10000) ∷
    (0xd83d, 0xde00, 0x1f600) ∷
    (0xd834, 0xdd1e, 0x1d11e) ∷
    (0xdbff, 0xdfff, 0x10ffff) ∷
    []

pairs_stand : map (λ r. pair_of r.0 r.1) pairs ≡ map (λ r. r.2) pairs
pairs_stand = refl

-- the bytes of a character
abbrev characters : List (ℕ × List ℕ)
characters =
    (0, 0 ∷ []) ∷
    (0x7f, 0x7f ∷ []) ∷
    (0x80, 0xc2 ∷ 0x80 ∷ []) ∷
    (0xe9, 0xc3 ∷ 0xa9 ∷ []) ∷
    (0x7ff, 0xdf ∷ 0xbf ∷ []) ∷
    (0x800, 0xe0 ∷ 0xa0 ∷ 0x80 ∷ []) ∷
    (0x20ac, 0xe2 ∷ 0x82 ∷ 0xac ∷ []) ∷
    (0xffff, 0xef ∷ 0xbf ∷ 0xbf ∷ []) ∷
    (0x10000, 0xf0 ∷ 0x90 ∷ 0x80 ∷ 0x80 ∷ []) ∷
    (0x1f600, 0xf0 ∷ 0x9f ∷ 0x98 ∷ 0x80 ∷ []) ∷
    (0x10ffff, 0xf4 ∷ 0x8f ∷ 0xbf ∷ 0xbf ∷ []) ∷
    []

characters_stand : map (λ r. encode_utf8 r.0) characters ≡ map (λ r. r.1) characters
characters_stand = unfold computed_strings in refl

abbrev literals : List Literal
literals = literal.Null ∷ literal.True ∷ literal.False ∷ []

words_stand : map word_of literals ≡ (110 ∷ 117 ∷ 108 ∷ 108 ∷ []) ∷ codes "true" ∷ codes "false" ∷ []
words_stand = refl

nesting_is : nesting_limit ≡ 200
nesting_is = refl

digits_are : digit_limit ≡ 4300
digits_are = refl
