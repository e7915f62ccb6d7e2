-- What is printed of a text is a string of the same characters.
use Rattle.std.proofs.Common.{◌≡◌, ◌≢◌, ◌⊎◌, inl, inr, ℕ, ◌+◌, ◌/◌, ◌%◌, ◌<◌, ◌≤◌, true, List, [], ◌∷◌, ◌++◌, refl}
use Rattle.std.proofs.Common.{sym, ap, ap₂, ◌∙◌, subst, arith}
use Rattle.std.specs.Prelude.{codes, flat_map, nat_eq, nat_lt}
use Rattle.std.specs.Char.{IsScalar, encode_utf8, digit_value}
use Rattle.std.specs.Str.{IsUtf8, all_scalars, encode_utf8_all}
use Rattle.std.proofs.lemmas.Bool.{cases_lt, cases_eq, ne_eqb, lt-ltb, and_parts}
use Rattle.std.proofs.lemmas.Bool.Decides.{nat_tests}
use Rattle.std.proofs.lemmas.List.Concat.{flat_map-append}
use Rattle.jiter_scan.specs.Stands.{Stands}
use Rattle.jiter_scan.proofs.Choices.{if-true, if-false}
use Rattle.jiter_scan.proofs.Standing.{stands-split}
use Rattle.jiter_steps.specs.Escape.{is_hex}
use Rattle.jiter_steps.specs.Piece.{IsUnit, IsPlain, IsPiece, Piece, SpellsPieces, SpellsString, characters, text_of}
use Rattle.jiter_steps.proofs.Grammar.StringComplete.{IsPrinted, ArePrinted, plain-printed}
use lib.Utf8.{encode}
use Rattle.jiter_print.specs.Print.{hex_digit, needs_escape, escape_of, print_byte, print_text}

-- ---- one character
hex_digit-value : (n : ℕ) → n < 16 → digit_value (hex_digit n) ≡ n
hex_digit-value n h = grind (arith, nat_tests)

hex_digit-is_hex : (n : ℕ) → n < 16 → is_hex (hex_digit n) ≡ true
hex_digit-is_hex n h = ap (λ v. nat_lt v 16) (hex_digit-value n h) ∙ lt-ltb n 16 h

-- a byte that is neither control nor quote nor backslash is printed plain
plain-byte : (b : ℕ) → IsPrinted b → print_byte b ≡ b ∷ []
plain-byte b p =
    if-false (needs_escape b) (escape_of b) (b ∷ []) (grind (arith, nat_tests, p.no_quote, p.no_backslash, p.printed))

plain-bytes : (w : List ℕ) → ArePrinted w → flat_map print_byte w ≡ w
plain-bytes [] h = refl
plain-bytes (b ∷ w) h = ap₂ (λ (u v : List ℕ). u ++ v) (plain-byte b h.0) (plain-bytes w h.1)

control-byte : (b : ℕ) → b < 32 → print_byte b ≡ 92 ∷ 117 ∷ 48 ∷ 48 ∷ hex_digit (b / 16) ∷ hex_digit (b % 16) ∷ []
control-byte b h =
    if-true (needs_escape b) (escape_of b) (b ∷ []) (grind (arith, nat_tests))
    ∙ if-false (nat_eq b 34) (codes "\\\"") _ (ne_eqb b 34 (λ e. omega arith))
    ∙ if-false (nat_eq b 92) (codes "\\\\") _ (ne_eqb b 92 (λ e. omega arith))

-- a character below 128 is one byte
ascii-encoded : (c : ℕ) → c < 128 → encode_utf8 c ≡ c ∷ []
unfolding encode
ascii-encoded c h = if-true (nat_lt c 128) (c ∷ []) _ (lt-ltb c 128 h)

control-unit : (c : ℕ) → c < 32 → IsUnit (flat_map print_byte (encode_utf8 c)) c
control-unit c h = record {
  a = 48;
  b = 48;
  c = hex_digit (c / 16);
  d = hex_digit (c % 16);
  is = ap (flat_map print_byte) (ascii-encoded c (omega arith)) ∙ ap (λ (w : List ℕ). w ++ []) (control-byte c h);
  digits = (refl, refl, hex_digit-is_hex (c / 16) (omega arith), hex_digit-is_hex (c % 16) (omega arith));
  means = omega (arith, hex_digit-value (c / 16) (omega arith), hex_digit-value (c % 16) (omega arith));
}

-- What is printed of a character is a piece that spells it.
print_byte-piece : (c : ℕ) → IsScalar c → IsPiece (flat_map print_byte (encode_utf8 c)) c
print_byte-piece c s = by (cases_eq c 34) (cases_eq c 92) (cases_lt c 32) where
  by : (c ≡ 34) ⊎ (c ≢ 34) → (c ≡ 92) ⊎ (c ≢ 92) → (c < 32) ⊎ (32 ≤ c) → IsPiece (flat_map print_byte (encode_utf8 c)) c
  by (inl q) x y =
      subst (λ d. IsPiece (flat_map print_byte (encode_utf8 d)) d) (sym q)
      (inr (inl (record { sign = 34; is = ap (flat_map print_byte) (ascii-encoded 34 (omega arith)); means = refl })))
  by (inr q) (inl b) y =
      subst (λ d. IsPiece (flat_map print_byte (encode_utf8 d)) d) (sym b)
      (inr (inl (record { sign = 92; is = ap (flat_map print_byte) (ascii-encoded 92 (omega arith)); means = refl })))
  by (inr q) (inr b) (inl low) = inr (inr (inl (control-unit c low, s)))
  by (inr q) (inr b) (inr high) =
      let plain : IsPlain (encode_utf8 c) c =
      record { is = refl; scalar = s; printed = high; no_quote = q; no_backslash = b } in
      inl (record {
        is = plain-bytes (encode_utf8 c) (plain-printed (encode_utf8 c) c plain);
        scalar = s;
        printed = high;
        no_quote = q;
        no_backslash = b;
      })

-- ---- a text
module _ (u : List ℕ) where
  pieces-again : (cs : List ℕ) (i j : ℕ) → all_scalars cs ≡ true
      → Stands u i j (flat_map print_byte (encode_utf8_all cs))
      → (ps : List Piece) × SpellsPieces u i ps j × (characters ps ≡ cs)
  pieces-again [] i j s h = ([], h, refl)
  pieces-again (c ∷ cs) i j s h =
      let both = and_parts _ (all_scalars cs) s in
      let parts = stands-split u i j (flat_map print_byte (encode_utf8 c)) (flat_map print_byte (encode_utf8_all cs))
      (subst (Stands u i j) (flat_map-append print_byte (encode_utf8 c) (encode_utf8_all cs)) h) in
      let rest = pieces-again cs parts.0 j both.1 parts.2 in
      let piece = print_byte-piece c both.0 in (
        record { character = c; end = parts.0 } ∷ rest.0,
        (record { bytes = flat_map print_byte (encode_utf8 c); stands = parts.1; piece = piece }, rest.1),
        ap (λ x. c ∷ x) rest.2,
      )

  -- What is printed of these characters is a string that spells them.
  pub print_text-again : (cs : List ℕ) (i j : ℕ) → all_scalars cs ≡ true
      → Stands u i j (print_text (encode_utf8_all cs))
      → (ps : List Piece) × SpellsString u i ps j × (characters ps ≡ cs)
  print_text-again cs i j s h =
      let parts = stands-split u (i + 1) j (flat_map print_byte (encode_utf8_all cs)) (34 ∷ []) h.1 in
      let r = pieces-again cs (i + 1) parts.0 s parts.1 in
      (r.0, record { opens = h.0; close = parts.0; spelled = r.1; closes = parts.2.0; ends = sym parts.2.1 }, r.2)

-- What is printed of a text is a string of the same text.
pub string-again : (u : List ℕ) (i j : ℕ) (w : List ℕ) → IsUtf8 w → Stands u i j (print_text w)
    → (ps : List Piece) × SpellsString u i ps j × (text_of ps ≡ w)
string-again u i j w utf8 h =
    let stands = subst (λ v. Stands u i j (print_text v)) (sym utf8.1.1) h in
    let r = print_text-again u utf8.0 i j utf8.1.0 stands in
    (r.0, r.1, ap encode_utf8_all r.2 ∙ utf8.1.1)
