-- What is spelled is read.
use Rattle.jiter_steps.proofs.Words.{◌≡◌, ◌≢◌, inl, inr, ℕ, ◌+◌, ◌≤◌, Bool, true, false, ◌||◌, ◌&&◌, ap₂, List, [], ◌∷◌}
use Rattle.jiter_steps.proofs.Words.{length, refl, sym, ap, ◌∙◌, subst, arith, slice_get, slice_index, Some, ◌==◌}
use Rattle.jiter_steps.proofs.Words.{IsScalar, encode_utf8, all_scalars, utf8_valid_len, eq-eqb, ne_eqb, le-ltb}
use Rattle.jiter_steps.proofs.Words.{nat_tests, slice_get_within, get_or_from_slice_get, utf8_valid_len-IsUtf8, is_high}
use Rattle.jiter_steps.proofs.Words.{is_low, pair_of, Stands, IsPlain, IsUnit, IsEscape, Piece, SpellsChar}
use Rattle.jiter_steps.proofs.Words.{SpellsPieces, SpellsString, characters, text_of, taken, part, over, unit_at}
use Rattle.jiter_steps.proofs.Words.{number, hex_digits_at, unicode_escape, after_backslash, event_by, event_at, before}
use Rattle.jiter_steps.proofs.Words.{body_at, whole, content_at, string_at, stands-split}
use Rattle.jiter_steps.specs.StringReading.{closed}
use Rattle.jiter_steps.proofs.Grammar.Utf8Shape.{AllFollow, lead}
use Rattle.jiter_steps.proofs.Grammar.Places.{HexAt, UnitAt, escape-scalar}
use Rattle.jiter_steps.proofs.Reading.Bodies.{before-before, body_at-event_by}

pub record IsPrinted (b : ℕ) : Type 0 where
  pub printed : 32 ≤ b
  pub no_quote : b ≢ 34
  pub no_backslash : b ≢ 92

abbrev pub ArePrinted : List ℕ → Type 0
ArePrinted [] = Unit {0}
ArePrinted (b ∷ bs) = IsPrinted b × ArePrinted bs

high-printed : (b : ℕ) → 128 ≤ b → IsPrinted b
high-printed b h = record { printed = omega arith; no_quote = λ e. omega arith; no_backslash = λ e. omega arith }

all_follow-printed : (w : List ℕ) → AllFollow w → ArePrinted w
all_follow-printed [] h = tt
all_follow-printed (b ∷ w) h = (high-printed b h.0.least, all_follow-printed w h.1)

-- the bytes of a character that stands for itself
pub plain-printed : (p : List ℕ) (c : ℕ) → IsPlain p c → ArePrinted (encode_utf8 c)
plain-printed p c is =
    let l = lead c is.scalar in
    subst ArePrinted (sym l.is) (
      record {
        printed = omega (arith, l.byte, is.printed);
        no_quote = omega (arith, l.byte, is.no_quote);
        no_backslash = omega (arith, l.byte, is.no_backslash);
      },
      all_follow-printed l.rest l.follow,
    )

module _ (t : List ℕ) where
  pub event_by-byte : (i b : ℕ) → slice_get t i ≡ Some b → IsPrinted b → event_at t i ≡ part (b ∷ []) false (i + 1)
  unfolding event_at
  event_by-byte i b e p = rw (e, ne_eqb b 34 p.no_quote, ne_eqb b 92 p.no_backslash, le-ltb b 32 p.printed)

  pub event_by-quote : (i : ℕ) → slice_get t i ≡ Some 34 → event_at t i ≡ over (closed (i + 1))
  unfolding event_at
  event_by-quote i e = ap (event_by t i) e

  pub event_by-backslash : (i : ℕ) → slice_get t i ≡ Some 92
      → event_at t i ≡ after_backslash t (i + 1) (slice_get t (i + 1))
  unfolding event_at
  event_by-backslash i e = ap (event_by t i) e

  hex_digits_at-good : (i : ℕ) → HexAt t i → hex_digits_at t i ≡ number (unit_at t i)
  hex_digits_at-good i h =
      rw (le-ltb (length t) (i + 4) h.within, h.digits.0, h.digits.1, h.digits.2, h.digits.3)

  index-at : (k m x : ℕ) → k ≡ m → slice_get t k ≡ Some x → slice_index t m ≡ x
  index-at k m x e h = get_or_from_slice_get t m x 0 (subst (λ n. slice_get t n ≡ Some x) e h)

  pub unit-at : (o e u : ℕ) (p : List ℕ) → IsUnit p u → Stands t o e p → UnitAt t o e u
  unit-at o e u p is s =
      let h : Stands t o e (92 ∷ 117 ∷ is.a ∷ is.b ∷ is.c ∷ is.d ∷ []) = subst (Stands t o e) is.is s in
      let a = index-at (o + 1 + 1) (o + 1 + 1) is.a refl h.1.1.0 in
      let b = index-at (o + 1 + 1 + 1) (o + 1 + 1 + 1) is.b refl h.1.1.1.0 in
      let c = index-at (o + 1 + 1 + 1 + 1) (o + 1 + 1 + 2) is.c (omega arith) h.1.1.1.1.0 in
      let d = index-at (o + 1 + 1 + 1 + 1 + 1) (o + 1 + 1 + 3) is.d (omega arith) h.1.1.1.1.1.0 in
      let last = slice_get_within t (o + 1 + 1 + 1 + 1 + 1) is.d h.1.1.1.1.1.0 in
      record {
        slash = h.0;
        letter = h.1.0;
        hex = record { within = omega arith; digits = rw (a, b, c, d) is.digits };
        number = rw (a, b, c, d) is.means;
        ends = omega (arith, h.1.1.1.1.1.1);
      }

  pub event_by-number : (i e u : ℕ) → UnitAt t i e u → event_at t i ≡ unicode_escape t (i + 1 + 1 + 4) u
  event_by-number i e u x =
      rw (event_by-backslash i x.slash, x.letter, hex_digits_at-good (i + 1 + 1) x.hex, x.number)

  event_by-pair : (i j k high low : ℕ) → is_high high ≡ true → is_low low ≡ true → UnitAt t i k high
      → UnitAt t (i + 1 + 1 + 4) j low → event_at t i ≡ part (encode_utf8 (pair_of high low)) true j
  event_by-pair i j k high low hi lo x y =
      let o = i + 1 + 1 + 4 in
      rw (event_by-number i k high x, hi, y.slash, y.letter, hex_digits_at-good (o + 1 + 1) y.hex, y.number, lo)
      (ap (part (encode_utf8 (pair_of high low)) true) (omega (arith, y.ends)))

  pub event_by-escape : (i j c : ℕ) (p : List ℕ) → IsEscape p c → Stands t i j p
      → event_at t i ≡ part (encode_utf8 c) true j
  event_by-escape i j c p (inl is) s =
      let h : Stands t i j (92 ∷ is.sign ∷ []) = subst (Stands t i j) is.is s in
      let no_u : (is.sign == 117) ≡ false = grind (arith, nat_tests, is.means) in
      rw (event_by-backslash i h.0, h.1.0, no_u, is.means) (ap (part (encode_utf8 c) true) h.1.1)
  event_by-escape i j c p (inr (inl is)) s =
      let x = unit-at i j c p is.0 s in
      let no_high : is_high c ≡ false = grind (arith, nat_tests, is.1) in
      let no_low : is_low c ≡ false = grind (arith, nat_tests, is.1) in
      rw (event_by-number i j c x, no_high, no_low) (ap (part (encode_utf8 c) true) (omega (arith, x.ends)))
  event_by-escape i j c p (inr (inr is)) s =
      let h = stands-split t i j is.prefix is.back (subst (Stands t i j) is.is s) in
      let x = unit-at i h.0 is.high is.prefix is.first h.1 in
      let at : h.0 ≡ i + 1 + 1 + 4 = omega (arith, x.ends) in
      let y = unit-at (i + 1 + 1 + 4) j is.low is.back is.second (subst (λ o. Stands t o j is.back) at h.2) in
      rw is.means (event_by-pair i j h.0 is.high is.low is.is_high is.is_low x y)

  pub bytes-read : (i j : ℕ) (w : List ℕ) → ArePrinted w → Stands t i j w → body_at t i ≡ before w false (body_at t j)
  bytes-read i j [] p s = ap (body_at t) s
  bytes-read i j (b ∷ w) p s =
      body_at-event_by t i (part (b ∷ []) false (i + 1)) (event_by-byte i b s.0 p.0)
      ∙ ap (before (b ∷ []) false) (bytes-read (i + 1) j w p.1 s.1)
      ∙ before-before (b ∷ []) w false false (body_at t j)

  pub char-read : (i j c : ℕ) → SpellsChar t i j c
      → (o : Bool) × (body_at t i ≡ before (encode_utf8 c) o (body_at t j)) × IsScalar c
  char-read i j c s = elim s.piece [
    | inl p ↦ (
      false,
      bytes-read i j (encode_utf8 c) (plain-printed s.bytes c p) (subst (Stands t i j) p.is s.stands),
      p.scalar,
    )
    | inr x ↦ (
      true,
      body_at-event_by t i (part (encode_utf8 c) true j) (event_by-escape i j c s.bytes x s.stands),
      escape-scalar s.bytes c x,
    )
  ]

  pub pieces-read : (i q : ℕ) (ps : List Piece) → SpellsPieces t i ps q → slice_get t q ≡ Some 34
      → (o : Bool) × (body_at t i ≡ record { bytes = text_of ps; owned = o; stop = closed (q + 1) })
      × (all_scalars (characters ps) ≡ true)
  pieces-read i q [] s e =
      (false, body_at-event_by t i (over (closed (q + 1))) (ap (event_at t) s ∙ event_by-quote q e), refl)
  pieces-read i q (p ∷ ps) s e =
      let x = char-read i p.end p.character s.0 in
      let r = pieces-read p.end q ps s.1 e in
      (x.0 || r.0, x.1 ∙ ap (before (encode_utf8 p.character) x.0) r.1, ap₂ (λ (a b : Bool). a && b) x.2 r.2)

  pub string-complete : (i e : ℕ) (ps : List Piece) → SpellsString t i ps e
      → (o : Bool) × (string_at whole t i ≡ taken (record { owned = o; bytes = text_of ps }) e)
  unfolding content_at
  string-complete i e ps s =
      let r = pieces-read (i + 1) s.close ps s.spelled s.closes in
      let text = text_of ps in
      let good : (utf8_valid_len text == length text) ≡ true =
      eq-eqb _ _ (utf8_valid_len-IsUtf8 text (characters ps, (r.2, refl))) in (
        r.0,
        rw (r.1, good) (ap (taken (record { owned = r.0; bytes = text })) (sym s.ends)),
      )
