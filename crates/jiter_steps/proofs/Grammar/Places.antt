-- What is found at a place, in the grammar's words.
use Rattle.jiter_steps.proofs.Words.{◌≡◌, ◌≢◌, ◌⊎◌, inl, inr, ℕ, ◌+◌, ◌<◌, ◌≤◌, true, false, List, [], ◌∷◌, ◌++◌}
use Rattle.jiter_steps.proofs.Words.{length, refl, sym, ap, ◌∙◌, subst, arith, slice_get, slice_index, Option, Some}
use Rattle.jiter_steps.proofs.Words.{None, ◌==◌, nat_lt, IsScalar, encode_utf8, eqb-true, ltb-true, ltb-false}
use Rattle.jiter_steps.proofs.Words.{nat_tests, slice_get_within, slice_get-get_or, Kind, invalid_escape}
use Rattle.jiter_steps.proofs.Words.{lone_surrogate, end_of_hex_escape, control_character, short_escape, is_hex}
use Rattle.jiter_steps.proofs.Words.{unit_of, is_high, is_low, pair_of, Stands, IsUnit, IsEscape, Piece, SpellsPieces}
use Rattle.jiter_steps.proofs.Words.{unclosed, cut, wrong, Event, part, over, bad_digit, unit_at, hex_digits_or}
use Rattle.jiter_steps.proofs.Words.{hex_digits_at, after, surrogate_pair, after_high_backslash, after_high}
use Rattle.jiter_steps.proofs.Words.{unicode_escape, short, after_backslash, event_by, event_at, if_case, stands-append}
use Rattle.jiter_steps.proofs.Words.{get-none, stands-within, stands-length, ◌*◌, eqb-false, length-encode}
use Rattle.jiter_steps.proofs.Words.{len_utf8_bounds, len_utf8_ascii}
use Rattle.jiter_steps.specs.StringReading.{closed}

-- Words and pieces that are at a place.
module _ (t : List ℕ) where
  pub got : (i : ℕ) → i < length t → slice_get t i ≡ Some (slice_index t i)
  got i h = slice_get-get_or t i 0 h

  -- pieces end no earlier than they begin
  pub pieces-ahead : (ps : List Piece) (i e : ℕ) → SpellsPieces t i ps e → i ≤ e
  pieces-ahead [] i e h = omega (arith, h)
  pieces-ahead (p ∷ ps) i e h = omega (arith, stands-length t i p.end h.0.bytes h.0.stands, pieces-ahead ps p.end e h.1)

pub record ByteAt (t : List ℕ) (i : ℕ) (bs : List ℕ) (j : ℕ) : Type 0 where
  pub byte : ℕ
  pub here : slice_get t i ≡ Some byte
  pub is : bs ≡ byte ∷ []
  pub printed : 32 ≤ byte
  pub no_quote : byte ≢ 34
  pub no_backslash : byte ≢ 92
  pub ends : j ≡ i + 1

pub record EscapeAt (t : List ℕ) (i : ℕ) (bs : List ℕ) (j : ℕ) : Type 0 where
  pub character : ℕ
  pub bytes : List ℕ
  pub is : bs ≡ encode_utf8 character
  pub scalar : IsScalar character
  pub backslash : slice_get t i ≡ Some 92
  pub stands : Stands t i j bytes
  pub escape : IsEscape bytes character
  pub ahead : i < j
  pub wide : i + length bs ≤ j
  pub within : j ≤ length t

-- the kinds of error that a place of a string can have
abbrev pub IsPlaceKind : Kind → Type 0
IsPlaceKind k = (k ≡ invalid_escape) ⊎ ((k ≡ lone_surrogate) ⊎ ((k ≡ end_of_hex_escape) ⊎ (k ≡ control_character)))

abbrev pub Explains : List ℕ → ℕ → Event → Type 0
Explains t i (part bs false j) = ByteAt t i bs j
Explains t i (part bs true j) = EscapeAt t i bs j
Explains t i (over (closed e)) = (slice_get t i ≡ Some 34) × (e ≡ i + 1)
Explains t i (over unclosed) = slice_get t i ≡ None
Explains t i (over cut) = (slice_get t i ≡ Some 92) × (length t < i + 12)
Explains t i (over (wrong k j)) = (i ≤ j) × (j < length t) × IsPlaceKind k

pub record HexAt (t : List ℕ) (i : ℕ) : Type 0 where
  pub within : i + 4 ≤ length t
  pub digits : (is_hex (slice_index t i) ≡ true) × (is_hex (slice_index t (i + 1)) ≡ true)
      × (is_hex (slice_index t (i + 2)) ≡ true) × (is_hex (slice_index t (i + 3)) ≡ true)

-- every digit is good, or the first bad one is there
abbrev BadOrHex : List ℕ → ℕ → Option ℕ → Type 0
BadOrHex t i None = HexAt t i
BadOrHex t i (Some k) = (i ≤ k) × (k < length t)

bad_digit-explains : (t : List ℕ) (i : ℕ) → i + 4 ≤ length t → BadOrHex t i (bad_digit t i)
bad_digit-explains t i within =
    if_case (BadOrHex t i) (is_hex (slice_index t i)) _ _ (λ d0.
    if_case (BadOrHex t i) (is_hex (slice_index t (i + 1))) _ _ (λ d1.
    if_case (BadOrHex t i) (is_hex (slice_index t (i + 2))) _ _ (λ d2.
    if_case (BadOrHex t i) (is_hex (slice_index t (i + 3))) _ _
    (λ d3. record { within = within; digits = (d0, d1, d2, d3) }) (λ e. (omega arith, omega arith)))
    (λ e. (omega arith, omega arith)))
    (λ e. (omega arith, omega arith)))
    (λ e. (omega arith, omega arith))

hex_digits_at-case : (P : Event → Type 0) (t : List ℕ) (i : ℕ) (next : ℕ → Event) → (length t < i + 4 → P (over cut))
    → ((k : ℕ) → i ≤ k → k < length t → P (over (wrong invalid_escape k))) → (HexAt t i → P (next (unit_at t i)))
    → P (after next (hex_digits_at t i))
hex_digits_at-case P t i next none wrong_at good =
    if_case (λ d. P (after next d)) (nat_lt (length t) (i + 4)) _ _ (λ e. none (ltb-true (length t) (i + 4) e))
    (λ e. by (bad_digit t i) (bad_digit-explains t i (ltb-false (length t) (i + 4) e))) where
      by : (x : Option ℕ) → BadOrHex t i x → P (after next (hex_digits_or x (unit_at t i)))
      by None h = good h
      by (Some k) h = wrong_at k h.0 h.1

-- `\u` and four hex digits of the number u, from o to before e
pub record UnitAt (t : List ℕ) (o e u : ℕ) : Type 0 where
  pub slash : slice_get t o ≡ Some 92
  pub letter : slice_get t (o + 1) ≡ Some 117
  pub hex : HexAt t (o + 1 + 1)
  pub number : unit_at t (o + 1 + 1) ≡ u
  pub ends : e ≡ o + 6

-- the bytes of `\u` and the digits at i
abbrev unit_bytes : List ℕ → ℕ → List ℕ
unit_bytes t i = 92 ∷ 117 ∷ slice_index t i ∷ slice_index t (i + 1) ∷ slice_index t (i + 2) ∷ slice_index t (i + 3) ∷ []

got-at : (t : List ℕ) (k m : ℕ) → k ≡ m → m < length t → slice_get t k ≡ Some (slice_index t m)
got-at t k m e h = rw e (got t m h)

unit-stands : (t : List ℕ) (o e u : ℕ) → UnitAt t o e u → Stands t o e (unit_bytes t (o + 1 + 1))
unit-stands t o e u x =
    let h = o + 1 + 1 in
    let within = x.hex.within in
    let second = got-at t (h + 1) (h + 1) refl (omega arith) in
    let third = got-at t (h + 1 + 1) (h + 2) (omega arith) (omega arith) in
    let fourth = got-at t (h + 1 + 1 + 1) (h + 3) (omega arith) (omega arith) in
    (x.slash, (x.letter, ((got-at t h h refl (omega arith)), (second, (third, (fourth, omega (arith, x.ends)))))))

unit-is : (t : List ℕ) (o e u : ℕ) → UnitAt t o e u → IsUnit (unit_bytes t (o + 1 + 1)) u
unit-is t o e u x =
    let h = o + 1 + 1 in
    record {
      a = slice_index t h;
      b = slice_index t (h + 1);
      c = slice_index t (h + 2);
      d = slice_index t (h + 3);
      is = refl;
      digits = x.hex.digits;
      means = x.number;
    }

-- numbers
unit_of-bound : (a b c d : ℕ) → is_hex a ≡ true → is_hex b ≡ true → is_hex c ≡ true → is_hex d ≡ true
    → unit_of a b c d < 65536
unit_of-bound a b c d ha hb hc hd =
    sum _ _ _ _ (ltb-true _ 16 ha) (ltb-true _ 16 hb) (ltb-true _ 16 hc) (ltb-true _ 16 hd) where
      sum : (a b c d : ℕ) → a < 16 → b < 16 → c < 16 → d < 16 → a * 4096 + b * 256 + c * 16 + d < 65536
      sum a b c d p q r s = omega arith

scalar-unit : (t : List ℕ) (o e u : ℕ) → UnitAt t o e u → is_high u ≡ false → is_low u ≡ false → IsScalar u
scalar-unit t o e u x a b =
    let h = o + 1 + 1 in
    let d = x.hex.digits in
    let bound =
    unit_of-bound (slice_index t h) (slice_index t (h + 1)) (slice_index t (h + 2)) (slice_index t (h + 3)) d.0 d.1 d.2
    d.3 in
    grind (arith, nat_tests, a, b, subst (λ n. n < 65536) x.number bound)

pub escape-scalar : (p : List ℕ) (c : ℕ) → IsEscape p c → IsScalar c
escape-scalar p c (inl is) = grind (arith, nat_tests, is.means)
escape-scalar p c (inr (inl is)) = is.1
escape-scalar p c (inr (inr is)) = subst IsScalar (sym is.means) (grind (arith, nat_tests, is.is_high, is.is_low))

at-most-four : (c o j : ℕ) → o + 6 ≤ j → o + length (encode_utf8 c) ≤ j
at-most-four c o j h = omega (arith, length-encode c, (len_utf8_bounds c).1)

-- an escape that is there
escaped : (t : List ℕ) (o j c : ℕ) (p : List ℕ) → slice_get t o ≡ Some 92 → Stands t o j p → IsEscape p c
    → o + length (encode_utf8 c) ≤ j → EscapeAt t o (encode_utf8 c) j
escaped t o j c p slash stands escape wide =
    let inside = slice_get_within t o 92 slash in
    record {
      character = c;
      bytes = p;
      is = refl;
      scalar = escape-scalar p c escape;
      backslash = slash;
      stands = stands;
      escape = escape;
      ahead = omega (arith, wide, length-encode c, (len_utf8_bounds c).0);
      wide = wide;
      within = stands-within t o j p (omega arith) stands;
    }

module _ (t : List ℕ) (o : ℕ) where
  -- where the digits of the escape at o end, and those of one after it
  abbrev one : ℕ
  one = o + 1 + 1 + 4

  abbrev two : ℕ
  two = one + 1 + 1 + 4

  surrogate_pair-explains : (high low : ℕ) → is_high high ≡ true → UnitAt t o one high → UnitAt t one two low
      → Explains t o (surrogate_pair high two low)
  surrogate_pair-explains high low hi x y =
      let prefix = unit_bytes t (o + 1 + 1) in
      let back = unit_bytes t (one + 1 + 1) in
      let stands = stands-append t o one two prefix back (unit-stands t o one high x) (unit-stands t one two low y) in
      if_case (Explains t o) (is_low low) _ _
      (λ lo. escaped t o two (pair_of high low) (prefix ++ back) x.slash stands (inr (inr (record {
        prefix = prefix;
        back = back;
        high = high;
        low = low;
        is = refl;
        first = unit-is t o one high x;
        second = unit-is t one two low y;
        is_high = hi;
        is_low = lo;
        means = refl;
      }))) (at-most-four (pair_of high low) o two (omega arith)))
      (λ no. (omega arith, omega (arith, y.hex.within), inr (inl refl)))

  after_high_backslash-explains : (high : ℕ) → is_high high ≡ true → UnitAt t o one high → slice_get t one ≡ Some 92
      → (x : Option ℕ) → slice_get t (one + 1) ≡ x → Explains t o (after_high_backslash t high (one + 1) x)
  after_high_backslash-explains high hi x s None e = (x.slash, omega (arith, get-none t (one + 1) e))
  after_high_backslash-explains high hi x s (Some b) e =
      if_case (Explains t o) (b == 117) _ _
      (λ q. hex_digits_at-case (Explains t o) t (one + 1 + 1) (surrogate_pair high two)
      (λ few. (x.slash, omega (arith, few)))
      (λ k lo up. (omega arith, up, inl refl))
      (λ y. surrogate_pair-explains high _ hi x (record {
        slash = s;
        letter = e ∙ ap Some (eqb-true b 117 q);
        hex = y;
        number = refl;
        ends = omega arith;
      })))
      (λ q. (omega arith, slice_get_within t (one + 1) b e, inr (inr (inl refl))))

  after_high-explains : (high : ℕ) → is_high high ≡ true → UnitAt t o one high
      → (x : Option ℕ) → slice_get t one ≡ x → Explains t o (after_high t high one x)
  after_high-explains high hi x None e = (x.slash, omega (arith, get-none t one e))
  after_high-explains high hi x (Some b) e =
      if_case (Explains t o) (b == 92) _ _
      (λ q. after_high_backslash-explains high hi x (e ∙ ap Some (eqb-true b 92 q)) (slice_get t (one + 1)) refl)
      (λ q. (omega arith, slice_get_within t one b e, inr (inr (inl refl))))

  unicode_escape-explains : (u : ℕ) → UnitAt t o one u → Explains t o (unicode_escape t one u)
  unicode_escape-explains u x =
      if_case (Explains t o) (is_high u) _ _ (λ hi. after_high-explains u hi x (slice_get t one) refl)
      (λ hi. if_case (Explains t o) (is_low u) _ _ (λ lo. (omega arith, omega (arith, x.hex.within), inr (inl refl)))
      (λ lo. escaped t o one u (unit_bytes t (o + 1 + 1)) x.slash (unit-stands t o one u x)
      (inr (inl (unit-is t o one u x, scalar-unit t o one u x hi lo))) (at-most-four u o one (omega arith))))

  module _ (slash : slice_get t o ≡ Some 92) where
    short-explains : (b : ℕ) → slice_get t (o + 1) ≡ Some b → (x : Option ℕ) → short_escape b ≡ x
        → Explains t o (short (o + 1) x)
    short-explains b e None me = (omega arith, slice_get_within t (o + 1) b e, inl refl)
    short-explains b e (Some c) me =
        let wide : o + length (encode_utf8 c) ≤ o + 1 + 1 =
        omega (arith, len_utf8_ascii c (grind (arith, nat_tests, me)), length-encode c) in
        escaped t o (o + 1 + 1) c (92 ∷ b ∷ []) slash (slash, (e, refl))
        (inl (record { sign = b; is = refl; means = me })) wide

    after_backslash-explains : (x : Option ℕ) → slice_get t (o + 1) ≡ x
        → Explains t o (after_backslash t (o + 1) x)
    after_backslash-explains None e = (slash, omega (arith, get-none t (o + 1) e))
    after_backslash-explains (Some b) e =
        if_case (Explains t o) (b == 117) _ _
        (λ q. hex_digits_at-case (Explains t o) t (o + 1 + 1) (unicode_escape t one)
        (λ few. (slash, omega (arith, few)))
        (λ k lo up. (omega arith, up, inl refl))
        (λ y. unicode_escape-explains _ (record {
          slash = slash;
          letter = e ∙ ap Some (eqb-true b 117 q);
          hex = y;
          number = refl;
          ends = omega arith;
        })))
        (λ q. short-explains b e (short_escape b) refl)

pub event_at-explains : (t : List ℕ) (i : ℕ) → Explains t i (event_at t i)
unfolding event_at
event_at-explains t i = by (slice_get t i) refl where
  by : (x : Option ℕ) → slice_get t i ≡ x → Explains t i (event_by t i x)
  by None e = e
  by (Some b) e =
      if_case (Explains t i) (b == 34) _ _ (λ q. (e ∙ ap Some (eqb-true b 34 q), refl)) (λ q.
      if_case (Explains t i) (b == 92) _ _
      (λ s. after_backslash-explains t i (e ∙ ap Some (eqb-true b 92 s)) (slice_get t (i + 1)) refl) (λ s.
      if_case (Explains t i) (nat_lt b 32) _ _ (λ c. (omega arith, slice_get_within t i b e, inr (inr (inr refl))))
      (λ c. record {
        byte = b;
        here = e;
        is = refl;
        printed = ltb-false b 32 c;
        no_quote = eqb-false b 34 q;
        no_backslash = eqb-false b 92 s;
        ends = refl;
      })))
