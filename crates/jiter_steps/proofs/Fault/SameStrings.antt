-- Strings in two texts with the same bytes before a place.
use Rattle.jiter_steps.proofs.Words.{◌≡◌, ◌⊎◌, inl, inr, ℕ, zero, suc, ◌+◌, ◌-◌, ◌<◌, ◌≤◌, Bool, true, false, List, []}
use Rattle.jiter_steps.proofs.Words.{◌∷◌, length, refl, sym, ap, ◌∙◌, subst, arith, slice_get, slice_index, Option}
use Rattle.jiter_steps.proofs.Words.{Some, None, ◌==◌, if◌then◌else◌, nat_lt, encode_utf8, utf8_valid_len, ltb-false}
use Rattle.jiter_steps.proofs.Words.{le-ltb, ltb-true, same_Some, none-some, slice_get_within, slice_get-get_or}
use Rattle.jiter_steps.proofs.Words.{get_or_from_slice_get, true≢false, Kind, invalid_escape, lone_surrogate}
use Rattle.jiter_steps.proofs.Words.{end_of_hex_escape, control_character, Scanned, taken, failed, if_case, if-true}
use Rattle.jiter_steps.proofs.Words.{if-false, short_escape, is_hex, unit_of, is_high, is_low, pair_of, Stop, unclosed}
use Rattle.jiter_steps.proofs.Words.{cut, wrong, Event, part, over, bad_digit, unit_at, few, hex_digits_or}
use Rattle.jiter_steps.proofs.Words.{hex_digits_at, after, unit_then, surrogate_pair, after_high_backslash, after_high}
use Rattle.jiter_steps.proofs.Words.{single, unicode_escape, short, after_backslash, event_by, event_at, Body, before}
use Rattle.jiter_steps.proofs.Words.{join, body_at, whole, text_in_form, content_at, string_at}
use Rattle.jiter_steps.specs.StringReading.{closed, plain}
use Rattle.jiter_steps.proofs.Fault.SameSpelling.{SameBefore}
use Rattle.jiter_steps.proofs.Reading.Bounds.{both}
use Rattle.jiter_steps.proofs.Fault.SameNumbers.{Shown}
use Rattle.jiter_steps.proofs.Reading.Bodies.{StopWithin, body_at-is, body_at-event_by, body_at-within, event_by-end}
use Rattle.jiter_steps.proofs.Reading.Bodies.{part-ahead}
use Rattle.jiter_steps.proofs.Grammar.Places.{Explains, event_at-explains}

-- a part or a quote that ends by m, or an error of a place before it
abbrev pub ShownStop : ℕ → Stop → Type 0
ShownStop m (closed e) = e ≤ m
ShownStop m (wrong k j) = j < m
ShownStop m s = ⊥

abbrev ShownFound : ℕ → Event → Type 0
ShownFound m (part bytes owned e) = e ≤ m
ShownFound m (over s) = ShownStop m s

-- an error, or the end of the input within an escape
abbrev pub IsFailing : Stop → Type 0
IsFailing (wrong k j) = Unit {0}
IsFailing cut = Unit {0}
IsFailing s = ⊥

-- In two texts, where the bytes of t before m are in u, those after the first q after p others.
abbrev pub SameFrom : List ℕ → List ℕ → ℕ → ℕ → ℕ → Type 0
SameFrom t u p q m = (i j c : ℕ) → p + i ≡ q + j → i < m → slice_get t i ≡ Some c → slice_get u j ≡ Some c

module _ (t u : List ℕ) (p q m : ℕ) (same : SameFrom t u p q m) where
  -- the same is found there; or, where an error is found, that u ends within the escape, and before t does
  abbrev pub Finds : Event → Event → Type 0
  Finds (part bytes owned e) g = g ≡ part bytes owned (p + e - q)
  Finds (over (closed e)) g = g ≡ over (closed (p + e - q))
  Finds (over (wrong k j)) g = (g ≡ over (wrong k (p + j - q))) ⊎ ((q + length u < p + length t) × (g ≡ over cut))
  Finds (over s) g = g ≡ over s

  -- what is shown of f, which looks at each byte before i, is what g finds
  abbrev pub Same : ℕ → Event → Event → Type 0
  Same i f g = ShownFound m f → (i ≤ m) × Finds f g

  earlier : (i j : ℕ) (f g : Event) → i ≤ j → Same j f g → Same i f g
  earlier i j f g le h s = let r = h s in (omega (arith, r.0), r.1)

  -- parts that end at i, and errors at or after i - 1
  part-same : (bytes : List ℕ) (owned : Bool) (i j : ℕ) → p + i ≡ q + j
      → Same i (part bytes owned i) (part bytes owned j)
  part-same bytes owned i j at s = let end : j ≡ p + i - q = omega arith in (s, ap (part bytes owned) end)

  wrong-same : (k : Kind) (x y i : ℕ) → p + x ≡ q + y → i ≤ x + 1 → Same i (over (wrong k x)) (over (wrong k y))
  wrong-same k x y i at le s =
      let place : y ≡ p + x - q = omega arith in (omega (arith, s), inl (ap (λ n. over (wrong k n)) place))

  -- rows that do not ask the text
  surrogate_pair-same : (high i j low : ℕ) → p + i ≡ q + j → 0 < i → 0 < j
      → Same i (surrogate_pair high i low) (surrogate_pair high j low)
  surrogate_pair-same high i j low at some too =
      both (Same i) (is_low low) _ _ _ _ (part-same (encode_utf8 (pair_of high low)) true i j at)
      (wrong-same lone_surrogate (i - 1) (j - 1) i (omega arith) (omega arith))

  single-same : (i j x : ℕ) → p + i ≡ q + j → 0 < i → 0 < j → Same i (single i x) (single j x)
  single-same i j x at some too =
      both (Same i) (is_low x) _ _ _ _ (wrong-same lone_surrogate (i - 1) (j - 1) i (omega arith) (omega arith))
      (part-same (encode_utf8 x) true i j at)

  short-same : (i j : ℕ) (o : Option ℕ) → p + i ≡ q + j → Same (i + 1) (short i o) (short j o)
  short-same i j None at = wrong-same invalid_escape i j (i + 1) at (omega arith)
  short-same i j (Some c) at = part-same (encode_utf8 c) true (i + 1) (j + 1) (omega arith)

  plain-same : (i j b : ℕ) → p + i ≡ q + j → Same (i + 1) (plain i b) (plain j b)
  plain-same i j b at =
      both (Same (i + 1)) (nat_lt b 32) _ _ _ _ (wrong-same control_character i j (i + 1) at (omega arith))
      (part-same (b ∷ []) false (i + 1) (j + 1) (omega arith))

  closed-same : (i j : ℕ) → p + i ≡ q + j → Same (i + 1) (over (closed (i + 1))) (over (closed (j + 1)))
  closed-same i j at s = let end : j + 1 ≡ p + (i + 1) - q = omega arith in (s, ap (λ e. over (closed e)) end)

  -- what a byte decides
  byte-same : (f g : Option ℕ → Event) (i j : ℕ) → p + i ≡ q + j → (ShownFound m (f None) → ⊥)
      → ((c : ℕ) → Same (i + 1) (f (Some c)) (g (Some c))) → Same (i + 1) (f (slice_get t i)) (g (slice_get u j))
  byte-same f g i j at none some = by (slice_get t i) refl where
    by : (o : Option ℕ) → slice_get t i ≡ o → Same (i + 1) (f o) (g (slice_get u j))
    by None e s = absurd (none s)
    by (Some c) e s =
        let r = some c s in
        let here = same i j c at (omega (arith, r.0)) e in
        (r.0, subst (λ o. Finds (f (Some c)) (g o)) (sym here) r.1)

  -- a byte by its index
  moved : (i j : ℕ) → p + i ≡ q + j → i < m → i < length t → slice_get u j ≡ Some (slice_index t i)
  moved i j at le lt = same i j (slice_index t i) at le (slice_get-get_or t i 0 lt)

  index-moved : (i j : ℕ) → p + i ≡ q + j → i < m → i < length t → slice_index u j ≡ slice_index t i
  index-moved i j at le lt = get_or_from_slice_get u j (slice_index t i) 0 (moved i j at le lt)

  -- the first byte from i on, and before e, that is no hex digit
  abbrev SameBad : ℕ → ℕ → Option ℕ → Option ℕ → Type 0
  SameBad e i None y = e ≤ m → y ≡ None
  SameBad e i (Some k) y = k < m → (i ≤ k) × (y ≡ Some (p + k - q))

  digit-same : (e i j n : ℕ) (x y : Option ℕ) → p + i ≡ q + j → i < length t → i < n → i < e → SameBad e n x y
      → SameBad e i (if is_hex (slice_index t i) then x else Some i) (if is_hex (slice_index u j) then y else Some j)
  digit-same e i j n x y at lt later ends rest =
      if_case (λ o. SameBad e i o other) (is_hex (slice_index t i)) x (Some i) (good x rest)
      (λ bad le.
      let place : j ≡ p + i - q = omega arith in
      (omega arith, if-false _ y (Some j) (there le ∙ bad) ∙ ap (λ k. Some k) place))
    where
      other : Option ℕ
      other = if is_hex (slice_index u j) then y else Some j

      there : i < m → is_hex (slice_index u j) ≡ is_hex (slice_index t i)
      there le = ap is_hex (index-moved i j at le lt)

      good : (x : Option ℕ) → SameBad e n x y → is_hex (slice_index t i) ≡ true → SameBad e i x other
      good None rest hex = λ le. if-true _ y (Some j) (there (omega arith) ∙ hex) ∙ rest le
      good (Some k) rest hex = λ le.
          let r = rest le in
          (omega (arith, r.0), if-true _ y (Some j) (there (omega (arith, r.0)) ∙ hex) ∙ r.1)

  bad-same : (i j : ℕ) → p + i ≡ q + j → i + 4 ≤ length t → SameBad (i + 4) i (bad_digit t i) (bad_digit u j)
  bad-same i j at within =
      let e = i + 4 in
      digit-same e i j (i + 1) _ _ at (omega arith) (omega arith) (omega arith)
      (digit-same e (i + 1) (j + 1) (i + 2) _ _ (omega arith) (omega arith) (omega arith) (omega arith)
      (digit-same e (i + 2) (j + 2) (i + 3) _ _ (omega arith) (omega arith) (omega arith) (omega arith)
      (digit-same e (i + 3) (j + 3) e None None (omega arith) (omega arith) (omega arith) (omega arith) (λ le. refl))))

  digits-same : (i j : ℕ) → p + i ≡ q + j → i + 4 ≤ length t → i + 4 ≤ m → bad_digit u j ≡ None
      → hex_digits_at u j ≡ hex_digits_or None (unit_at t i)
  digits-same i j at within le none =
      let there = λ (n x : ℕ) (place : p + n ≡ q + x) (lt : n < i + 4).
      index-moved n x place (omega arith) (omega arith) in
      let a = there i j at (omega arith) in
      let b = there (i + 1) (j + 1) (omega arith) (omega arith) in
      let c = there (i + 2) (j + 2) (omega arith) (omega arith) in
      let d = there (i + 3) (j + 3) (omega arith) (omega arith) in
      let last = slice_get_within u (j + 3) _ (moved (i + 3) (j + 3) (omega arith) (omega arith) (omega arith)) in
      if-false (nat_lt (length u) (j + 4)) few _ (le-ltb (length u) (j + 4) (omega (arith, last)))
      ∙ (λ k. hex_digits_or (none k) (unit_of (a k) (b k) (c k) (d k)))

  unit-same : (i j : ℕ) (f g : ℕ → ℕ → Event) → p + i ≡ q + j → ((x : ℕ) → Same (i + 4) (f (i + 4) x) (g (j + 4) x))
      → Same i (unit_then t i f) (unit_then u j g)
  unit-same i j f g at all =
      if_case (λ d. Same i (after (f (i + 4)) d) (unit_then u j g)) (nat_lt (length t) (i + 4)) _ _
      (λ e s. absurd s)
      (λ e.
      let within = ltb-false (length t) (i + 4) e in
      by within (bad_digit t i) (bad-same i j at within)) where
        by : i + 4 ≤ length t → (o : Option ℕ) → SameBad (i + 4) i o (bad_digit u j)
            → Same i (after (f (i + 4)) (hex_digits_or o (unit_at t i))) (unit_then u j g)
        by within None bad s =
            let r = all (unit_at t i) s in
            let digits = digits-same i j at within r.0 (bad r.0) in
            (omega (arith, r.0), subst (λ d. Finds (f (i + 4) (unit_at t i)) (after (g (j + 4)) d)) (sym digits) r.1)
        by within (Some k) bad s =
            let r = bad s in (
              omega (arith, r.0, s),
              if_case (λ d. Finds (over (wrong invalid_escape k)) (after (g (j + 4)) d))
                  (nat_lt (length u) (j + 4)) _ _
                  (λ short. inr (omega (arith, ltb-true (length u) (j + 4) short, at, within), refl))
                  (λ long. inl (ap (λ x. after (g (j + 4)) (hex_digits_or x (unit_at u j))) r.1)),
            )

  -- escapes
  after_high_backslash-same : (high i j : ℕ) → p + i ≡ q + j
      → Same (i + 1) (after_high_backslash t high i (slice_get t i)) (after_high_backslash u high j (slice_get u j))
  after_high_backslash-same high i j at =
      byte-same (after_high_backslash t high i) (after_high_backslash u high j) i j at (λ s. s)
      (λ c. both (Same (i + 1)) (c == 117) _ _ _ _
      (unit-same (i + 1) (j + 1) (surrogate_pair high) (surrogate_pair high) (omega arith)
      (λ x. surrogate_pair-same high (i + 1 + 4) (j + 1 + 4) x (omega arith) (omega arith) (omega arith)))
      (wrong-same end_of_hex_escape i j (i + 1) at (omega arith)))

  after_high-same : (high i j : ℕ) → p + i ≡ q + j
      → Same (i + 1) (after_high t high i (slice_get t i)) (after_high u high j (slice_get u j))
  after_high-same high i j at =
      byte-same (after_high t high i) (after_high u high j) i j at (λ s. s)
      (λ c. both (Same (i + 1)) (c == 92) _ _ _ _
      (earlier (i + 1) (i + 1 + 1) _ _ (omega arith) (after_high_backslash-same high (i + 1) (j + 1) (omega arith)))
      (wrong-same end_of_hex_escape i j (i + 1) at (omega arith)))

  unicode_escape-same : (i j x : ℕ) → p + i ≡ q + j → 0 < i → 0 < j
      → Same i (unicode_escape t i x) (unicode_escape u j x)
  unicode_escape-same i j x at some too =
      both (Same i) (is_high x) _ _ _ _ (earlier i (i + 1) _ _ (omega arith) (after_high-same x i j at))
      (single-same i j x at some too)

  after_backslash-same : (i j : ℕ) → p + i ≡ q + j
      → Same (i + 1) (after_backslash t i (slice_get t i)) (after_backslash u j (slice_get u j))
  after_backslash-same i j at =
      byte-same (after_backslash t i) (after_backslash u j) i j at (λ s. s)
      (λ c. both (Same (i + 1)) (c == 117) _ _ _ _
      (unit-same (i + 1) (j + 1) (unicode_escape t) (unicode_escape u) (omega arith)
      (λ x. unicode_escape-same (i + 1 + 4) (j + 1 + 4) x (omega arith) (omega arith) (omega arith)))
      (short-same i j (short_escape c) at))

  pub event_at-same : (i j : ℕ) → p + i ≡ q + j → Same (i + 1) (event_at t i) (event_at u j)
  unfolding event_at
  event_at-same i j at =
      byte-same (event_by t i) (event_by u j) i j at (λ s. s)
      (λ c. both (Same (i + 1)) (c == 34) _ _ _ _ (closed-same i j at)
      (both (Same (i + 1)) (c == 92) _ _ _ _
      (earlier (i + 1) (i + 1 + 1) _ _ (omega arith) (after_backslash-same (i + 1) (j + 1) (omega arith)))
      (plain-same i j c at)))

  -- Where a backslash is and u has no error, t ends within the escape if u finds none that ends in t.
  pub escape-cut : (i j : ℕ) → p + i ≡ q + j → length t ≤ m → p + length t ≤ q + length u → slice_get t i ≡ Some 92
      → ((bytes : List ℕ) (owned : Bool) (e : ℕ) → e ≤ length t → event_at u j ≡ part bytes owned (p + e - q) → ⊥)
      → ((k : Kind) (x : ℕ) → event_at u j ≡ over (wrong k x) → ⊥) → event_at t i ≡ over cut
  escape-cut i j at all long slash no_part no_error =
      by (event_at t i) (event_at-explains t i) (event_at-same i j at) where
        by : (f : Event) → Explains t i f → Same (i + 1) f (event_at u j) → f ≡ over cut
        by (part bytes owned e) x h =
            let inside = (part-ahead t i e bytes owned x).1 in
            absurd (no_part bytes owned e inside (h (omega arith)).1)
        by (over (closed e)) x h = absurd (omega (arith, same_Some 92 34 (sym slash ∙ x.0)))
        by (over unclosed) x h = absurd (none-some 92 (sym x ∙ slash))
        by (over cut) x h = refl
        by (over (wrong k y)) x h = elim (h (omega (arith, x.1))).1 [
          | inl is ↦ absurd (no_error k (p + y - q) is)
          | inr short ↦ absurd (omega (arith, short.0))
        ]

  -- The body of t from i on, which is shown, ends with the same bytes in u; or both end with an error or within an
  -- escape.
  abbrev pub EndsBy : Stop → Body → Body → Type 0
  EndsBy (closed e) b d = d ≡ record { bytes = b.bytes; owned = b.owned; stop = closed (p + e - q) }
  EndsBy s b d = IsFailing d.stop

  abbrev SameBody : ℕ → Body → Type 0
  SameBody i b = ShownStop m b.stop → (j : ℕ) → p + i ≡ q + j → (i < m) × EndsBy b.stop b (body_at u j)

  before-ends : (s : Stop) (bytes : List ℕ) (owned : Bool) (b d : Body) → EndsBy s b d
      → EndsBy s (before bytes owned b) (before bytes owned d)
  before-ends (closed e) bytes owned b d h = ap (before bytes owned) h
  before-ends s bytes owned b d h = h

  over-ends : (s : Stop) (j : ℕ) → ShownStop m s → Finds (over s) (event_at u j)
      → EndsBy s (join (body_at t) (over s)) (body_at u j)
  over-ends (closed e) j shown h = body_at-event_by u j (over (closed (p + e - q))) h
  over-ends (wrong k x) j shown h = elim h [
    | inl is ↦ rw (body_at-event_by u j _ is) tt
    | inr is ↦ rw (body_at-event_by u j _ is.1) tt
  ]
  over-ends s j shown h = absurd shown

  body-join : (n i : ℕ) → ((x : ℕ) → length t ≤ n + x → SameBody x (body_at t x)) → length t ≤ suc n + i
      → (f : Event) → Explains t i f → ((j : ℕ) → p + i ≡ q + j → Same (i + 1) f (event_at u j))
      → SameBody i (join (body_at t) f)
  body-join n i go le (over s) x h = λ shown j at.
      let r = h j at shown in (omega (arith, r.0), over-ends s j shown r.1)
  body-join n i go le (part bytes owned e) x h = λ shown j at.
      let ahead = part-ahead t i e bytes owned x in
      let next = p + e - q in
      let rest = go e (omega arith) shown next (omega arith) in
      let here = h j at (omega (arith, rest.0)) in
      let is = body_at-event_by u j (part bytes owned next) here.1 in
      let stop = (body_at t e).stop in
      let ends = before-ends stop bytes owned (body_at t e) (body_at u next) rest.1 in
      (omega (arith, here.0), subst (EndsBy stop (before bytes owned (body_at t e))) (sym is) ends)

  body-within : (n i : ℕ) → length t ≤ n + i → SameBody i (body_at t i)
  body-within zero i le =
      rw (body_at-event_by t i (over unclosed) (event_by-end t i (omega arith))) (λ shown. absurd shown)
  body-within (suc n) i le =
      rw (body_at-is t i)
      (body-join n i (body-within n) le (event_at t i) (event_at-explains t i) (event_at-same i))

  pub body-same : (i j : ℕ) → p + i ≡ q + j → ShownStop m (body_at t i).stop
      → (i < m) × EndsBy (body_at t i).stop (body_at t i) (body_at u j)
  body-same i j at shown = body-within (length t) i (omega arith) shown j at

-- an error is met
abbrev pub IsRefused : {A : Type 0} → Scanned A → Type 0
IsRefused (taken a e) = ⊥
IsRefused (failed k j) = Unit {0}

-- what is shown of x is y; or both are errors
abbrev pub SameOrFault : {A : Type 0} → Scanned A → Scanned A → Type 0
SameOrFault (taken a e) y = y ≡ taken a e
SameOrFault (failed k j) y = IsRefused y

-- so for the reading x, which begins at i, and the reading y of the other text
abbrev pub SameScalar : {A : Type 0} → List ℕ → ℕ → ℕ → Scanned A → Scanned A → Type 0
SameScalar t m i x y = Shown t m x → (i < m) × SameOrFault x y

module _ (t u : List ℕ) (m : ℕ) (same : SameBefore t u m) where
  pub same-from : SameFrom t u 0 0 m
  same-from i j c at le e = let here : j ≡ i = omega arith in ap (slice_get u) here ∙ same i c le e

  failing : (i : ℕ) (bytes : List ℕ) (owned : Bool) (s : Stop) → IsFailing s
      → IsRefused (text_in_form whole u i bytes owned s)
  failing i bytes owned (wrong k j) h = tt
  failing i bytes owned cut h = tt
  failing i bytes owned s h = absurd h

  -- what is shown of a string with this body
  body-shown : (i : ℕ) (b : Body) (s : Stop) → StopWithin t i s
      → (ShownStop m s → (i < m) × EndsBy t u 0 0 m same-from s b (body_at u i))
      → SameScalar t m i (text_in_form whole t i b.bytes b.owned s) (content_at whole u i)
  unfolding content_at
  body-shown i b unclosed within ends = λ shown. absurd (true≢false shown.1.0)
  body-shown i b cut within ends = λ shown. absurd (true≢false shown.1.0)
  body-shown i b (wrong k j) within ends = λ shown.
      let r = ends shown.0 in let d = body_at u i in (r.0, failing i d.bytes d.owned d.stop r.1)
  body-shown i b (closed e) within ends =
      if_case (λ x. SameScalar t m i x (content_at whole u i)) (utf8_valid_len b.bytes == length b.bytes) _ _
      (λ valid shown. let r = ends (omega (arith, shown.0)) in (r.0, again r.1 ∙ if-true _ _ _ valid))
      (λ other shown.
      let r = ends (omega (arith, shown.1.1 refl, within.1)) in
      (r.0, subst IsRefused (sym (again r.1 ∙ if-false _ _ _ other)) tt)) where
        again : EndsBy t u 0 0 m same-from (closed e) b (body_at u i)
            → content_at whole u i ≡ text_in_form whole u i b.bytes b.owned (closed e)
        again h =
            let place : 0 + e - 0 ≡ e = omega arith in
            ap (λ (d : Body). text_in_form whole u i d.bytes d.owned d.stop) h
            ∙ ap (λ n. text_in_form whole u i b.bytes b.owned (closed n)) place

  pub string-same : (i : ℕ) → SameScalar t m i (string_at whole t i) (string_at whole u i)
  unfolding content_at
  string-same i shown =
      let b = body_at t (i + 1) in
      let all = body-same t u 0 0 m same-from (i + 1) (i + 1) refl in
      let r = body-shown (i + 1) b b.stop (body_at-within t (i + 1)) all shown in
      (omega (arith, r.0), r.1)
