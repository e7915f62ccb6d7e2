-- What is read is spelled, and in one way.
use Rattle.jiter_steps.proofs.Words.{◌≡◌, inl, inr, ℕ, zero, suc, ◌+◌, Bool, true, false, List, [], ◌∷◌, ◌++◌, length}
use Rattle.jiter_steps.proofs.Words.{take, refl, sym, ap, ◌∙◌, subst, arith, slice_get, Some, ◌==◌, IsScalar}
use Rattle.jiter_steps.proofs.Words.{encode_utf8, encode_utf8_all, all_scalars, IsUtf8, is_utf8, chars, utf8_valid_len}
use Rattle.jiter_steps.proofs.Words.{eqb-true, and_parts, encode_same, take_all, Stands, IsPlain, IsEscape, Piece}
use Rattle.jiter_steps.proofs.Words.{SpellsChar, SpellsPieces, SpellsString, characters, text_of, taken, Text, Stop}
use Rattle.jiter_steps.proofs.Words.{Event, part, over, event_at, join, body_at, whole, content_at, string_at}
use Rattle.jiter_steps.proofs.Words.{text_in_form, if_case, if_gives, failed-taken, same_taken, stands-length}
use Rattle.jiter_steps.proofs.Words.{valid_len_up_to, IsUtf8-from_is_utf8, IsUtf8-nil, scalars-chars, encodes-chars}
use Rattle.jiter_steps.specs.StringReading.{closed}
use Rattle.jiter_steps.proofs.Grammar.NodeRules.{end_of, pieces_from}
use Rattle.jiter_steps.proofs.Grammar.Utf8Shape.{Follows, AllFollow, Lead, lead}
use Rattle.jiter_steps.proofs.Grammar.Places.{Explains, event_at-explains}
use Rattle.jiter_steps.proofs.Reading.Bodies.{body_at-is}
use Rattle.jiter_steps.proofs.Grammar.StringComplete.{ArePrinted, plain-printed, event_by-byte, event_by-escape}

-- what is left of a body after some of its bytes
pub record Leaves (t : List ℕ) (i j : ℕ) (bs : List ℕ) : Type 0 where
  pub bytes : (body_at t j).bytes ≡ bs
  pub stop : (body_at t j).stop ≡ (body_at t i).stop

valid_prefix : (bs : List ℕ) (n : ℕ) → IsUtf8 (take (valid_len_up_to bs n) bs)
valid_prefix bs zero = IsUtf8-nil
valid_prefix bs (suc n) =
    if_case (λ k. IsUtf8 (take k bs)) (is_utf8 (take (suc n) bs)) (suc n) (valid_len_up_to bs n)
    (λ e. IsUtf8-from_is_utf8 (take (suc n) bs) e) (λ e. valid_prefix bs n)

-- the valid prefix is UTF-8
pub IsUtf8-valid : (bs : List ℕ) → IsUtf8 (take (utf8_valid_len bs) bs)
unfolding utf8_valid_len
IsUtf8-valid bs = valid_prefix bs (length bs)

pub valid-IsUtf8 : (bs : List ℕ) → utf8_valid_len bs ≡ length bs → IsUtf8 bs
valid-IsUtf8 bs e = subst IsUtf8 (take_all _ bs (omega arith)) (IsUtf8-valid bs)

module _ (t : List ℕ) where
  -- a byte that follows is no escape's first
  follow-read : (i y : ℕ) (r : List ℕ) → Follows y → (body_at t i).bytes ≡ y ∷ r
      → (slice_get t i ≡ Some y) × Leaves t i (i + 1) r
  follow-read i y r f e = by (event_at t i) (event_at-explains t i) (body_at-is t i) where
    by : (x : Event) → Explains t i x → body_at t i ≡ join (body_at t) x
        → (slice_get t i ≡ Some y) × Leaves t i (i + 1) r
    by (part bs false j) h b =
        let all = rw (b, h.is) at e in
        let head : h.byte ≡ y = cc in
        let tail : (body_at t j).bytes ≡ r = cc in
        (h.here ∙ ap Some head, rw (← h.ends) (record { bytes = tail; stop = rw b }))
    by (part bs true j) h b =
        let l = lead h.character h.scalar in
        let all = rw (b, h.is, l.is) at e in
        let head : l.first ≡ y = cc in
        absurd (omega (arith, l.byte, f.least, f.most))
    by (over s) h b = let none = rw b at e in absurd (cc)

  follows-read : (w : List ℕ) (i : ℕ) (r : List ℕ) → AllFollow w → (body_at t i).bytes ≡ w ++ r
      → (j : ℕ) × Stands t i j w × Leaves t i j r
  follows-read [] i r f e = (i, refl, record { bytes = e; stop = refl })
  follows-read (y ∷ w) i r f e =
      let x = follow-read i y (w ++ r) f.0 e in
      let z = follows-read w (i + 1) r f.1 x.1.bytes in
      (z.0, (x.0, z.1), record { bytes = z.2.bytes; stop = z.2.stop ∙ x.1.stop })

  -- a character that is read is spelled
  char-sound : (i c : ℕ) (r : List ℕ) → IsScalar c → (body_at t i).bytes ≡ encode_utf8 c ++ r → let j =
      end_of i c (event_at t i) in SpellsChar t i j c × Leaves t i j r
  char-sound i c r sc e = by (event_at t i) (event_at-explains t i) (body_at-is t i) where
    l : Lead c
    l = lead c sc

    by : (x : Event) → Explains t i x → body_at t i ≡ join (body_at t) x → let j = end_of i c x in
        SpellsChar t i j c × Leaves t i j r
    by (part bs false j) h b =
        let all = rw (b, h.is, l.is) at e in
        let head : h.byte ≡ l.first = cc in
        let tail : (body_at t j).bytes ≡ l.rest ++ r = cc in
        let x = follows-read l.rest (i + 1) r l.follow (rw (← h.ends) tail) in
        let w : Stands t i x.0 (encode_utf8 c) = subst (Stands t i x.0) (sym l.is) (h.here ∙ ap Some head, x.1) in
        let same : (body_at t (i + 1)).stop ≡ (body_at t i).stop = rw (b, h.ends) in
        let plain : IsPlain (encode_utf8 c) c =
        record {
          is = refl;
          scalar = sc;
          printed = omega (arith, l.byte, h.printed);
          no_quote = omega (arith, l.byte, h.no_quote);
          no_backslash = omega (arith, l.byte, h.no_backslash);
        } in
        rw (← stands-length t i x.0 (encode_utf8 c) w) (
          record { bytes = encode_utf8 c; stands = w; piece = inl plain },
          record { bytes = x.2.bytes; stop = x.2.stop ∙ same },
        )
    by (part bs true j) h b =
        let same = encode_same h.character c (body_at t j).bytes r (rw (b, h.is) at e) in (
          record { bytes = h.bytes; stands = h.stands; piece = inr (subst (IsEscape h.bytes) same.0 h.escape) },
          record { bytes = same.1; stop = rw b },
        )
    by (over s) h b = let none = rw (b, l.is) at e in absurd (cc)

  none-sound : (i e : ℕ) → (body_at t i).bytes ≡ [] → (body_at t i).stop ≡ closed e
      → (slice_get t i ≡ Some 34) × (e ≡ i + 1)
  none-sound i e b s = by (event_at t i) (event_at-explains t i) (body_at-is t i) where
    by : (x : Event) → Explains t i x → body_at t i ≡ join (body_at t) x → (slice_get t i ≡ Some 34) × (e ≡ i + 1)
    by (part bs false j) h is = let none = rw (is, h.is) at b in absurd (cc)
    by (part bs true j) h is = let none = rw (is, h.is, (lead h.character h.scalar).is) at b in absurd (cc)
    by (over x) h is = subst (λ (y : Stop). Explains t i (over y)) (rw is at s) h

  pub pieces-sound : (cs : List ℕ) (i e : ℕ) → all_scalars cs ≡ true → (body_at t i).bytes ≡ encode_utf8_all cs
      → (body_at t i).stop ≡ closed e
      → (q : ℕ) × SpellsPieces t i (pieces_from t i cs) q × (slice_get t q ≡ Some 34) × (e ≡ q + 1)
  pieces-sound [] i e sc b s = let x = none-sound i e b s in (i, refl, x.0, x.1)
  pieces-sound (c ∷ cs) i e sc b s =
      let p = and_parts _ _ sc in
      let x = char-sound i c (encode_utf8_all cs) p.0 b in
      let r = pieces-sound cs (end_of i c (event_at t i)) e p.1 x.1.bytes (x.1.stop ∙ s) in
      (r.0, (x.0, r.1), r.2, r.3)

  -- ---- in one way
  char-end : (i j c : ℕ) → SpellsChar t i j c → j ≡ end_of i c (event_at t i)
  char-end i j c s = elim s.piece [
    | inl p ↦
        let l = lead c p.scalar in
        let w = subst (Stands t i j) p.is s.stands in
        let printed = subst ArePrinted l.is (plain-printed s.bytes c p) in
        let here = subst (Stands t i j) l.is w in
        stands-length t i j (encode_utf8 c) w ∙ sym (ap (end_of i c) (event_by-byte t i l.first here.0 printed.0))
    | inr x ↦ sym (ap (end_of i c) (event_by-escape t i j c s.bytes x s.stands))
  ]

  pub pieces-unique : (ps : List Piece) (i q : ℕ) → SpellsPieces t i ps q → ps ≡ pieces_from t i (characters ps)
  pieces-unique [] i q s = refl
  pieces-unique (p ∷ ps) i q s =
      let c = p.character in
      let e = char-end i p.end c s.0 in
      (λ k. record { character = c; end = e k } ∷ ps)
      ∙ ap (λ l. record { character = c; end = end_of i c (event_at t i) } ∷ l)
      (pieces-unique ps p.end q s.1 ∙ ap (λ k. pieces_from t k (characters ps)) e)

  pub characters-from : (cs : List ℕ) (i : ℕ) → characters (pieces_from t i cs) ≡ cs
  characters-from [] i = refl
  characters-from (c ∷ cs) i = ap (λ l. c ∷ l) (characters-from cs (end_of i c (event_at t i)))

  -- ---- the law
  pub closed-text : (i : ℕ) (bs : List ℕ) (o : Bool) (s : Stop) (x : Text) (e : ℕ)
      → text_in_form whole t i bs o s ≡ taken x e
      → (x ≡ record { owned = o; bytes = bs }) × (s ≡ closed e) × ((utf8_valid_len bs == length bs) ≡ true)
  closed-text i bs o (closed f) x e h =
      if_gives (utf8_valid_len bs == length bs) _ _ (taken x e) h
      (λ is z. let p = same_taken _ x f e z in (sym p.0, ap closed p.1, is))
      (λ is z. absurd (failed-taken _ _ x e z))
  closed-text i bs o s x e h = absurd (cc)

  pub string-sound : (i e : ℕ) (x : Text) → slice_get t i ≡ Some 34 → string_at whole t i ≡ taken x e
      → let ps = pieces_from t (i + 1) (chars x.bytes) in SpellsString t i ps e × (x.bytes ≡ text_of ps)
  unfolding content_at
  string-sound i e x q h =
      let b = body_at t (i + 1) in
      let c = closed-text (i + 1) b.bytes b.owned b.stop x e h in
      let same : x.bytes ≡ b.bytes = ap (λ (y : Text). y.bytes) c.0 in
      let u : IsUtf8 x.bytes = subst IsUtf8 (sym same) (valid-IsUtf8 b.bytes (eqb-true _ _ c.2)) in
      let cs = chars x.bytes in
      let r = pieces-sound cs (i + 1) e (scalars-chars x.bytes u) (sym same ∙ sym (encodes-chars x.bytes u)) c.1 in (
        record { opens = q; close = r.0; spelled = r.1; closes = r.2; ends = r.3 },
        sym (encodes-chars x.bytes u)
            ∙ ap encode_utf8_all (sym (characters-from cs (i + 1))),
      )
