-- A string that is cut, where it is kept: the characters of the pieces that end before the cut.
use Rattle.jiter_steps.proofs.Words.{◌≡◌, ◌⊎◌, inl, inr, ℕ, suc, ◌+◌, ◌<◌, ◌≤◌, true, false, List, [], ◌∷◌, ◌++◌}
use Rattle.jiter_steps.proofs.Words.{◌-◌, length, take, refl, sym, ap, ◌∙◌, subst, arith, append-nil, append_assoc}
use Rattle.jiter_steps.proofs.Words.{slice_get, Some, encode_utf8, all_scalars, IsUtf8, le-leb, lt-leb, cases_lt}
use Rattle.jiter_steps.proofs.Words.{Stands, IsPlain, IsEscape, Piece, SpellsChar, SpellsPieces}
use Rattle.jiter_steps.proofs.Words.{SpellsString, characters, text_of, pieces_to, taken, failed, Stop, unclosed, cut}
use Rattle.jiter_steps.proofs.Words.{over, event_at, Body, before, body_at, kept}
use Rattle.jiter_steps.proofs.Words.{valid_prefix, content_at, string_at, whole, raw, eof_string}
use Rattle.jiter_steps.proofs.Grammar.Utf8Shape.{lead}
use Rattle.jiter_steps.proofs.Cut.DocumentPrefixes.{prefix-length, prefix-get, prefix-stands, prefix-too}
use Rattle.jiter_steps.proofs.Fault.SameSpelling.{string-too}
use Rattle.jiter_steps.proofs.Fault.SameStrings.{escape-cut, same-from}
use Rattle.jiter_steps.proofs.Grammar.Places.{Explains, event_at-explains}
use Rattle.jiter_steps.proofs.Reading.Bodies.{body_at-event_by, event_by-end}
use Rattle.jiter_steps.proofs.Grammar.StringMarks.{EndOf}
use Rattle.jiter_steps.proofs.Grammar.StringComplete.{ArePrinted, plain-printed, bytes-read, char-read}
use Rattle.jiter_steps.proofs.Grammar.StringComplete.{event_by-escape}
use Rattle.jiter_steps.proofs.Cut.CutCharacters.{IsPrefix, tail-unfinished, tail-taken}

module _ (t : List ℕ) (k : ℕ) (within : k ≤ length t) where
  abbrev u : List ℕ
  u = take k t

  pub long : length u ≡ k
  long = prefix-length t k within

  pub same : (x b : ℕ) → x < k → slice_get t x ≡ Some b → slice_get u x ≡ Some b
  same x b h e = prefix-get t k within x b h e

  char-cut : (i j c : ℕ) → SpellsChar t i j c → j ≤ k → SpellsChar u i j c
  char-cut i j c s l =
      record { bytes = s.bytes; stands = prefix-stands t k within i j s.bytes s.stands l; piece = s.piece }

  -- of these pieces, which begin at i, those before k are read, and a prefix of the next one's bytes
  record CutAt (i : ℕ) (ps : List Piece) : Type 0 where
    rest : List ℕ
    prefix : IsPrefix rest
    bytes : (body_at u i).bytes ≡ text_of (pieces_to k ps) ++ rest
    stop : ((body_at u i).stop ≡ unclosed) ⊎ ((body_at u i).stop ≡ cut)
    scalars : all_scalars (characters (pieces_to k ps)) ≡ true

  -- the input ends at k, within or before a character
  abbrev EndsAt : ℕ → Type 0
  EndsAt i = CutAt i []

  any-prefix : IsPrefix []
  any-prefix = record {
    c = 65;
    more = encode_utf8 65;
    scalar = refl;
    is = refl;
    some = let l = lead 65 refl in subst (λ x. 0 < length x) (sym l.is) (omega arith);
  }

  ends-at : (i : ℕ) (s : Stop) → event_at u i ≡ over s → (s ≡ unclosed) ⊎ (s ≡ cut) → EndsAt i
  ends-at i s e h =
      let b = body_at-event_by u i (over s) e in
      record { rest = []; prefix = any-prefix; bytes = ap (λ (x : Body). x.bytes) b; stop = rw b h; scalars = refl }

  ends-here : (i : ℕ) → k ≤ i → EndsAt i
  ends-here i h = ends-at i unclosed (event_by-end u i (omega (arith, long))) (inl refl)

  -- a plain character's prefix
  prefix-split : (i j : ℕ) (w : List ℕ) → Stands t i j w → i ≤ k → k < j → (v : List ℕ) × (more : List ℕ)
      × (w ≡ v ++ more) × Stands u i k v × (0 < length more)
  prefix-split i j [] h l m = absurd (omega (arith, h))
  prefix-split i j (b ∷ w) h l m = elim (cases_lt i k) [
    | inl lt ↦
        let r = prefix-split (i + 1) j w h.1 (omega arith) m in
        (b ∷ r.0, r.1, ap (λ x. b ∷ x) r.2, (same i b lt h.0, r.3), r.4)
    | inr ge ↦ ([], b ∷ w, refl, (let e : i ≡ k = omega arith in e), (let e : 0 < suc (length w) = omega arith in e))
  ]

  printed-prefix : (v more : List ℕ) → ArePrinted (v ++ more) → ArePrinted v
  printed-prefix [] more h = tt
  printed-prefix (b ∷ v) more h = (h.0, printed-prefix v more h.1)

  plain-ends : (i j c : ℕ) (p : List ℕ) → IsPlain p c → Stands t i j p → i ≤ k → k < j → EndsAt i
  plain-ends i j c p is s l m =
      let r = prefix-split i j (encode_utf8 c) (subst (Stands t i j) is.is s) l m in
      let printed = printed-prefix r.0 r.1 (subst ArePrinted r.2 (plain-printed p c is)) in
      let e = body_at-event_by u k (over unclosed) (event_by-end u k (omega (arith, long))) in
      let both = bytes-read u i k r.0 printed r.3 ∙ ap (before r.0 false) e in
      record {
        rest = r.0;
        prefix = record { c = c; more = r.1; scalar = is.scalar; is = r.2; some = r.4 };
        bytes = ap (λ (x : Body). x.bytes) both ∙ append-nil r.0;
        stop = rw both (inl refl);
        scalars = refl;
      }

  -- an escape's prefix
  escape-ends : (i j c : ℕ) (p : List ℕ) → IsEscape p c → Stands t i j p → i < k → k < j → event_at u i ≡ over cut
  escape-ends i j c p escape s l m =
      let whole = event_by-escape t i j c p escape s in
      let found = subst (Explains t i) whole (event_at-explains t i) in
      escape-cut u t 0 0 k (same-from u t k (prefix-too t k within k)) i i refl (omega (arith, long)) (omega (arith, long))
      (same i 92 l found.backslash)
      (λ bs o e le is.
      let both = sym whole ∙ is in
      let end : j ≡ 0 + e - 0 = cc in
      omega (arith, end, long))
      (λ kind x is. let clash = sym whole ∙ is in cc)

  char-ends : (i j c : ℕ) → SpellsChar t i j c → i ≤ k → k < j → EndsAt i
  char-ends i j c s l m = elim s.piece [
    | inl p ↦ plain-ends i j c s.bytes p s.stands l m
    | inr x ↦ elim (cases_lt i k) [
      | inl lt ↦ ends-at i cut (escape-ends i j c s.bytes x s.stands lt m) (inr refl)
      | inr ge ↦ ends-here i ge
    ]
  ]

  pieces-cut : (ps : List Piece) (i q : ℕ) → SpellsPieces t i ps q → i ≤ k → k ≤ q → CutAt i ps
  pieces-cut [] i q s l m = ends-here i (omega (arith, s))
  pieces-cut (p ∷ ps) i q s l m = elim (cases_lt k p.end) [
    | inl lt ↦
        let e = char-ends i p.end p.character s.0 l lt in
        let none = lt-leb p.end k lt in
        record { rest = e.rest; prefix = e.prefix; bytes = rw none e.bytes; stop = e.stop; scalars = rw none }
    | inr ge ↦
        let x = char-read u i p.end p.character (char-cut i p.end p.character s.0 ge) in
        let r = pieces-cut ps p.end q s.1 ge m in
        let some = le-leb p.end k ge in
        record {
          rest = r.rest;
          prefix = r.prefix;
          bytes = rw (some, x.1, r.bytes, append_assoc);
          stop = rw x.1 r.stop;
          scalars = rw (some, x.2, r.scalars);
        }
  ]

  pub kept-cut : (i e : ℕ) (ps : List Piece) → SpellsString t i ps e → i < k → k < e
      → EndOf u (body_at u (i + 1)).stop k
      × (string_at kept u i ≡ taken (record { owned = (body_at u (i + 1)).owned; bytes = text_of (pieces_to k ps) }) k)
  unfolding content_at
  kept-cut i e ps s l m =
      let c = pieces-cut ps (i + 1) s.close s.spelled (omega arith) (omega (arith, s.ends)) in
      let b = body_at u (i + 1) in
      let text = text_of (pieces_to k ps) in
      let utf8 : IsUtf8 text = (characters (pieces_to k ps), (c.scalars, refl)) in
      let kept_so : valid_prefix (i + 1) b.owned b.bytes (length u)
      ≡ taken (record { owned = b.owned; bytes = text }) k =
      rw (c.bytes, tail-unfinished text c.rest utf8 c.prefix, tail-taken text c.rest utf8 c.prefix, long) in
      elim c.stop [ inl x ↦ rw x (long, kept_so) | inr x ↦ rw x (long, kept_so) ]

  -- and where it isn't kept, the end of input is the error
  pub whole-cut : (i e : ℕ) (ps : List Piece) → SpellsString t i ps e → i < k → k < e
      → (string_at whole u i ≡ failed eof_string k) × (string_at raw u i ≡ failed eof_string k)
  unfolding content_at
  whole-cut i e ps s l m =
      let c = pieces-cut ps (i + 1) s.close s.spelled (omega arith) (omega (arith, s.ends)) in
      elim c.stop [ inl x ↦ rw (x, long) (refl, refl) | inr x ↦ rw (x, long) (refl, refl) ]

  pub string-still : (i e : ℕ) (ps : List Piece) → SpellsString t i ps e → e ≤ k → SpellsString u i ps e
  string-still i e ps s l = string-too t u k same i e ps l s
