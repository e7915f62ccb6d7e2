-- An escape in chunks: while it is truncated it is short, and what ends it is found wherever it is.
use Rattle.jiter_steps.proofs.Words.{◌≡◌, inl, inr, ℕ, zero, suc, ◌+◌, ◌-◌, ◌<◌, ◌≤◌, true, List, [], ◌∷◌, ◌++◌}
use Rattle.jiter_steps.proofs.Words.{length, sym, ap, ◌∙◌, subst, arith, length-append, encode_utf8, slice_get}
use Rattle.jiter_steps.proofs.Words.{Some, take-append_seam, cases_lt, slice_get_within, slice_get-get_or, take_all}
use Rattle.jiter_steps.proofs.Words.{none-some, same_Some, Kind, Stands, slice-stands, IsSpelled, unclosed, cut, wrong}
use Rattle.jiter_steps.proofs.Words.{part, over, short, event_at}
use Rattle.jiter_steps.specs.StringReading.{closed}
use Rattle.jiter_steps.specs.declared.partial_escape.EscapeStep.TheVariants as spelled
use Rattle.jiter_steps.proofs.Cut.DocumentPrefixes.{prefix-stands}
use Rattle.jiter_steps.proofs.Fault.SameStrings.{Same, SameFrom, escape-cut, event_at-same}
use Rattle.jiter_steps.proofs.Grammar.Places.{Explains, event_at-explains}
use Rattle.jiter_steps.proofs.Grammar.StringComplete.{event_by-escape}

-- A cut escape has fewer than twelve bytes.
pub cut_short : (w : List ℕ) → event_at w 0 ≡ over cut → length w < 12
cut_short w h = (subst (Explains w 0) h (event_at-explains w 0)).1

-- An escape that was cut ends within the bytes that follow.
pub whole-after : (w v : List ℕ) (bs : List ℕ) (j : ℕ) → event_at w 0 ≡ over cut
    → event_at (w ++ v) 0 ≡ part bs true j → (length w < j) × (j ≤ length (w ++ v))
whole-after w v bs j open_before h =
    let u = w ++ v in
    let e = subst (Explains u 0) h (event_at-explains u 0) in
    let long = length-append w v in
    elim (cases_lt (length w) j) [
      | inl lt ↦ (lt, omega (arith, e.within))
      | inr le ↦
          let prefix : Stands w 0 j e.bytes =
          subst (λ x. Stands x 0 j e.bytes) (take-append_seam w v)
          (prefix-stands u (length w) (omega arith) 0 j e.bytes e.stands le) in
          let early = event_by-escape w 0 j e.character e.bytes e.escape prefix in
          absurd (cc)
    ]

-- With one byte it ends after that, wherever its bytes are.
pub spelled-next : (w : List ℕ) (b c j : ℕ) → event_at w 0 ≡ over cut
    → event_at (w ++ b ∷ []) 0 ≡ part (encode_utf8 c) true j → IsSpelled (w ++ b ∷ []) (spelled.Whole c)
spelled-next w b c j open_before h = λ t i stands.
    let u = w ++ b ∷ [] in
    let r = whole-after w (b ∷ []) (encode_utf8 c) j open_before h in
    let e = subst (Explains u 0) h (event_at-explains u 0) in
    let bytes : e.bytes ≡ u =
    slice-stands u 0 j e.bytes e.stands ∙ take_all (j - 0) u (omega (arith, r.0, length-append w (b ∷ []))) in
    event_by-escape t i _ e.character e.bytes e.escape (subst (λ x. Stands t i (i + length u) x) (sym bytes) stands)
    ∙ ap (λ x. part x true (i + length u)) (sym e.is)

-- the first byte of an escape that is cut
pub cut_begins : (w : List ℕ) → event_at w 0 ≡ over cut → slice_get w 0 ≡ Some 92
cut_begins w h = (subst (Explains w 0) h (event_at-explains w 0)).0

-- and stays so
pub begins-after : (w v : List ℕ) (c : ℕ) → slice_get w 0 ≡ Some c → slice_get (w ++ v) 0 ≡ Some c
begins-after [] v c h = absurd (omega (arith, slice_get_within [] 0 c h))
begins-after (x ∷ w) v c h = h

-- Where a backslash is, the string is not over.
module _ (u : List ℕ) (backslash : slice_get u 0 ≡ Some 92) where
  -- not by a quote
  pub no-close : (e : ℕ) → over (closed e) ≡ event_at u 0 → ⊥
  no-close e h =
      omega (arith, same_Some 92 34 (sym backslash ∙ (subst (Explains u 0) (sym h) (event_at-explains u 0)).0))

  -- nor by the end of the input
  pub no-end : over unclosed ≡ event_at u 0 → ⊥
  no-end h = none-some 92 (sym (subst (Explains u 0) (sym h) (event_at-explains u 0)) ∙ backslash)

-- A wrong byte is one of them.
pub wrong-within : (u : List ℕ) (k : Kind) (j : ℕ) → event_at u 0 ≡ over (wrong k j) → j < length u
wrong-within u k j h = (subst (Explains u 0) h (event_at-explains u 0)).1

-- bytes that are at a place, and those after a place
pub stands-from : (w t : List ℕ) (i e m : ℕ) → Stands t i e w → SameFrom w t i 0 m
stands-from [] t i e m s k j c at le h = absurd (omega (arith, slice_get_within [] k c h))
stands-from (b ∷ w) t i e m s zero j c at le h = let here : j ≡ i = omega arith in ap (slice_get t) here ∙ s.0 ∙ h
stands-from (b ∷ w) t i e m s (suc k) j c at le h =
    stands-from w t (i + 1) e m s.1 k j c (omega arith) (omega arith) h

pub stands-back : (w t : List ℕ) (i m : ℕ) → Stands t i m w → SameFrom t w 0 i m
stands-back [] t i m s k j c at le h = absurd (omega (arith, s))
stands-back (b ∷ w) t i m s k zero c at le h =
    let here : i ≡ k = omega arith in sym s.0 ∙ ap (slice_get t) here ∙ h
stands-back (b ∷ w) t i m s k (suc j) c at le h = stands-back w t (i + 1) m s.1 k j c (omega arith) le h

-- An error is found wherever the bytes are,
pub spelled-wrong : (u t : List ℕ) (i : ℕ) → Stands t i (i + length u) u → (k : Kind) (j : ℕ)
    → event_at u 0 ≡ over (wrong k j) → event_at t i ≡ over (wrong k (i + j))
spelled-wrong u t i stands k j h =
    let m = length u in
    let inside = wrong-within u k j h in
    let same = stands-from u t i (i + m) m stands in
    let all = event_at-same u t i 0 m same 0 i (omega arith) in
    let found = subst (λ f. Same u t i 0 m same 1 f (event_at t i)) h all in
    let place : i + j - 0 ≡ i + j = omega arith in
    elim (found inside).1 [
      | inl is ↦ is ∙ ap (λ n. over (wrong k n)) place
      | inr short ↦
          let byte = slice_get-get_or u (m - 1) 0 (omega arith) in
          let last = same (m - 1) (i + (m - 1)) _ (omega arith) (omega arith) byte in
          absurd (omega (arith, short.0, slice_get_within t (i + (m - 1)) _ last))
    ]

-- and what is cut is so where the text ends after it.
pub spelled-cut : (u t : List ℕ) (i : ℕ) → Stands t i (i + length u) u → length t ≡ i + length u
    → event_at u 0 ≡ over cut → event_at t i ≡ over cut
spelled-cut u t i stands long h =
    let m = i + length u in
    let slash = stands-from u t i m 1 stands 0 i 92 (omega arith) (omega arith) (cut_begins u h) in
    escape-cut t u 0 i m (stands-back u t i m stands) i 0 (omega arith) (omega arith) (omega arith) slash
    (λ bs o e le is. let clash = sym h ∙ is in cc) (λ k x is. let clash = sym h ∙ is in cc)
