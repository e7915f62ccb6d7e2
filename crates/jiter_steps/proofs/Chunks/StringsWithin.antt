-- A string that is complete in a chunk is read as the same text wherever its bytes are.
use Rattle.jiter_steps.proofs.Words.{◌≡◌, ℕ, ◌+◌, ◌-◌, ◌<◌, ◌≤◌, Bool, List, ◌∷◌, ◌++◌, length, sym, ap}
use Rattle.jiter_steps.proofs.Words.{◌∙◌, subst, arith, slice_get, slice_range, Some, IsUtf8, slice-one}
use Rattle.jiter_steps.proofs.Words.{slice_range-split, stands-slice, stands-length, taken, Stands, IsTextWithin, Body}
use Rattle.jiter_steps.proofs.Words.{body_at, content_at, checked, string_at, text_form, text_in_form, whole, Text}
use Rattle.jiter_steps.specs.StringReading.{closed}
use Rattle.jiter_steps.proofs.Chunks.OpenEscapes.{stands-back, stands-from}
use Rattle.jiter_steps.proofs.Calls.StringAnswers.{string-checked, string_closed}
use Rattle.jiter_steps.proofs.Fault.SameStrings.{EndsBy, ShownStop, body-same}
use Rattle.jiter_steps.proofs.Grammar.StringSound.{closed-text}
use Rattle.jiter_steps.proofs.Reading.Bodies.{StopWithin, body_at-within}

-- the body from m on, which ends at e, is the same wherever its bytes are: alone, and so in any text
body-again : (chunk : List ℕ) (m e : ℕ) → (body_at chunk m).stop ≡ closed e
    → (t : List ℕ) (i k : ℕ) → Stands t i k (slice_range chunk m e)
    → body_at t i ≡ record { bytes = (body_at chunk m).bytes; owned = (body_at chunk m).owned; stop = closed k }
body-again chunk m e stop t i k s =
    let inside = subst (StopWithin chunk m) stop (body_at-within chunk m) in
    let stands = stands-slice chunk m e (omega (arith, inside.0)) inside.1 in
    let w = slice_range chunk m e in
    let n = length w in
    let b = body_at chunk m in
    let alone = stands-back w chunk m e stands in
    let there = stands-from w t i k n s in
    let end : 0 + e - m ≡ n = omega (arith, stands-length chunk m e w stands) in
    let last : i + n - 0 ≡ k = omega (arith, stands-length t i k w s) in
    let shown = subst (ShownStop e) (sym stop) (omega arith) in
    let cut_out = (body-same chunk w 0 m e alone m 0 (omega arith) shown).1 in
    let first : body_at w 0 ≡ record { bytes = b.bytes; owned = b.owned; stop = closed n } =
    subst (λ x. EndsBy chunk w 0 m e alone x b (body_at w 0)) stop cut_out
    ∙ ap (λ x. record { bytes = b.bytes; owned = b.owned; stop = closed x }) end in
    let stops = ap (λ (d : Body). d.stop) first in
    let found = (body-same w t i 0 n there 0 i (omega arith) (subst (ShownStop n) (sym stops) (omega arith))).1 in
    subst (λ x. EndsBy w t i 0 n there x (body_at w 0) (body_at t i)) stops found
    ∙ (λ x. record { bytes = (first x).bytes; owned = (first x).owned; stop = closed (last x) })

-- So the string whose opening quote is at a place is the same text, where the chunk reads all of it.
module _ (chunk : List ℕ) (at e : ℕ) (x : Text) (utf8 : IsUtf8 x.bytes)
    (reads : string_at whole chunk at ≡ taken x e) where
  text-again : (partial : Bool) (t : List ℕ) (i k : ℕ) → Stands t (i + 1) k (slice_range chunk (at + 1) e)
      → string_at (text_form partial) t i ≡ taken x k
  unfolding content_at
  text-again partial t i k s =
      let b = body_at chunk (at + 1) in
      let c = closed-text chunk (at + 1) b.bytes b.owned b.stop x e reads in
      ap (λ (d : Body). text_in_form (text_form partial) t (i + 1) d.bytes d.owned d.stop)
      (body-again chunk (at + 1) e c.1 t (i + 1) k s)
      ∙ string_closed partial t (i + 1) b.bytes b.owned k
      ∙ ap (λ (y : Text). checked partial (i + 1) y.owned y.bytes k) (sym c.0)
      ∙ string-checked (i + 1) k x.owned x.bytes partial utf8

  abbrev quoted : List ℕ
  quoted = slice_range chunk at e

  -- it ends after its quote
  ends : (at + 1 < e) × (e ≤ length chunk)
  unfolding content_at
  ends =
      let b = body_at chunk (at + 1) in
      let c = closed-text chunk (at + 1) b.bytes b.owned b.stop x e reads in
      subst (StopWithin chunk (at + 1)) c.1 (body_at-within chunk (at + 1))

  pub decoded-within : slice_get chunk at ≡ Some 34 → IsTextWithin chunk at x.bytes e
  decoded-within first = record {
    owned = x.owned;
    first = first;
    within = ends;
    quoted = λ t i s. (here t i s).0;
    reads = λ partial t i s. text-again partial t i (i + length quoted) (here t i s).1;
  } where
    here : (t : List ℕ) (i : ℕ) → Stands t i (i + length quoted) quoted
        → Stands t i (i + length quoted) (34 ∷ slice_range chunk (at + 1) e)
    here t i s =
        subst (Stands t i (i + length quoted))
        (slice_range-split chunk at (at + 1) (omega arith) e (omega (arith, ends.0))
        ∙ ap (λ w. w ++ slice_range chunk (at + 1) e) (slice-one chunk at 34 first)) s
