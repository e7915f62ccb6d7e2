-- A word is read just where its bytes are.
use Rattle.jiter_scan.proofs.Words.{◌≡◌, ℕ, ◌+◌, ◌<◌, ◌≤◌, ◌≢◌, Bool, cond, List, [], ◌∷◌, length, drop, get_or, refl}
use Rattle.jiter_scan.proofs.Words.{ap, ◌∙◌, subst, arith, slice_get, Some, None, ◌==◌, drop_more, eq-eqb, ne_eqb}
use Rattle.jiter_scan.proofs.Words.{eof_value, expected_ident, taken, failed, Stands, Span, byte_then, word_at}
use Rattle.std.proofs.lemmas.List.{drop_all}
use Rattle.jiter_scan.proofs.Choices.{if-true}
use Rattle.jiter_scan.proofs.Scanning.{FaultAt}
use Rattle.jiter_scan.proofs.NumberRows.{IsWord}
use Rattle.jiter_scan.proofs.NumberSound.{Spelled, word-spelled}
use Rattle.jiter_scan.proofs.Standing.{stands-length, stands-within}

-- the whole word, or an error on the way
abbrev pub WordWithin : List ℕ → List ℕ → ℕ → Span → Type 0
WordWithin t w i (taken u e) = (e ≡ i + length w) × (e ≤ length t)
WordWithin t w i (failed k j) = (i ≤ j) × FaultAt t k j

module _ (t : List ℕ) where
  spelled-within : (w : List ℕ) (i : ℕ) (x : Span) → i ≤ length t → Spelled t (IsWord w) i x → WordWithin t w i x
  spelled-within w i (taken u e) le s =
      let long = stands-length t i e s.0 s.1 in
      let same = ap length s.2 in
      (omega arith, stands-within t i e s.0 le s.1)
  spelled-within w i (failed k j) le s = s.0 le

  pub word_at-within : (w : List ℕ) (i : ℕ) → i ≤ length t → WordWithin t w i (word_at t w i)
  word_at-within w i le = spelled-within w i (word_at t w i) le (word-spelled t w i)

  -- a word that is there is read
  pub word_at-complete : (w : List ℕ) (i e : ℕ) → Stands t i e w → word_at t w i ≡ taken tt e
  unfolding word_at
  word_at-complete [] i e h = ap (taken tt) h
  word_at-complete (c ∷ w) i e h =
      ap (byte_then (word_at t w (i + 1)) c i) h.0
      ∙ if-true (c == c) _ _ (eq-eqb c c refl)
      ∙ word_at-complete w (i + 1) e h.1

  -- a word that is read is
  pub word_at-sound : (w : List ℕ) (i e : ℕ) (u : Unit {0}) → word_at t w i ≡ taken u e → Stands t i e w
  word_at-sound w i e u h =
      let r = subst (Spelled t (IsWord w) i) h (word-spelled t w i) in subst (Stands t i e) r.2 r.1

-- ---- a byte at a time, by the place in the word
word_at-step : (t w : List ℕ) (k i : ℕ) → k < length w
    → word_at t (drop k w) i ≡ byte_then (word_at t (drop (k + 1) w) (i + 1)) (get_or w k 0) i (slice_get t i)
unfolding word_at
word_at-step t w k i h = ap (λ v. word_at t v i) (drop_more w k 0 h)

-- where the input ends inside the word
pub word_at-cut : (t w : List ℕ) (k i : ℕ) → k < length w → slice_get t i ≡ None
    → word_at t (drop k w) i ≡ failed eof_value i
word_at-cut t w k i h e =
    word_at-step t w k i h ∙ ap (byte_then (word_at t (drop (k + 1) w) (i + 1)) (get_or w k 0) i) e

-- at a byte that differs
pub word_at-other : (t w : List ℕ) (k i b : ℕ) → k < length w → slice_get t i ≡ Some b → b ≢ get_or w k 0
    → word_at t (drop k w) i ≡ failed expected_ident i
word_at-other t w k i b h e ne =
    let rest = word_at t (drop (k + 1) w) (i + 1) in
    word_at-step t w k i h ∙ ap (byte_then rest (get_or w k 0) i) e
    ∙ ap (λ (y : Bool). cond y rest (failed expected_ident i)) (ne_eqb _ _ ne)

-- at the word's byte
pub word_at-same : (t w : List ℕ) (k i b : ℕ) → k < length w → slice_get t i ≡ Some b → b ≡ get_or w k 0
    → word_at t (drop k w) i ≡ word_at t (drop (k + 1) w) (i + 1)
word_at-same t w k i b h e same =
    let rest = word_at t (drop (k + 1) w) (i + 1) in
    word_at-step t w k i h ∙ ap (byte_then rest (get_or w k 0) i) e
    ∙ ap (λ (y : Bool). cond y rest (failed expected_ident i)) (eq-eqb _ _ same)

-- after the word
pub word_at-end : (t w : List ℕ) (k i : ℕ) → length w ≤ k → word_at t (drop k w) i ≡ taken tt i
unfolding word_at
word_at-end t w k i h = ap (λ v. word_at t v i) (drop_all k w h)
