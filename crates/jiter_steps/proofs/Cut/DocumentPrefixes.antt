-- The prefix of a text: its bytes, whitespace and steps before the place k.
use Rattle.jiter_steps.proofs.Words.{◌≡◌, ◌⊎◌, inl, inr, ℕ, ◌+◌, ◌<◌, ◌≤◌, Bool, cond, List, [], ◌∷◌, length, take}
use Rattle.jiter_steps.proofs.Words.{refl, sym, ap, ◌∙◌, subst, arith, slice_get, slice_index, slice_range, Option}
use Rattle.jiter_steps.proofs.Words.{Some, None, IfSome, cases_lt, eq-eqb, get_or-take, slice_get-get_or}
use Rattle.jiter_steps.proofs.Words.{slice_get_past, slice_get_within, eof_value, expected_ident, failed, Stands}
use Rattle.jiter_steps.proofs.Words.{byte_then, word_at, past_blanks, IsBlankByte, IsBlank, StandsAfter, SpellsNumber}
use Rattle.jiter_steps.proofs.Words.{step, length-take-le}
use Rattle.jiter_steps.proofs.Grammar.Blanks.{blank-to_end}
use Rattle.jiter_steps.proofs.Fault.SameSpelling.{SameBefore, stands-too, range-same, number-too, blanks-too}
use Rattle.jiter_steps.proofs.Fault.SameSpelling.{after-too}

module _ (t : List ℕ) (k : ℕ) (within : k ≤ length t) where
  abbrev u : List ℕ
  u = take k t

  pub prefix-length : length u ≡ k
  prefix-length = length-take-le k t within

  pub prefix-same : (i : ℕ) → i < k → slice_get u i ≡ slice_get t i
  prefix-same i h =
      slice_get-get_or u i 0 (omega (arith, prefix-length)) ∙ ap Some (get_or-take k t i 0 h)
      ∙ sym (slice_get-get_or t i 0 (omega arith))

  pub prefix-get : (i c : ℕ) → i < k → slice_get t i ≡ Some c → slice_get u i ≡ Some c
  prefix-get i c h e = prefix-same i h ∙ e

  -- its bytes are in the text too
  pub prefix-too : (m : ℕ) → SameBefore u t m
  prefix-too m i c lt e =
      let inside = slice_get_within u i c e in sym (prefix-same i (omega (arith, prefix-length))) ∙ e

  pub prefix-past : (i : ℕ) → k ≤ i → slice_get u i ≡ None
  prefix-past i h = slice_get_past u i (omega (arith, prefix-length))

  -- what holds of the byte there, if there is one, holds in the prefix
  pub prefix-if : (P : ℕ → Type 0) (i : ℕ) → IfSome (slice_get t i) P → IfSome (slice_get u i) P
  prefix-if P i h = by (cases_lt i k) where
    by : (i < k) ⊎ (k ≤ i) → IfSome (slice_get u i) P
    by (inl lt) = subst (λ o. IfSome o P) (sym (prefix-same i lt)) h
    by (inr ge) = subst (λ o. IfSome o P) (sym (prefix-past i ge)) tt

  pub prefix-range : (i j : ℕ) → i ≤ j → j ≤ k → slice_range u i j ≡ slice_range t i j
  prefix-range i j le h = range-same t u k prefix-get i j le h (omega arith)

  -- what the grammar spells before k
  pub prefix-stands : (i j : ℕ) (w : List ℕ) → Stands t i j w → j ≤ k → Stands u i j w
  prefix-stands i j w h le = stands-too t u k prefix-get i j w le h

  pub number-prefix : (names : Bool) (b e : ℕ) → SpellsNumber names t b e → e ≤ k → SpellsNumber names u b e
  number-prefix names b e h le = number-too t u k prefix-get names b e le h

  pub prefix-blank : (i j : ℕ) → IsBlank t i j → j ≤ k → IsBlank u i j
  prefix-blank i j b le = blanks-too t u k prefix-get i j le b

  pub prefix-after : (i c e : ℕ) → StandsAfter t i c e → e ≤ k → StandsAfter u i c e
  prefix-after i c e h le = after-too t u k prefix-get i c e le h

  -- a word that is cut ends too early
  pub prefix-word : (w : List ℕ) (i j : ℕ) → Stands t i j w → i ≤ k → k < j → word_at u w i ≡ failed eof_value k
  unfolding word_at
  prefix-word [] i j h le lt = absurd (omega arith)
  prefix-word (c ∷ w) i j h le lt = by (cases_lt i k) (λ more. prefix-word w (i + 1) j h.1 more lt) where
    by : (i < k) ⊎ (k ≤ i) → (i + 1 ≤ k → word_at u w (i + 1) ≡ failed eof_value k)
        → byte_then (word_at u w (i + 1)) c i (slice_get u i) ≡ failed eof_value k
    by (inl here) go =
        ap (byte_then (word_at u w (i + 1)) c i) (prefix-get i c here h.0)
        ∙ ap (λ y. cond y (word_at u w (i + 1)) (failed expected_ident i)) (eq-eqb c c refl) ∙ go (omega arith)
    by (inr past) go =
        let at : i ≡ k = omega arith in
        ap (byte_then (word_at u w (i + 1)) c i) (prefix-past i past) ∙ ap (failed eof_value) at

  pub prefix-index : (i : ℕ) → i < k → slice_index u i ≡ slice_index t i
  prefix-index i h = get_or-take k t i 0 h

  -- whitespace that is cut
  pub cut-blank : (i j : ℕ) → IsBlank t i j → i ≤ k → k ≤ j → IsBlank u i (length u)
  cut-blank i j b le ge = record {
    ordered = omega (arith, prefix-length);
    within = omega arith;
    each = λ m l h.
        let lt : m < k = omega (arith, prefix-length) in
        subst IsBlankByte (sym (prefix-index m lt)) (b.each m l (omega arith));
  }

  -- Steps: where the text ends in the whitespace, the row is at the end of input.
  pub row-cut : {A : Type 0} (row : ℕ → Option ℕ → A) (i j : ℕ) → IsBlank t i j → i ≤ k → k ≤ j
      → step u row i ≡ row k None
  row-cut row i j b le ge =
      let last : past_blanks u i ≡ k = blank-to_end u i (cut-blank i j b le ge) ∙ prefix-length in
      ap (λ m. row m (slice_get u m)) last ∙ ap (row k) (prefix-past k (omega arith))
