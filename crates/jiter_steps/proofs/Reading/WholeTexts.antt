-- The equations of a complete text's reading, and its bounds.
use Rattle.jiter_steps.proofs.Words.{◌≡◌, ℕ, ◌<◌, ◌≤◌, List, length, refl, ap, ◌∙◌, arith, slice_get, Option, Some}
use Rattle.jiter_steps.proofs.Words.{None, slice_get-get_or, slice_get_within, Kind, eof_value}
use Rattle.jiter_steps.proofs.Words.{get-none, past_blanks, nesting_limit, Reading, done, fault, Rules, value_at}
use Rattle.jiter_steps.proofs.Words.{if_last, to_end, if_begun, prefix_answer, whole_answer, trailing_characters}
use Rattle.jiter_steps.proofs.Grammar.Blanks.{past_blanks-bound}
use Rattle.jiter_steps.proofs.Reading.Bounds.{Within, fault-end, fault-byte}
use Rattle.jiter_steps.proofs.Reading.Values.{Advances, value_at-within}

module _ {K A : Type 0} (r : Rules K A) (t : List ℕ) where
  -- Whatever follows the value.
  pub prefix-begins : (i : ℕ) → past_blanks t 0 ≡ i → i < length t → prefix_answer r t ≡ value_at r t nesting_limit i
  unfolding prefix_answer
  prefix-begins i e h = ap (λ k. if_begun r t k (slice_get t k)) e ∙ ap (if_begun r t i) (slice_get-get_or t i 0 h)

  -- With nothing but whitespace after the value.
  pub whole-is : whole_answer r t ≡ to_end t (prefix_answer r t)
  unfolding whole_answer
  whole-is = refl

  pub whole-begins : (i : ℕ) → past_blanks t 0 ≡ i → i < length t
      → whole_answer r t ≡ to_end t (value_at r t nesting_limit i)
  whole-begins i e h = whole-is ∙ ap (to_end t) (prefix-begins i e h)

  pub whole-fault : (i : ℕ) (k : Kind) (x stop : ℕ) → past_blanks t 0 ≡ i → i < length t
      → value_at r t nesting_limit i ≡ fault k x stop → whole_answer r t ≡ fault k x stop
  whole-fault i k x stop e h v = whole-begins i e h ∙ ap (to_end t) v

  -- An answer stays within the text.
  within-later : (i j : ℕ) (x : Reading A) → i ≤ j → Within t j x → Within t i x
  within-later i j (done a e) le h = (omega (arith, h.0), h.1)
  within-later i j (fault k x stop) le h = (omega (arith, h.0), h.1, h.2)

  module _ (good : Advances r t) where
    if_begun-within : (i : ℕ) (o : Option ℕ) → i ≤ length t → slice_get t i ≡ o → Within t 0 (if_begun r t i o)
    if_begun-within i None le q =
        let past = get-none t i q in (omega arith, le, fault-end t eof_value i (λ m. cc) (omega (arith, past)))
    if_begun-within i (Some c) le q =
        within-later 0 i _ (omega arith) (value_at-within r t good nesting_limit i (slice_get_within t i c q))

    if_last-within : (a : A) (e j : ℕ) (o : Option ℕ) → 0 < e → e ≤ length t → j ≤ length t
        → Within t 0 (if_last a e j o)
    if_last-within a e j None some le lj = (some, le)
    if_last-within a e j (Some c) some le lj = (omega arith, lj, fault-byte t trailing_characters j (λ m. cc) refl lj)

    to_end-within : (x : Reading A) → Within t 0 x → Within t 0 (to_end t x)
    to_end-within (done a e) h =
        if_last-within a e (past_blanks t e) (slice_get t (past_blanks t e)) h.0 h.1 (past_blanks-bound t e h.1)
    to_end-within (fault k x stop) h = h

    pub prefix_answer-within : Within t 0 (prefix_answer r t)
    unfolding prefix_answer
    prefix_answer-within =
        if_begun-within (past_blanks t 0) (slice_get t (past_blanks t 0)) (past_blanks-bound t 0 (omega arith)) refl

    pub whole_answer-within : Within t 0 (whole_answer r t)
    unfolding whole_answer
    whole_answer-within = to_end-within (prefix_answer r t) prefix_answer-within
