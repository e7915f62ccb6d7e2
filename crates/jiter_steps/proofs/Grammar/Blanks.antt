-- Whitespace: those that reading passes, and those of the grammar.
use Rattle.jiter_steps.proofs.Words.{◌≡◌, ℕ, ◌+◌, ◌-◌, ◌<◌, ◌≤◌, true, false, List, length, drop, get_or, IfSome, ap}
use Rattle.jiter_steps.proofs.Words.{◌∙◌, arith, slice_get, Option, Some, None, length-drop, get_or_from_slice_get}
use Rattle.jiter_steps.proofs.Words.{nat_tests, run_end-stopping, run_end-within, run_end-ahead, run_end-passes}
use Rattle.jiter_steps.proofs.Words.{run_end-stops, get-none, count_trailing_zeros, is_blank, past_blanks, IsBlank}
use Rattle.jiter_steps.proofs.Words.{get_or-drop, prefix_len_is, run_end-passing, run_end-past, run_end-through}
use Rattle.jiter_steps.proofs.Words.{run_end-inside, failing, chunk}

module _ (t : List ℕ) where
  -- a byte at a time
  pub past_blanks-blank : (i : ℕ) → i < length t → is_blank (get_or t i 0) ≡ true
      → past_blanks t i ≡ past_blanks t (i + 1)
  unfolding past_blanks
  past_blanks-blank = run_end-passing is_blank t

  pub past_blanks-other : (i : ℕ) → i < length t → is_blank (get_or t i 0) ≡ false → past_blanks t i ≡ i
  unfolding past_blanks
  past_blanks-other = run_end-stopping is_blank t

  pub past_blanks-above : (i : ℕ) → i < length t → 32 < get_or t i 0 → past_blanks t i ≡ i
  past_blanks-above i lt above = past_blanks-other i lt (grind (arith, nat_tests))

  pub past_blanks-end : (i : ℕ) → length t ≤ i → past_blanks t i ≡ i
  unfolding past_blanks
  past_blanks-end = run_end-past is_blank t

  pub past_blanks-bound : (i : ℕ) → i ≤ length t → past_blanks t i ≤ length t
  unfolding past_blanks
  past_blanks-bound = run_end-within is_blank t

  pub past_blanks-after : (i : ℕ) → i ≤ past_blanks t i
  unfolding past_blanks
  past_blanks-after = run_end-ahead is_blank t

  -- sixteen bytes at a time, by a bit for each that is not whitespace
  pub past_blanks-through : (i : ℕ) → i + 16 ≤ length t → failing is_blank (chunk i 16 t) ≡ 0
      → past_blanks t i ≡ past_blanks t (i + 16)
  unfolding past_blanks
  past_blanks-through i levels none = run_end-through is_blank t i 16 levels none

  pub past_blanks-inside : (i : ℕ) → i + 16 ≤ length t → 0 < failing is_blank (chunk i 16 t)
      → past_blanks t i ≡ i + count_trailing_zeros 64 (failing is_blank (chunk i 16 t))
  unfolding past_blanks
  past_blanks-inside i levels some = run_end-inside is_blank t i 16 levels (omega arith) some

  -- whitespace that is there is passed, up to a byte that is none or the end
  passes : (i j : ℕ) → IsBlank t i j → (j < length t → is_blank (get_or t j 0) ≡ false) → past_blanks t i ≡ j
  unfolding past_blanks
  passes i j b other =
      let seen : (k m : ℕ) → i + k ≡ m → get_or (drop i t) k 0 ≡ get_or t m 0 = λ k m e. get_or-drop i t k 0
      ∙ ap (λ x. get_or t x 0) e in
      let long = length-drop i t in
      let n : i + (j - i) ≡ j = omega (arith, b.ordered) in
      let all = prefix_len_is is_blank (drop i t) (j - i) 0 (omega (arith, b.within, b.ordered))
      (λ k lt. ap is_blank (seen k (i + k) (omega arith)) ∙
      (grind (arith, nat_tests, b.each (i + k) (omega arith) (omega arith))))
      (λ lt. ap is_blank (seen (j - i) j n) ∙ other (omega arith)) in
      omega arith

  pub blank-passed : (i j c : ℕ) → IsBlank t i j → slice_get t j ≡ Some c → is_blank c ≡ false → past_blanks t i ≡ j
  blank-passed i j c b e other = passes i j b (λ h. ap is_blank (get_or_from_slice_get t j c 0 e) ∙ other)

  pub blank-to_end : (i : ℕ) → IsBlank t i (length t) → past_blanks t i ≡ length t
  blank-to_end i b = passes i (length t) b (λ h. absurd (omega arith))

  -- what is passed is whitespace, and the byte after it is not
  pub passed-blank : (i : ℕ) → i ≤ length t → IsBlank t i (past_blanks t i)
  unfolding past_blanks
  passed-blank i h = record {
    ordered = past_blanks-after i;
    within = past_blanks-bound i h;
    each = λ k l lt. (grind (arith, nat_tests, run_end-passes is_blank t i k l lt));
  }

  pub no_blank-after : (i : ℕ) (o : Option ℕ) → slice_get t (past_blanks t i) ≡ o → IfSome o (λ c. is_blank c ≡ false)
  unfolding past_blanks
  no_blank-after i None e = tt
  no_blank-after i (Some c) e = run_end-stops is_blank t i c e

  -- where no byte is, the text ends
  pub at_length : (j : ℕ) → j ≤ length t → slice_get t j ≡ None → j ≡ length t
  at_length j le none = omega (arith, get-none t j none)
