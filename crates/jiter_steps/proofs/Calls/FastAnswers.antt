-- What the fast path returns for literals, and for strings that need no decoding.
use Rattle.jiter_steps.proofs.Words.{◌≡◌, ℕ, ◌+◌, ◌<◌, false, List, [], length, ◌∙◌, arith, ◌∷◌, refl, Bool, slice_get}
use Rattle.jiter_steps.proofs.Words.{slice_range, Some, AllPass, nat_tests, scan_stop, is_ascii, IsUtf8, eq-eqb, taken}
use Rattle.jiter_steps.proofs.Words.{word_at, text_form, string_at, between, IsUtf8-from_ascii, IsAscii-from_all}
use Rattle.jiter_steps.proofs.Calls.StringAnswers.{string-quote, string-checked}

-- Words whose bytes are known to be.
module _ (t : List ℕ) where
  pub plain-letter : (c : ℕ) (w : List ℕ) (i j : ℕ) → slice_get t i ≡ Some c → j ≡ i + 1
      → word_at t (c ∷ w) i ≡ word_at t w j
  unfolding word_at
  plain-letter c w i j here next = rw (here, eq-eqb c c refl, next)

  plain-no_letter : (i : ℕ) → word_at t [] i ≡ taken tt i
  unfolding word_at
  plain-no_letter i = refl

  pub plain-four : (a b c d i e : ℕ) → slice_get t i ≡ Some a → slice_get t (i + 1) ≡ Some b
      → slice_get t (i + 2) ≡ Some c → slice_get t (i + 3) ≡ Some d → e ≡ i + 4
      → word_at t (a ∷ b ∷ c ∷ d ∷ []) i ≡ taken tt e
  plain-four a b c d i e first second third fourth end =
      plain-letter a (b ∷ c ∷ d ∷ []) i (i + 1) first refl
      ∙ plain-letter b (c ∷ d ∷ []) (i + 1) (i + 2) second (omega arith)
      ∙ plain-letter c (d ∷ []) (i + 2) (i + 3) third (omega arith)
      ∙ plain-letter d [] (i + 3) e fourth (omega arith) ∙ plain-no_letter e

pub plain-utf8 : (bs : List ℕ) → AllPass is_ascii bs → IsUtf8 bs
plain-utf8 bs h = IsUtf8-from_ascii bs (IsAscii-from_all bs (λ k d lt. grind (arith, nat_tests, h k d lt)))

-- A closed string with no backslash: the text between its quotes.
module _ (t : List ℕ) (at to : ℕ) (begins : at < length t) (stop : to ≡ scan_stop t (at + 1))
    (quote : slice_get t to ≡ Some 34) (utf8 : IsUtf8 (slice_range t (at + 1) to)) where
  pub plain-quoted : (partial : Bool) → string_at (text_form partial) t at ≡ taken (between t (at + 1) to) (to + 1)
  plain-quoted partial =
      string-quote t at begins to stop partial quote
      ∙ string-checked (at + 1) (to + 1) false (slice_range t (at + 1) to) partial utf8
