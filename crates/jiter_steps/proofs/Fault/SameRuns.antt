-- Runs and whitespace in two texts with the same bytes before a place.
use Rattle.jiter_steps.proofs.Words.{◌≡◌, ◌⊎◌, inl, inr, ℕ, ◌+◌, ◌-◌, ◌<◌, ◌≤◌, Bool, false, List, length, sym, ap}
use Rattle.jiter_steps.proofs.Words.{◌∙◌, subst, arith, slice_get, slice_index, Some, cases_lt, true≢false}
use Rattle.jiter_steps.proofs.Words.{slice_get_within, slice_get-get_or, Kind, is_end_kind, invalid_code_point}
use Rattle.jiter_steps.proofs.Words.{run_end-ahead, run_end-within, run_end-passes, run_end-stops, past_blanks, IsBlank}
use Rattle.jiter_scan.specs.Scan.{run_end}
use Rattle.jiter_steps.proofs.Grammar.Blanks.{past_blanks-after, blank-passed, passed-blank, no_blank-after}
use Rattle.jiter_steps.proofs.Fault.SameSpelling.{SameBefore, here-too, index-same, blanks-too}

-- an error of a byte at its index, or before it: the input goes on; one of UTF-8 only if m shows all of the text
abbrev pub IsOfByte : List ℕ → ℕ → Kind → Type 0
IsOfByte t m k = (is_end_kind k ≡ false) × (k ≡ invalid_code_point → length t ≤ m)

module _ (t u : List ℕ) (m : ℕ) (same : SameBefore t u m) where
  pub within-too : (i : ℕ) → i < m → i < length t → i < length u
  within-too i le lt = slice_get_within u i (slice_index t i) (here-too t u m same i le lt)

  -- a run of n bytes or more
  pub run-long : (test : ℕ → Bool) (i n : ℕ) → i ≤ length t → i + n ≤ m → i + n ≤ run_end test t i
      → i + n ≤ run_end test u i
  run-long test i n lt le long = by (cases_lt (run_end test u i) (i + n)) where
    by : (run_end test u i < i + n) ⊎ (i + n ≤ run_end test u i) → i + n ≤ run_end test u i
    by (inr ge) = ge
    by (inl short) =
        let j = run_end test u i in
        let inside = run_end-within test t i lt in
        let stops = run_end-stops test u i (slice_index t j) (here-too t u m same j (omega arith) (omega arith)) in
        absurd (true≢false (sym (run_end-passes test t i j (run_end-ahead test u i) (omega arith)) ∙ stops))

  -- a run that ends before m, and not with the text
  pub run-same : (test : ℕ → Bool) (i e : ℕ) → run_end test t i ≡ e → e < m → e < length t → run_end test u i ≡ e
  run-same test i e is le lt = by (cases_lt e (run_end test u i)) where
    stops : test (slice_index t e) ≡ false
    stops = run_end-stops test t i (slice_index t e) (ap (slice_get t) is ∙ slice_get-get_or t e 0 lt)

    by : (e < run_end test u i) ⊎ (run_end test u i ≤ e) → run_end test u i ≡ e
    by (inl more) =
        let passes = run_end-passes test u i e (omega (arith, run_end-ahead test t i)) more in
        absurd (true≢false (sym passes ∙ ap test (index-same t u m same e le lt) ∙ stops))
    by (inr ge) =
        let ahead = run_end-ahead test t i in
        let long = run-long test i (e - i) (omega arith) (omega arith) (omega arith) in omega arith

  -- whitespace, and the byte after them
  pub past_blanks-same : (i j c : ℕ) → past_blanks t i ≡ j → slice_get t j ≡ Some c → j < m → past_blanks u i ≡ j
  past_blanks-same i j c is here le =
      let lt = slice_get_within t j c here in
      let ahead = past_blanks-after t i in
      let blanks = subst (IsBlank t i) is (passed-blank t i (omega arith)) in
      let other = no_blank-after t i (Some c) (ap (slice_get t) is ∙ here) in
      blank-passed u i j c (blanks-too t u m same i j (omega arith) blanks) (same j c le here) other
