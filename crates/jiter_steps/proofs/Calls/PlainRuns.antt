-- The plain bytes of a string stand for themselves, up to the first stop.
use Rattle.jiter_steps.proofs.Words.{◌≡◌, ℕ, zero, suc, ◌+◌, ◌<◌, ◌≤◌, true, false, List, [], length, drop, sym, ap}
use Rattle.jiter_steps.proofs.Words.{◌∙◌, arith, ◌∷◌, refl, slice_get, slice_range, slice_index, Option, Some, None}
use Rattle.jiter_steps.proofs.Words.{IfSome, nat_tests, is_stop, is_plain, scan_stop, run_end-ahead, run_end-within}
use Rattle.jiter_steps.proofs.Words.{run_end-passes, run_end-stops, part, before, body_at, prefix_len, between_none}
use Rattle.jiter_steps.proofs.Words.{between_more}
use Rattle.jiter_steps.proofs.Grammar.StringComplete.{IsPrinted, event_by-byte}
use Rattle.jiter_steps.proofs.Grammar.Places.{got}
use Rattle.jiter_steps.proofs.Reading.Bodies.{before-before, body_at-event_by}

plain_more : (t : List ℕ) (from at : ℕ) → body_at t from ≡ before (slice_range t from at) false (body_at t at)
    → from ≤ at → at < length t → IsPrinted (slice_index t at)
    → body_at t from ≡ before (slice_range t from (at + 1)) false (body_at t (at + 1))
plain_more t from at h le lt printed =
    let b = slice_index t at in
    h ∙ ap (before (slice_range t from at) false)
    (body_at-event_by t at (part (b ∷ []) false (at + 1)) (event_by-byte t at b (got t at lt) printed))
    ∙ before-before (slice_range t from at) (b ∷ []) false false (body_at t (at + 1))
    ∙ ap (λ l. before l false (body_at t (at + 1))) (sym (between_more t from at 0 le lt))

plain-printed : (b : ℕ) → is_plain b ≡ true → IsPrinted b
plain-printed b e =
    record {
      printed = grind (arith, nat_tests, e);
      no_quote = grind (arith, nat_tests, e);
      no_backslash = grind (arith, nat_tests, e);
    }

module _ (t : List ℕ) where
  pub plain_run-within : (i : ℕ) → i ≤ length t → (i ≤ scan_stop t i) × (scan_stop t i ≤ length t)
  plain_run-within i h = (run_end-ahead is_plain t i, run_end-within is_plain t i h)

  -- the byte there, if there is one, is a stop
  pub plain_run_stops : (i b : ℕ) → slice_get t (scan_stop t i) ≡ Some b → is_stop b ≡ true
  plain_run_stops i b e = grind (arith, nat_tests, run_end-stops is_plain t i b e)

  -- of the place where a run ends
  pub plain_stop : (i to : ℕ) → to ≡ scan_stop t i → IfSome (slice_get t to) (λ b. is_stop b ≡ true)
  plain_stop i to e = by (slice_get t to) refl where
    by : (o : Option ℕ) → slice_get t to ≡ o → IfSome o (λ b. is_stop b ≡ true)
    by None h = tt
    by (Some b) h = plain_run_stops i b (ap (slice_get t) (sym e) ∙ h)

  -- so many plain bytes
  pub plain_run_prefix : (i k : ℕ) → i ≤ length t → i + k ≤ scan_stop t i
      → body_at t i ≡ before (slice_range t i (i + k)) false (body_at t (i + k))
  plain_run_prefix i zero w h =
      let none : slice_range t i i ≡ [] = between_none t i in
      let at : i ≡ i + 0 = omega arith in
      ap (λ l. before l false (body_at t i)) (sym none) ∙ ap (λ j. before (slice_range t i j) false (body_at t j)) at
  plain_run_prefix i (suc k) w h =
      let at : i + k + 1 ≡ i + suc k = omega arith in
      plain_more t i (i + k) (plain_run_prefix i k w (omega arith)) (omega arith)
      (omega (arith, run_end-within is_plain t i w))
      (plain-printed _ (run_end-passes is_plain t i (i + k) (omega arith) (omega arith)))
      ∙ ap (λ j. before (slice_range t i j) false (body_at t j)) at

  pub plain_run_to : (i to : ℕ) → i ≤ length t → to ≡ scan_stop t i
      → body_at t i ≡ before (slice_range t i to) false (body_at t to)
  plain_run_to i to h e =
      plain_run_prefix i (prefix_len is_plain (drop i t)) h (omega arith)
      ∙ ap (λ j. before (slice_range t i j) false (body_at t j)) (sym e)
