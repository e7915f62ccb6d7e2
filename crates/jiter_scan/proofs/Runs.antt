-- Runs of bytes that pass a test.
use Rattle.jiter_scan.proofs.Words.{◌≡◌, ℕ, ◌+◌, ◌-◌, ◌<◌, ◌≤◌, Bool, true, false, List, [], ◌∷◌, length, drop, get_or}
use Rattle.jiter_scan.proofs.Words.{zero, suc, refl, sym, ap, ◌∙◌, subst, arith, slice_get, Option, Some, None, IfSome}
use Rattle.jiter_scan.proofs.Words.{prefix_len, length-drop, get_or-drop, prefix_len-le-length, slice_get_within}
use Rattle.jiter_scan.proofs.Words.{get_or_from_slice_get, is_digit, run_end, Pass, Stands, prefix_len-drop_all}
use Rattle.jiter_scan.proofs.Words.{prefix_len-drop_no, prefix_len-drop_yes, prefix_len_passes, prefix_len_stops}
use Rattle.jiter_scan.proofs.Standing.{get-none}

-- the end, or a byte that does not pass
abbrev pub Stops : (ℕ → Bool) → Option ℕ → Type 0
Stops test o = IfSome o (λ c. test c ≡ false)

module _ (test : ℕ → Bool) (t : List ℕ) where
  -- by index: at a byte that passes, at another, and at the end
  pub run_end-passing : (i : ℕ) → i < length t → test (get_or t i 0) ≡ true → run_end test t i ≡ run_end test t (i + 1)
  run_end-passing i h e = omega (arith, prefix_len-drop_yes test t i 0 h e)

  pub run_end-stopping : (i : ℕ) → i < length t → test (get_or t i 0) ≡ false → run_end test t i ≡ i
  run_end-stopping i h e = omega (arith, prefix_len-drop_no test t i 0 h e)

  pub run_end-past : (i : ℕ) → length t ≤ i → run_end test t i ≡ i
  run_end-past i h = omega (arith, prefix_len-drop_all test t i h)

  -- a run goes on after a byte that passes
  pub run_end-more : (i c : ℕ) → slice_get t i ≡ Some c → test c ≡ true → run_end test t i ≡ run_end test t (i + 1)
  run_end-more i c h e = run_end-passing i (slice_get_within t i c h) (ap test (get_or_from_slice_get t i c 0 h) ∙ e)

  -- and ends at any other, or at the end
  pub run_end-here : (i : ℕ) (o : Option ℕ) → slice_get t i ≡ o → Stops test o → run_end test t i ≡ i
  run_end-here i None h n = run_end-past i (get-none t i h)
  run_end-here i (Some c) h n =
      run_end-stopping i (slice_get_within t i c h) (ap test (get_or_from_slice_get t i c 0 h) ∙ n)

  pub run_end-ahead : (i : ℕ) → i ≤ run_end test t i
  run_end-ahead i = omega arith

  -- a run does not leave the text
  pub run_end-within : (i : ℕ) → i ≤ length t → run_end test t i ≤ length t
  run_end-within i h = omega (arith, prefix_len-le-length test (drop i t), length-drop i t)

  -- its bytes pass
  pub run_end-passes : (i k : ℕ) → i ≤ k → k < run_end test t i → test (get_or t k 0) ≡ true
  run_end-passes i k low high =
      let place : i + (k - i) ≡ k = omega arith in
      ap test (sym (get_or-drop i t (k - i) 0 ∙ ap (λ j. get_or t j 0) place))
      ∙ prefix_len_passes test (drop i t) (k - i) 0 (omega arith)

  -- the byte after it does not
  pub run_end-stops : (i c : ℕ) → slice_get t (run_end test t i) ≡ Some c → test c ≡ false
  run_end-stops i c h =
      let inside = slice_get_within t (run_end test t i) c h in
      let n = prefix_len test (drop i t) in
      let byte : get_or (drop i t) n 0 ≡ c = get_or-drop i t n 0 ∙ get_or_from_slice_get t (run_end test t i) c 0 h in
      subst (λ x. test x ≡ false) byte (prefix_len_stops test (drop i t) 0 (omega (arith, inside, length-drop i t)))

  -- a run's bytes are there, and pass
  pub run_end-sound : (n i : ℕ) → run_end test t i ≡ i + n → (w : List ℕ) × Stands t i (i + n) w × Pass test w
  run_end-sound zero i h = ([], omega arith, tt)
  run_end-sound (suc n) i h = by (slice_get t i) refl (λ k e. run_end-sound n k e) where
    by : (o : Option ℕ) → slice_get t i ≡ o
        → ((k : ℕ) → run_end test t k ≡ k + n → (w : List ℕ) × Stands t k (k + n) w × Pass test w)
        → (w : List ℕ) × Stands t i (i + suc n) w × Pass test w
    by None e go = let none = run_end-here i None e tt in absurd (omega arith)
    by (Some c) e go = split (test c) refl where
      split : (b : Bool) → test c ≡ b → (w : List ℕ) × Stands t i (i + suc n) w × Pass test w
      split false d = let none = run_end-here i (Some c) e d in absurd (omega arith)
      split true d =
          let more = run_end-more i c e d in
          let r = go (i + 1) (omega arith) in
          (c ∷ r.0, (e, subst (λ k. Stands t (i + 1) k r.0) (omega arith) r.1), (d, r.2))

  -- bytes that pass and that none follows are a run
  pub run_end-complete : (i j : ℕ) (w : List ℕ) → Stands t i j w → Pass test w → Stops test (slice_get t j)
      → run_end test t i ≡ j
  run_end-complete i j [] h d n =
      run_end-here i (slice_get t i) refl (subst (λ k. Stops test (slice_get t k)) (sym h) n) ∙ h
  run_end-complete i j (c ∷ w) h d n = run_end-more i c h.0 d.0 ∙ run_end-complete (i + 1) j w h.1 d.1 n

-- the end, or a byte that is no digit
abbrev pub NoDigit : Option ℕ → Type 0
NoDigit o = Stops is_digit o
