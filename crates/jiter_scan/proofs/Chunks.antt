-- Runs of bytes that pass a test, seen a chunk at a time.
use Rattle.jiter_scan.proofs.Words.{◌≡◌, ℕ, ◌+◌, ◌-◌, ◌*◌, ◌/◌, ◌^◌, ◌<◌, ◌≤◌, Bool, true, false, not, ◌&&◌, cond, eqb, List}
use Rattle.jiter_scan.proofs.Words.{[], ◌∷◌, length, drop, take, refl, sym, ap, ap₂, take-add, drop-drop, ◌∙◌, arith}
use Rattle.jiter_scan.proofs.Words.{zero, suc, drop-take, length-chunk, list_all-append, and_parts, eq-eqb, ne_eqb}
use Rattle.jiter_scan.proofs.Words.{false≢true, nat_tests, prefix_len, list_all, chunk, count_trailing_zeros, run_end}
use Rattle.jiter_scan.proofs.Words.{Pass, failing, shr-shr, shr_le, chunk-drop, trailing_mask_l, prefix_len-append}
use Rattle.jiter_scan.proofs.Runs.{run_end-passes, run_end-passing}

one-more : (b : Bool) (m : ℕ) → (b && eqb m 0) ≡ eqb (cond (not b) 1 0 + 2 * m) 0
one-more true m = grind (arith, nat_tests)
one-more false m = grind (arith, nat_tests)

one-less : (b : Bool) (m : ℕ) → (cond (not b) 1 0 + 2 * m) / 2 ^ 1 ≡ m
one-less true m = omega arith
one-less false m = omega arith

module _ (test : ℕ → Bool) where
  -- no bit is set where all bytes pass
  pub list_all-failing : (w : List ℕ) → list_all test w ≡ eqb (failing test w) 0
  list_all-failing [] = refl
  list_all-failing (c ∷ w) = ap (λ b. test c && b) (list_all-failing w) ∙ one-more (test c) (failing test w)

  pub list_all-failing-zero : (w : List ℕ) → failing test w ≡ 0 → list_all test w ≡ true
  list_all-failing-zero w e = list_all-failing w ∙ eq-eqb _ _ e

  -- the bits of the bytes after the first k
  pub failing-drop : (k : ℕ) (w : List ℕ) → failing test w / 2 ^ k ≡ failing test (drop k w)
  failing-drop zero w = omega arith
  failing-drop (suc k) [] = omega (arith, shr_le 0 (suc k))
  failing-drop (suc k) (c ∷ w) =
      let more : suc k ≡ 1 + k = omega arith in
      ap (λ j. failing test (c ∷ w) / 2 ^ j) more ∙ sym (shr-shr (failing test (c ∷ w)) 1 k) ∙ ap (λ m. m / 2 ^ k) (one-less (test c) (failing test w))
      ∙ failing-drop k w

  pub failing-after : (t : List ℕ) (i k n : ℕ) → failing test (chunk i (k + n) t) / 2 ^ k
      ≡ failing test (chunk (i + k) n t)
  failing-after t i k n =
      failing-drop k (chunk i (k + n) t)
      ∙ ap (failing test) (drop-take k n (drop i t) ∙ ap (take n) (drop-drop k i t))

  not_not : (w : List ℕ) → prefix_len (λ c. not (not (test c))) w ≡ prefix_len test w
  not_not [] = refl
  not_not (c ∷ w) = by (test c) (not_not w) where
    by : (b : Bool) {m n : ℕ} → m ≡ n → cond (not (not b)) (1 + m) 0 ≡ cond b (1 + n) 0
    by true e = ap (λ k. 1 + k) e
    by false e = refl

  -- the lowest bit is the first byte that fails
  pub prefix_len-failing : (w : List ℕ) → length w ≤ 64 → 0 < failing test w → prefix_len test w
      ≡ count_trailing_zeros 64 (failing test w)
  prefix_len-failing w short some = sym (not_not w) ∙ sym (trailing_mask_l (λ c. not (test c)) 64 w short some)

  pub prefix_len-all : (w : List ℕ) → list_all test w ≡ true → prefix_len test w ≡ length w
  prefix_len-all [] h = refl
  prefix_len-all (c ∷ w) h = by (test c) h (prefix_len-all w) where
    by : (b : Bool) → (b && list_all test w) ≡ true → (list_all test w ≡ true → prefix_len test w ≡ length w)
        → cond b (1 + prefix_len test w) 0 ≡ suc (length w)
    by true h go = omega (arith, go h)
    by false h go = absurd (false≢true h)

  pub prefix_len-some : (w : List ℕ) → list_all test w ≡ false → prefix_len test w < length w
  prefix_len-some [] h = absurd (false≢true (sym h))
  prefix_len-some (c ∷ w) h = by (test c) h (prefix_len-some w) where
    by : (b : Bool) → (b && list_all test w) ≡ false → (list_all test w ≡ false → prefix_len test w < length w)
        → cond b (1 + prefix_len test w) 0 < suc (length w)
    by true h go = omega (arith, go h)
    by false h go = omega arith

  module _ (t : List ℕ) (i n : ℕ) where
    split : prefix_len test (drop i t)
        ≡ cond (eqb (prefix_len test (chunk i n t)) (length (chunk i n t)))
        (length (chunk i n t) + prefix_len test (drop (i + n) t)) (prefix_len test (chunk i n t))
    split = ap (prefix_len test) (chunk-drop i n t) ∙ prefix_len-append test (chunk i n t) (drop (i + n) t)

    -- a chunk of bytes that all pass
    pub prefix_len-through : i + n ≤ length t → list_all test (chunk i n t) ≡ true → prefix_len test (drop i t)
        ≡ n + prefix_len test (drop (i + n) t)
    prefix_len-through reach all =
        let c = chunk i n t in
        split ∙ ap (λ b. cond b (length c + prefix_len test (drop (i + n) t)) (prefix_len test c))
        (eq-eqb _ _ (prefix_len-all c all))
        ∙ ap (λ k. k + prefix_len test (drop (i + n) t)) (length-chunk i n t reach)

    -- a chunk in which one fails
    pub prefix_len-inside : list_all test (chunk i n t) ≡ false → prefix_len test (drop i t)
        ≡ prefix_len test (chunk i n t)
    prefix_len-inside some =
        let c = chunk i n t in
        split ∙ ap (λ b. cond b (length c + prefix_len test (drop (i + n) t)) (prefix_len test c))
        (ne_eqb _ _ (λ (e : prefix_len test c ≡ length c). omega (arith, prefix_len-some c some)))

    -- both halves of a chunk
    pub list_all-halves : list_all test (chunk i (n + n) t)
        ≡ (list_all test (chunk i n t) && list_all test (chunk (i + n) n t))
    list_all-halves =
        ap (list_all test) (take-add n n (drop i t)) ∙ list_all-append test (chunk i n t) (take n (drop n (drop i t)))
        ∙ ap (λ l. list_all test (chunk i n t) && list_all test (take n l)) (drop-drop n i t)

    -- the same by the bits of a mask
    pub none_fails : failing test (chunk i n t) ≡ 0 → list_all test (chunk i n t) ≡ true
    none_fails e = list_all-failing-zero (chunk i n t) e

    pub one_fails : 0 < failing test (chunk i n t) → list_all test (chunk i n t) ≡ false
    one_fails h = list_all-failing (chunk i n t) ∙ ne_eqb _ _ (λ (e : failing test (chunk i n t) ≡ 0). omega arith)

    pub run_end-through : i + n ≤ length t → failing test (chunk i n t) ≡ 0 → run_end test t i ≡ run_end test t (i + n)
    run_end-through reach none = omega (arith, prefix_len-through reach (none_fails none))

    pub run_end-inside : i + n ≤ length t → n ≤ 64 → 0 < failing test (chunk i n t) → run_end test t i
        ≡ i + count_trailing_zeros 64 (failing test (chunk i n t))
    run_end-inside reach short some =
        ap (λ k. i + k)
        (prefix_len-inside (one_fails some)
        ∙ prefix_len-failing (chunk i n t) (omega (arith, length-chunk i n t reach)) some)

    -- of a mask that is at hand
    module _ (mask : ℕ) (is : mask ≡ failing test (chunk i n t)) (reach : i + n ≤ length t) where
      pub run_end-clear : mask ≡ 0 → run_end test t i ≡ run_end test t (i + n)
      run_end-clear none = run_end-through reach (sym is ∙ none)

      pub run_end-stopped : n ≤ 64 → 0 < mask → run_end test t i ≡ i + count_trailing_zeros 64 mask
      run_end-stopped short some =
          run_end-inside reach short (omega arith) ∙ ap (λ m. i + count_trailing_zeros 64 m) (sym is)

      pub run_end-near : 0 < mask → run_end test t i < i + n
      run_end-near some =
          let one = one_fails (omega arith) in
          omega (arith, prefix_len-inside one, prefix_len-some (chunk i n t) one, length-chunk i n t reach)

  -- a chunk of 64 by its four parts
  pub list_all-four : (t : List ℕ) (i : ℕ) → list_all test (chunk i 64 t)
      ≡ ((list_all test (chunk i 16 t) && list_all test (chunk (i + 16) 16 t))
      && (list_all test (chunk (i + 32) 16 t) && list_all test (chunk (i + 48) 16 t)))
  list_all-four t i =
      list_all-halves t i 32 ∙ ap₂ (λ a b. a && b) (list_all-halves t i 16)
      (list_all-halves t (i + 32) 16 ∙ ap
      (λ k. list_all test (chunk (i + 32) 16 t) && list_all test (chunk k 16 t)) (omega arith))

  -- all of them pass
  pub all-pass : (w : List ℕ) → list_all test w ≡ true → Pass test w
  all-pass [] h = tt
  all-pass (c ∷ w) h = let parts = and_parts (test c) (list_all test w) h in (parts.0, all-pass w parts.1)

  -- the first n pass where no more than the first to fail are after them
  pub prefix_len-pass : (n : ℕ) (w : List ℕ) → n ≤ prefix_len test w → Pass test (take n w)
  prefix_len-pass zero w h = tt
  prefix_len-pass (suc n) [] h = tt
  prefix_len-pass (suc n) (c ∷ w) h = by (test c) refl h (prefix_len-pass n w) where
    by : (b : Bool) → test c ≡ b → suc n ≤ cond b (1 + prefix_len test w) 0
        → (n ≤ prefix_len test w → Pass test (take n w))
        → (test c ≡ true) × Pass test (take n w)
    by true e k go = (e, go (omega arith))
    by false e k go = absurd (omega arith)

  -- bytes with the same prefix
  pub prefix_len-prefix : (n : ℕ) (u v : List ℕ) → take n u ≡ take n v → n ≤ prefix_len test u → n ≤ prefix_len test v
  prefix_len-prefix zero u v e h = omega arith
  prefix_len-prefix (suc n) [] v e h = absurd (omega arith)
  prefix_len-prefix (suc n) (c ∷ u) [] e h = absurd (cc)
  prefix_len-prefix (suc n) (c ∷ u) (d ∷ v) e h =
      let same : c ≡ d = cc in
      let rest : take n u ≡ take n v = cc in
      by (test c) (test d) (ap test same) h (prefix_len-prefix n u v rest) where
        by : (a b : Bool) → a ≡ b → suc n ≤ cond a (1 + prefix_len test u) 0
            → (n ≤ prefix_len test u → n ≤ prefix_len test v)
            → suc n ≤ cond b (1 + prefix_len test v) 0
        by true true e k go = omega (arith, go (omega arith))
        by false b e k go = absurd (omega arith)
        by true false e k go = absurd (false≢true (sym e))

  -- from a place within a run it has the same end
  pub run_end-on : (t : List ℕ) (i n : ℕ) → i + n ≤ run_end test t i → i + n ≤ length t → run_end test t (i + n)
      ≡ run_end test t i
  run_end-on t i zero h within = let same : i + 0 ≡ i = omega arith in ap (run_end test t) same
  run_end-on t i (suc n) h within =
      let before = run_end-on t i n (omega arith) (omega arith) in
      let passes = run_end-passes test t i (i + n) (omega arith) (omega arith) in
      let place : i + suc n ≡ i + n + 1 = omega arith in
      ap (run_end test t) place ∙ sym (run_end-passing test t (i + n) (omega arith) passes) ∙ before

-- the bits of the last bytes, of those of the last sixteen
pub last-bits : (test : ℕ → Bool) (t : List ℕ) (i m : ℕ) → 16 ≤ length t → length t < i + 16 → i ≤ length t
    → m ≡ failing test (chunk (length t - 16) 16 t)
    → m / 2 ^ (i - (length t - 16)) ≡ failing test (chunk i (length t - i) t)
last-bits test t i m enough few within is =
    let start = length t - 16 in
    let k = i - start in
    let all : 16 ≡ k + (length t - i) = omega arith in
    let place : start + k ≡ i = omega arith in
    ap (λ x. x / 2 ^ k) (is ∙ ap (λ n. failing test (chunk start n t)) all)
    ∙ failing-after test t start k (length t - i)
    ∙ ap (λ j. failing test (chunk j (length t - i) t)) place
