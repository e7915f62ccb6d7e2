-- The magnitude of a run of digits, by words of sixteen.
use Rattle.jiter_scan.proofs.Words.{◌≡◌, ℕ, ◌+◌, ◌-◌, ◌*◌, ◌^◌, ◌<◌, ◌≤◌, length, take, drop, get_or, List, [], ◌∷◌}
use Rattle.jiter_scan.proofs.Words.{◌++◌, sym, ap, ap₂, ◌∙◌, subst, slice_range, arith, drop-cons, pow-le-pow_right}
use Rattle.jiter_scan.proofs.Words.{length-take, length-drop, prefix_len, is_digit, digit_run_end, decimal_of}
use Rattle.jiter_scan.proofs.Words.{AreDigits, magnitude_of}
use Rattle.jiter_scan.proofs.Chunks.{prefix_len-prefix, prefix_len-pass}
use Rattle.jiter_scan.proofs.Standing.{slice_range-split}
use Rattle.jiter_scan.proofs.Digits.{decimal_of-append, decimal_of-below, decimal_of-above}

pub slice_range-count : (t : List ℕ) (i n : ℕ) → slice_range t i (i + n) ≡ take n (drop i t)
slice_range-count t i n = let count : i + n - i ≡ n = omega arith in ap (λ k. take k (drop i t)) count

module _ (t : List ℕ) where
  -- digits of a run are digits of any chunk that begins as it
  pub digits-prefix : (chunk : List ℕ) (i n : ℕ) → take n chunk ≡ slice_range t i (i + n) → i + n ≤ digit_run_end t i
      → n ≤ digit_run_end chunk 0
  digits-prefix chunk i n prefix run =
      let counted : n ≤ prefix_len is_digit (drop i t) = omega arith in
      let found = prefix_len-prefix is_digit n (drop i t) chunk (sym (prefix ∙ slice_range-count t i n)) counted in
      omega arith

  -- and their value is that of the text from there to where they end
  pub digits-value : (chunk : List ℕ) (i n e : ℕ) → take n chunk ≡ slice_range t i (i + n) → i + n ≡ e
      → decimal_of (take n chunk) ≡ decimal_of (slice_range t i e)
  digits-value chunk i n e prefix end = ap decimal_of prefix ∙ ap (λ k. decimal_of (slice_range t i k)) end

  -- one digit more
  pub decimal_of-next : (i e m : ℕ) → i ≤ e → e < length t → m ≡ decimal_of (slice_range t i e)
      → m * 10 + (get_or t e 0 - 48) ≡ decimal_of (slice_range t i (e + 1))
  decimal_of-next i e m from inside value =
      let one : slice_range t e (e + 1) ≡ get_or t e 0 ∷ [] =
      slice_range-count t e 1 ∙ ap (take 1) (drop-cons t e 0 inside) in
      let whole = ap decimal_of
      (slice_range-split t i e from (e + 1) (omega arith) ∙ ap (λ w. slice_range t i e ++ w) one) in
      omega (arith, whole, decimal_of-append (slice_range t i e) (get_or t e 0 ∷ []), value)

  module _ (i e : ℕ) (some : i ≤ e) (run : e ≤ digit_run_end t i) (within : e ≤ length t) where
    long : length (slice_range t i e) ≡ e - i
    long = omega (arith, length-take (e - i) (drop i t), length-drop i t)

    pub are_digits : AreDigits (slice_range t i e)
    are_digits = let counted : e - i ≤ prefix_len is_digit (drop i t) =
        omega arith in prefix_len-pass is_digit (e - i) (drop i t) counted

    -- digits of a run write less than one and as many zeros, or more zeros
    pub decimal_of-few : (k : ℕ) → e - i ≤ k → decimal_of (slice_range t i e) < 10 ^ k
    decimal_of-few k few =
        let most : 10 ^ (e - i) ≤ 10 ^ k = pow-le-pow_right {n = 10} (omega arith) {i = e - i} {j = k} few in
        let below = subst (λ n. decimal_of (slice_range t i e) < 10 ^ n) long
        (decimal_of-below (slice_range t i e) are_digits) in
        omega arith

    pub magnitude_of-short : (m : ℕ) → e - i ≤ 19 → m ≡ decimal_of (slice_range t i e) → m
        ≡ magnitude_of (slice_range t i e)
    magnitude_of-short m few is = omega (arith, decimal_of-few 19 few)

    -- twenty digits or more, of which the first is no zero
    pub magnitude_of-long : 20 ≤ e - i → 48 < get_or t i 0 → 10 ^ 19 ≡ magnitude_of (slice_range t i e)
    magnitude_of-long many first =
        let one : slice_range t i (i + 1) ≡ get_or t i 0 ∷ [] =
        slice_range-count t i 1 ∙ ap (take 1) (drop-cons t i 0 (omega arith)) in
        let rest = slice_range t (i + 1) e in
        let whole : slice_range t i e ≡ get_or t i 0 ∷ rest =
        slice_range-split t i (i + 1) (omega arith) e (omega arith) ∙ ap (λ w. w ++ rest) one in
        let count : length rest ≡ e - (i + 1) =
        omega (arith, length-take (e - (i + 1)) (drop (i + 1) t), length-drop (i + 1) t) in
        let least : 10 ^ 19 ≤ 10 ^ length rest =
        pow-le-pow_right {n = 10} (omega arith) {i = 19} {j = length rest} (omega arith) in
        let above : 10 ^ length rest ≤ decimal_of (slice_range t i e) =
        subst (λ w. 10 ^ length rest ≤ decimal_of w) (sym whole) (decimal_of-above (get_or t i 0) rest first) in
        omega arith

  -- the value of sixteen digits, and that of those after them
  pub decimal_of-joined : (i e a b : ℕ) → i + 16 ≤ e → e ≤ length t → a ≡ decimal_of (slice_range t i (i + 16))
      → b ≡ decimal_of (slice_range t (i + 16) e) → a * 10 ^ (e - i - 16) + b ≡ decimal_of (slice_range t i e)
  decimal_of-joined i e a b many within prefix after =
      let first = slice_range t i (i + 16) in
      let rest = slice_range t (i + 16) e in
      let count : length rest ≡ e - i - 16 =
      omega (arith, length-take (e - (i + 16)) (drop (i + 16) t), length-drop (i + 16) t) in
      ap₂ (λ x y. x * 10 ^ (e - i - 16) + y) prefix after
      ∙ sym (ap decimal_of (slice_range-split t i (i + 16) (omega arith) e many)
      ∙ decimal_of-append first rest ∙ ap (λ n. decimal_of first * 10 ^ n + decimal_of rest) count)
