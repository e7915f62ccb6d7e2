-- Whether the plain bytes of a string are ASCII, chunk by chunk and byte by byte.
use Rattle.jiter_scan.proofs.Words.{◌≡◌, ℕ, ◌+◌, ◌-◌, ◌<◌, ◌≤◌, Bool, true, false, not, ◌&&◌, cond, eqb, leb, List, []}
use Rattle.jiter_scan.proofs.Words.{◌∷◌, length, drop, take, get_or, refl, sym, ap, ap₂, ◌∙◌, arith, zero, suc}
use Rattle.jiter_scan.proofs.Words.{take-add, take-take, drop-drop, drop-cons, inl, inr, IsTrue, slice_range}
use Rattle.jiter_scan.proofs.Words.{length-chunk, list_all-append, prefix_len-le-length, AllPass-from_list_all}
use Rattle.jiter_scan.proofs.Words.{cases_eq, le-leb, nat_tests, prefix_len, list_all, chunk, count_trailing_zeros}
use Rattle.jiter_scan.proofs.Words.{is_plain, is_ascii, is_plain_ascii, scan_stop, IsAsciiTo, failing, ascii_from, add-one, ◌↔◌}
use Rattle.jiter_scan.proofs.Words.{and_assoc, list_all-from_AllPass, lt-leb, is_stop}
use Rattle.jiter_scan.proofs.Chunks.{list_all-failing, prefix_len-all, prefix_len-failing, prefix_len-through}
use Rattle.jiter_scan.proofs.Chunks.{prefix_len-inside, none_fails, one_fails}
use Rattle.jiter_scan.proofs.Lanes.{list_all-both}

prefix-step : (b : Bool) (r n : ℕ) (all : Bool) → all ≡ leb r n → (b && all) ≡ leb (suc r) (cond b (1 + n) 0)
prefix-step false r n all e = sym (lt-leb (suc r) 0 (omega arith))
prefix-step true r n all e = e ∙ grind (arith, nat_tests)

-- the first r are ASCII where the first byte that is not lies no earlier than at r
ascii-prefix : (r : ℕ) (w : List ℕ) → r ≤ length w → list_all is_ascii (take r w) ≡ leb r (prefix_len is_ascii w)
ascii-prefix zero w h = sym (le-leb 0 _ (omega arith))
ascii-prefix (suc r) [] h = absurd (omega arith)
ascii-prefix (suc r) (c ∷ w) h = prefix-step (is_ascii c) r _ _ (ascii-prefix r w (omega arith))

-- where no bit of the mask is set, 64 stands for the length
prefix-mask : (w : List ℕ) (r : ℕ) → length w ≤ 64 → r ≤ length w → leb r (prefix_len is_ascii w)
    ≡ leb r (count_trailing_zeros 64 (failing is_ascii w))
unfolding count_trailing_zeros
prefix-mask w r short le =
    elim (cases_eq (failing is_ascii w) 0) [
      | inl none ↦
          let all : count_trailing_zeros 64 0 ≡ 64 = refl in
          let every : list_all is_ascii w ≡ true = list_all-failing is_ascii w ∙ ap (λ m. eqb m 0) none in
          le-leb _ _ (omega (arith, prefix_len-all is_ascii w every)) ∙ sym (le-leb _ _ (rw none (omega arith)))
      | inr some ↦ ap (leb r) (prefix_len-failing is_ascii w short (omega arith))
    ]

module _ (t : List ℕ) (i n : ℕ) where
  -- a chunk without a stop
  pub ascii_from-through : i + n ≤ length t → list_all is_plain (chunk i n t) ≡ true → ascii_from t i
      ≡ (list_all is_ascii (chunk i n t) && ascii_from t (i + n))
  ascii_from-through reach plain =
      let m = prefix_len is_plain (drop (i + n) t) in
      ap (λ k. list_all is_ascii (take k (drop i t))) (prefix_len-through is_plain t i n reach plain)
      ∙ ap (list_all is_ascii) (take-add n m (drop i t))
      ∙ list_all-append is_ascii (chunk i n t) (take m (drop n (drop i t)))
      ∙ ap (λ l. list_all is_ascii (chunk i n t) && list_all is_ascii (take m l)) (drop-drop n i t)

  -- where all of it are plain, and not all plain ASCII
  pub no-ascii : i + n ≤ length t → list_all is_plain (chunk i n t) ≡ true → list_all is_plain_ascii (chunk i n t) ≡ false
      → ascii_from t i ≡ false
  no-ascii reach plain other =
      ascii_from-through reach plain
      ∙ ap (λ b. b && ascii_from t (i + n))
      (ap (λ b. b && list_all is_ascii (chunk i n t)) (sym plain) ∙ sym (list_all-both (chunk i n t)) ∙ other)

  -- the same by masks of the bytes that stop and of those that are not ASCII
  module _ (found high : ℕ) (stops : found ≡ failing is_plain (chunk i n t))
      (highs : high ≡ failing is_ascii (chunk i n t)) (reach : i + n ≤ length t) where
    pub ascii_from-clear : found ≡ 0 → ascii_from t i ≡ (eqb high 0 && ascii_from t (i + n))
    ascii_from-clear none =
        ascii_from-through reach (none_fails is_plain t i n (sym stops ∙ none))
        ∙ ap (λ b. b && ascii_from t (i + n))
        (list_all-failing is_ascii (chunk i n t) ∙ ap (λ m. eqb m 0) (sym highs))

    -- by the lowest bits where one stops
    pub ascii_from-stopped : n ≤ 64 → 0 < found
        → ascii_from t i ≡ leb (count_trailing_zeros 64 found) (count_trailing_zeros 64 high)
    ascii_from-stopped short some =
        let c = chunk i n t in
        let r = prefix_len is_plain c in
        let long = length-chunk i n t reach in
        let within : r ≤ length c = prefix_len-le-length is_plain c in
        let fails : 0 < failing is_plain c = omega arith in
        ap (λ k. list_all is_ascii (take k (drop i t)))
        (prefix_len-inside is_plain t i n (one_fails is_plain t i n fails))
        ∙ ap (list_all is_ascii) (sym (take-take r n (drop i t) (omega arith)))
        ∙ ascii-prefix r c within
        ∙ prefix-mask c r (omega arith) within
        ∙ ap₂ (λ k m. leb k (count_trailing_zeros 64 m))
        (prefix_len-failing is_plain c (omega arith) fails ∙ ap (count_trailing_zeros 64) (sym stops)) (sym highs)

-- where all bytes so far are ASCII and those of a chunk are, so are all with it
pub still-ascii : (before clean here now whole rest : Bool) → before ≡ (clean && whole) → whole ≡ (here && rest)
    → now ≡ (clean && here) → before ≡ (now && rest)
still-ascii before clean here now whole rest so_far parts both =
    so_far ∙ ap (λ b. clean && b) parts ∙ sym (and_assoc clean here rest) ∙ ap (λ b. b && rest) (sym both)

-- one byte that is no stop
pub ascii_from-byte : (t : List ℕ) (i : ℕ) → i < length t → is_stop (get_or t i 0) ≡ false → ascii_from t i
    ≡ (is_ascii (get_or t i 0) && ascii_from t (i + 1))
ascii_from-byte t i within goes =
    let e : drop i t ≡ get_or t i 0 ∷ drop (i + 1) t = rw add-one (drop-cons t i 0 within) in
    let n = prefix_len is_plain (drop (i + 1) t) in
    let more : 1 + n ≡ suc n = omega arith in
    ap (λ l. list_all is_ascii (take (prefix_len is_plain l) l)) e
    ∙ ap (λ b. list_all is_ascii (take (cond (not b) (1 + n) 0) (get_or t i 0 ∷ drop (i + 1) t))) goes
    ∙ ap (λ k. list_all is_ascii (take k (get_or t i 0 ∷ drop (i + 1) t))) more

-- nothing is before a stop
pub ascii_from-stop : (t : List ℕ) (i : ℕ) → scan_stop t i ≡ i → ascii_from t i ≡ true
ascii_from-stop t i stop =
    let none : prefix_len is_plain (drop i t) ≡ 0 = omega arith in
    ap (λ k. list_all is_ascii (take k (drop i t))) none

-- the answer, in words
pub IsAsciiTo-iff : (t : List ℕ) (i e : ℕ) (b : Bool) → e ≡ scan_stop t i → b ≡ ascii_from t i
    → IsTrue b ↔ IsAsciiTo t i e
IsAsciiTo-iff t i e b stop is =
    let count : prefix_len is_plain (drop i t) ≡ e - i = omega arith in
    let bytes = slice_range t i e in
    let all : b ≡ list_all is_ascii bytes = is ∙ ap (λ k. list_all is_ascii (take k (drop i t))) count in
    (λ h. AllPass-from_list_all is_ascii bytes (sym all ∙ h), λ h. all ∙ list_all-from_AllPass is_ascii bytes h)
