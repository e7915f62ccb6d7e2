-- Bytes that are at a place of a text: joined, split, and cut out.
use Rattle.jiter_scan.proofs.Words.{◌≡◌, ℕ, zero, suc, ◌+◌, ◌-◌, ◌<◌, ◌≤◌, ◌⊎◌, inl, inr, List, [], ◌∷◌, ◌++◌, length}
use Rattle.jiter_scan.proofs.Words.{take, take-add, drop-drop, drop, get_or, refl, sym, ap, ◌∙◌, subst, arith}
use Rattle.jiter_scan.proofs.Words.{slice_get, slice_range, Some, None, IfSome, drop_more, slice_get-get_or}
use Rattle.jiter_scan.proofs.Words.{slice_get_within, get_or_from_slice_get, cases_lt, Stands, none-some}

-- P of the first byte, where there is one
abbrev pub First : List ℕ → (ℕ → Type 0) → Type 0
First [] P = Unit {0}
First (c ∷ w) P = P c

module _ (t : List ℕ) where
  -- a range, and so many bytes after it
  module _ (i j : ℕ) (ahead : i ≤ j) where
    pub slice_range-on : (k : ℕ) → slice_range t i (j + k) ≡ slice_range t i j ++ take k (drop j t)
    slice_range-on k =
        let count : j + k - i ≡ (j - i) + k = omega arith in
        let place : i + (j - i) ≡ j = omega arith in
        ap (λ n. take n (drop i t)) count
        ∙ take-add (j - i) k (drop i t)
        ∙ ap (λ l. slice_range t i j ++ take k l) (drop-drop (j - i) i t ∙ ap (λ n. drop n t) place)

    -- in two ranges
    pub slice_range-split : (k : ℕ) → j ≤ k → slice_range t i k ≡ slice_range t i j ++ slice_range t j k
    slice_range-split k on =
        let end : k ≡ j + (k - j) = omega arith in ap (slice_range t i) end ∙ slice_range-on (k - j)

  -- the end follows from the length
  pub stands-length : (i j : ℕ) (w : List ℕ) → Stands t i j w → j ≡ i + length w
  stands-length i j [] h = omega arith
  stands-length i j (c ∷ w) h = let rest = stands-length (i + 1) j w h.1 in omega arith

  -- bytes are inside the text
  pub stands-within : (i j : ℕ) (w : List ℕ) → i ≤ length t → Stands t i j w → j ≤ length t
  stands-within i j [] le h = omega arith
  stands-within i j (c ∷ w) le h = let here = slice_get_within t i c h.0 in stands-within (i + 1) j w (omega arith) h.1

  -- two words one after the other are their join
  pub stands-append : (i j k : ℕ) (u v : List ℕ) → Stands t i j u → Stands t j k v → Stands t i k (u ++ v)
  stands-append i j k [] v h g = subst (λ x. Stands t x k v) (sym h) g
  stands-append i j k (c ∷ u) v h g = (h.0, stands-append (i + 1) j k u v h.1 g)

  -- and a join is as two words
  pub stands-split : (i k : ℕ) (u v : List ℕ) → Stands t i k (u ++ v) → (j : ℕ) × Stands t i j u × Stands t j k v
  stands-split i k [] v h = (i, refl, h)
  stands-split i k (c ∷ u) v h = let r = stands-split (i + 1) k u v h.1 in (r.0, (h.0, r.1), r.2)

  stands-take : (n i : ℕ) → i + n ≤ length t → Stands t i (i + n) (take n (drop i t))
  stands-take zero i h = omega arith
  stands-take (suc n) i h =
      let rest : Stands t (i + 1) (i + suc n) (take n (drop (i + 1) t)) =
      subst (λ k. Stands t (i + 1) k (take n (drop (i + 1) t))) (omega arith)
      (stands-take n (i + 1) (omega arith)) in
      subst (λ l. Stands t i (i + suc n) (take (suc n) l)) (sym (drop_more t i 0 (omega arith)))
      (slice_get-get_or t i 0 (omega arith), rest)

  -- the bytes of a range are there
  pub stands-slice : (i j : ℕ) → i ≤ j → j ≤ length t → Stands t i j (slice_range t i j)
  stands-slice i j le h =
      subst (λ k. Stands t i k (slice_range t i j)) (omega arith) (stands-take (j - i) i (omega arith))

  take-stands : (i j : ℕ) (w : List ℕ) → Stands t i j w → w ≡ take (length w) (drop i t)
  take-stands i j [] h = refl
  take-stands i j (c ∷ w) h =
      let here : get_or t i 0 ≡ c = get_or_from_slice_get t i c 0 h.0 in
      ap (λ l. c ∷ l) (take-stands (i + 1) j w h.1) ∙ ap (λ x. x ∷ take (length w) (drop (i + 1) t)) (sym here)
      ∙ ap (take (suc (length w))) (sym (drop_more t i 0 (slice_get_within t i c h.0)))

  -- what is in a range is its bytes
  pub slice-stands : (i j : ℕ) (w : List ℕ) → Stands t i j w → w ≡ slice_range t i j
  slice-stands i j w h =
      let n = stands-length i j w h in
      let same : length w ≡ j - i = omega arith in
      take-stands i j w h ∙ ap (λ k. take k (drop i t)) same

  -- one byte
  pub slice-one : (i c : ℕ) → slice_get t i ≡ Some c → slice_range t i (i + 1) ≡ c ∷ []
  slice-one i c h = sym (slice-stands i (i + 1) (c ∷ []) (h, refl))

  -- the byte at the prefix of a word, or the one after an empty word
  pub stands-next : (P : ℕ → Type 0) (i j : ℕ) (w : List ℕ) → Stands t i j w → First w P → IfSome (slice_get t j) P
      → IfSome (slice_get t i) P
  stands-next P i j [] h f p = subst (λ k. IfSome (slice_get t k) P) (sym h) p
  stands-next P i j (c ∷ w) h f p = subst (λ o. IfSome o P) (sym h.0) f

  -- where no byte is, the text is over
  pub get-none : (i : ℕ) → slice_get t i ≡ None → length t ≤ i
  get-none i h = by (cases_lt i (length t)) where
    by : (i < length t) ⊎ (length t ≤ i) → length t ≤ i
    by (inl lt) = absurd (none-some _ (sym h ∙ slice_get-get_or t i 0 lt))
    by (inr le) = le
