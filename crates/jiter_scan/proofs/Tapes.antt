-- What a buffer holds when more is written after its first bytes.
use Rattle.jiter_scan.proofs.Words.{◌≡◌, ℕ, ◌+◌, ◌-◌, ◌/◌, ◌%◌, ◌<◌, ◌≤◌, cond, List, [], ◌∷◌, ◌++◌, length, drop, take}
use Rattle.jiter_scan.proofs.Words.{refl, sym, ap, ◌∙◌, arith, append_assoc, take-take, slice_range, nat_lt}
use Rattle.jiter_scan.proofs.Words.{take-append-add, lt-ltb, length-take, chunk, slice_set, le-ltb, take-set_at}
use Rattle.jiter_scan.proofs.Words.{length-set}
use Rattle.std.specs.Char.{encode_utf8}
use Rattle.jiter_scan.proofs.Standing.{slice_range-split}

-- where a chunk of the text is written after the first bytes, so many of its bytes are after them
pub put-prefix : (t buffer next : List ℕ) (i n k : ℕ) → n ≤ length buffer → k ≤ 16
    → take (n + 16) next ≡ take n buffer ++ chunk i 16 t → take (n + k) next ≡ take n buffer ++ slice_range t i (i + k)
put-prefix t buffer next i n k within few put =
    let long : length (take n buffer) ≡ n = omega (arith, length-take n buffer) in
    let count : k ≡ i + k - i = omega arith in
    sym (take-take (n + k) (n + 16) next (omega arith))
    ∙ ap (take (n + k)) put
    ∙ ap (λ m. take (m + k) (take n buffer ++ chunk i 16 t)) (sym long)
    ∙ take-append-add (take n buffer) (chunk i 16 t) k
    ∙ ap (λ l. take n buffer ++ l) (take-take k 16 (drop i t) few)
    ∙ ap (λ m. take n buffer ++ take m (drop i t)) count

module _ (l : List ℕ) (n : ℕ) where
  pub put-two : (a b : ℕ) → n + 1 < length l → take (n + 2) (slice_set (slice_set l n a) (n + 1) b)
      ≡ take n l ++ a ∷ b ∷ []
  put-two a b h =
      take-set_at (slice_set l n a) (n + 1) (n + 2) b (omega arith) (omega (arith, length-set l n a))
      ∙ ap (λ w. w ++ b ∷ []) (take-set_at l n (n + 1) a refl (omega arith))
      ∙ append_assoc (take n l) (a ∷ []) (b ∷ [])

  pub put-three : (a b c : ℕ) → n + 2 < length l
      → take (n + 3) (slice_set (slice_set (slice_set l n a) (n + 1) b) (n + 2) c) ≡ take n l ++ a ∷ b ∷ c ∷ []
  put-three a b c h =
      take-set_at _ _ (n + 3) c (omega arith) (omega (arith, length-set l n a, length-set (slice_set l n a) (n + 1) b))
      ∙ ap (λ w. w ++ c ∷ []) (put-two a b (omega arith))
      ∙ append_assoc (take n l) (a ∷ b ∷ []) (c ∷ [])

  pub put-four : (a b c d : ℕ) → n + 3 < length l
      → take (n + 4) (slice_set (slice_set (slice_set (slice_set l n a) (n + 1) b) (n + 2) c) (n + 3) d)
      ≡ take n l ++ a ∷ b ∷ c ∷ d ∷ []
  put-four a b c d h =
      take-set_at (slice_set (slice_set (slice_set l n a) (n + 1) b) (n + 2) c) (n + 3) (n + 4) d (omega arith)
      (omega (
        arith,
        length-set l n a,
        length-set (slice_set l n a) (n + 1) b,
        length-set (slice_set (slice_set l n a) (n + 1) b) (n + 2) c,
      ))
      ∙ ap (λ w. w ++ d ∷ []) (put-three a b c (omega arith))
      ∙ append_assoc (take n l) (a ∷ b ∷ c ∷ []) (d ∷ [])

-- the bytes of a character, by how many they are
module _ (c : ℕ) where
  no_fewer : (n : ℕ) (x y : List ℕ) → n ≤ c → cond (nat_lt c n) x y ≡ y
  no_fewer n x y h = ap (λ b. cond b x y) (le-ltb c n h)

  no_more : (n : ℕ) (x y : List ℕ) → c < n → cond (nat_lt c n) x y ≡ x
  no_more n x y h = ap (λ b. cond b x y) (lt-ltb c n h)

  pub encode-two : 128 ≤ c → c < 2048 → encode_utf8 c ≡ (192 + c / 64) ∷ (128 + c % 64) ∷ []
  unfolding encode_utf8
  encode-two l h = no_fewer 128 _ _ l ∙ no_more 2048 _ _ h

  pub encode-three : 2048 ≤ c → c < 65536 → encode_utf8 c ≡ (224 + c / 4096) ∷ (128 + c / 64 % 64) ∷ (128 + c % 64) ∷ []
  unfolding encode_utf8
  encode-three l h = no_fewer 128 _ _ (omega arith) ∙ no_fewer 2048 _ _ l ∙ no_more 65536 _ _ h

  pub encode-four : 65536 ≤ c
      → encode_utf8 c ≡ (240 + c / 262144) ∷ (128 + c / 4096 % 64) ∷ (128 + c / 64 % 64) ∷ (128 + c % 64) ∷ []
  unfolding encode_utf8
  encode-four l = no_fewer 128 _ _ (omega arith) ∙ no_fewer 2048 _ _ (omega arith) ∙ no_fewer 65536 _ _ l

-- where what was copied so far is after the first bytes, and a chunk is written after it, so many bytes more do
pub copied-on : (t first buffer next : List ℕ) (from i count n k : ℕ) → from ≤ i → n ≤ length buffer → k ≤ 16
    → take n buffer ≡ take count first ++ slice_range t from i → take (n + 16) next ≡ take n buffer ++ chunk i 16 t
    → take (n + k) next ≡ take count first ++ slice_range t from (i + k)
copied-on t first buffer next from i count n k above within few so_far put =
    put-prefix t buffer next i n k within few put
    ∙ ap (λ w. w ++ slice_range t i (i + k)) so_far
    ∙ append_assoc (take count first) (slice_range t from i) (slice_range t i (i + k))
    ∙ ap (λ w. take count first ++ w) (sym (slice_range-split t from i above (i + k) (omega arith)))
