-- Digits in words of 64 bits: what three multiplications make of eight, and how sixteen are joined.
use Rattle.jiter_scan.proofs.Words.{◌≡◌, ℕ, zero, suc, ◌+◌, ◌-◌, ◌*◌, ◌/◌, ◌%◌, ◌^◌, ◌<◌, ◌≤◌, Bool, true, false, cond}
use Rattle.jiter_scan.proofs.Words.{eqb, List, [], ◌∷◌, ◌++◌, map, length, get_or, take, drop, replicate, refl, sym, ap}
use Rattle.jiter_scan.proofs.Words.{ap₂, ◌∙◌, min, arith, take-add, length-append, length-drop, pow-suc, take-take}
use Rattle.jiter_scan.proofs.Words.{eqb-true, agree_below_at, prefix_len, number_from_digits, AllBelowBase, number_l}
use Rattle.jiter_scan.proofs.Words.{take_all, drop-take, is_digit, decimal_of, less_zero, add-zero, lit<, mod-lt}
use Rattle.jiter_scan.proofs.Words.{zero-lt-suc, number_from_digits_after, number_lt, number_after_append}
use Rattle.jiter_scan.proofs.Words.{length-replicate, digits_div, digits_mod, mod-mul, bit_and, and_block, and_mask}
use Rattle.jiter_scan.proofs.Words.{one-le-pow, mod-eq_of_lt, zero-mod, zero-div, mul-div_cancel, mul-mod_left}
use Rattle.jiter_scan.proofs.Words.{pow-succ', div-div-eq-div-mul, IsEightBytes}
use lib.Pow.{pow-add}
use lib.ListN.{length-take, length-map}
use Rattle.jiter_scan.proofs.Digits.{digit-bounds}

-- the mask keeps bytes 0 and 4
masked : (x : ℕ) → bit_and x 0x0000_00ff_0000_00ff ≡ x / 2 ^ 32 % 256 * 2 ^ 32 + x % 2 ^ 32 % 256
masked x =
    let e : x ≡ x / 2 ^ 32 * 2 ^ 32 + x % 2 ^ 32 = omega arith in
    ap (λ y. bit_and y 0x0000_00ff_0000_00ff) e
    ∙ and_block 32 (x / 2 ^ 32) 255 (x % 2 ^ 32) 255 (omega arith) (omega arith)
    ∙ (λ i. and_mask (x / 2 ^ 32) 8 i * 2 ^ 32 + and_mask (x % 2 ^ 32) 8 i)

abbrev pub worth : ℕ → ℕ
worth word =
    let a = word * 2561 % 2 ^ 64 / 256 in
    (bit_and a 0x0000_00ff_0000_00ff * 4294967296000100 % 2 ^ 64 + bit_and
    (a / 65536) 0x0000_00ff_0000_00ff * 42949672960001 % 2 ^ 64) % 2 ^ 64 / 2 ^ 32

below : (x : ℕ) → x < 100 → x < 256
below x h = omega arith

first : (p r : ℕ) → p < 100 → r < 100 → (r * 2 ^ 32 + p) * 4294967296000100 % 2 ^ 64
    ≡ (p * 1000000 + r * 100) * 2 ^ 32 + p * 100
first p r P R = omega arith

second : (q s : ℕ) → q < 100 → s < 100 → (s * 2 ^ 32 + q) * 42949672960001 % 2 ^ 64 ≡ (q * 10000 + s) * 2 ^ 32 + q
second q s Q S = omega arith

last : (p q r s : ℕ) → p < 100 → q < 100 → r < 100 → s < 100
    → ((p * 1000000 + r * 100) * 2 ^ 32 + p * 100 + ((q * 10000 + s) * 2 ^ 32 + q)) % 2 ^ 64 / 2 ^ 32
    ≡ p * 1000000 + q * 10000 + r * 100 + s
last p q r s P Q R S =
    let sum = (p * 1000000 + r * 100) * 2 ^ 32 + p * 100 + ((q * 10000 + s) * 2 ^ 32 + q) in
    let small : sum < 2 ^ 64 = omega arith in
    let parts : sum ≡ (p * 1000000 + q * 10000 + r * 100 + s) * 2 ^ 32 + (p * 100 + q) = omega arith in
    let low : p * 100 + q < 2 ^ 32 = omega arith in
    ap (λ x. x / 2 ^ 32) (mod-eq_of_lt small ∙ parts) ∙ digits_div _ low

-- p, q, r and s are the four pairs of digits, and x, y and z the bytes between them
combined : (p q r s x y z pairs : ℕ) → p < 100 → q < 100 → r < 100 → s < 100 → x < 100 → y < 100 → z < 100
    → pairs ≡ p + 2 ^ 8 * x + 2 ^ 16 * q + 2 ^ 24 * y + 2 ^ 32 * r + 2 ^ 40 * z + 2 ^ 48 * s
    → (bit_and pairs 0x0000_00ff_0000_00ff * 4294967296000100 % 2 ^ 64 + bit_and
    (pairs / 65536) 0x0000_00ff_0000_00ff * 42949672960001 % 2 ^ 64) % 2 ^ 64 / 2 ^ 32
    ≡ p * 1000000 + q * 10000 + r * 100 + s
combined p q r s x y z pairs P Q R S X Y Z e =
    let high : pairs / 2 ^ 32 ≡ (z + 2 ^ 8 * s) * 256 + r = omega arith in
    let low : pairs % 2 ^ 32 ≡ (x + 2 ^ 8 * q + 2 ^ 16 * y) * 256 + p = omega arith in
    let down : pairs / 65536 ≡ (s * 2 ^ 32) + ((y + 2 ^ 8 * r + 2 ^ 16 * z) * 256 + q) = omega arith in
    let a : pairs / 2 ^ 32 % 256 ≡ r = rw high (digits_mod _ (below r R)) in
    let b : pairs % 2 ^ 32 % 256 ≡ p = rw low (digits_mod _ (below p P)) in
    let part : (y + 2 ^ 8 * r + 2 ^ 16 * z) * 256 + q < 2 ^ 32 = omega arith in
    let c : pairs / 65536 / 2 ^ 32 % 256 ≡ s = rw (down, digits_div _ part) (mod-eq_of_lt (below s S)) in
    let d : pairs / 65536 % 2 ^ 32 % 256 ≡ q = rw (down, digits_mod _ part) (digits_mod _ (below q Q)) in
    rw (masked pairs, masked (pairs / 65536), a, b, c, d, first p r P R, second q s Q S) (last p q r s P Q R S)

-- the low 56 bits of ten times the word and the word shifted down
pairs-of_word : (a b c d f g i j word : ℕ) → a < 10 → b < 10 → c < 10 → d < 10 → f < 10 → g < 10 → i < 10 → j < 10
    → word ≡ a + 256 * (b + 256 * (c + 256 * (d + 256 * (f + 256 * (g + 256 * (i + 256 * (j + 256 * 0)))))))
    → word * 2561 % 2 ^ 64 / 256 ≡ 10 * a + b + 2 ^ 8 * (10 * b + c) + 2 ^ 16 * (10 * c + d) + 2 ^ 24 *
    (10 * d + f) + 2 ^ 32 * (10 * f + g) + 2 ^ 40 * (10 * g + i) + 2 ^ 48 * (10 * i + j)
pairs-of_word a b c d f g i j word A B C D F G I J e =
    let P = 10 * a + b + 2 ^ 8 * (10 * b + c) + 2 ^ 16 * (10 * c + d) + 2 ^ 24 * (10 * d + f) + 2 ^ 32 *
    (10 * f + g) + 2 ^ 40 * (10 * g + i) + 2 ^ 48 * (10 * i + j) in
    let whole : word * 2561 ≡ 10 * j * 2 ^ 64 + (P * 256 + a) = omega arith in
    let fits : P * 256 + a < 2 ^ 64 = omega arith in
    let small : a < 256 = omega arith in
    ap (λ x. x % 2 ^ 64 / 256) whole ∙ ap (λ x. x / 256) (digits_mod (10 * j) fits) ∙ digits_div P small

-- the multiplications give the number that eight digits write
pub worth-eight : (ds : List ℕ) (word : ℕ) → length ds ≡ 8 → AllBelowBase 10 ds → word ≡ number_l 256 ds → worth word
    ≡ number_from_digits 10 ds
worth-eight [] word l h e = absurd (omega arith)
worth-eight (a ∷ []) word l h e = absurd (omega arith)
worth-eight (a ∷ b ∷ []) word l h e = absurd (omega arith)
worth-eight (a ∷ b ∷ c ∷ []) word l h e = absurd (omega arith)
worth-eight (a ∷ b ∷ c ∷ d ∷ []) word l h e = absurd (omega arith)
worth-eight (a ∷ b ∷ c ∷ d ∷ f ∷ []) word l h e = absurd (omega arith)
worth-eight (a ∷ b ∷ c ∷ d ∷ f ∷ g ∷ []) word l h e = absurd (omega arith)
worth-eight (a ∷ b ∷ c ∷ d ∷ f ∷ g ∷ i ∷ []) word l h e = absurd (omega arith)
worth-eight (a ∷ b ∷ c ∷ d ∷ f ∷ g ∷ i ∷ j ∷ k ∷ ds) word l h e = absurd (omega arith)
worth-eight (a ∷ b ∷ c ∷ d ∷ f ∷ g ∷ i ∷ j ∷ []) word l h e =
    let h4 = h.1.1.1.1 in
    let pairs = pairs-of_word a b c d f g i j word h.0 h.1.0 h.1.1.0 h.1.1.1.0 h4.0 h4.1.0 h4.1.1.0 h4.1.1.1.0 e in
    combined _ _ _ _ _ _ _ _ (omega arith) (omega arith) (omega arith) (omega arith) (omega arith) (omega arith)
    (omega arith) pairs ∙ omega arith

power-positive : (n : ℕ) → 0 < 256 ^ n
power-positive n = one-le-pow n 256 (lit< tt)

-- eight bits to a byte
bits-of_bytes : (n : ℕ) → 2 ^ (8 * n) ≡ 256 ^ n
bits-of_bytes zero = refl
bits-of_bytes (suc n) =
    ap (λ k. 2 ^ k) {x = 8 * suc n} {y = 8 * n + 8} (omega arith) ∙ pow-add 2 (8 * n) 8
    ∙ ap (λ x. x * 256) (bits-of_bytes n) ∙ sym (pow-suc 256 n)

padded : (k : ℕ) (ds : List ℕ) → AllBelowBase 10 ds
    → AllBelowBase 10 (replicate k 0 ++ ds) × (number_l 256 (replicate k 0 ++ ds) ≡ number_l 256 ds * 256 ^ k) ×
    (number_from_digits 10 (replicate k 0 ++ ds) ≡ number_from_digits 10 ds)
padded zero ds h = (h, omega arith, refl)
padded (suc k) ds h = let r =
    padded k ds h in ((omega arith, r.0), omega (arith, ap (λ x. number_l 256 ds * x) (pow-suc 256 k)), r.2)

-- the low bytes of a word
pub number_l-prefix : (xs : List ℕ) (n : ℕ) → AllBelowBase 256 xs → number_l 256 xs % 256 ^ n ≡ number_l 256 (take n xs)
number_l-prefix xs zero h = omega arith
number_l-prefix [] (suc n) h = zero-mod _
number_l-prefix (x ∷ xs) (suc n) h =
    let e : x + 256 * number_l 256 xs ≡ number_l 256 xs * 256 + x = omega arith in
    let byte : 0 < 256 = omega arith in
    rw (pow-suc, e, mod-mul _ (power-positive n) byte, digits_div _ h.0, digits_mod _ h.0, number_l-prefix xs n h.1)
    (omega arith)

mod-scaled : (a m c : ℕ) → 0 < m → 0 < c → a * c % (m * c) ≡ a % m * c
mod-scaled a m c M C = rw (mod-mul _ M C, mul-div_cancel a C, mul-mod_left, add-zero)

-- Shifted up until the first n bytes are the last, the word has zeros and then those n.
pub number_l-shifted : (xs : List ℕ) (n word : ℕ) → IsEightBytes xs → AllBelowBase 10 (take n xs) → 1 ≤ n → n ≤ 8
    → word ≡ number_l 256 xs
    → (ds : List ℕ) × (length ds ≡ 8) × AllBelowBase 10 ds × (word * 2 ^ (64 - 8 * n) % 2 ^ 64 ≡ number_l 256 ds) ×
    (number_from_digits 10 ds ≡ number_from_digits 10 (take n xs))
number_l-shifted xs n word eight digits some few e =
    let zeros : List ℕ = replicate (8 - n) 0 in
    let ds : List ℕ = zeros ++ take n xs in
    let p = padded (8 - n) (take n xs) digits in
    let count = length-replicate {A = ℕ} (8 - n) 0 in
    let shift : 2 ^ (64 - 8 * n) ≡ 256 ^ (8 - n) =
    ap (λ k. 2 ^ k) {x = 64 - 8 * n} {y = 8 * (8 - n)} (omega arith) ∙ bits-of_bytes (8 - n) in
    let all : 256 ^ n * 256 ^ (8 - n) ≡ 2 ^ 64 =
    sym (pow-add 256 n (8 - n)) ∙ ap (λ k. 256 ^ k) {x = n + (8 - n)} {y = 8} (omega arith) in
    let same : word * 2 ^ (64 - 8 * n) % 2 ^ 64 ≡ number_l 256 ds =
    rw (e, shift, ← all, mod-scaled _ _ _ (power-positive n) (power-positive (8 - n)), number_l-prefix _ n eight.1)
    (sym p.1) in
    (ds, omega (arith, length-append zeros (take n xs), count, length-take n xs, eight.0), p.0, same, p.2)

number_l-drop : (k : ℕ) (xs : List ℕ) → AllBelowBase 256 xs → number_l 256 xs / 256 ^ k ≡ number_l 256 (drop k xs)
number_l-drop zero xs h = omega arith
number_l-drop (suc k) [] h = zero-div _
number_l-drop (suc k) (x ∷ xs) h =
    let e : (x + 256 * number_l 256 xs) / 256 ≡ number_l 256 xs = omega (arith, h.0) in
    rw (pow-succ', ← div-div-eq-div-mul, e) (number_l-drop k xs h.1)

pub less_zero-below : (xs : List ℕ) → AllBelowBase 256 (map less_zero xs)
less_zero-below [] = tt
less_zero-below (x ∷ xs) = (mod-lt (x + (256 - 48)) (zero-lt-suc 255), less_zero-below xs)

AllBelowBase-take : (b n : ℕ) (xs : List ℕ) → AllBelowBase b xs → AllBelowBase b (take n xs)
AllBelowBase-take b zero xs h = tt
AllBelowBase-take b (suc n) [] h = tt
AllBelowBase-take b (suc n) (x ∷ xs) h = (h.0, AllBelowBase-take b n xs h.1)

AllBelowBase-drop : (b n : ℕ) (xs : List ℕ) → AllBelowBase b xs → AllBelowBase b (drop n xs)
AllBelowBase-drop b zero xs h = h
AllBelowBase-drop b (suc n) [] h = tt
AllBelowBase-drop b (suc n) (x ∷ xs) h = AllBelowBase-drop b n xs h.1

pub number_l-high : (zs : List ℕ) → length zs ≡ 16 → AllBelowBase 256 zs → number_l 256 zs / 2 ^ 64 % 2 ^ 64
    ≡ number_l 256 (drop 8 zs)
number_l-high zs long h =
    ap (λ x. x % 2 ^ 64) (number_l-drop 8 zs h) ∙ number_l-prefix (drop 8 zs) 8 (AllBelowBase-drop 256 8 zs h)
    ∙ ap (number_l 256) (take_all 8 (drop 8 zs) (omega (arith, length-drop 8 zs)))

pub IsEightBytes-low : (xs : List ℕ) → length xs ≡ 16 → IsEightBytes (take 8 (map less_zero xs))
IsEightBytes-low xs long =
    let count = length-take 8 (map less_zero xs) in
    (omega (arith, count, length-map xs less_zero), AllBelowBase-take 256 8 _ (less_zero-below xs))

pub IsEightBytes-high : (xs : List ℕ) → length xs ≡ 16 → IsEightBytes (drop 8 (map less_zero xs))
IsEightBytes-high xs long =
    let count = length-drop 8 (map less_zero xs) in
    (omega (arith, count, length-map xs less_zero), AllBelowBase-drop 256 8 _ (less_zero-below xs))

digit-less_zero : (c : ℕ) → is_digit c ≡ true → (less_zero c < 10) × (less_zero c ≡ c - 48)
digit-less_zero c e = let b = digit-bounds c e in (omega arith, omega arith)

number-after : (n : ℕ) (ds : List ℕ) → number_from_digits_after 10 n ds ≡ n * 10 ^ length ds + number_from_digits 10 ds
number-after n [] = omega arith
number-after n (d ∷ ds) =
    let a = number-after (n * 10 + d) ds in
    let b = number-after (0 * 10 + d) ds in
    omega (arith, ap (λ x. n * x) (pow-suc 10 (length ds)))

-- the first n digits are below ten, and write the number that the bytes write
pub decimal_of-digits : (w : List ℕ) (n : ℕ) → n ≤ prefix_len is_digit w
    → AllBelowBase 10 (take n (map less_zero w)) ×
    (decimal_of (take n w) ≡ number_from_digits 10 (take n (map less_zero w)))
decimal_of-digits w zero h = (tt, refl)
decimal_of-digits [] (suc n) h = (tt, refl)
decimal_of-digits (c ∷ w) (suc n) h = by (λ le. decimal_of-digits w n le) (is_digit c) refl h
  where
    ds : List ℕ
    ds = take n (map less_zero w)

    by : (n ≤ prefix_len is_digit w → AllBelowBase 10 ds × (decimal_of (take n w) ≡ number_from_digits 10 ds))
        → (b : Bool) → is_digit c ≡ b → suc n ≤ cond b (1 + prefix_len is_digit w) 0
        → AllBelowBase 10 (less_zero c ∷ ds) ×
        ((c - 48) * 10 ^ length (take n w) + decimal_of (take n w)
        ≡ number_from_digits_after 10 (0 * 10 + less_zero c) ds)
    by rest false e k = absurd (omega arith)
    by rest true e k =
        let d = digit-less_zero c e in
        let r = rest (omega arith) in
        let long : length (take n w) ≡ length ds = length-take n w ∙ ap (λ l. min n l) (sym (length-map w less_zero))
        ∙ sym (length-take n (map less_zero w)) in
        let first : (c - 48) * 10 ^ length (take n w) ≡ less_zero c * 10 ^ length ds =
        ap₂ (λ x l. x * 10 ^ l) (sym d.1) long in
        ((d.0, r.0), omega (arith, first, r.1, number-after (0 * 10 + less_zero c) ds))

-- nine digits or more, as the first eight and the others
pub number-in_two : (zs : List ℕ) (n : ℕ) → 8 ≤ n → n ≤ length zs → number_from_digits 10 (take n zs)
    ≡ number_from_digits 10 (take 8 zs) * 10 ^ (n - 8) + number_from_digits 10 (take (n - 8) (drop 8 zs))
number-in_two zs n some few =
    let m = n - 8 in
    let sum : n ≡ 8 + m = omega arith in
    let long : length (take m (drop 8 zs)) ≡ m = omega (arith, length-take m (drop 8 zs), length-drop 8 zs) in
    ap (λ k. number_from_digits 10 (take k zs)) sum ∙ ap (number_from_digits 10) (take-add 8 m zs)
    ∙ number_after_append 10 0 (take 8 zs) (take m (drop 8 zs))
    ∙ number-after (number_from_digits 10 (take 8 zs)) (take m (drop 8 zs))
    ∙ ap (λ k. number_from_digits 10 (take 8 zs) * 10 ^ k + number_from_digits 10 (take m (drop 8 zs))) long

pub AllBelowBase-in_two : (zs : List ℕ) (n : ℕ) → 8 ≤ n → AllBelowBase 10 (take n zs)
    → AllBelowBase 10 (take 8 zs) × AllBelowBase 10 (take (n - 8) (drop 8 zs))
AllBelowBase-in_two zs n some h =
    let b = AllBelowBase-drop 10 8 (take n zs) h in
    let after : drop 8 (take n zs) ≡ take (n - 8) (drop 8 zs) =
    ap (λ k. drop 8 (take k zs)) {x = n} {y = 8 + (n - 8)} (omega arith) ∙ drop-take 8 (n - 8) zs in
    (rw (take-take 8 n zs some) at (AllBelowBase-take 10 8 (take n zs) h), rw after at b)

pub number-eight_below : (ds : List ℕ) → length ds ≡ 8 → AllBelowBase 10 ds → number_from_digits 10 ds < 100000000
number-eight_below ds long h = omega (arith, rw long at (number_lt 10 ds h))

abbrev tens : List ℕ
tens = 1 ∷ 10 ∷ 100 ∷ 1000 ∷ 10000 ∷ 100000 ∷ 1000000 ∷ 10000000 ∷ 100000000 ∷ []

pub power-at : (n : ℕ) → n ≤ 8 → get_or tens n 0 ≡ 10 ^ n
power-at n h = eqb-true _ _ (agree_below_at (λ k. eqb (get_or tens k 0) (10 ^ k)) (λ _. true) 9 n refl (omega arith))
