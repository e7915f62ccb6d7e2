-- The values of decimal digits.
use Rattle.jiter_scan.proofs.Words.{◌≡◌, ℕ, ◌+◌, ◌-◌, ◌*◌, ◌^◌, ◌<◌, ◌≤◌, length, List, [], ◌∷◌, ◌++◌, sym, ap, ◌∙◌}
use Rattle.jiter_scan.proofs.Words.{leb, true, arith, pow-suc, leb-true, and_parts, length-append, is_digit, decimal_of}
use Rattle.jiter_scan.proofs.Words.{AreDigits, mul_assoc, add-mul, mul-le-mul_right}
use Rattle.std.proofs.lemmas.Nat.{pow-add}

-- `0` to `9` by their codes
pub digit-bounds : (c : ℕ) → is_digit c ≡ true → (48 ≤ c) × (c ≤ 57)
digit-bounds c h = let p = and_parts (leb 48 c) (leb c 57) h in (leb-true 48 c p.0, leb-true c 57 p.1)

-- digits after others
pub decimal_of-append : (u v : List ℕ) → decimal_of (u ++ v) ≡ decimal_of u * 10 ^ length v + decimal_of v
decimal_of-append [] v = omega arith
decimal_of-append (c ∷ u) v =
    let power : 10 ^ length (u ++ v) ≡ 10 ^ length u * 10 ^ length v =
    ap (λ n. 10 ^ n) (length-append u v) ∙ pow-add 10 (length u) (length v) in
    let first : (c - 48) * 10 ^ length (u ++ v) ≡ (c - 48) * 10 ^ length u * 10 ^ length v =
    ap (λ n. (c - 48) * n) power ∙ sym (mul_assoc (c - 48) (10 ^ length u) (10 ^ length v)) in
    omega (arith, first, decimal_of-append u v, add-mul ((c - 48) * 10 ^ length u) (decimal_of u) (10 ^ length v))

-- digits write less than one and as many zeros
pub decimal_of-below : (w : List ℕ) → AreDigits w → decimal_of w < 10 ^ length w
decimal_of-below [] h = omega arith
decimal_of-below (c ∷ w) h =
    let digit : c - 48 ≤ 9 = omega (arith, (digit-bounds c h.0).1) in
    omega (arith, mul-le-mul_right (10 ^ length w) digit, pow-suc 10 (length w), decimal_of-below w h.1)

-- and no less than one and a zero for each after the first, which is none itself
pub decimal_of-above : (c : ℕ) (w : List ℕ) → 48 < c → 10 ^ length w ≤ decimal_of (c ∷ w)
decimal_of-above c w h =
    let some : 1 ≤ c - 48 = omega arith in
    omega (arith, mul-le-mul_right (10 ^ length w) some)
