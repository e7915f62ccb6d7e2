use Rattle.jiter_scan.proofs.Words.{prefix_len, pow-le-pow_right, ◌<◌, ℕ, ◌≤◌, ◌+◌, ◌*◌, ◌-◌, ◌^◌, take, drop, map, sym}
use Rattle.jiter_scan.proofs.Words.{ap, ap₂, ◌∙◌, arith, take-take, number_from_digits, AllBelowBase, is_digit}
use Rattle.jiter_scan.proofs.Words.{less_zero, length-map, List, length, ◌≡◌, ◌/◌, ◌%◌, number_l, replicate, zip2_splat}
use Rattle.std.proofs.Math.Nat.{mul-le-mul}
use Rattle.std.specs.Simd.Lanes.{zip2}
use Rattle.jiter_scan.proofs.DigitWords.{decimal_of-digits, IsEightBytes-low, IsEightBytes-high, number-in_two}
use Rattle.jiter_scan.proofs.DigitWords.{AllBelowBase-in_two, number-eight_below, number_l-prefix, number_l-high}
use Rattle.jiter_scan.proofs.DigitWords.{less_zero-below}
use Rattle.jiter_scan.proofs.bytes.decimal.digit_word.Goals as goal

-- two words of eight lanes, each less 30 hex
module _ (v : List ℕ) (long : length v ≡ 16) where
  abbrev lanes : ℕ
  lanes = number_l 256 (zip2 (λ a b. (a + (256 - b)) % 256) v (replicate 16 48))

  low-word : lanes % 2 ^ 64 ≡ number_l 256 (take 8 (map less_zero v))
  low-word =
      ap (λ zs. number_l 256 zs % 2 ^ 64) (zip2_splat (λ a b. (a + (256 - b)) % 256) v 16 48 long)
      ∙ number_l-prefix (map less_zero v) 8 (less_zero-below v)

  high-word : lanes / 2 ^ 64 % 2 ^ 64 ≡ number_l 256 (drop 8 (map less_zero v))
  high-word =
      ap (λ zs. number_l 256 zs / 2 ^ 64 % 2 ^ 64) (zip2_splat (λ a b. (a + (256 - b)) % 256) v 16 48 long)
      ∙ number_l-high (map less_zero v) (omega (arith, length-map v less_zero)) (less_zero-below v)

-- eight digits, and at most eight after them
below : (a b n : ℕ) → n ≤ 8 → a < 100000000 → b < 100000000 → a * 10 ^ n + b < 2 ^ 64
below a b n few low high =
    let power : 10 ^ n ≤ 10 ^ 8 = pow-le-pow_right (omega arith) few in
    let most : a ≤ 99999999 = omega arith in
    let product : a * 10 ^ n ≤ 99999999 * 10 ^ 8 = mul-le-mul most power in
    omega arith

pub joined-requires-clause-fits : goal.joined-requires-clause-fits
joined-requires-clause-fits c =
    let v = c.args.block in
    let zs = map less_zero v in
    let counted : c.args.count ≤ prefix_len is_digit v = omega arith in
    let digits = AllBelowBase-in_two zs c.args.count (omega arith) (decimal_of-digits v c.args.count counted).0 in
    let eight = IsEightBytes-low v (omega arith) in
    let prefix = c.eight_digits.ensures (take 8 zs) eight.0 digits.0 (low-word v (omega arith)) in
    let back = c.first_digits-else-count-le8.ensures.bound (drop 8 zs)
    (IsEightBytes-high v (omega arith)) digits.1 (high-word v (omega arith)) in
    below c.eight_digits.result c.first_digits-else-count-le8.result (c.args.count - 8) (omega arith)
    (omega (arith, prefix, number-eight_below (take 8 zs) eight.0 digits.0)) back

pub returns-then-count-le8 : goal.returns-then-count-le8
returns-then-count-le8 c =
    let v = c.args.block in
    let zs = map less_zero v in
    let counted : c.args.count ≤ prefix_len is_digit v = omega arith in
    let n = c.args.count in
    let all = decimal_of-digits v n counted in
    let short = take-take n 8 zs (omega arith) in
    let below : AllBelowBase 10 (take n (take 8 zs)) = rw short all.0 in
    c.first_digits.ensures.value (take 8 zs) (IsEightBytes-low v (omega arith)) below (low-word v (omega arith))
    ∙ ap (number_from_digits 10) short ∙ sym all.1

pub returns-else-count-le8 : goal.returns-else-count-le8
returns-else-count-le8 c =
    let v = c.args.block in
    let zs = map less_zero v in
    let counted : c.args.count ≤ prefix_len is_digit v = omega arith in
    let n = c.args.count in
    let all = decimal_of-digits v n counted in
    let below = AllBelowBase-in_two zs n (omega arith) all.0 in
    let low = IsEightBytes-low v (omega arith) in
    let prefix = c.eight_digits.ensures (take 8 zs) low.0 below.0 (low-word v (omega arith)) in
    let back = c.first_digits-else-count-le8.ensures.value (drop 8 zs)
    (IsEightBytes-high v (omega arith)) below.1 (high-word v (omega arith)) in
    c.joined.ensures ∙ ap₂ (λ x y. x * 10 ^ (n - 8) + y) prefix back
    ∙ sym (number-in_two zs n (omega arith) (omega (arith, length-map v less_zero))) ∙ sym all.1
