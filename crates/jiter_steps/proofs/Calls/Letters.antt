-- The tables of the letters of escapes and of hex digits.
use Rattle.jiter_steps.proofs.Words.{◌≡◌, ◌≢◌, ℕ, ◌<◌, Bool, true, ap, arith, get_or, refl, ◌&&◌, Option, Some, None}
use Rattle.jiter_steps.proofs.Words.{nat_lt, ◌==◌, eqb-true, nat_tests, short_escape, agree_below_at, SIMPLE_ESCAPES}
use Rattle.jiter_steps.proofs.Words.{HEX_DIGITS, is_hex, digit_value, false, ◌≤◌}

abbrev is_sign : Option ℕ → ℕ → Bool
is_sign (Some c) n = (n == c) && nat_lt n 128
is_sign None n = n == 0

sign-right : (b : ℕ) → b < 256 → is_sign (short_escape b) (get_or SIMPLE_ESCAPES b 0) ≡ true
sign-right b h = agree_below_at (λ k. is_sign (short_escape k) (get_or SIMPLE_ESCAPES k 0)) (λ _. true) 256 b refl h

sign-some : (o : Option ℕ) (n : ℕ) → is_sign o n ≡ true → n ≢ 0 → o ≡ Some n
sign-some (Some c) n is some =
    let same : c ≡ n = grind (arith, nat_tests, is) in ap Some same
sign-some None n is some = absurd (some (eqb-true n 0 is))

sign-ascii : (o : Option ℕ) (n : ℕ) → is_sign o n ≡ true → n < 128
sign-ascii (Some c) n is = grind (arith, nat_tests, is)
sign-ascii None n is = rw (eqb-true n 0 is) (omega arith)

pub letter-sign : (b : ℕ) → b < 256 → get_or SIMPLE_ESCAPES b 0 ≢ 0 → short_escape b ≡ Some (get_or SIMPLE_ESCAPES b 0)
letter-sign b h = sign-some (short_escape b) _ (sign-right b h)

pub letter-ascii : (b : ℕ) → b < 256 → get_or SIMPLE_ESCAPES b 0 < 128
letter-ascii b h = sign-ascii (short_escape b) _ (sign-right b h)

abbrev is_number : Bool → ℕ → ℕ → Bool
is_number true v n = (n == v) && nat_lt n 16
is_number false v n = n == 64

module _ (b : ℕ) (h : b < 256) where
  abbrev n : ℕ
  n = get_or HEX_DIGITS b 0

  number-right : is_number (is_hex b) (digit_value b) n ≡ true
  number-right = agree_below_at (λ k. is_number (is_hex k) (digit_value k) (get_or HEX_DIGITS k 0)) (λ _. true) 256 b refl h

  pub hex-digit : n < 64 → (n ≡ digit_value b) × (n < 16) × (is_hex b ≡ true)
  hex-digit few = by (is_hex b) number-right where
    by : (x : Bool) → is_number x (digit_value b) n ≡ true → (n ≡ digit_value b) × (n < 16) × (x ≡ true)
    by true is = (grind (arith, nat_tests, is), grind (arith, nat_tests, is), refl)
    by false is = absurd (omega (arith, eqb-true n 64 is))

  pub no-digit : 64 ≤ n → is_hex b ≡ false
  no-digit many = by (is_hex b) number-right where
    by : (x : Bool) → is_number x (digit_value b) n ≡ true → x ≡ false
    by true is = absurd (grind (arith, nat_tests, is))
    by false is = refl

  pub most-digit : n ≤ 64
  most-digit = by (is_hex b) number-right where
    by : (x : Bool) → is_number x (digit_value b) n ≡ true → n ≤ 64
    by true is = grind (arith, nat_tests, is)
    by false is = omega (arith, eqb-true n 64 is)
