-- What `parse` says of the digits of a large integer.
use Rattle.std.proofs.Common.{◌≡◌, ◌∙◌, ◌<◌, ◌^◌, ℕ, Bool, true, false, ◌&&◌, List, [], ◌∷◌, length, refl, sym, ap}
use Rattle.std.proofs.lemmas.Bool.Decides.{Decides-ltb}
use Rattle.std.specs.Bool.{Decides}
use Rattle.std.specs.Char.{digit_value}
use Rattle.std.specs.Prelude.{Result, Ok, Err, Some, None, if◌then◌else◌, nat_lt}
use Rattle.std.specs.Result.{result_ok}
use Rattle.std.specs.Str.Parse.{AllDigits, IsNumeral, ParsesUnsigned, digits_value, without_leading_plus}
use Rattle.jiter_walk.specs.Integers.{all_digits, is_small_numeral, small_numeral}

both-decide : (a b : Bool) {P Q : Type 0} → Decides a P → Decides b Q → Decides (a && b) (P × Q)
both-decide true true x y = (λ h. (x.0 refl, y.0 refl), λ h. refl)
both-decide true false x y = (λ h. (x.0 refl, y.0 h), λ h. y.1 h.1)
both-decide false b x y = (λ h. (x.0 h, y.0 (absurd (cc))), λ h. x.1 h.0)

digits-decide : (ds : List ℕ) → Decides (all_digits ds) (AllDigits 10 ds)
digits-decide [] = (λ h. tt, λ h. refl)
digits-decide (c ∷ cs) =
    both-decide (nat_lt (digit_value c) 10) (all_digits cs) (Decides-ltb (digit_value c) 10) (digits-decide cs)

numeral-decides : (ds : List ℕ) → Decides (is_small_numeral ds) (IsNumeral 10 ds × (digits_value 10 ds < 2 ^ 64))
numeral-decides ds =
    both-decide (nat_lt 0 (length ds) && all_digits ds) (nat_lt (digits_value 10 ds) (2 ^ 64))
    (both-decide (nat_lt 0 (length ds)) (all_digits ds) (Decides-ltb 0 (length ds)) (digits-decide ds))
    (Decides-ltb (digits_value 10 ds) (2 ^ 64))

pub small-parsed : {E : Type 0} (bs : List ℕ) (r : Result ℕ E) → ParsesUnsigned 64 10 bs r
    → result_ok r ≡ small_numeral (without_leading_plus bs)
small-parsed bs (Ok x) h =
    let ds = without_leading_plus bs in
    ap Some h.1 ∙ sym (ap (λ b. if b then Some (digits_value 10 ds) else None) ((numeral-decides ds).1 h.0))
small-parsed bs (Err e) h =
    let ds = without_leading_plus bs in
    by (is_small_numeral ds) refl where
      by : (b : Bool) → is_small_numeral (without_leading_plus bs) ≡ b
          → None ≡ (if b then Some (digits_value 10 (without_leading_plus bs)) else None)
      by true is = absurd (h ((numeral-decides (without_leading_plus bs)).0 is))
      by false is = refl
