-- The bytes of a number's text.
use Rattle.jiter_scan.proofs.Words.{◌≡◌, ◌⊎◌, inl, inr, ℕ, ◌<◌, ◌≤◌, Bool, true, false, ◌||◌, List, [], ◌∷◌, ◌++◌, refl}
use Rattle.jiter_scan.proofs.Words.{sym, ap, ◌∙◌, subst, arith, ◌==◌, codes, slice_range, list_all, IsAscii}
use Rattle.jiter_scan.proofs.Words.{AllPass-from_list_all, IsAscii-append, IsAscii-nil, IsAscii-cons, is_digit}
use Rattle.jiter_scan.proofs.Words.{AreDigits, IsDigits, IsMinus, IsIntPart, IsFraction, IsSign, IsExponent}
use Rattle.jiter_scan.proofs.Words.{IsNumberText, begins_number, int_part_at, decimal_at, IsMinusTo, is_ascii, taken}
use Rattle.jiter_scan.proofs.Words.{Stands, word_at, ltb-true, All-weaker, IsAscii-from_all}
use Rattle.jiter_scan.proofs.Digits.{digit-bounds}
use Rattle.jiter_scan.proofs.NumberRows.{decimal-is}
use Rattle.jiter_scan.proofs.NumberSound.{decimal_at-sound, int_part_at-sound}
use Rattle.jiter_scan.proofs.Standing.{stands-append, stands-length, slice-stands}
use Rattle.jiter_scan.proofs.WordLaws.{word_at-sound}

-- a text that is given byte by byte
pub given-ascii : (w v : List ℕ) → w ≡ v → list_all is_ascii v ≡ true → IsAscii w
given-ascii w v e h =
    rw e (IsAscii-from_all v (All-weaker (λ c. is_ascii c ≡ true) (λ c. c < 128) (λ c low. ltb-true c 128 low) v
    (AllPass-from_list_all is_ascii v h)))

pub digits-ascii : (w : List ℕ) → AreDigits w → IsAscii w
digits-ascii [] h = IsAscii-nil
digits-ascii (c ∷ w) h =
    let digit = digit-bounds c h.0 in IsAscii-cons c w (omega (arith, digit.1)) (digits-ascii w h.1)

some_digits-ascii : (w : List ℕ) → IsDigits w → IsAscii w
some_digits-ascii [] h = absurd h
some_digits-ascii (c ∷ w) h = digits-ascii (c ∷ w) h

minus-ascii : (w : List ℕ) → IsMinus w → IsAscii w
minus-ascii w (inl e) = given-ascii w [] e refl
minus-ascii w (inr e) = given-ascii w (45 ∷ []) e refl

int_part-ascii : (w : List ℕ) → IsIntPart w → IsAscii w
int_part-ascii [] h = absurd h
int_part-ascii (c ∷ w) h = digits-ascii (c ∷ w) h.0

fraction-ascii : (w : List ℕ) → IsFraction w → IsAscii w
fraction-ascii [] h = IsAscii-nil
fraction-ascii (c ∷ w) h = IsAscii-cons c w (omega (arith, h.0)) (some_digits-ascii w h.1)

sign-ascii : (w : List ℕ) → IsSign w → IsAscii w
sign-ascii w (inl e) = given-ascii w [] e refl
sign-ascii w (inr (inl e)) = given-ascii w (43 ∷ []) e refl
sign-ascii w (inr (inr e)) = given-ascii w (45 ∷ []) e refl

letter-ascii : (c : ℕ) → (c ≡ 101) ⊎ (c ≡ 69) → c < 128
letter-ascii c (inl e) = omega arith
letter-ascii c (inr e) = omega arith

exponent-ascii : (w : List ℕ) → IsExponent w → IsAscii w
exponent-ascii w (inl e) = given-ascii w [] e refl
exponent-ascii w (inr p) =
    rw p.is (IsAscii-cons p.letter (p.sign ++ p.digits) (letter-ascii p.letter p.is_letter)
    (IsAscii-append p.sign p.digits (sign-ascii p.sign p.is_sign) (some_digits-ascii p.digits p.are_digits)))

-- each byte of a number's text is below 80 hex
pub number-ascii : (names : Bool) (w : List ℕ) → IsNumberText names w → IsAscii w
number-ascii names w (inl d) =
    rw d.is (IsAscii-append d.minus (d.int_part ++ (d.fraction ++ d.exponent)) (minus-ascii d.minus d.is_minus)
    (IsAscii-append d.int_part (d.fraction ++ d.exponent) (int_part-ascii d.int_part d.is_int_part)
    (IsAscii-append d.fraction d.exponent (fraction-ascii d.fraction d.is_fraction)
    (exponent-ascii d.exponent d.is_exponent))))
number-ascii names w (inr (n, inl e)) = given-ascii w (codes "NaN") e refl
number-ascii names w (inr (n, inr (inl e))) = given-ascii w (codes "Infinity") e refl
number-ascii names w (inr (n, inr (inr e))) = given-ascii w (codes "-Infinity") e refl

decimal-first : (minus int_part rest w : List ℕ) (c : ℕ) → c ∷ w ≡ minus ++ (int_part ++ rest) → IsMinus minus
    → IsIntPart int_part
    → begins_number c ≡ true
decimal-first [] [] rest w c e m h = absurd h
decimal-first [] (d ∷ int_part) rest w c e m h =
    let same : c ≡ d = cc in ap (λ b. b || (c == 45) || (c == 78) || (c == 73)) (ap is_digit same ∙ h.0.0)
decimal-first (d ∷ minus) int_part rest w c e (inl m) h = absurd (cc)
decimal-first (d ∷ minus) int_part rest w c e (inr m) h = let same : c ≡ 45 = cc in ap begins_number same

-- the first byte of a number's text tells that a number begins
pub number-begins : (names : Bool) (c : ℕ) (w : List ℕ) → IsNumberText names (c ∷ w) → begins_number c ≡ true
number-begins names c w (inl d) =
    decimal-first d.minus d.int_part (d.fraction ++ d.exponent) w c d.is d.is_minus d.is_int_part
number-begins names c w (inr (n, inl e)) = let same : c ≡ 78 = cc in ap begins_number same
number-begins names c w (inr (n, inr (inl e))) = let same : c ≡ 73 = cc in ap begins_number same
number-begins names c w (inr (n, inr (inr e))) = let same : c ≡ 45 = cc in ap begins_number same

decimal-some : (minus int_part rest : List ℕ) → [] ≡ minus ++ (int_part ++ rest) → IsIntPart int_part → ⊥
decimal-some [] [] rest e h = h
decimal-some [] (d ∷ int_part) rest e h = cc
decimal-some (d ∷ minus) int_part rest e h = cc

-- a number's text has a byte
pub number-not_empty : (names : Bool) → IsNumberText names [] → ⊥
number-not_empty names (inl d) = decimal-some d.minus d.int_part (d.fraction ++ d.exponent) d.is d.is_int_part
number-not_empty names (inr (n, inl e)) = cc
number-not_empty names (inr (n, inr (inl e))) = cc
number-not_empty names (inr (n, inr (inr e))) = cc

-- ---- the texts that are read
module _ (t : List ℕ) where
  -- nothing, or a minus
  minus_to : (i j : ℕ) → IsMinusTo t i j → (w : List ℕ) × IsMinus w × Stands t i j w
  minus_to i j (inl none) = ([], inl refl, sym none)
  minus_to i j (inr (same, at)) = (45 ∷ [], inr refl, (at, sym same))

  pub IsMinusTo-le : (i j : ℕ) → IsMinusTo t i j → i ≤ j
  IsMinusTo-le i j h = let m = minus_to i j h in let long = stands-length t i j m.0 m.2 in omega arith

  after_minus-ascii : (w : List ℕ) (i j e : ℕ) → IsMinusTo t i j → Stands t j e w → IsAscii w
      → IsAscii (slice_range t i e)
  after_minus-ascii w i j e minus stands ascii =
      let m = minus_to i j minus in
      subst IsAscii (slice-stands t i e (m.0 ++ w) (stands-append t i j e m.0 w m.2 stands))
      (IsAscii-append m.0 w (minus-ascii m.0 m.1) ascii)

  -- a decimal number, and its integer part
  pub IsAscii-decimal : (i j e : ℕ) → IsMinusTo t i j → decimal_at t j ≡ taken tt e → IsAscii (slice_range t i e)
  IsAscii-decimal i j e minus h =
      let d = decimal_at-sound t j e h in
      after_minus-ascii d.0 i j e minus d.1 (number-ascii false d.0 (inl (decimal-is [] (inl refl) d.0 d.2)))

  pub IsAscii-integer : (i j e : ℕ) → IsMinusTo t i j → int_part_at t j ≡ taken tt e → IsAscii (slice_range t i e)
  IsAscii-integer i j e minus h =
      let w = int_part_at-sound t j e h in after_minus-ascii w.0 i j e minus w.1 (int_part-ascii w.0 w.2.0)

  -- a name
  pub IsAscii-name : (w : List ℕ) (i j e : ℕ) → IsMinusTo t i j → word_at t w j ≡ taken tt e → IsAscii w
      → IsAscii (slice_range t i e)
  IsAscii-name w i j e minus h ascii = after_minus-ascii w i j e minus (word_at-sound t w j e tt h) ascii
