-- The tests of the grammar of numbers hold exactly where its facts do; and so does reading to the last byte.
use Rattle.jiter_scan.proofs.Words.{◌≡◌, ◌⊎◌, ℕ, ◌-◌, ◌++◌, ◌∷◌, [], Bool, true, false, List, length, refl, sym}
use Rattle.jiter_scan.proofs.Words.{ap, ◌∙◌, subst, arith, inl, inr, slice_range, IfSome, nat_le, ◌==◌, ◌&&◌, ◌||◌}
use Rattle.jiter_scan.proofs.Words.{list_all, eqb-true, eq-eqb, false≢true, nat_tests, take_all, slice_get_past}
use Rattle.jiter_scan.proofs.Words.{is_digit, Stands, AreDigits, IsDigits, IsMinus, IsIntPart, IsFraction, IsSign}
use Rattle.jiter_scan.proofs.Words.{IsExponent, digit_limit, IsDecimal, IsNumberText, number_span, is_number_text}
use Rattle.jiter_scan.proofs.Words.{taken, failed, Span, continues_number, Decides, Decides-and, Decides-or}
use Rattle.jiter_scan.proofs.Words.{Decides-like, Decides-eqb, Decides-not, same_from_decides, bytes_eq-Decides}
use Rattle.jiter_scan.proofs.Words.{is_parted, are_some_digits, is_minus, is_int_part, is_fraction, is_sign}
use Rattle.jiter_scan.proofs.Words.{is_exponent, is_magnitude}
use Rattle.jiter_scan.specs.Ascii as ascii
use Rattle.jiter_scan.proofs.NumberComplete.{number_span-complete}
use Rattle.jiter_scan.proofs.NumberRows.{IntPart, Joined, Magnitude, Part, Power, Tail, decimal-is, power-is}
use Rattle.jiter_scan.proofs.NumberSound.{number_span-sound}
use Rattle.jiter_scan.proofs.Standing.{stands-slice}

-- whether the bytes part somewhere into two of which these facts hold
parted-decides : (w : List ℕ) (p q : List ℕ → Bool) (P Q : Part)
    → ((u : List ℕ) → Decides (p u) (P u)) → ((u : List ℕ) → Decides (q u) (Q u))
    → Decides (is_parted w p q) (Joined P Q w)
parted-decides [] p q P Q hp hq =
    Decides-like (p [] && q []) (λ h. ([], [], refl, h.0, h.1)) (λ h. parts h.0 h.1 h.2 h.3 h.4)
    (Decides-and (p []) (q []) (hp []) (hq []))
  where
    parts : (u v : List ℕ) → [] ≡ u ++ v → P u → Q v → P [] × Q []
    parts [] v e a b = (a, subst Q (sym e) b)
    parts (c ∷ u) v e a b = cc
parted-decides (c ∷ cs) p q P Q hp hq =
    Decides-like ((p [] && q (c ∷ cs)) || is_parted cs (λ u. p (c ∷ u)) q) to (λ h. from h.0 h.1 h.2 h.3 h.4)
    (Decides-or (p [] && q (c ∷ cs)) (is_parted cs (λ u. p (c ∷ u)) q)
    (Decides-and (p []) (q (c ∷ cs)) (hp []) (hq (c ∷ cs)))
    (parted-decides cs (λ u. p (c ∷ u)) q (λ u. P (c ∷ u)) Q (λ u. hp (c ∷ u)) hq))
  where
    to : (P [] × Q (c ∷ cs)) ⊎ Joined (λ u. P (c ∷ u)) Q cs → Joined P Q (c ∷ cs)
    to (inl h) = ([], c ∷ cs, refl, h.0, h.1)
    to (inr h) = (c ∷ h.0, h.1, ap (λ x. c ∷ x) h.2, h.3, h.4)

    from : (u v : List ℕ) → c ∷ cs ≡ u ++ v → P u → Q v → (P [] × Q (c ∷ cs)) ⊎ Joined (λ u. P (c ∷ u)) Q cs
    from [] v e a b = inl (a, subst Q (sym e) b)
    from (d ∷ u) v e a b =
        let first : d ≡ c = cc in
        let rest : cs ≡ u ++ v = cc in
        inr (u, v, rest, subst (λ x. P (x ∷ u)) first a, b)

digits-decide : (w : List ℕ) → Decides (list_all is_digit w) (AreDigits w)
digits-decide [] = (λ h. tt, λ h. refl)
digits-decide (c ∷ cs) =
    Decides-and (is_digit c) (list_all is_digit cs) (λ h. h, λ h. h) (digits-decide cs)

some_digits-decide : (w : List ℕ) → Decides (are_some_digits w) (IsDigits w)
some_digits-decide [] = (λ h. absurd (false≢true h), λ h. absurd h)
some_digits-decide (c ∷ cs) =
    Decides-and (is_digit c) (list_all is_digit cs) (λ h. h, λ h. h) (digits-decide cs)

minus-decides : (w : List ℕ) → Decides (is_minus w) (IsMinus w)
minus-decides w =
    Decides-or _ _ (bytes_eq-Decides w []) (bytes_eq-Decides w (ascii.minus ∷ []))

sign-decides : (w : List ℕ) → Decides (is_sign w) (IsSign w)
sign-decides w =
    Decides-or _ _ (bytes_eq-Decides w [])
    (Decides-or _ _ (bytes_eq-Decides w (ascii.plus ∷ [])) (bytes_eq-Decides w (ascii.minus ∷ [])))

int_part-decides : (w : List ℕ) → Decides (is_int_part w) (IsIntPart w)
int_part-decides [] = (λ h. absurd (false≢true h), λ h. absurd h)
int_part-decides (c ∷ cs) =
    Decides-and _ _ (some_digits-decide (c ∷ cs))
    (Decides-or _ _ (bytes_eq-Decides cs []) (Decides-not _ (Decides-eqb c ascii.digit_zero)))

fraction-decides : (w : List ℕ) → Decides (is_fraction w) (IsFraction w)
fraction-decides [] = (λ h. tt, λ h. refl)
fraction-decides (c ∷ cs) = Decides-and _ _ (Decides-eqb c ascii.point) (some_digits-decide cs)

exponent-decides : (w : List ℕ) → Decides (is_exponent w) (IsExponent w)
exponent-decides [] = (λ h. inl refl, λ h. refl)
exponent-decides (c ∷ cs) =
    Decides-like _ (λ h. power-is c (letter.1 h.0) cs h.1) from
    (Decides-and _ _ letter
    (parted-decides cs is_sign are_some_digits IsSign IsDigits sign-decides some_digits-decide))
  where
    letter : Decides ((c == ascii.small_e) || (c == ascii.capital_e)) ((c ≡ ascii.small_e) ⊎ (c ≡ ascii.capital_e))
    letter = Decides-or _ _ (Decides-eqb c ascii.small_e) (Decides-eqb c ascii.capital_e)

    from : IsExponent (c ∷ cs) → ((c ≡ ascii.small_e) ⊎ (c ≡ ascii.capital_e)) × Power cs
    from (inl e) = cc
    from (inr h) =
        let first : h.letter ≡ c = cc (h.is) in
        let rest : cs ≡ h.sign ++ h.digits = cc (h.is) in (
          subst (λ x. (x ≡ ascii.small_e) ⊎ (x ≡ ascii.capital_e)) first h.is_letter,
          (h.sign, h.digits, rest, h.is_sign, h.are_digits),
        )

magnitude-decides : (w : List ℕ) → Decides (is_magnitude w) (Magnitude w)
magnitude-decides w =
    parted-decides w (λ u. is_int_part u && nat_le (length u) digit_limit) (λ v. is_parted v is_fraction is_exponent)
    IntPart Tail
    (λ u. Decides-and _ _ (int_part-decides u) (λ h. grind (arith, nat_tests), λ h. grind (arith, nat_tests)))
    (λ v. parted-decides v is_fraction is_exponent IsFraction IsExponent fraction-decides exponent-decides)

decimal-decides : (w : List ℕ) → Decides (is_parted w is_minus is_magnitude) (IsDecimal w)
decimal-decides w =
    Decides-like _ (λ h. subst IsDecimal (sym h.2) (decimal-is h.0 h.3 h.1 h.4)) from
    (parted-decides w is_minus is_magnitude IsMinus Magnitude minus-decides magnitude-decides)
  where
    from : IsDecimal w → Joined IsMinus Magnitude w
    from h =
        let tail : Tail (h.fraction ++ h.exponent) = (h.fraction, h.exponent, refl, h.is_fraction, h.is_exponent) in
        let part : IntPart h.int_part = (h.is_int_part, h.limit) in
        (h.minus, h.int_part ++ (h.fraction ++ h.exponent), h.is, h.is_minus, (h.int_part, _, refl, part, tail))

-- The test is true exactly of the texts of numbers.
pub number_text-decides : (names : Bool) (w : List ℕ) → Decides (is_number_text names w) (IsNumberText names w)
unfolding is_number_text
number_text-decides names w =
    Decides-or _ _ (decimal-decides w)
    (Decides-and _ _ (λ h. h, λ h. h)
    (Decides-or _ _ (bytes_eq-Decides w _) (Decides-or _ _ (bytes_eq-Decides w _) (bytes_eq-Decides w _))))

-- this much is read, to the last byte
abbrev pub takes_all : ℕ → Span → Bool
takes_all n (taken u e) = n == e
takes_all n (failed k j) = false

module _ (names : Bool) (w : List ℕ) where
  slice-int_part : slice_range w 0 (length w) ≡ w
  slice-int_part = take_all (length w - 0) w (omega arith)

  read : (x : Span) → number_span names w 0 ≡ x → takes_all (length w) x ≡ true → IsNumberText names w
  read (taken u e) is h =
      let all : length w ≡ e = eqb-true (length w) e h in
      subst (IsNumberText names) (ap (slice_range w 0) (sym all) ∙ slice-int_part)
      (number_span-sound w names 0 e is)
  read (failed k j) is h = absurd (false≢true h)

  reading-decides : Decides (takes_all (length w) (number_span names w 0)) (IsNumberText names w)
  reading-decides = (
    read (number_span names w 0) refl,
    λ h.
        let none =
        subst (λ o. IfSome o (λ c. continues_number c ≡ false)) (sym (slice_get_past w (length w) (omega arith)))
        tt in
        let stands =
        subst (Stands w 0 (length w)) slice-int_part (stands-slice w 0 (length w) (omega arith) (omega arith)) in
        ap (takes_all (length w)) (number_span-complete w names 0 (length w) w stands h none)
        ∙ eq-eqb (length w) (length w) refl,
  )

  -- A number's text is what is read as a number to the last byte.
  pub number_text-read : is_number_text names w ≡ takes_all (length w) (number_span names w 0)
  number_text-read = same_from_decides _ _ (number_text-decides names w) reading-decides
