-- The bytes of literals and of numbers, none of which is a quote, a comma, a bracket or whitespace.
use Rattle.std.proofs.Common.{◌≡◌, ◌⊎◌, inl, inr, ℕ, ◌≤◌, Bool, true, false, List, [], ◌∷◌, ◌++◌, refl, sym, ap, subst, arith}
use Rattle.std.proofs.Common.{◌==◌, ◌||◌, ◌&&◌, not}
use Rattle.std.specs.Prelude.{nat_lt, codes}
use Rattle.std.specs.List.{list_all}
use Rattle.std.proofs.lemmas.Bool.Decides.{nat_tests}
use Rattle.jiter_scan.specs.Number.{AreDigits, IsDigits, IsMinus, IsIntPart, IsFraction, IsSign, IsExponent, IsNumberText}
use Rattle.jiter_scan.specs.Scan.{Pass}
use Rattle.jiter_scan.proofs.Chunks.{all-pass}
use Rattle.jiter_scan.proofs.Digits.{digit-bounds}
use Rattle.jiter_steps.specs.Literal.{word_of}
use Rattle.jiter_steps.specs.declared.parse.Literal.{Literal}
use Rattle.jiter_steps.specs.declared.parse.Literal.TheVariants as literal
use Rattle.json_lines.specs.Items.{is_white}
use Rattle.json_lines.proofs.ItemsLaw.Passing.{IsQuiet, AreQuiet}

-- neither whitespace nor a byte that outside strings means something
abbrev pub is_letter : ℕ → Bool
is_letter b =
    nat_lt 32 b && not ((b == 34) || (b == 44) || (b == 91) || (b == 93) || (b == 123) || (b == 125))

pub letter-quiet : (b : ℕ) → is_letter b ≡ true → IsQuiet b
letter-quiet b h = record {
  no_quote = grind (arith, nat_tests, h);
  no_comma = grind (arith, nat_tests, h);
  no_bracket = (grind (arith, nat_tests, h), grind (arith, nat_tests, h));
  no_brace = (grind (arith, nat_tests, h), grind (arith, nat_tests, h));
}

pub letter-white : (b : ℕ) → is_letter b ≡ true → is_white b ≡ false
letter-white b h = grind (arith, nat_tests, h)

pub letters-quiet : (w : List ℕ) → Pass is_letter w → AreQuiet w
letters-quiet [] h = tt
letters-quiet (b ∷ w) h = (letter-quiet b h.0, letters-quiet w h.1)

letters-append : (u v : List ℕ) → Pass is_letter u → Pass is_letter v → Pass is_letter (u ++ v)
letters-append [] v h g = g
letters-append (b ∷ u) v h g = (h.0, letters-append u v h.1 g)

-- bytes that are given
given-letters : (w v : List ℕ) → w ≡ v → list_all is_letter v ≡ true → Pass is_letter w
given-letters w v e h = subst (Pass is_letter) (sym e) (all-pass is_letter v h)

pub word-letters : (l : Literal) → Pass is_letter (word_of l)
word-letters literal.Null = all-pass is_letter (word_of literal.Null) refl
word-letters literal.True = all-pass is_letter (word_of literal.True) refl
word-letters literal.False = all-pass is_letter (word_of literal.False) refl

digit-letter : (c : ℕ) → (48 ≤ c) × (c ≤ 57) → is_letter c ≡ true
digit-letter c h = grind (arith, nat_tests, h)

digits-letters : (w : List ℕ) → AreDigits w → Pass is_letter w
digits-letters [] h = tt
digits-letters (c ∷ w) h = (digit-letter c (digit-bounds c h.0), digits-letters w h.1)

some_digits-letters : (w : List ℕ) → IsDigits w → Pass is_letter w
some_digits-letters [] h = absurd h
some_digits-letters (c ∷ w) h = digits-letters (c ∷ w) h

minus-letters : (w : List ℕ) → IsMinus w → Pass is_letter w
minus-letters w (inl e) = given-letters w [] e refl
minus-letters w (inr e) = given-letters w (45 ∷ []) e refl

int_part-letters : (w : List ℕ) → IsIntPart w → Pass is_letter w
int_part-letters [] h = absurd h
int_part-letters (c ∷ w) h = digits-letters (c ∷ w) h.0

fraction-letters : (w : List ℕ) → IsFraction w → Pass is_letter w
fraction-letters [] h = tt
fraction-letters (c ∷ w) h = (ap is_letter h.0, some_digits-letters w h.1)

sign-letters : (w : List ℕ) → IsSign w → Pass is_letter w
sign-letters w (inl e) = given-letters w [] e refl
sign-letters w (inr (inl e)) = given-letters w (43 ∷ []) e refl
sign-letters w (inr (inr e)) = given-letters w (45 ∷ []) e refl

power-letter : (c : ℕ) → (c ≡ 101) ⊎ (c ≡ 69) → is_letter c ≡ true
power-letter c (inl e) = ap is_letter e
power-letter c (inr e) = ap is_letter e

exponent-letters : (w : List ℕ) → IsExponent w → Pass is_letter w
exponent-letters w (inl e) = given-letters w [] e refl
exponent-letters w (inr p) =
    subst (Pass is_letter) (sym p.is) (
      power-letter p.letter p.is_letter,
      letters-append p.sign p.digits (sign-letters p.sign p.is_sign) (some_digits-letters p.digits p.are_digits),
    )

pub number-letters : (names : Bool) (w : List ℕ) → IsNumberText names w → Pass is_letter w
number-letters names w (inl d) =
    subst (Pass is_letter) (sym d.is)
    (letters-append d.minus (d.int_part ++ (d.fraction ++ d.exponent)) (minus-letters d.minus d.is_minus)
    (letters-append d.int_part (d.fraction ++ d.exponent) (int_part-letters d.int_part d.is_int_part)
    (letters-append d.fraction d.exponent (fraction-letters d.fraction d.is_fraction)
    (exponent-letters d.exponent d.is_exponent))))
number-letters names w (inr (n, inl e)) = given-letters w (codes "NaN") e refl
number-letters names w (inr (n, inr (inl e))) =
    given-letters w (codes "Infinity") e refl
number-letters names w (inr (n, inr (inr e))) =
    given-letters w (codes "-Infinity") e refl
