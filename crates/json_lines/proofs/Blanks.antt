-- Whitespace that is read byte by byte.
use Rattle.std.proofs.Common.{◌≡◌, ◌∙◌, ap, refl, sym, subst, ℕ, ◌+◌, true, false, cond, List, [], ◌∷◌, ◌++◌, Option, Some, None, IfSome}
use Rattle.std.proofs.Common.{append_assoc, arith, drop, length, length-append, take}
use Rattle.std.proofs.Math.Seq.{take-append_seam, drop-append_seam}
use Rattle.jiter_scan.specs.declared.errors.LinePosition.{LinePosition}
use Rattle.json_lines.specs.Items.{after_blanks, blanks, is_white}
use Rattle.json_lines.specs.ItemsRead.{IsNext, TakesByte, TakesVisible, past}
use Rattle.json_lines.proofs.Positions.{past-both}

-- of known bytes these were read, whitespace all of them
abbrev pub Skipped : Option (List ℕ) → Option (List ℕ) → LinePosition → LinePosition → Type 0
Skipped old now p q = IfSome old (λ xs. (ws rest : List ℕ) × (now ≡ Some rest) × (xs ≡ ws ++ rest)
    × (blanks xs ≡ length ws + blanks rest) × (q ≡ past p ws))

pub skip-begun : (old : Option (List ℕ)) (p : LinePosition) → Skipped old old p p
skip-begun None p = tt
skip-begun (Some xs) p = ([], xs, refl, refl, omega (arith), refl)

white-first : (b : ℕ) (rest : List ℕ) → is_white b ≡ true → blanks (b ∷ rest) ≡ 1 + blanks rest
white-first b rest white = ap (λ c. cond c (1 + blanks rest) 0) white

plain-first : (b : ℕ) (rest : List ℕ) → is_white b ≡ false → blanks (b ∷ rest) ≡ 0
plain-first b rest plain = ap (λ c. cond c (1 + blanks rest) 0) plain

module _ (old now : Option (List ℕ)) (p q : LinePosition) (h : Skipped old now p q) (new : Option (List ℕ)) where
  next-of : (ys : List ℕ) (b : Option ℕ) → now ≡ Some ys → TakesByte now new b → (rest : List ℕ) × (new ≡ Some rest) × IsNext b ys rest
  next-of ys b is read = subst (λ o. IfSome o (λ xs. (rest : List ℕ) × (new ≡ Some rest) × IsNext b xs rest)) is read

  pub skip-more : (b : ℕ) (r : LinePosition) → TakesByte now new (Some b) → is_white b ≡ true → r ≡ past q (b ∷ []) → Skipped old new p r
  skip-more b r read white there = by old h where
    by : (o : Option (List ℕ)) → Skipped o now p q → Skipped o new p r
    by None k = tt
    by (Some xs) (ws, rest, is, split, count, here) =
        let next = next-of rest (Some b) is read in
        let front : length (ws ++ b ∷ []) ≡ length ws + 1 = length-append ws (b ∷ []) in
        let one : blanks rest ≡ 1 + blanks next.0 = ap blanks next.2 ∙ white-first b next.0 white in (
          ws ++ b ∷ [],
          next.0,
          next.1,
          split ∙ ap (λ l. ws ++ l) next.2 ∙ sym (append_assoc ws (b ∷ []) next.0),
          omega (arith, count, one, front),
          there ∙ ap (λ z. past z (b ∷ [])) here ∙ sym (past-both p ws (b ∷ [])),
        )

  pub skip-end : (b : Option ℕ) → TakesByte now new b → IfSome b (λ x. is_white x ≡ false) → TakesVisible old new p q b
  skip-end b read plain = by old h where
    none-white : (b : Option ℕ) (ys rest : List ℕ) → IfSome b (λ x. is_white x ≡ false) → IsNext b ys rest → blanks ys ≡ 0
    none-white None ys rest plain next = ap blanks next.0
    none-white (Some x) ys rest plain next = ap blanks next ∙ plain-first x rest plain

    by : (o : Option (List ℕ)) → Skipped o now p q → TakesVisible o new p q b
    by None k = tt
    by (Some xs) (ws, ys, is, split, count, here) =
        let next = next-of ys b is read in
        let all : blanks xs ≡ length ws = omega (arith, count, none-white b ys next.0 plain next.2) in
        let front : take (blanks xs) xs ≡ ws = ap (λ n. take n xs) all ∙ ap (take (length ws)) split ∙ take-append_seam ws ys in
        let after : after_blanks xs ≡ ys = ap (λ n. drop n xs) all ∙ ap (drop (length ws)) split ∙ drop-append_seam ws ys in (
          next.0,
          next.1,
          subst (λ l. IsNext b l next.0) (sym after) next.2,
          here ∙ ap (past p) (sym front),
        )
