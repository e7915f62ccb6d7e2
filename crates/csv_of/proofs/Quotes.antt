-- A text between quotes, from one quote in it to the next.
use Rattle.std.proofs.Common.{◌≡◌, ◌∙◌, ap, arith, append-nil, append_assoc, drop, eq-eqb, eqb-true, length, ne_eqb, refl, sym, subst, take, ℕ, zero, suc, ◌+◌}
use Rattle.std.proofs.Common.{◌<◌, Bool, true, false, List, [], ◌∷◌, ◌++◌, None, Some, get_or}
use Rattle.std.specs.Prelude.{flat_map, if◌then◌else◌, replicate}
use Rattle.memchr.specs.Find.{IsFirstByte, is_byte}
use Rattle.csv_of.specs.Row.{copies, quoted}

-- each quote is written twice
abbrev pub doubled : List ℕ → List ℕ
doubled bs = flat_map (λ b. replicate (copies b) b) bs

plain-first : (x : ℕ) (xs : List ℕ) → (x ≡ 34 → ⊥) → doubled (x ∷ xs) ≡ x ∷ doubled xs
plain-first x xs plain = ap (λ b. replicate (if b then 2 else 1) x ++ doubled xs) (ne_eqb x 34 plain)

quote-first : (x : ℕ) (xs : List ℕ) → x ≡ 34 → doubled (x ∷ xs) ≡ x ∷ 34 ∷ doubled xs
quote-first x xs is = rw is refl

run : (bs : List ℕ) (at : ℕ) → at < length bs → ((k : ℕ) → k < at → get_or bs k 0 ≡ 34 → ⊥) → get_or bs at 0 ≡ 34
    → doubled bs ≡ take (suc at) bs ++ (34 ∷ doubled (drop (suc at) bs))
run [] at within none is = absurd (omega (arith, within))
run (x ∷ xs) zero within none is = quote-first x xs is
run (x ∷ xs) (suc at) within none is =
    plain-first x xs (none 0 (omega (arith)))
    ∙ ap (λ l. x ∷ l) (run xs at (omega (arith, within)) (λ k lt. none (suc k) (omega (arith, lt))) is)

plain : (bs : List ℕ) → ((k : ℕ) → k < length bs → get_or bs k 0 ≡ 34 → ⊥) → doubled bs ≡ bs
plain [] none = refl
plain (x ∷ xs) none =
    plain-first x xs (none 0 (omega (arith))) ∙ ap (λ l. x ∷ l) (plain xs (λ k lt. none (suc k) (omega (arith, lt))))

-- the text up to the next quote is written, and that quote twice
pub quote-more : (old row row' rest rest' text : List ℕ) (at : ℕ) → IsFirstByte (is_byte 34) rest (Some at)
    → row ++ doubled rest ≡ (old ++ 34 ∷ []) ++ doubled text → row' ≡ (row ++ take (at + 1) rest) ++ 34 ∷ [] → rest' ≡ drop (at + 1) rest
    → row' ++ doubled rest' ≡ (old ++ 34 ∷ []) ++ doubled text
quote-more old row row' rest rest' text at first is more left =
    let next : at + 1 ≡ suc at = omega (arith) in
    let split = run rest at first.0.high (λ k lt is. first.0.before k (omega (arith)) lt (eq-eqb _ 34 is)) (eqb-true _ 34 first.1) in
    ap (λ l. l ++ doubled rest') more ∙ append_assoc (row ++ take (at + 1) rest) (34 ∷ []) (doubled rest')
    ∙ append_assoc row (take (at + 1) rest) (34 ∷ doubled rest')
    ∙ ap (λ l. row ++ l) (ap (λ l. take (at + 1) rest ++ 34 ∷ doubled l) left
    ∙ ap (λ n. take n rest ++ 34 ∷ doubled (drop n rest)) next ∙ sym split)
    ∙ is

-- no quote is left
pub quote-ends : (old row row' row'' rest text : List ℕ) → IsFirstByte (is_byte 34) rest None
    → row ++ doubled rest ≡ (old ++ 34 ∷ []) ++ doubled text → row' ≡ row ++ rest → row'' ≡ row' ++ 34 ∷ []
    → row'' ≡ old ++ quoted text
quote-ends old row row' row'' rest text none is more last =
    let same : doubled rest ≡ rest = plain rest (λ k lt is. none k (omega (arith)) lt (eq-eqb _ 34 is)) in
    last ∙ ap (λ l. l ++ 34 ∷ []) (more ∙ ap (λ l. row ++ l) (sym same) ∙ is)
    ∙ append_assoc (old ++ 34 ∷ []) (doubled text) (34 ∷ []) ∙ append_assoc old (34 ∷ []) (doubled text ++ 34 ∷ [])
