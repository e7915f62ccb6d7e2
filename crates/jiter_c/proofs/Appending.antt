-- A text that is written part by part.
use Rattle.std.proofs.Common.{◌≡◌, ◌∙◌, ◌≤◌, ◌++◌, ℕ, zero, suc, List, [], ◌∷◌, length, take, drop, refl, sym, ap, subst, arith}
use Rattle.std.proofs.Common.{◌-◌}
use Rattle.std.proofs.lemmas.List.{append-nil, drop_all, length-drop, take_all}
use borrow.Rule.Slice.PartMut.{mid_of, put_mid}
use Rattle.jiter_c.specs.Reports.{written, Appends}

abbrev nothing : List ℕ
nothing = []

take-none : (n : ℕ) → take n nothing ≡ []
take-none zero = refl
take-none (suc n) = refl

drop-none : (n : ℕ) → drop n nothing ≡ []
drop-none zero = refl
drop-none (suc n) = refl

written-none : (text : List ℕ) → written text [] ≡ []
written-none text = ap (λ l. take 0 text ++ l) (drop-none (length text))

appended : (begun text out : List ℕ)
    → take (length begun) (written begun out) ++ written text (drop (length begun) (written begun out))
    ≡ written (begun ++ text) out
appended [] text out =
    ap (λ l. written text (l ++ out)) (take-none (length out))
appended (b ∷ begun) text [] = drop-none (length text)
appended (b ∷ begun) text (o ∷ out) = ap (λ l. b ∷ l) (appended begun text out)

pub appends : (count : ℕ) (text old new : List ℕ) → new ≡ take count old ++ written text (drop count old)
    → Appends count text old new
appends count text old new is begun out counted was =
    is ∙ ap (λ l. take count l ++ written text (drop count l)) was
    ∙ subst (λ n. take n (written begun out) ++ written text (drop n (written begun out)) ≡ written (begun ++ text) out)
    counted (appended begun text out)

-- where there is no room left nothing is written
past : (begun text out : List ℕ) → length (written begun out) ≤ length begun → written begun out ≡ written (begun ++ text) out
past [] text [] full = refl ∙ sym (written-none text)
past [] text (o ∷ out) full = absurd (omega (arith, full))
past (b ∷ begun) text [] full = written-none (b ∷ begun) ∙ sym (written-none (b ∷ begun ++ text))
past (b ∷ begun) text (o ∷ out) full = ap (λ l. b ∷ l) (past begun text out (omega (arith, full)))

pub full : (count : ℕ) (text old : List ℕ) → length old ≤ count → Appends count text old old
full count text old none begun out counted was =
    was ∙ past begun text out (subst (λ n. length (written begun out) ≤ n) (sym counted) (subst (λ l. length l ≤ count) was none))

-- a part of the memory up to its end, written anew
pub to_the_end : {A : Type 0} (write : List A → List A) (a : ℕ) (old part : List A) → a ≤ length old
    → part ≡ write (mid_of a (length old - a) old)
    → put_mid a (length old - a) old part ≡ take a old ++ write (drop a old)
to_the_end write a old part within is =
    ap (λ l. take a old ++ (part ++ l)) (drop_all (length old - a) (drop a old) (omega (arith, length-drop a old)))
    ∙ ap (λ l. take a old ++ l) (append-nil part ∙ is
    ∙ ap write (take_all (length old - a) (drop a old) (omega (arith, length-drop a old))))
