-- What is known of each part of a printed container, known of the container: items and members alike.
use Rattle.std.proofs.Common.{◌≡◌, ◌⊎◌, inl, inr, ℕ, ◌+◌, ◌<◌, ◌≤◌, List, [], ◌∷◌, ◌++◌, length, map, refl, sym, subst, arith, append_assoc}
use Rattle.std.specs.Prelude.{slice_get, slice_index, Some}
use Rattle.std.specs.List.{join_with_byte}
use Rattle.std.proofs.lemmas.Option.{slice_get_within, get_or_from_slice_get}
use Rattle.std.proofs.lemmas.Bool.{cases_lt}
use Rattle.jiter_scan.specs.Stands.{Stands}
use Rattle.jiter_scan.proofs.Standing.{stands-within, stands-split}
use Rattle.jiter_steps.specs.Blank.{IsBlank, IsBlankByte}
use Rattle.jiter_steps.specs.Node.{StandsAfter}
use Rattle.jiter_steps.proofs.Reading.Parts.{Grammar}
use Rattle.jiter_print.proofs.GivenValues.{Each}

pub no_blank : (u : List ℕ) (i : ℕ) → i ≤ length u → IsBlank u i i
no_blank u i h = record { ordered = omega arith; within = h; each = λ k l m. absurd (omega arith) }

-- the byte is right here
pub stands_here : (u : List ℕ) (i c j : ℕ) → slice_get u i ≡ Some c → j ≡ i + 1 → StandsAfter u i c j
stands_here u i c j h e =
    let lt = slice_get_within u i c h in record { at = i; blanks = no_blank u i (omega arith); here = h; ends = e }

-- ---- whitespace
-- every byte is whitespace
abbrev pub AreBlank : List ℕ → Type 0
AreBlank [] = Unit {0}
AreBlank (c ∷ w) = IsBlankByte c × AreBlank w

blank-more : (u : List ℕ) (i c j : ℕ) → slice_get u i ≡ Some c → IsBlankByte c → IsBlank u (i + 1) j → IsBlank u i j
blank-more u i c j h is rest =
    record { ordered = omega (arith, rest.ordered); within = rest.within; each = λ k l m. by k l m (cases_lt i k) } where
      by : (k : ℕ) → i ≤ k → k < j → (i < k) ⊎ (k ≤ i) → IsBlankByte (slice_index u k)
      by k l m (inl later) = rest.each k (omega arith) m
      by k l m (inr here) =
          let same : i ≡ k = omega arith in
          subst (λ x. IsBlankByte (slice_index u x)) same
          (subst IsBlankByte (sym (get_or_from_slice_get u i c 0 h)) is)

-- where whitespace is, there is whitespace
pub stands-blank : (u w : List ℕ) (i j : ℕ) → i ≤ length u → AreBlank w → Stands u i j w → IsBlank u i j
stands-blank u [] i j l blank h = subst (IsBlank u i) h (no_blank u i l)
stands-blank u (c ∷ w) i j l blank h =
    let lt = slice_get_within u i c h.0 in
    blank-more u i c j h.0 blank.0 (stands-blank u w (i + 1) j (omega arith) blank.1 h.1)

-- the byte is after whitespace
pub stands-closer : (u w : List ℕ) (i c j : ℕ) → i ≤ length u → AreBlank w → Stands u i j (w ++ c ∷ [])
    → StandsAfter u i c j
stands-closer u w i c j l blank h =
    let parts = stands-split u i j w (c ∷ []) h in
    record {
      at = parts.0;
      blanks = stands-blank u w i parts.0 l blank parts.1;
      here = parts.2.0;
      ends = sym parts.2.1;
    }

-- ---- what is wherever something is printed
-- wherever w is, this is so of its place and of the place after it
abbrev pub Wherever : List ℕ → List ℕ → (ℕ → ℕ → Type 0) → Type 0
Wherever u w So = (i j : ℕ) → i ≤ length u → Stands u i j w → So i j

-- the parts after a part, with a comma before each
abbrev pub after : List (List ℕ) → List ℕ
after [] = []
after (p ∷ ps) = 44 ∷ join_with_byte 44 (p ∷ ps)

joined-after : (p : List ℕ) (ps : List (List ℕ)) (w : List ℕ)
    → join_with_byte 44 (p ∷ ps) ++ w ≡ p ++ (after ps ++ w)
joined-after p [] w = refl
joined-after p (q ∷ ps) w = append_assoc p (after (q ∷ ps)) w

-- what the text spells from i to before j, and that it is like p
pub record Again {P N : Type 0} (Spelled : ℕ → N → ℕ → Type 0) (Like : P → N → Type 0) (p : P) (i j : ℕ) : Type 0 where
  pub again : N
  pub spelled : Spelled i again j
  pub like : Like p again

-- where a part may begin
abbrev pub Anywhere : ℕ → Type 0
Anywhere i = Unit {0}

-- What is known of each part is known of all: of a list of parts, which a container's grammar takes.
module _ {P N : Type 0} {u : List ℕ} {closer : ℕ} {IsPart : ℕ → N → ℕ → Type 0} {Are MoreAre : List N → ℕ → ℕ → Type 0}
    (grammar : Grammar u closer Anywhere IsPart Are MoreAre) {LikePart : P → N → Type 0}
    {Like : List P → List N → Type 0} (none : Like [] [])
    (add : (p : P) (n : N) (ps : List P) (ns : List N) → LikePart p n → Like ps ns → Like (p ∷ ps) (n ∷ ns))
    {Is : P → Type 0} (print : P → List ℕ)
    (part : (p : P) → Is p → Wherever u (print p) (Again IsPart LikePart p))
    (gap last : List ℕ) (gap-blank : AreBlank gap) (last-blank : AreBlank last) where
  -- a part with the whitespace before it
  abbrev spaced : P → List ℕ
  spaced p = gap ++ print p

  -- a part and those after it
  first-again : (p : P) (ps : List P) → Is p
      → Wherever u (after (map spaced ps) ++ (last ++ closer ∷ [])) (Again (λ i ns j. MoreAre ns i j) Like ps)
      → Wherever u (join_with_byte 44 (map spaced (p ∷ ps)) ++ (last ++ closer ∷ []))
      (λ i j. (n : N) × (ns : List N) × Are (n ∷ ns) i j × Like (p ∷ ps) (n ∷ ns))
  first-again p ps is rest i j l h =
      let inside = subst (Stands u i j) (joined-after (spaced p) (map spaced ps) (last ++ closer ∷ [])) h in
      let parts = stands-split u i j (spaced p) (after (map spaced ps) ++ (last ++ closer ∷ [])) inside in
      let gaps = stands-split u i parts.0 gap (print p) parts.1 in
      let a = part p is gaps.0 parts.0 (stands-within u i gaps.0 gap l gaps.1) gaps.2 in
      let r = rest parts.0 j (stands-within u i parts.0 (spaced p) l parts.1) parts.2 in
      let blanks = stands-blank u gap i gaps.0 l gap-blank gaps.1 in
      let spelled = grammar.part a.again r.again i gaps.0 parts.0 j blanks tt a.spelled r.spelled in
      (a.again, r.again, spelled, add p a.again ps r.again a.like r.like)

  more-again : (ps : List P) → Each Is ps
      → Wherever u (after (map spaced ps) ++ (last ++ closer ∷ [])) (Again (λ i ns j. MoreAre ns i j) Like ps)
  more-again [] s i j l h =
      record { again = []; spelled = grammar.no_more i j (stands-closer u last i closer j l last-blank h); like = none }
  more-again (p ∷ ps) s i j l h =
      let lt = slice_get_within u i 44 h.0 in
      let r = first-again p ps s.0 (more-again ps s.1) (i + 1) j (omega arith) h.1 in
      let spelled = grammar.comma r.0 r.1 i (i + 1) j (stands_here u i 44 (i + 1) h.0 refl) r.2 in
      record { again = r.0 ∷ r.1; spelled = spelled; like = r.3 }

  pub parts-again : (ps : List P) → Each Is ps
      → Wherever u (join_with_byte 44 (map spaced ps) ++ (last ++ closer ∷ [])) (Again (λ i ns j. Are ns i j) Like ps)
  parts-again [] s i j l h =
      record { again = []; spelled = grammar.none i j (stands-closer u last i closer j l last-blank h); like = none }
  parts-again (p ∷ ps) s i j l h =
      let r = first-again p ps s.0 (more-again ps s.1) i j l h in
      record { again = r.0 ∷ r.1; spelled = r.2; like = r.3 }
