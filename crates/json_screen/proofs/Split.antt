-- The parts of an input, joined, are the input.
use Rattle.std.proofs.Common.{◌≡◌, ◌∙◌, ap, refl, sym, subst, ℕ, ◌+◌, ◌-◌, ◌^◌, Bool, true, false, List, [], ◌∷◌, ◌++◌}
use Rattle.std.proofs.Common.{append_assoc, append-nil, drop, length}
use Rattle.std.specs.Prelude.{◌==◌, if◌then◌else◌, min, nat_lt, not}
use Rattle.std.specs.List.{fold}
use Rattle.std.proofs.lemmas.List.Sums.{fold-append}
use Rattle.std.proofs.Math.Seq.{drop-append_seam}
use Rattle.json_screen.specs.Parts.{at, Grows, is_close, is_open, no_parts, part_by, part_step, Parts, parts_of, step, step_by}
use Rattle.json_screen.specs.Parts.{whole, with_after, with_before, with_inside}
use Rattle.json_screen.specs.declared.input.Span.{Span}
use Rattle.json_screen.specs.declared.input.Place.{Place}
use Rattle.json_screen.specs.declared.input.Place.TheVariants.{Before, Between, Quoted, Escaped, After}

-- what is empty at each place
abbrev Ordered : Place → Parts → Type 0
Ordered Before p = (p.inside ≡ []) × (p.after ≡ [])
Ordered Between p = p.after ≡ []
Ordered Quoted p = p.after ≡ []
Ordered Escaped p = p.after ≡ []
Ordered After p = Unit {0}

abbrev Joins : Place → Parts → ℕ → Span → Type 0
Joins old p b e =
    (whole (part_by old e.place p e b) ≡ whole p ++ b ∷ []) × Ordered e.place (part_by old e.place p e b)

before-joins : (p : Parts) (e : Span) (b : ℕ) → p.inside ≡ [] → p.after ≡ [] → whole (with_before p e b) ≡ whole p ++ b ∷ []
before-joins p e b inside after = by p.inside p.after inside after where
  by : (is ls : List ℕ) → is ≡ [] → ls ≡ []
      → ((p.before ++ b ∷ []) ++ is) ++ ls ≡ ((p.before ++ is) ++ ls) ++ b ∷ []
  by [] [] _ _ =
      append-nil ((p.before ++ b ∷ []) ++ []) ∙ append-nil (p.before ++ b ∷ [])
      ∙ sym (ap (λ l. l ++ b ∷ []) (append-nil (p.before ++ []) ∙ append-nil p.before))
  by (i ∷ is) ls e f = absurd (cc)
  by [] (a ∷ ls) e f = absurd (cc)

inside-joins : (p : Parts) (e : Span) (b : ℕ) → p.after ≡ [] → whole (with_inside p e b) ≡ whole p ++ b ∷ []
inside-joins p e b after = by p.after after where
  by : (ls : List ℕ) → ls ≡ [] → (p.before ++ (p.inside ++ b ∷ [])) ++ ls ≡ ((p.before ++ p.inside) ++ ls) ++ b ∷ []
  by [] _ =
      append-nil (p.before ++ (p.inside ++ b ∷ [])) ∙ sym (append_assoc p.before p.inside (b ∷ []))
      ∙ sym (ap (λ l. l ++ b ∷ []) (append-nil (p.before ++ p.inside)))
  by (a ∷ ls) f = absurd (cc)

after-joins : (p : Parts) (e : Span) (b : ℕ) → whole (with_after p e b) ≡ whole p ++ b ∷ []
after-joins p e b = sym (append_assoc (p.before ++ p.inside) p.after (b ∷ []))

either : (P : Span → Type 0) (b : Bool) (x y : Span) → P x → P y → P (if b then x else y)
either P true x y p q = p
either P false x y p q = q

joins : (place : Place) (depth : ℕ) (p : Parts) (b : ℕ) → Ordered place p → Joins place p b (step_by place depth b)
joins Before depth p b o =
    either (Joins Before p b) (is_open b) (at Between 1) (at Before depth)
    (inside-joins p (at Between 1) b o.1, o.1) (before-joins p (at Before depth) b o.0 o.1, o)
joins Between depth p b o =
    let inside : (e : Span) → whole (with_inside p e b) ≡ whole p ++ b ∷ [] = λ e. inside-joins p e b o in
    let e0 = at Quoted depth in
    let e1 = at Between (min (depth + 1) (2 ^ 64 - 1)) in
    let e2 = at Between depth in
    let e3 = at Between (depth - 1) in
    let e4 = at After 0 in
    let x3 = if nat_lt 1 depth then e3 else e4 in
    let x2 = if not (is_close b) then e2 else x3 in
    let x1 = if is_open b then e1 else x2 in
    let last : Joins Between p b x3 = either (Joins Between p b) (nat_lt 1 depth) e3 e4 (inside e3, o) (inside e4, tt) in
    let closed : Joins Between p b x2 = either (Joins Between p b) (not (is_close b)) e2 x3 (inside e2, o) last in
    let opened : Joins Between p b x1 = either (Joins Between p b) (is_open b) e1 x2 (inside e1, o) closed in
    either (Joins Between p b) (b == 34) e0 x1 (inside e0, o) opened
joins Quoted depth p b o =
    let inside : (e : Span) → whole (with_inside p e b) ≡ whole p ++ b ∷ [] = λ e. inside-joins p e b o in
    let e0 = at Between depth in
    let e1 = at Escaped depth in
    let e2 = at Quoted depth in
    let x1 = if b == 92 then e1 else e2 in
    let rest : Joins Quoted p b x1 = either (Joins Quoted p b) (b == 92) e1 e2 (inside e1, o) (inside e2, o) in
    either (Joins Quoted p b) (b == 34) e0 x1 (inside e0, o) rest
joins Escaped depth p b o = (inside-joins p (at Quoted depth) b o, o)
joins After depth p b o = (after-joins p (at After depth) b, tt)

part-span : (old new : Place) (p : Parts) (e : Span) (b : ℕ) → (part_by old new p e b).span ≡ e
part-span Before Before p e b = refl
part-span Before Between p e b = refl
part-span Before Quoted p e b = refl
part-span Before Escaped p e b = refl
part-span Before After p e b = refl
part-span Between new p e b = refl
part-span Quoted new p e b = refl
part-span Escaped new p e b = refl
part-span After new p e b = refl

joined : (p : Parts) (t : List ℕ) → Ordered p.span.place p → whole (fold part_step p t) ≡ whole p ++ t
joined p [] o = sym (append-nil (whole p))
joined p (b ∷ t) o =
    let one = joins p.span.place p.span.depth p b o in
    let e = step p.span b in
    let next = subst (λ (x : Span). Ordered x.place (part_step p b)) (sym (part-span p.span.place e.place p e b)) one.1 in
    joined (part_step p b) t next ∙ ap (λ l. l ++ t) one.0 ∙ append_assoc (whole p) (b ∷ []) t

pub whole-is : (t : List ℕ) → whole (parts_of t) ≡ t
whole-is t = joined no_parts t (refl, refl)

pub parts-more : (t u : List ℕ) → parts_of (t ++ u) ≡ fold part_step (parts_of t) u
parts-more t u = fold-append part_step no_parts t u

-- what grew is what was and the rest
pub rest-is : (a b : List ℕ) → Grows a b → a ++ drop (length a) b ≡ b
rest-is a b h = ap (λ l. a ++ drop (length a) l) h.1 ∙ ap (λ l. a ++ l) (drop-append_seam a h.0) ∙ sym h.1
