-- What the bytes that redraw rows do to a screen.
use Rattle.std.proofs.Common.{◌≡◌, ◌∙◌, ap, ap₂, refl, sym, subst, ℕ, ◌+◌, ◌-◌, ◌≤◌, Bool, true, false, List, [], ◌∷◌, ◌++◌}
use Rattle.std.proofs.Common.{append_assoc, append-nil, arith, drop, inl, inr, length, take}
use Rattle.std.specs.Prelude.{◌==◌, if◌then◌else◌, min}
use Rattle.std.proofs.lemmas.Bool.Decides.{nat_tests}
use Rattle.std.proofs.Math.Seq.{drop-nil, take-add, take-nil}
use Rattle.std.proofs.lemmas.List.{drop-drop, drop_min, take-append-drop, take_min}
use Rattle.std.proofs.lemmas.List.Sums.{fold-append}
use Rattle.json_screen.specs.Terminal.{anything, Screen, blank, dimmed, dims, draws, is_plain, IsPlain, IsWholeRows}
use Rattle.json_screen.specs.Terminal.{Redraws, Row, screen_of, step, undims, ups}

-- the cursor at the end of all rows
abbrev at_end : Bool → List Row → Row → Screen
at_end dim above left = record { awaits = anything; dim = dim; above = above; left = left; right = []; below = [] }

-- the cursor anywhere
abbrev within : List Row → Row → Row → List Row → Screen
within above left right below =
    record { awaits = anything; dim = false; above = above; left = left; right = right; below = below }

abbrev feeds : List ℕ → ℕ
feeds [] = 0
feeds (b ∷ bs) = if b == 10 then 1 + feeds bs else feeds bs

feeds-both : (t u : List ℕ) → feeds (t ++ u) ≡ feeds t + feeds u
feeds-both [] u = omega arith
feeds-both (b ∷ t) u = by (b == 10) (feeds-both t u) where
  by : (x : Bool) → feeds (t ++ u) ≡ feeds t + feeds u
      → (if x then 1 + feeds (t ++ u) else feeds (t ++ u)) ≡ (if x then 1 + feeds t else feeds t) + feeds u
  by true e = omega (arith, e)
  by false e = e

no-escape : (b : ℕ) → is_plain b ≡ true → (b == 27) ≡ false
no-escape b h = grind (arith, nat_tests)

no-return : (b : ℕ) → is_plain b ≡ true → (b == 13) ≡ false
no-return b h = grind (arith, nat_tests)

fed : (d : Bool) (a : List Row) (l : Row) (b : ℕ) → is_plain b ≡ true → (b == 10) ≡ true
    → step (at_end d a l) b ≡ at_end d ((l ++ []) ∷ a) []
fed d a l b h e = rw (no-escape b h) (rw (no-return b h) (rw e refl))

written : (d : Bool) (a : List Row) (l : Row) (b : ℕ) → is_plain b ≡ true → (b == 10) ≡ false
    → step (at_end d a l) b ≡ at_end d a (l ++ (b, d) ∷ [])
written d a l b h e = rw (no-escape b h) (rw (no-return b h) (rw e refl))

-- Plain bytes at the end: the rows above are still above, past those that ended.
record Ends (d : Bool) (a : List Row) (s : Screen) (t : List ℕ) : Type 0 where
  above : List Row
  left : Row
  is : draws s t ≡ at_end d above left
  over : drop (feeds t) above ≡ a

ends : (d : Bool) (a : List Row) (l : Row) (t : List ℕ) → IsPlain t → Ends d a (at_end d a l) t
ends d a l [] h = record { above = a; left = l; is = refl; over = refl }
ends d a l (b ∷ t) h = by (b == 10) refl (ends d ((l ++ []) ∷ a) [] t h.1) (ends d a (l ++ (b, d) ∷ []) t h.1) where
  by : (x : Bool) → (b == 10) ≡ x → Ends d ((l ++ []) ∷ a) (at_end d ((l ++ []) ∷ a) []) t
      → Ends d a (at_end d a (l ++ (b, d) ∷ [])) t → Ends d a (at_end d a l) (b ∷ t)
  by true e rest other = record {
    above = rest.above;
    left = rest.left;
    is = ap (λ s. draws s t) (fed d a l b h.0 e) ∙ rest.is;
    over = rw e (ap (λ n. drop n rest.above) (omega arith) ∙ sym (drop-drop 1 (feeds t) rest.above) ∙ ap (drop 1) rest.over);
  }
  by false e other rest = record {
    above = rest.above;
    left = rest.left;
    is = ap (λ s. draws s t) (written d a l b h.0 e) ∙ rest.is;
    over = rw e rest.over;
  }

-- up by as many rows
record Rises (a : List Row) (s : Screen) (t : List ℕ) : Type 0 where
  left : Row
  right : Row
  below : List Row
  is : draws s (ups t) ≡ within (drop (feeds t) a) left right below

rises : (a : List Row) (l r : Row) (w : List Row) (t : List ℕ) → Rises a (within a l r w) t
rises a l r w [] = record { left = l; right = r; below = w; is = refl }
rises a l r w (b ∷ t) = by a (b == 10) refl (λ a l r w. rises a l r w t) where
  by : (a : List Row) (x : Bool) → (b == 10) ≡ x
      → ((a : List Row) (l r : Row) (w : List Row) → Rises a (within a l r w) t) → Rises a (within a l r w) (b ∷ t)
  by [] true e more =
      let rest = more [] l r w in
      record {
        left = rest.left;
        right = rest.right;
        below = rest.below;
        is = rw e (rest.is ∙ ap (λ a. within a rest.left rest.right rest.below)
            (drop-nil (feeds t) ∙ sym (drop-nil (1 + feeds t))));
      }
  by (row ∷ rows) true e more =
      let rest = more rows (take (length l) row) (drop (length l) row) ((l ++ r) ∷ w) in
      record {
        left = rest.left;
        right = rest.right;
        below = rest.below;
        is = rw e (rest.is ∙ ap (λ a. within a rest.left rest.right rest.below) (drop-drop (feeds t) 1 (row ∷ rows)));
      }
  by a false e more =
      let rest = more a l r w in
      record { left = rest.left; right = rest.right; below = rest.below; is = rw e rest.is }

goes : (s : Screen) (t u : List ℕ) (s' s'' : Screen) → draws s t ≡ s' → draws s' u ≡ s'' → draws s (t ++ u) ≡ s''
goes s t u s' s'' p q = fold-append step s t u ∙ ap (λ z. draws z u) p ∙ q

plain-left : (t u : List ℕ) → IsPlain (t ++ u) → IsPlain t
plain-left [] u h = tt
plain-left (b ∷ t) u h = (h.0, plain-left t u h.1)

plain-right : (t u : List ℕ) → IsPlain (t ++ u) → IsPlain u
plain-right [] u h = h
plain-right (b ∷ t) u h = plain-right t u h.1

pub plain-both : (t u : List ℕ) → IsPlain t → IsPlain u → IsPlain (t ++ u)
plain-both [] u h k = k
plain-both (b ∷ t) u h k = (h.0, plain-both t u h.1 k)

-- rows that end leave the cursor in the first column
starts : (t : List ℕ) → IsPlain t → IsWholeRows t → (a : List Row) × (screen_of t ≡ at_end false a [])
starts t h (inl none) = ([], ap screen_of none)
starts t h (inr some) =
    let u = some.0 in
    let before = ends false [] [] u (plain-left u (10 ∷ []) (subst IsPlain some.1 h)) in
    (((before.left ++ []) ∷ before.above), ap screen_of some.1 ∙ goes blank u (10 ∷ []) _ _ before.is refl)

whole-both : (t u : List ℕ) → IsWholeRows t → IsWholeRows u → IsWholeRows (t ++ u)
whole-both t u h (inl none) = subst IsWholeRows (sym (ap (λ x. t ++ x) none ∙ append-nil t)) h
whole-both t u h (inr some) =
    inr (t ++ some.0, ap (λ x. t ++ x) some.1 ∙ sym (append_assoc t some.0 (10 ∷ [])))

abbrev pub stays : List ℕ
stays = 27 ∷ 91 ∷ 63 ∷ 55 ∷ 108 ∷ []

abbrev pub wraps : List ℕ
wraps = 27 ∷ 91 ∷ 63 ∷ 55 ∷ 104 ∷ []

abbrev pub clears : List ℕ
clears = 13 ∷ 27 ∷ 91 ∷ 74 ∷ []

-- rows whose second part is dim
abbrev parted : List ℕ → List ℕ → List ℕ
parted y z = y ++ (dims ++ (z ++ undims))

record Parted (a : List Row) (y z : List ℕ) : Type 0 where
  above : List Row
  left : Row
  is : draws (at_end false a []) (parted y z) ≡ at_end false above left
  over : drop (feeds (y ++ z)) above ≡ a

parts : (a : List Row) (y z : List ℕ) → IsPlain (y ++ z) → Parted a y z
parts a y z h =
    let first = ends false a [] y (plain-left y z h) in
    let last = ends true first.above first.left z (plain-right y z h) in
    let s0 = at_end false a [] in
    let s1 = at_end false first.above first.left in
    let s2 = at_end true first.above first.left in
    let s3 = at_end true last.above last.left in
    let s4 = at_end false last.above last.left in
    record {
      above = last.above;
      left = last.left;
      is = goes s0 y (dims ++ (z ++ undims)) s1 s4 first.is
          (goes s1 dims (z ++ undims) s2 s4 refl (goes s2 z undims s3 s4 last.is refl));
      over = ap (λ n. drop n last.above) (omega (arith, feeds-both y z)) ∙ sym (drop-drop (feeds y) (feeds z) last.above)
          ∙ ap (drop (feeds y)) last.over ∙ first.over;
    }

-- Up to the first row that changes, which is cleared with all below it, and the new rows.
redrawn : (u x x' y z : List ℕ) → IsPlain (u ++ (x ++ x')) → IsPlain (u ++ (y ++ z)) → IsWholeRows u
    → Redraws (u ++ parted x x') (u ++ parted y z) (stays ++ (ups (x ++ x') ++ (clears ++ (parted y z ++ wraps))))
redrawn u x x' y z old new rows top plain whole =
    let start = starts (top ++ u) (plain-both top u plain (plain-left u (x ++ x') old)) (whole-both top u whole rows) in
    let was = parts start.0 x x' (plain-right u (x ++ x') old) in
    let now = parts start.0 y z (plain-right u (y ++ z) new) in
    let up = rises was.above was.left [] [] (x ++ x') in
    let s0 = at_end false was.above was.left in
    let s1 = within start.0 up.left up.right up.below in
    let s2 = at_end false start.0 [] in
    let s4 = at_end false now.above now.left in
    let before : screen_of (top ++ (u ++ parted x x')) ≡ s0 =
    ap screen_of (sym (append_assoc top u (parted x x'))) ∙ goes blank (top ++ u) (parted x x') s2 s0 start.1 was.is in
    let after : screen_of (top ++ (u ++ parted y z)) ≡ s4 =
    ap screen_of (sym (append_assoc top u (parted y z))) ∙ goes blank (top ++ u) (parted y z) s2 s4 start.1 now.is in
    let back : draws s0 (ups (x ++ x')) ≡ s1 = up.is ∙ ap (λ a. within a up.left up.right up.below) was.over in
    let t3 = parted y z ++ wraps in
    let t2 = clears ++ t3 in
    let t1 = ups (x ++ x') ++ t2 in
    let drawn : draws s2 t3 ≡ s4 = goes s2 (parted y z) wraps s4 s4 now.is refl in
    let cleared : draws s1 t2 ≡ s4 = goes s1 clears t3 s2 s4 refl drawn in
    let all : draws s0 (stays ++ t1) ≡ s4 = goes s0 stays t1 s0 s4 refl (goes s0 (ups (x ++ x')) t2 s1 s4 back cleared) in
    ap (λ s. draws s (stays ++ t1)) before ∙ all ∙ sym after

-- an index beyond the end is the end
dimmed-min : (t : List ℕ) (n : ℕ) → dimmed t n ≡ dimmed t (min n (length t))
dimmed-min t n = ap₂ (λ a b. a ++ (dims ++ (b ++ undims))) (sym (take_min n t)) (sym (drop_min n t))

-- a text that is dim from an index on, in the parts before an earlier index, up to that one, and from it on
module _ (t : List ℕ) (begin dim : ℕ) (ordered : begin ≤ dim) where
  abbrev middle : List ℕ
  middle = take (dim - begin) (drop begin t)

  first-parts : take begin t ++ middle ≡ take dim t
  first-parts = sym (take-add begin (dim - begin) t) ∙ ap (λ n. take n t) (omega (arith, ordered))

  last-parts : middle ++ drop dim t ≡ drop begin t
  last-parts =
      ap (λ n. middle ++ drop n t) (omega (arith, ordered)) ∙ ap (λ l. middle ++ l) (sym (drop-drop (dim - begin) begin t))
      ∙ take-append-drop (dim - begin) (drop begin t)

  all-parts : take begin t ++ (middle ++ drop dim t) ≡ t
  all-parts = ap (λ l. take begin t ++ l) last-parts ∙ take-append-drop begin t

  in-parts : dimmed t dim ≡ take begin t ++ parted middle (drop dim t)
  in-parts =
      ap (λ l. l ++ (dims ++ (drop dim t ++ undims))) (sym first-parts)
      ∙ append_assoc (take begin t) middle (dims ++ (drop dim t ++ undims))

-- the same of both texts, as the parts are written
pub drawn-by : (old new drawn : List ℕ) (was is begin : ℕ) → begin ≤ min was (length old) → begin ≤ min is (length new)
    → take begin old ≡ take begin new → IsWholeRows (take begin new)
    → drawn ≡ (((((stays ++ ups (drop begin old)) ++ clears) ++ take (min is (length new) - begin) (drop begin new)) ++ dims)
    ++ drop (min is (length new)) new) ++ (undims ++ wraps)
    → IsPlain old → IsPlain new → Redraws (dimmed old was) (dimmed new is) drawn
drawn-by old new drawn was is begin old-order new-order same rows made old-plain new-plain =
    let u = take begin new in
    let m = min was (length old) in
    let n = min is (length new) in
    let x = middle old begin m old-order in
    let y = middle new begin n new-order in
    let x' = drop m old in
    let z = drop n new in
    let whole-old : u ++ (x ++ x') ≡ old = ap (λ v. v ++ (x ++ x')) (sym same) ∙ all-parts old begin m old-order in
    let whole-new : u ++ (y ++ z) ≡ new = all-parts new begin n new-order in
    let from : dimmed old was ≡ u ++ parted x x' =
    dimmed-min old was ∙ in-parts old begin m old-order ∙ ap (λ v. v ++ parted x x') same in
    let to : dimmed new is ≡ u ++ parted y z = dimmed-min new is ∙ in-parts new begin n new-order in
    let joined : drawn ≡ stays ++ (ups (x ++ x') ++ (clears ++ (parted y z ++ wraps))) =
    made ∙ append_assoc ((((stays ++ ups (drop begin old)) ++ clears) ++ y) ++ dims) z (undims ++ wraps)
    ∙ append_assoc (((stays ++ ups (drop begin old)) ++ clears) ++ y) dims (z ++ (undims ++ wraps))
    ∙ append_assoc ((stays ++ ups (drop begin old)) ++ clears) y (dims ++ (z ++ (undims ++ wraps)))
    ∙ append_assoc (stays ++ ups (drop begin old)) clears (y ++ (dims ++ (z ++ (undims ++ wraps))))
    ∙ append_assoc stays (ups (drop begin old)) (clears ++ (y ++ (dims ++ (z ++ (undims ++ wraps)))))
    ∙ ap₂ (λ v w. stays ++ (ups v ++ (clears ++ w))) (sym (last-parts old begin m old-order))
    (sym (append_assoc y (dims ++ (z ++ undims)) wraps ∙ ap (λ w. y ++ (dims ++ w)) (append_assoc z undims wraps))) in
    let bytes = stays ++ (ups (x ++ x') ++ (clears ++ (parted y z ++ wraps))) in
    let shown = redrawn u x x' y z (subst IsPlain (sym whole-old) old-plain) (subst IsPlain (sym whole-new) new-plain) rows in
    subst (λ d. Redraws (dimmed old was) (dimmed new is) d) (sym joined)
    (subst (λ o. Redraws o (dimmed new is) bytes) (sym from) (subst (λ w. Redraws (u ++ parted x x') w bytes) (sym to) shown))

-- no rows need nothing
pub nothing-drawn : (t : List ℕ) (mark : ℕ) → t ≡ [] → Redraws [] (dimmed t mark) []
nothing-drawn t mark none =
    let empty : dimmed t mark ≡ dims ++ undims =
    ap (λ l. dimmed l mark) none ∙ ap₂ (λ a b. a ++ (dims ++ (b ++ undims))) (take-nil mark) (drop-nil mark) in
    subst (λ l. Redraws [] l []) (sym empty) (λ top plain whole.
    let start = starts top plain whole in
    let s = at_end false start.0 [] in
    ap screen_of (append-nil top) ∙ start.1 ∙ sym (goes blank top (dims ++ undims) s s start.1 refl))

pub redraws-then : (a b c x y : List ℕ) → Redraws a b x → Redraws b c y → Redraws a c (x ++ y)
redraws-then a b c x y h k top plain whole =
    fold-append step (screen_of (top ++ a)) x y ∙ ap (λ s. draws s y) (h top plain whole) ∙ k top plain whole
