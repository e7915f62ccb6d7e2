-- Memory that is written from its beginning on, part by part.
use Rattle.std.proofs.Common.{◌≡◌, ◌∙◌, ◌≤◌, ◌+◌, ◌++◌, ℕ, zero, suc, List, [], ◌∷◌, length, take, drop, refl, sym, ap, ap₂}
use Rattle.std.proofs.Common.{append_assoc, arith, length-append, length-drop}
use Rattle.std.proofs.lemmas.List.{append-nil, length-take-le, take-append-drop}
use Rattle.std.proofs.Math.Seq.{drop-append-add, drop-append_seam, take-append-add, take-append_seam}
use Rattle.jiter_c.specs.Walk.{laid}

-- The first n of the memory are the beginning of `all`, of which `rest` is not written yet. What follows is as it was.
pub record Laying {A : Type 0} (all rest : List A) (n : ℕ) (old now : List A) : Type 0 where
  pub begun : take n now ++ rest ≡ all
  pub after : drop n now ≡ drop n old
  pub long : length now ≡ length old
  pub within : n ≤ length now

drop-nothing : (A : Type 0) (xs : List A) (k : ℕ) → xs ≡ [] → drop k xs ≡ []
drop-nothing A xs zero none = none
drop-nothing A [] (suc k) none = refl
drop-nothing A (x ∷ xs) (suc k) none = absurd (cc)

drop-drop : {A : Type 0} (k n : ℕ) (xs : List A) → drop k (drop n xs) ≡ drop (n + k) xs
drop-drop k zero xs = let e : k ≡ 0 + k = omega arith in ap (λ m. drop m xs) e
drop-drop k (suc n) [] = drop-nothing _ [] k refl ∙ sym (drop-nothing _ [] (suc n + k) refl)
drop-drop k (suc n) (x ∷ xs) =
    let e : suc (n + k) ≡ suc n + k = omega arith in drop-drop k n xs ∙ ap (λ m. drop m (x ∷ xs)) e

module _ {A : Type 0} (all : List A) where
  pub laying-begin : (rest old : List A) → rest ≡ all → Laying all rest 0 old old
  laying-begin rest old is = record { begun = is; after = refl; long = refl; within = omega arith }

  -- The next part has room.
  pub laying-room : (here part rest : List A) (n : ℕ) (old now : List A) → Laying all here n old now → here ≡ part ++ rest
      → length all ≤ length old → length part ≤ length (drop n now)
  laying-room here part rest n old now l split room =
      omega (
        arith,
        room,
        l.long,
        l.within,
        ap length (sym l.begun),
        length-append (take n now) here,
        ap length split,
        length-append part rest,
        length-take-le n now l.within,
        length-drop n now,
      )

  -- one part more
  pub laying-more : (here part rest next : List A) (n k : ℕ) (old now new : List A) → Laying all here n old now
      → here ≡ part ++ rest → rest ≡ next → length part ≤ length (drop n now)
      → new ≡ take n now ++ laid part (drop n now) → k ≡ length part → Laying all next (n + k) old new
  laying-more here part rest next n k old now new l split follows room is counts = record {
    begun = ap₂ (λ m xs. take (n + m) new ++ xs) counts (sym follows) ∙ ap (λ xs. xs ++ rest) taken
        ∙ append_assoc first part rest ∙ ap (λ xs. first ++ xs) (sym split) ∙ l.begun;
    after = ap (λ m. drop (n + m) new) counts ∙ dropped ∙ ap (drop (length part)) l.after ∙ drop-drop (length part) n old
        ∙ ap (λ m. drop (n + m) old) (sym counts);
    long = measured ∙ l.long;
    within = omega (arith, measured, room, l.within, length-drop n now, counts);
  } where
    first : List A
    first = take n now

    left : List A
    left = drop (length part) (drop n now)

    counted : length first ≡ n
    counted = length-take-le n now l.within

    taken : take (n + length part) new ≡ first ++ part
    taken =
        ap₂ (λ k xs. take (k + length part) xs) (sym counted) is ∙ take-append-add first (part ++ left) (length part)
        ∙ ap (λ xs. first ++ xs) (take-append_seam part left)

    dropped : drop (n + length part) new ≡ left
    dropped =
        ap₂ (λ k xs. drop (k + length part) xs) (sym counted) is ∙ drop-append-add first (part ++ left) (length part)
        ∙ drop-append_seam part left

    measured : length new ≡ length now
    measured =
        omega (
          arith,
          ap length is,
          length-append first (part ++ left),
          length-append part left,
          counted,
          room,
          l.within,
          length-drop n now,
          length-drop (length part) (drop n now),
        )

  pub laying-end : (rest : List A) (n : ℕ) (old now : List A) → Laying all rest n old now → rest ≡ []
      → now ≡ laid all old
  laying-end rest n old now l none =
      sym (take-append-drop n now)
      ∙ ap₂ (λ xs ys. xs ++ ys) whole (l.after ∙ ap (λ k. drop k old) (sym (ap length (sym whole) ∙ length-take-le n now l.within))) where
        whole : take n now ≡ all
        whole = sym (append-nil (take n now)) ∙ ap (λ xs. take n now ++ xs) (sym none) ∙ l.begun

  pub laying-count : (rest : List A) (n : ℕ) (old now : List A) → Laying all rest n old now → rest ≡ []
      → n ≡ length all
  laying-count rest n old now l none =
      sym (length-take-le n now l.within)
      ∙ ap length (sym (append-nil (take n now)) ∙ ap (λ xs. take n now ++ xs) (sym none) ∙ l.begun)
