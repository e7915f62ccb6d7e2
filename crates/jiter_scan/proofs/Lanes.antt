-- Masks that are computed lane by lane, held to a test at each of the 256 bytes.
use Rattle.jiter_scan.proofs.Words.{◌≡◌, ℕ, ◌^◌, ◌%◌, leb, Bool, true, false, not, ◌&&◌, cond, eqb, List}
use Rattle.jiter_scan.proofs.Words.{[], ◌∷◌, map, length, refl, sym, ap, ap₂, ◌∙◌, arith, length-map, agree_below_at}
use Rattle.jiter_scan.proofs.Words.{replicate, list_all, nat_tests, is_plain, is_ascii, failing, is_no_mark}
use Rattle.jiter_scan.proofs.Words.{ltb, w8, mask_l-mod, agree_below, mask_l, sel_l, top, Each1}
use Rattle.jiter_scan.proofs.Words.{◌+◌, flipped, flips, is_plain_ascii, plain_to, chunk, get_or, and_parts}
use Rattle.jiter_scan.proofs.Chunks.{list_all-four}
use Rattle.std.proofs.Common.{Fits}
use Rattle.std.proofs.lemmas.Simd.{chunk-fits}
use lib.Lanes.{zip2}

-- all ones where two bytes are equal, where the first is less, and where it is no greater
abbrev pub if_equal : ℕ → ℕ → ℕ
if_equal a b = cond (eqb a b) 255 0

abbrev pub if_less : ℕ → ℕ → ℕ
if_less a b = cond (ltb a b) 255 0

abbrev pub if_at_most : ℕ → ℕ → ℕ
if_at_most a b = cond (leb a b) 255 0

each-byte : (f : ℕ → ℕ) (test : ℕ → Bool) → agree_below (λ x. top 7 (f x)) (λ c. not (test c)) 256 ≡ true
    → (v : List ℕ) → Each1 (Fits w8) v → map (top 7) (map f v) ≡ map (λ c. not (test c)) v
each-byte f test all [] fits = refl
each-byte f test all (x ∷ v) fits = ap₂ (λ a b. a ∷ b)
    (agree_below_at (λ y. top 7 (f y)) (λ c. not (test c)) 256 x all fits.0.fits) (each-byte f test all v fits.1)

-- what `to_bitmask` gives of lanes whose top bit is set where the byte fails the test
pub failing-lanes : (f : ℕ → ℕ) (test : ℕ → Bool) (v z : List ℕ) → length v ≡ 16 → Each1 (Fits w8) v → z ≡ map f v
    → agree_below (λ x. top 7 (f x)) (λ c. not (test c)) 256 ≡ true
    → mask_l (map (top 7) z) % 2 ^ 64 ≡ failing test v
failing-lanes f test v z long fits e all =
    ap (λ l. mask_l l % 2 ^ 64) (ap (map (top 7)) e ∙ each-byte f test all v fits)
    ∙ mask_l-mod (map (λ c. not (test c)) v) 64 (omega (arith, length-map v (λ c. not (test c))))

-- what `select` gives of all ones and none, by the same bit
pub list_all-chosen : (f : ℕ → ℕ) (test : ℕ → Bool) (v z : List ℕ) → length v ≡ 16 → z ≡ map f v
    → ((c : ℕ) → is_ascii (cond (top 7 (f c)) 255 0) ≡ test c)
    → list_all is_ascii (sel_l (map (top 7) z) (replicate 16 255) (replicate 16 0)) ≡ list_all test v
list_all-chosen f test v z long e all =
    ap (λ l. list_all is_ascii (sel_l (map (top 7) l) (replicate 16 255) (replicate 16 0))) e
    ∙ ap (λ n. list_all is_ascii (sel_l (map (top 7) (map f v)) (replicate n 255) (replicate n 0))) (sym long)
    ∙ each v
  where
    each : (w : List ℕ)
        → list_all is_ascii (sel_l (map (top 7) (map f w)) (replicate (length w) 255) (replicate (length w) 0))
        ≡ list_all test w
    each [] = refl
    each (x ∷ w) = ap₂ (λ a b. a && b) (all x) (each w)

pub marked-byte : (c : ℕ) → is_ascii (cond (top 7 (if_equal c 92)) 255 0) ≡ is_no_mark c
marked-byte c = by (eqb c 92) refl where
  by : (b : Bool) → eqb c 92 ≡ b → is_ascii (cond (top 7 (cond b 255 0)) 255 0) ≡ is_no_mark c
  by true e = grind (arith, nat_tests)
  by false e = grind (arith, nat_tests)

pub below-byte : (n c : ℕ) → is_ascii (cond (top 7 (if_less c n)) 255 0) ≡ leb n c
below-byte n c = by (ltb c n) refl where
  by : (b : Bool) → ltb c n ≡ b → is_ascii (cond (top 7 (cond b 255 0)) 255 0) ≡ leb n c
  by true e = grind (arith, nat_tests)
  by false e = grind (arith, nat_tests)

-- two tests of two bytes, and of those after them
pub and-swap : (a b c d : Bool) → ((a && b) && (c && d)) ≡ ((a && c) && (b && d))
and-swap true true c d = refl
and-swap true false true d = refl
and-swap true false false d = refl
and-swap false b c d = refl

lesser-byte : (n x y : ℕ) → leb n (cond (top 7 (if_less x y)) x y) ≡ (leb n x && leb n y)
lesser-byte n x y = by (ltb x y) refl where
  by : (b : Bool) → ltb x y ≡ b → leb n (cond (top 7 (cond b 255 0)) x y) ≡ (leb n x && leb n y)
  by true e = grind (arith, nat_tests)
  by false e = grind (arith, nat_tests)

greater-byte : (x y : ℕ) → is_ascii (cond (top 7 (if_less x y)) y x) ≡ (is_ascii x && is_ascii y)
greater-byte x y = by (ltb x y) refl where
  by : (b : Bool) → ltb x y ≡ b → is_ascii (cond (top 7 (cond b 255 0)) y x) ≡ (is_ascii x && is_ascii y)
  by true e = grind (arith, nat_tests)
  by false e = grind (arith, nat_tests)

-- the lesser bytes are no less than a number where none of both is
pub list_all-lesser : (n : ℕ) (v w : List ℕ) → length v ≡ length w
    → list_all (leb n) (sel_l (map (top 7) (zip2 if_less v w)) v w) ≡ (list_all (leb n) v && list_all (leb n) w)
list_all-lesser n [] [] h = refl
list_all-lesser n [] (y ∷ w) h = absurd (omega arith)
list_all-lesser n (x ∷ v) [] h = absurd (omega arith)
list_all-lesser n (x ∷ v) (y ∷ w) h =
    ap₂ (λ a b. a && b) (lesser-byte n x y) (list_all-lesser n v w (omega arith))
    ∙ and-swap (leb n x) (leb n y) (list_all (leb n) v) (list_all (leb n) w)

pub list_all-greater : (v w : List ℕ) → length v ≡ length w
    → list_all is_ascii (sel_l (map (top 7) (zip2 if_less v w)) w v) ≡ (list_all is_ascii v && list_all is_ascii w)
list_all-greater [] [] h = refl
list_all-greater [] (y ∷ w) h = absurd (omega arith)
list_all-greater (x ∷ v) [] h = absurd (omega arith)
list_all-greater (x ∷ v) (y ∷ w) h =
    ap₂ (λ a b. a && b) (greater-byte x y) (list_all-greater v w (omega arith))
    ∙ and-swap (is_ascii x) (is_ascii y) (list_all is_ascii v) (list_all is_ascii w)

-- a plain byte is no backslash, and flipped not below the limit
plain-byte : (ascii : Bool) → agree_below (plain_to ascii)
    (λ c. is_no_mark c && leb (flips ascii + 31) (flipped (flips ascii) c)) 256 ≡ true
plain-byte true = refl
plain-byte false = refl

module _ (ascii : Bool) where
  abbrev clear : List ℕ → Bool
  clear v = list_all (leb (flips ascii + 31)) (map (flipped (flips ascii)) v)

  pub list_all-plain : (v : List ℕ) → Each1 (Fits w8) v
      → list_all (plain_to ascii) v ≡ (list_all is_no_mark v && clear v)
  list_all-plain [] fits = refl
  list_all-plain (c ∷ v) fits =
      ap₂ (λ a b. a && b) (agree_below_at (plain_to ascii) (λ x. is_no_mark x && leb (flips ascii + 31) (flipped (flips ascii) x)) 256 c (plain-byte ascii) fits.0.fits) (list_all-plain v fits.1)
      ∙ and-swap (is_no_mark c) (leb (flips ascii + 31) (flipped (flips ascii) c)) (list_all is_no_mark v) (clear v)

  -- the same of four vectors
  pub list_all-plain-four : (t : List ℕ) (i : ℕ) → ((k : ℕ) → Fits w8 (get_or t k 0)) →
      let has : ℕ → Bool = λ k. list_all is_no_mark (chunk k 16 t) in
      let is : ℕ → Bool = λ k. clear (chunk k 16 t) in
      (((has i && has (i + 16)) && (has (i + 32) && has (i + 48)))
      && ((is i && is (i + 16)) && (is (i + 32) && is (i + 48)))) ≡ list_all (plain_to ascii) (chunk i 64 t)
  list_all-plain-four t i fits =
      let both : Bool → Bool → Bool = λ x y. x && y in
      let has : ℕ → Bool = λ k. list_all is_no_mark (chunk k 16 t) in
      let is : ℕ → Bool = λ k. clear (chunk k 16 t) in
      let one = λ (k : ℕ). sym (list_all-plain (chunk k 16 t) (chunk-fits w8 k 16 t fits)) in
      let two = λ (k l : ℕ). and-swap (has k) (has l) (is k) (is l) ∙ ap₂ both (one k) (one l) in
      and-swap (has i && has (i + 16)) (has (i + 32) && has (i + 48)) _ _
      ∙ ap₂ both (two i (i + 16)) (two (i + 32) (i + 48)) ∙ sym (list_all-four (plain_to ascii) t i)

-- both tests of each byte
pub list_all-both : (v : List ℕ) → list_all is_plain_ascii v ≡ (list_all is_plain v && list_all is_ascii v)
list_all-both [] = refl
list_all-both (c ∷ v) =
    ap (λ b. is_plain_ascii c && b) (list_all-both v)
    ∙ and-swap (is_plain c) (is_ascii c) (list_all is_plain v) (list_all is_ascii v)

pub plain-of_test : (ascii : Bool) (v : List ℕ) → list_all (plain_to ascii) v ≡ true → list_all is_plain v ≡ true
plain-of_test true v h = (and_parts _ _ (sym (list_all-both v) ∙ h)).0
plain-of_test false v h = h
