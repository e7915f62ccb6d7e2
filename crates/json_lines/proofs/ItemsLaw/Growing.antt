-- The items of a prefix are the first items of the input.
use Rattle.std.proofs.Common.{◌≡◌, ℕ, suc, ◌+◌, ◌==◌, Bool, true, false, List, [], ◌∷◌, ◌++◌, append-nil, drop, length}
use Rattle.std.proofs.Common.{refl, sym, ap, ap₂, ◌∙◌, subst, arith}
use Rattle.std.specs.Prelude.{codes, if◌then◌else◌}
use Rattle.json_lines.specs.Items.{Part, Pieces, Place, after_array, after_blanks, blanks, bracket, comma, cut, ends_item, is_white}
use Rattle.json_lines.specs.Items.{item, item_or, last_of, outside, parts, parts_at, parts_of, pieces, place_after, with_byte, wrong}
use Rattle.json_lines.specs.ItemsLaw.{IsGrowing, items_among}
use Rattle.json_lines.specs.Line.{cause_in}

module _ (rest : List ℕ) where
  -- the pieces of a text that goes on: only the one that the end cuts may become others
  abbrev GoesOn : Pieces → Pieces → Type 0
  GoesOn (comma w more) y = (more' : Pieces) × (y ≡ comma w more') × GoesOn more more'
  GoesOn (bracket w others) y = y ≡ bracket w (others ++ rest)
  GoesOn (cut w) y = Unit {0}

  byte-goes : (b : ℕ) (x y : Pieces) → GoesOn x y → GoesOn (with_byte b x) (with_byte b y)
  byte-goes b (comma w more) y h = (h.0, ap (with_byte b) h.1, h.2)
  byte-goes b (bracket w others) y h = ap (with_byte b) h
  byte-goes b (cut w) y h = tt

  pieces-go : (t : List ℕ) (p : Place) → GoesOn (pieces p t) (pieces p (t ++ rest))
  pieces-go [] p = tt
  pieces-go (b ∷ t) p = by (ends_item p b) (pieces-go t (place_after p b)) (pieces-go t (outside 0)) where
    ended : (c : Bool) → GoesOn (pieces (outside 0) t) (pieces (outside 0) (t ++ rest))
        → GoesOn (if c then comma [] (pieces (outside 0) t) else bracket [] t)
        (if c then comma [] (pieces (outside 0) (t ++ rest)) else bracket [] (t ++ rest))
    ended true h = (pieces (outside 0) (t ++ rest), refl, h)
    ended false h = refl

    by : (c : Bool) → GoesOn (pieces (place_after p b) t) (pieces (place_after p b) (t ++ rest))
        → GoesOn (pieces (outside 0) t) (pieces (outside 0) (t ++ rest))
        → GoesOn
        (if c then (if b == 44 then comma [] (pieces (outside 0) t) else bracket [] t)
        else with_byte b (pieces (place_after p b) t))
        (if c then (if b == 44 then comma [] (pieces (outside 0) (t ++ rest)) else bracket [] (t ++ rest))
        else with_byte b (pieces (place_after p b) (t ++ rest)))
    by true h g = ended (b == 44) g
    by false h g = byte-goes b (pieces (place_after p b) t) (pieces (place_after p b) (t ++ rest)) h

  -- ---- and their items
  abbrev Grows : List Part → List Part → Type 0
  Grows ps qs = (more : List Part) × (items_among qs ≡ items_among ps ++ more)

  grows-after : (p : Part) (ps qs : List Part) → Grows ps qs → Grows (p ∷ ps) (p ∷ qs)
  grows-after (item i bytes) ps qs h = (h.0, ap (λ l. item i bytes ∷ l) h.1)
  grows-after (wrong i cause kept) ps qs h = h

  among-append : (ps qs : List Part) → items_among (ps ++ qs) ≡ items_among ps ++ items_among qs
  among-append [] qs = refl
  among-append (item i bytes ∷ ps) qs = ap (λ l. item i bytes ∷ l) (among-append ps qs)
  among-append (wrong i cause kept ∷ ps) qs = among-append ps qs

  none-after : (i : ℕ) (w : List ℕ) → items_among (after_array i w) ≡ []
  none-after i [] = refl
  none-after i (b ∷ w) = refl

  -- what follows an array has no items
  same-before : (ps : List Part) (i j : ℕ) (v w : List ℕ) → Grows (ps ++ after_array i v) (ps ++ after_array j w)
  same-before ps i j v w =
      let each : (k : ℕ) (x : List ℕ) → items_among (ps ++ after_array k x) ≡ items_among ps = λ k x.
      among-append ps (after_array k x) ∙ ap (λ l. items_among ps ++ l) (none-after k x) ∙ append-nil (items_among ps) in
      ([], each j w ∙ sym (each i v) ∙ sym (append-nil (items_among (ps ++ after_array i v))))

  parts-grow : (x y : Pieces) (i : ℕ) (first : Bool) → GoesOn x y → Grows (parts_of i first x) (parts_of i first y)
  parts-grow (comma w more) y i first h =
      subst (λ z. Grows (parts_of i first (comma w more)) (parts_of i first z)) (sym h.1)
      (grows-after (item_or (i + blanks w) (after_blanks w) (codes "expected value") (i + length w))
      (parts_of (i + length w + 1) false more) (parts_of (i + length w + 1) false h.0)
      (parts-grow more h.0 (i + length w + 1) false h.2))
  parts-grow (bracket w others) y i first h =
      subst (λ z. Grows (parts_of i first (bracket w others)) (parts_of i first z)) (sym h)
      (same-before (last_of first (i + blanks w) (after_blanks w) (i + length w)) (i + length w + 1 + blanks others)
      (i + length w + 1 + blanks (others ++ rest)) (after_blanks others) (after_blanks (others ++ rest)))
  parts-grow (cut w) y i first h = (items_among (parts_of i first y), refl)

  -- ---- where the text begins
  abbrev SameStart : List ℕ → Type 0
  SameStart t = (c : ℕ) (l : List ℕ) → after_blanks t ≡ c ∷ l
      → (blanks (t ++ rest) ≡ blanks t) × (after_blanks (t ++ rest) ≡ c ∷ (l ++ rest))

  same-start : (t : List ℕ) → SameStart t
  same-start [] = λ c l e. absurd (cc)
  same-start (b ∷ t) = by (is_white b) refl (same-start t) where
    passed : (n : ℕ) (l : List ℕ) → drop (1 + n) (b ∷ l) ≡ drop n l
    passed n l = let same : 1 + n ≡ suc n = omega arith in ap (λ k. drop k (b ∷ l)) same

    by : (white : Bool) → is_white b ≡ white → SameStart t → SameStart (b ∷ t)
    by true is others c l e =
        let e' : after_blanks t ≡ c ∷ l = sym (passed (blanks t) t) ∙ rw is at e in
        let h = others c l e' in
        (rw is (ap (λ n. 1 + n) h.0), rw is (passed (blanks (t ++ rest)) (t ++ rest) ∙ h.1))
    by false is others c l e =
        let e' : b ∷ t ≡ c ∷ l = rw is at e in (rw is refl, rw is (ap (λ x. x ++ rest) e'))

  -- the parts of a text, by its first byte that is no whitespace
  start-grows : (t : List ℕ) (x : List ℕ) → after_blanks t ≡ x
      → Grows (parts_at (blanks t) x) (parts (t ++ rest))
  start-grows t [] e = (items_among (parts (t ++ rest)), refl)
  start-grows t (b ∷ bs) e =
      let h = same-start t b bs e in
      subst (Grows (parts_at (blanks t) (b ∷ bs))) (sym (ap₂ parts_at h.0 h.1)) (by (b == 91)) where
        by : (c : Bool)
            → Grows (if c then parts_of (blanks t + 1) true (pieces (outside 0) bs)
            else wrong (blanks t) (cause_in (b ∷ bs) (codes "not an array")) [] ∷ [])
            (if c then parts_of (blanks t + 1) true (pieces (outside 0) (bs ++ rest))
            else wrong (blanks t) (cause_in (b ∷ (bs ++ rest)) (codes "not an array")) [] ∷ [])
        by true =
            parts-grow (pieces (outside 0) bs) (pieces (outside 0) (bs ++ rest)) (blanks t + 1) true (pieces-go bs (outside 0))
        by false = ([], refl)

pub growing : IsGrowing
growing prefix rest = start-grows rest prefix (after_blanks prefix) refl
