-- The parts of one piece, by what the code tests.
use Rattle.std.proofs.Common.{◌≡◌, ◌∙◌, ap, refl, sym, subst, ℕ, ◌+◌, ◌-◌, Bool, true, false, List, [], ◌∷◌, Option, Some, None, IfSome}
use Rattle.std.proofs.Common.{arith, drop, drop_of_length-le, eq-eqb, eqb-true, le_refl, length, length-drop, take, take_all}
use Rattle.std.specs.Prelude.{◌==◌, ◌&&◌, if◌then◌else◌, not, codes}
use Rattle.std.specs.Prelude.{Result, Ok, Err, IfOk, OnErr}
use Rattle.std.specs.List.{suffix_len}
use Rattle.std.proofs.lemmas.List.Sums.{prefix_len-le-length}
use Rattle.jiter_scan.specs.declared.errors.LinePosition.{LinePosition}
use Rattle.json_lines.specs.Items.{after_blanks, blanks, is_white, item, item_or, last_of, trim_end, wrong}
use Rattle.json_lines.specs.ItemsRead.{StartsAt, TakesVisible, past, piece_error, piece_parts, tail_count, tail_report}
use Rattle.json_lines.specs.Line.{refusal_text}
use Rattle.std.specs.Io.KnownBytes.{Appends}
use Rattle.std.proofs.lemmas.Option.{IfSome_then}
use Rattle.jiter_print.specs.Written.{AppendsPrefix}
use Rattle.json_lines.proofs.Positions.{starts-part}
use Rattle.json_lines.specs.declared.array.Ended.{Ended}
use Rattle.json_lines.specs.declared.array.Ended.TheVariants as ended

-- what follows of a result
pub if-ok : {T E : Type 0} {P Q : T → Type 0} (r : Result T E) → ((x : T) → P x → Q x) → IfOk r P → IfOk r Q
if-ok (Ok x) f h = f x h
if-ok (Err e) f h = tt

pub on-err : {T E P Q : Type 0} (r : Result T E) → (P → Q) → OnErr r P → OnErr r Q
on-err (Ok x) f h = tt
on-err (Err e) f h = f h

blank-rest : (bs : List ℕ) → (blanks bs == length bs) ≡ true → after_blanks bs ≡ []
blank-rest bs is = ap (λ n. drop n bs) (eqb-true (blanks bs) (length bs) is) ∙ drop_of_length-le bs (le_refl _)

some-rest : (bs : List ℕ) → (blanks bs == length bs) ≡ false → after_blanks bs ≡ [] → ⊥
some-rest bs other none =
    let long : length bs - blanks bs ≡ 0 = sym (length-drop (blanks bs) bs) ∙ ap length none in
    let within = prefix_len-le-length is_white bs in
    let same : blanks bs ≡ length bs = omega (arith, long, within) in
    let is = eq-eqb (blanks bs) (length bs) same in
    absurd (cc)

-- all bytes after some
pub rest-is : (n : ℕ) (bs : List ℕ) → take (length bs - n) (drop n bs) ≡ drop n bs
rest-is n bs = let long = length-drop n bs in take_all (length bs - n) (drop n bs) (omega (arith, long))

pub some-is : (a b : List ℕ) → ◌≡◌ {A = Option (List ℕ)} (Some a) (Some b) → a ≡ b
some-is a b e = cc

-- what is not whitespace piece has an item
item-shape : (j : ℕ) (l cause : List ℕ) (end : ℕ) → (l ≡ [] → ⊥) → item_or j l cause end ≡ item j (trim_end l)
item-shape j [] cause end some = absurd (some refl)
item-shape j (b ∷ l) cause end some = refl

last-shape : (first : Bool) (j : ℕ) (l : List ℕ) (end : ℕ) → (l ≡ [] → ⊥) → last_of first j l end ≡ item j (trim_end l) ∷ []
last-shape first j [] end some = absurd (some refl)
last-shape true j (b ∷ l) end some = refl
last-shape false j (b ∷ l) end some = refl

module _ (i : ℕ) (bs : List ℕ) where
  abbrev kept : List ℕ
  kept = trim_end (after_blanks bs)

  abbrev end : ℕ
  end = i + length bs

  abbrev blank : Bool
  blank = blanks bs == length bs

  -- an error
  pub piece-wrong : (e : Ended) (first : Bool) (cause : List ℕ) → ◌≡◌ {A = Option (List ℕ)} (Some cause) (piece_error e first blank)
      → piece_parts e first i bs ≡ wrong end cause kept ∷ []
  piece-wrong ended.Input first cause is = ap (λ c. wrong end c kept ∷ []) (sym (some-is cause (codes "EOF while parsing a list") is))
  piece-wrong ended.Comma first cause is = by blank refl is where
    by : (c : Bool) → blank ≡ c → ◌≡◌ {A = Option (List ℕ)} (Some cause) (if c then Some (codes "expected value") else None)
        → item_or (i + blanks bs) (after_blanks bs) (codes "expected value") end ∷ [] ≡ wrong end cause kept ∷ []
    by true none is = subst (λ l. item_or (i + blanks bs) l (codes "expected value") end ∷ [] ≡ wrong end cause (trim_end l) ∷ [])
        (sym (blank-rest bs none)) (ap (λ c. wrong end c [] ∷ []) (sym (some-is cause (codes "expected value") is)))
    by false none is = absurd (cc)
  piece-wrong ended.Bracket first cause is = by first blank refl is where
    by : (f c : Bool) → blank ≡ c → ◌≡◌ {A = Option (List ℕ)} (Some cause) (if c && not f then Some (codes "trailing comma") else None)
        → last_of f (i + blanks bs) (after_blanks bs) end ≡ wrong end cause kept ∷ []
    by false true none is = subst (λ l. last_of false (i + blanks bs) l end ≡ wrong end cause (trim_end l) ∷ [])
        (sym (blank-rest bs none)) (ap (λ c. wrong end c [] ∷ []) (sym (some-is cause (codes "trailing comma") is)))
    by true true none is = absurd (cc)
    by f false none is = absurd (cc)

  -- `[]`
  pub piece-nothing : (e : Ended) (first : Bool) → ◌≡◌ {A = Option (List ℕ)} None (piece_error e first blank) → blank ≡ true
      → piece_parts e first i bs ≡ []
  piece-nothing ended.Input first is none = absurd (cc)
  piece-nothing ended.Comma first is none = absurd (let no-error = rw none at is in cc)
  piece-nothing ended.Bracket true is none = subst (λ l. last_of true (i + blanks bs) l end ≡ []) (sym (blank-rest bs none)) refl
  piece-nothing ended.Bracket false is none = absurd (let no-error = rw none at is in cc)

  -- an item
  pub piece-item : (e : Ended) (first : Bool) → ◌≡◌ {A = Option (List ℕ)} None (piece_error e first blank) → blank ≡ false
      → piece_parts e first i bs ≡ item (i + blanks bs) kept ∷ []
  piece-item ended.Input first is some = absurd (cc)
  piece-item ended.Comma first is some =
      ap (λ p. p ∷ []) (item-shape (i + blanks bs) (after_blanks bs) (codes "expected value") end (some-rest bs some))
  piece-item ended.Bracket first is some = last-shape first (i + blanks bs) (after_blanks bs) end (some-rest bs some)

  -- where the item begins, and what it is
  module _ (n : ℕ) (l : List ℕ) (count : n ≡ blanks bs) (bytes : l ≡ trim_end (drop n bs)) where
    pub is-kept : l ≡ kept
    is-kept = bytes ∙ ap (λ m. trim_end (drop m bs)) count

    pub item-parts : (e : Ended) (first : Bool) → ◌≡◌ {A = Option (List ℕ)} None (piece_error e first blank) → blank ≡ false
        → item (i + blanks bs) l ∷ [] ≡ piece_parts e first i bs
    item-parts e first is some = ap (λ x. item (i + blanks bs) x ∷ []) is-kept ∙ sym (piece-item e first is some)

    pub item-starts : (at : ℕ → LinePosition) (p q : LinePosition) → q ≡ past p (take n bs) → StartsAt at i p bs
        → StartsAt at (i + blanks bs) q l
    item-starts at p q there starts =
        let size = length (after_blanks bs) - suffix_len is_white (after_blanks bs) in
        let part = starts-part at i p bs (blanks bs) size (prefix_len-le-length is_white bs) starts in
        let here : past p (take (blanks bs) bs) ≡ q = ap (λ m. past p (take m bs)) (sym count) ∙ sym there in
        subst (λ x. StartsAt at (i + blanks bs) q x) (sym is-kept) (subst (λ z. StartsAt at (i + blanks bs) z kept) here part)

-- ---- what follows the array
tail-is : (name : List ℕ) (p q : LinePosition) (b : ℕ) (xs rest : List ℕ) → after_blanks xs ≡ b ∷ rest → q ≡ past p (take (blanks xs) xs)
    → refusal_text name q.line q.column (codes "trailing characters") ≡ tail_report name (past p (take (blanks xs) xs)) (after_blanks xs)
tail-is name p q b xs rest next there =
    ap (λ z. refusal_text name z.line z.column (codes "trailing characters")) there
    ∙ ap (tail_report name (past p (take (blanks xs) xs))) (sym next)

module _ (old new : Option (List ℕ)) (name : List ℕ) (p q : LinePosition) (b : ℕ) (read : TakesVisible old new p q (Some b))
    (err err' : Option (List ℕ)) where
  pub tail-part : AppendsPrefix err err' (refusal_text name q.line q.column (codes "trailing characters"))
      → IfSome old (λ xs. AppendsPrefix err err' (tail_report name (past p (take (blanks xs) xs)) (after_blanks xs)))
  tail-part h = IfSome_then old read
      (λ xs x. subst (AppendsPrefix err err') (tail-is name p q b xs x.0 x.2 x.3) h)

  pub tail-whole : Appends err err' (refusal_text name q.line q.column (codes "trailing characters"))
      → IfSome old (λ xs. (1 ≡ tail_count (after_blanks xs))
      × Appends err err' (tail_report name (past p (take (blanks xs) xs)) (after_blanks xs)))
  tail-whole h = IfSome_then old read
      (λ xs x. (ap tail_count (sym x.2), subst (Appends err err') (tail-is name p q b xs x.0 x.2 x.3) h))
