-- The position of each index of a text.
use Rattle.std.proofs.Common.{◌≡◌, ◌∙◌, ap, refl, sym, subst, ℕ, ◌+◌, ◌-◌, ◌≤◌, List, [], ◌∷◌, ◌++◌}
use Rattle.std.specs.List.{take_while}
use Rattle.std.proofs.lemmas.List.Sums.{sum_by-append}
use Rattle.std.specs.Prelude.{◌==◌, count_by, not, reverse}
use Rattle.std.proofs.lemmas.List.{reverse-append}
use Rattle.std.proofs.lemmas.List.Sums.{take_while-cons}
use Rattle.std.proofs.Common.{Bool, true, false, append_assoc, append-nil, cond, arith, drop, le_refl, length, length-append, length-take, length-take-le, min, take-append-drop, take-take, take, take_all}
use Rattle.std.proofs.lemmas.List.{take-append-le}
use Rattle.std.proofs.Math.Seq.{take-append-add}
use Rattle.jiter_scan.specs.Position.{column_of, is_newline}
use Rattle.jiter_scan.specs.declared.errors.LinePosition.{LinePosition}
use Rattle.json_lines.specs.Items.{item}
use Rattle.json_lines.specs.ItemsRead.{StartsAt, next_position, past}
use Rattle.json_lines.specs.ItemsWritten.{position_at, report_of}
use Rattle.json_lines.specs.Line.{cause_in, refusal_text, refused}

pub past-both : (p : LinePosition) (a b : List ℕ) → past p (a ++ b) ≡ past (past p a) b
past-both p [] b = refl
past-both p (x ∷ a) b = past-both (next_position p x) a b

-- ---- bytes that begin at an index
module _ (at : ℕ → LinePosition) (i : ℕ) (p : LinePosition) where
  pub starts-here : (bs : List ℕ) → StartsAt at i p bs → at i ≡ p
  starts-here bs h = let same : i ≡ i + 0 = omega (arith) in ap at same ∙ h 0 (omega (arith))

  pub starts-end : (bs : List ℕ) → StartsAt at i p bs → at (i + length bs) ≡ past p bs
  starts-end bs h = h (length bs) (omega (arith)) ∙ ap (past p) (take_all (length bs) bs (le_refl _))

  pub starts-front : (a b : List ℕ) → StartsAt at i p (a ++ b) → StartsAt at i p a
  starts-front a b h k within =
      h k (omega (arith, within, length-append a b)) ∙ ap (past p) (take-append-le k a b within)

  pub starts-rest : (a b : List ℕ) → StartsAt at i p (a ++ b) → StartsAt at (i + length a) (past p a) b
  starts-rest a b h k within =
      let same : i + length a + k ≡ i + (length a + k) = omega (arith) in
      ap at same ∙ h (length a + k) (omega (arith, within, length-append a b))
      ∙ ap (past p) (take-append-add a b k) ∙ past-both p a (take k b)

  -- what is reported of an item, where this many of its bytes are before the error
  pub error-report : (name bs : List ℕ) (column k : ℕ) (cause : List ℕ) (there : LinePosition) → StartsAt at i p bs
      → k ≡ min (column - 1) (length bs) → there ≡ past p (take k bs)
      → refusal_text name there.line there.column (cause_in bs cause) ≡ report_of name at (item i bs) (refused column cause)
  error-report name bs column k cause there h count is =
      let within : k ≤ length bs = omega (arith, count) in
      let place : there ≡ at (i + min (column - 1) (length bs)) = is ∙ sym (h k within) ∙ ap (λ n. at (i + n)) count in
      ap (λ z. refusal_text name z.line z.column (cause_in bs cause)) place

  -- a part of bytes that begin at an index
  pub starts-part : (bs : List ℕ) (n k : ℕ) → n ≤ length bs → StartsAt at i p bs
      → StartsAt at (i + n) (past p (take n bs)) (take k (drop n bs))
  starts-part bs n k within h =
      let long : length (take n bs) ≡ n = length-take-le n bs within in
      let whole = subst (StartsAt at i p) (sym (take-append-drop n bs)) h in
      let rest = starts-rest (take n bs) (drop n bs) whole in
      let there = subst (λ m. StartsAt at (i + m) (past p (take n bs)) (drop n bs)) long rest in
      λ j inside.
      let short = length-take k (drop n bs) in
      there j (omega (arith, inside, short)) ∙ ap (past (past p (take n bs))) (sym (take-take j k (drop n bs) (omega (arith, inside, short))))

-- ---- the positions of an input
count-more : (f : List ℕ) (b : ℕ) → count_by is_newline (f ++ b ∷ []) ≡ count_by is_newline f + count_by is_newline (b ∷ [])
count-more f b = sum_by-append (λ x. cond (is_newline x) 1 0) f (b ∷ [])

column-more : (f : List ℕ) (b : ℕ) → column_of (f ++ b ∷ []) ≡ cond (is_newline b) 0 (1 + column_of f)
column-more f b =
    ap (λ l. length (take_while (λ x. not (is_newline x)) l)) (reverse-append f (b ∷ []))
    ∙ ap length (take_while-cons (λ x. not (is_newline x)) b (reverse f)) ∙ by (is_newline b) where
      by : (c : Bool) → length (cond (not c) (b ∷ take_while (λ x. not (is_newline x)) (reverse f)) []) ≡ cond c 0 (1 + column_of f)
      by true = refl
      by false = omega (arith)

abbrev pub placed : ℕ → List ℕ → LinePosition
placed first f = record { line = first + count_by is_newline f; column = 1 + column_of f }

abbrev make : ℕ → ℕ → LinePosition
make line column = record { line = line; column = column }

same-place : (l m c d : ℕ) → l ≡ m → c ≡ d
    → ◌≡◌ {A = LinePosition} (record { line = l; column = c }) (record { line = m; column = d })
same-place l m c d lines columns =
    ap (λ x. make x c) lines ∙ ap (make m) columns

placed-more : (first : ℕ) (f : List ℕ) (b : ℕ) → next_position (placed first f) b ≡ placed first (f ++ b ∷ [])
placed-more first f b = by (b == 10) refl where
  by : (c : Bool) → (b == 10) ≡ c → next_position (placed first f) b ≡ placed first (f ++ b ∷ [])
  by true is =
      let one : count_by is_newline (b ∷ []) ≡ 1 = rw is refl in
      let column : column_of (f ++ b ∷ []) ≡ 0 = column-more f b ∙ ap (λ z. cond z 0 (1 + column_of f)) is in
      rw is (same-place _ _ _ _ (omega (arith, count-more f b, one)) (omega (arith, column)))
  by false is =
      let none : count_by is_newline (b ∷ []) ≡ 0 = rw is refl in
      let column : column_of (f ++ b ∷ []) ≡ 1 + column_of f = column-more f b ∙ ap (λ z. cond z 0 (1 + column_of f)) is in
      rw is (same-place _ _ _ _ (omega (arith, count-more f b, none)) (omega (arith, column)))

pub past-placed : (first : ℕ) (f xs : List ℕ) → past (placed first f) xs ≡ placed first (f ++ xs)
past-placed first f [] = ap (placed first) (sym (append-nil f))
past-placed first f (b ∷ xs) =
    ap (λ p. past p xs) (placed-more first f b) ∙ past-placed first (f ++ b ∷ []) xs
    ∙ ap (placed first) (append_assoc f (b ∷ []) xs)

pub starts-input : (first : ℕ) (t : List ℕ) → StartsAt (position_at first t) 0 (placed first []) t
starts-input first t k within =
    let same : 0 + k ≡ k = omega (arith) in
    ap (position_at first t) same ∙ sym (past-placed first [] (take k t))

pub placed-begin : (first : ℕ) → make first 1 ≡ placed first []
placed-begin first = same-place _ _ _ _ (omega (arith)) (omega (arith))
