-- The line and column of an index, by the line feeds before it.
use Rattle.jiter_incremental.proofs.Words.{◌≡◌, ◌∙◌, ap, ap₂, refl, sym, ℕ, zero, suc, ◌+◌, ◌-◌, ◌≤◌, ◌<◌, Bool, true}
use Rattle.jiter_incremental.proofs.Words.{false, List, [], ◌∷◌, ◌++◌, length, length-take-le, get_or, take, arith, ◌≢◌}
use Rattle.jiter_incremental.proofs.Words.{add-one, append_assoc, append-nil, take_all, if◌then◌else◌, not, feeds_from}
use Rattle.std.proofs.Common.{cond, add-zero, zero-add}
use Rattle.std.proofs.Math.Seq.{take-suc}
use Rattle.std.specs.Prelude.{nat_lt, count_by}
use Rattle.std.specs.List.{take_while}
use Rattle.std.proofs.lemmas.List.Sums.{sum_by-cons, take_while-cons}
use mathlib.Core.List.{reverse_aux}
use Rattle.jiter_scan.specs.Position.{is_newline, column_of, line_of, position_of}
use Rattle.jiter_scan.specs.declared.errors.LinePosition.{LinePosition}
use Rattle.jiter_incremental.specs.LineIndex.{line_index}

-- the indices of the line feeds of two texts, one after the other
feeds-append : (n : ℕ) (a b : List ℕ) → feeds_from n (a ++ b) ≡ feeds_from n a ++ feeds_from (n + length a) b
feeds-append n [] b = grind arith
feeds-append n (x ∷ a) b =
    by (is_newline x) (feeds-append (n + 1) a b ∙ ap (λ k. feeds_from (n + 1) a ++ feeds_from k b) (omega arith)) where
      by : (v : Bool) → feeds_from (n + 1) (a ++ b) ≡ feeds_from (n + 1) a ++ feeds_from (n + suc (length a)) b
          → (if v then n ∷ feeds_from (n + 1) (a ++ b) else feeds_from (n + 1) (a ++ b))
          ≡ (if v then n ∷ feeds_from (n + 1) a else feeds_from (n + 1) a) ++ feeds_from (n + suc (length a)) b
      by true e = ap (λ l. n ∷ l) e
      by false e = e

pub line_index-more : (a b : List ℕ) → line_index (a ++ b) ≡ line_index a ++ feeds_from (length a) b
line_index-more a b = feeds-append 0 a b ∙ ap (λ n. line_index a ++ feeds_from n b) (zero-add (length a))

-- one byte more of a chunk
module _ (n : ℕ) (xs : List ℕ) (i : ℕ) (within : i < length xs) where
  feeds-more : feeds_from n (take (i + 1) xs) ≡ feeds_from n (take i xs) ++ feeds_from (n + i) (get_or xs i 0 ∷ [])
  feeds-more =
      let more : take (i + 1) xs ≡ take i xs ++ get_or xs i 0 ∷ [] =
      ap (λ k. take k xs) (add-one i) ∙ take-suc xs i 0 within in
      let prefix : length (take i xs) ≡ i = length-take-le i xs (omega arith) in
      rw more (rw prefix at (feeds-append n (take i xs) (get_or xs i 0 ∷ [])))

  module _ (was now : List ℕ) (so-far : now ≡ was ++ feeds_from n (take i xs)) where
    pub feed-noted : get_or xs i 0 ≡ 10 → now ++ (n + i) ∷ [] ≡ was ++ feeds_from n (take (i + 1) xs)
    feed-noted is = rw feeds-more (rw is (rw so-far (append_assoc was (feeds_from n (take i xs)) ((n + i) ∷ []))))

    pub no-feed : get_or xs i 0 ≢ 10 → now ≡ was ++ feeds_from n (take (i + 1) xs)
    no-feed other =
        let no : is_newline (get_or xs i 0) ≡ false = grind arith in
        rw feeds-more (rw no (rw append-nil so-far))

-- the number of a line, and where it begins
pub record Place : Type 0 where
  pub line : ℕ
  pub begin : ℕ

abbrev pub at_start : Place
at_start = record { line = 1; begin = 0 }

-- after a line feed with this index
abbrev pub after_feed : Place → ℕ → Place
after_feed p x = record { line = p.line + 1; begin = x + 1 }

-- after those of these line feeds that lie below the end
abbrev pub place_in : ℕ → Place → List ℕ → Place
place_in end p [] = p
place_in end p (x ∷ xs) = place_in end (if nat_lt x end then after_feed p x else p) xs

place_in-append : (end : ℕ) (p : Place) (xs ys : List ℕ)
    → place_in end p (xs ++ ys) ≡ place_in end (place_in end p xs) ys
place_in-append end p [] ys = refl
place_in-append end p (x ∷ xs) ys = place_in-append end (if nat_lt x end then after_feed p x else p) xs ys

-- one line feed more
module _ (end : ℕ) (p q : Place) (xs : List ℕ) (i : ℕ) (within : i < length xs)
    (so-far : q ≡ place_in end p (take i xs)) where
  place-more : place_in end p (take (i + 1) xs) ≡ place_in end q (get_or xs i 0 ∷ [])
  place-more =
      let more : take (i + 1) xs ≡ take i xs ++ get_or xs i 0 ∷ [] =
      ap (λ k. take k xs) (add-one i) ∙ take-suc xs i 0 within in
      rw more (rw so-far (place_in-append end p (take i xs) (get_or xs i 0 ∷ [])))

  pub place-after : get_or xs i 0 < end → after_feed q (get_or xs i 0) ≡ place_in end p (take (i + 1) xs)
  place-after below = let yes : nat_lt (get_or xs i 0) end ≡ true = grind arith in rw place-more (rw yes refl)

  pub place-stays : end ≤ get_or xs i 0 → q ≡ place_in end p (take (i + 1) xs)
  place-stays above = let no : nat_lt (get_or xs i 0) end ≡ false = grind arith in rw place-more (rw no refl)

-- after these bytes, the first of which has the index n
abbrev pub place_from : ℕ → Place → List ℕ → Place
place_from n p [] = p
place_from n p (b ∷ bs) = place_from (n + 1) (if is_newline b then after_feed p n else p) bs

-- no line feed of bytes that begin after the end lies below it
none-below : (end n : ℕ) → end ≤ n → (p : Place) (t : List ℕ) → place_in end p (feeds_from n t) ≡ p
none-below end n h p [] = refl
none-below end n h p (b ∷ t) = by (is_newline b) (none-below end (n + 1) (omega arith) p t) where
  by : (v : Bool) → place_in end p (feeds_from (n + 1) t) ≡ p
      → place_in end p (if v then n ∷ feeds_from (n + 1) t else feeds_from (n + 1) t) ≡ p
  by true e = let no : nat_lt n end ≡ false = grind arith in rw (no, place_in) e
  by false e = e

-- the place after the first m bytes, by the line feeds of all
place-found : (m n : ℕ) (p : Place) (t : List ℕ)
    → place_in (n + m) p (feeds_from n t) ≡ place_from n p (take m t)
place-found zero n p t = none-below (n + 0) n (omega arith) p t
place-found (suc m) n p [] = refl
place-found (suc m) n p (b ∷ t) = by (is_newline b) (λ q.
    ap (λ end. place_in end q (feeds_from (n + 1) t)) (omega arith) ∙ place-found m (n + 1) q t) where
      by : (v : Bool) → ((q : Place) → place_in (n + suc m) q (feeds_from (n + 1) t) ≡ place_from (n + 1) q (take m t))
          → place_in (n + suc m) p (if v then n ∷ feeds_from (n + 1) t else feeds_from (n + 1) t)
          ≡ place_from (n + 1) (if v then after_feed p n else p) (take m t)
      by true rest = let yes : nat_lt n (n + suc m) ≡ true = grind arith in rw (yes, place_in) (rest (after_feed p n))
      by false rest = rest p

-- the line's number counts the line feeds
line-counts : (n : ℕ) (p : Place) (f : List ℕ) → (place_from n p f).line ≡ p.line + count_by is_newline f
line-counts n p [] = sym (add-zero p.line)
line-counts n p (b ∷ f) =
    by (is_newline b) (count_by is_newline (b ∷ f)) (sum_by-cons (λ x. cond (is_newline x) 1 0) b f)
    (λ q. line-counts (n + 1) q f) where
      by : (v : Bool) (k : ℕ) → k ≡ cond v 1 0 + count_by is_newline f
          → ((q : Place) → (place_from (n + 1) q f).line ≡ q.line + count_by is_newline f)
          → (place_from (n + 1) (if v then after_feed p n else p) f).line ≡ p.line + k
      by true k e rest = omega (arith, rest (after_feed p n))
      by false k e rest = omega (arith, rest p)

-- the column after these bytes, where c bytes are on the line before them
abbrev pub column_from : ℕ → List ℕ → ℕ
column_from c [] = c
column_from c (b ∷ bs) = column_from (if is_newline b then 0 else c + 1) bs

abbrev line_end : List ℕ → ℕ
line_end r = length (take_while (λ b. not (is_newline b)) r)

column-onto : (r f : List ℕ) → column_from (line_end r) f ≡ line_end (reverse_aux f r)
column-onto r [] = refl
column-onto r (b ∷ f) =
    ap (λ c. column_from c f) (by (is_newline b) (take_while-cons (λ b. not (is_newline b)) b r)) ∙ column-onto (b ∷ r) f
  where
    by : (v : Bool) → take_while (λ b. not (is_newline b)) (b ∷ r)
        ≡ cond (not v) (b ∷ take_while (λ b. not (is_newline b)) r) []
        → (if v then 0 else line_end r + 1) ≡ line_end (b ∷ r)
    by true e = sym (ap length e)
    by false e = omega (arith, ap length e)

-- it is what is on the line
column-counts : (n c : ℕ) (p : Place) (f : List ℕ) → c + p.begin ≡ n
    → column_from c f + (place_from n p f).begin ≡ n + length f
column-counts n c p [] e = e ∙ sym (add-zero n)
column-counts n c p (b ∷ f) e =
    by (is_newline b) (λ d q. column-counts (n + 1) d q f) where
      by : (v : Bool)
          → ((d : ℕ) (q : Place) → d + q.begin ≡ n + 1 → column_from d f + (place_from (n + 1) q f).begin ≡ n + 1 + length f)
          → column_from (if v then 0 else c + 1) f + (place_from (n + 1) (if v then after_feed p n else p) f).begin
          ≡ n + suc (length f)
      by true rest = omega (arith, rest 0 (after_feed p n) (omega arith))
      by false rest = omega (arith, rest (c + 1) p (omega arith))

-- the end of the bytes up to an index, itself included
pub end-within : (t : List ℕ) (size index end : ℕ) → length t ≡ size → index < size → end ≡ index + 1
    → (end ≤ length t) × (take (index + 1) t ≡ take end t)
end-within t size index end long h e = (omega arith, ap (λ n. take n t) (sym e))

pub end-of-all : (t : List ℕ) (size index end : ℕ) → length t ≡ size → size ≤ index → end ≡ size
    → (end ≤ length t) × (take (index + 1) t ≡ take end t)
end-of-all t size index end long h e =
    (omega arith, take_all (index + 1) t (omega arith) ∙ sym (take_all end t (omega arith)))

pub position-found : (t : List ℕ) (index end line begin : ℕ) → end ≤ length t → take (index + 1) t ≡ take end t
    → ◌≡◌ {A = Place} (record { line = line; begin = begin }) (place_in end at_start (line_index t))
    → ◌≡◌ {A = LinePosition} (record { line = line; column = end - begin }) (position_of t index)
position-found t index end line begin h same e =
    let f = take end t in
    let found : place_in end at_start (line_index t) ≡ place_from 0 at_start f =
    ap (λ n. place_in n at_start (line_index t)) (sym (zero-add end)) ∙ place-found end 0 at_start t in
    let p : ◌≡◌ {A = Place} (record { line = line; begin = begin }) (place_from 0 at_start f) = e ∙ found in
    let number : line ≡ line_of f = ap (λ (q : Place). q.line) p ∙ line-counts 0 at_start f in
    let on : column_from 0 f ≡ column_of f = column-onto [] f in
    let all : length f ≡ end = length-take-le end t h in
    let column : end - begin ≡ column_of f =
    omega (arith, ap (λ (q : Place). q.begin) p, column-counts 0 0 at_start f refl, on, all) in
    rw same (ap₂ (λ l c. record { line = l; column = c }) number column)
