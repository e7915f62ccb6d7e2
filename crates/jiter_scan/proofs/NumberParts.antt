-- The parts of a number that arrives in chunks: each goes on with the ones before it.
use Rattle.jiter_scan.proofs.Words.{◌≡◌, ℕ, ◌+◌, ◌-◌, ◌<◌, ◌≤◌, ◌⊎◌, inl, inr, ◌||◌, ◌&&◌, Bool, true, false, not, List}
use Rattle.jiter_scan.proofs.Words.{[], ◌∷◌, ◌++◌, append_assoc, drop, get_or, take, zero, suc, length, length-append}
use Rattle.jiter_scan.proofs.Words.{refl, sym, ap, ap₂, subst, ◌∙◌, arith, slice_get, slice_range, string_bytes, Some}
use Rattle.jiter_scan.proofs.Words.{if◌then◌else◌, list_any, IsAscii, nat_tests, slice_get-get_or, slice_get_within}
use Rattle.jiter_scan.proofs.Words.{IsAscii-append, IsAscii-cons, IsAscii-nil, is_digit, digit_run_end, is_float_byte}
use Rattle.jiter_scan.proofs.Words.{is_integral, exponent_at, span_then, number_span, GoesTo, HoldsNumber, IsBegun}
use Rattle.jiter_scan.proofs.Words.{is_int_stage, number_from, tail_at, within_room, taken, Stands, Span, Stage}
use Rattle.jiter_scan.proofs.Words.{list_any-append, BeginsThere, BeginsTo, StepsTo, LeadsOver, PartialNumber}
use Rattle.jiter_scan.specs.PartialNumber.{Fits}
use Rattle.jiter_scan.specs.declared.number.partial_number.Stage.TheVariants as stage
use Rattle.jiter_scan.specs.declared.number.partial_number.NumberStep.TheVariants as went
use Rattle.jiter_scan.proofs.Digits.{digit-bounds}
use Rattle.jiter_scan.proofs.OpenNumbers.{run-on, room-on}
use Rattle.jiter_scan.proofs.OpenValues.{stands-last}
use Rattle.jiter_scan.proofs.Runs.{run_end-passes}
use Rattle.jiter_scan.proofs.Standing.{slice-one, slice_range-split, stands-length, stands-slice, stands-split}

-- ---- bytes that show a float
neither : (x y : Bool) → (if (x || y) then false else true) ≡ ((if x then false else true) && (if y then false else true))
neither true y = refl
neither false y = refl

pub integral-append : (w v : List ℕ) → is_integral (w ++ v) ≡ (is_integral w && is_integral v)
integral-append w v =
    ap (λ (b : Bool). if b then false else true) (list_any-append is_float_byte w v)
    ∙ neither (list_any is_float_byte w) (list_any is_float_byte v)

one-not : (x : Bool) → not x ≡ (if (x || false) then false else true)
one-not true = refl
one-not false = refl

all-of : (x y : Bool) → y ≡ true → x ≡ (x && y)
all-of true y h = sym h
all-of false y h = refl

three : (x y z : Bool) → ((x && y) && z) ≡ (x && (y && z))
three true y z = refl
three false y z = refl

-- ---- one part after the other

-- what is read where some bytes are, and others after them
joined : (read : Bool → List ℕ → ℕ → Span) (m new : Stage) (w v : List ℕ)
    → ((names : Bool) (t : List ℕ) (j : ℕ) → Stands t j (j + length w) w
    → read names t j ≡ number_from names m t (j + length w))
    → LeadsOver m v new
    → (names : Bool) (t : List ℕ) (j : ℕ) → Stands t j (j + length (w ++ v)) (w ++ v)
    → read names t j ≡ number_from names new t (j + length (w ++ v))
joined read m new w v first leads = λ names t j h.
    let r = stands-split t j (j + length (w ++ v)) w v h in
    let place = stands-length t j r.0 w r.1 in
    let more : j + length (w ++ v) ≡ j + length w + length v = omega (arith, length-append w v) in
    first names t j (rw (← place) r.1)
    ∙ leads names t _ (rw (← more) (rw (← place) r.2))
    ∙ ap (number_from names new t) (sym more)

begins-over : (s new : Stage) (w v : List ℕ) → BeginsTo w s → LeadsOver s v new → BeginsTo (w ++ v) new
begins-over s new w v a b = joined number_span s new w v a b

pub goes-on : (s m new : Stage) (t : List ℕ) (i j e : ℕ) → GoesTo s t i m j → GoesTo m t j new e → GoesTo s t i new e
goes-on s m new t i j e a b =
    let w = slice_range t i j in
    let v = slice_range t j e in
    let is : slice_range t i e ≡ w ++ v = slice_range-split t i j a.ahead e b.ahead in
    record {
      ahead = omega (arith, a.ahead, b.ahead);
      within = b.within;
      ascii = rw is (IsAscii-append w v a.ascii b.ascii);
      leads = rw is (joined (λ names t. number_from names s t) m new w v a.leads b.leads);
      int = b.int ∙ ap (λ x. x && is_integral v) a.int ∙ three (is_int_stage s) (is_integral w) (is_integral v)
          ∙ ap (λ x. is_int_stage s && x) (sym (ap is_integral is ∙ integral-append w v));
    }

-- the reading goes on there
pub goes-reads : (names : Bool) (s new : Stage) (t : List ℕ) (i e : ℕ) → GoesTo s t i new e
    → number_from names s t i ≡ number_from names new t e
goes-reads names s new t i e go =
    let stands = stands-slice t i e go.ahead go.within in
    let place = stands-length t i e (slice_range t i e) stands in
    go.leads names t i (subst (λ k. Stands t i k (slice_range t i e)) place stands)
    ∙ ap (number_from names new t) (sym place)

-- ---- one byte more

-- none
pub goes-none : (s : Stage) (t : List ℕ) (i : ℕ) → i ≤ length t → GoesTo s t i s i
goes-none s t i within =
    let count : i - i ≡ 0 = omega arith in
    let none : slice_range t i i ≡ [] = ap (λ n. take n (drop i t)) count in
    record {
      ahead = omega arith;
      within = within;
      ascii = rw none IsAscii-nil;
      leads = rw none (λ names u j h. let place : j ≡ j + 0 = omega arith in ap (number_from names s u) place);
      int = all-of (is_int_stage s) (is_integral (slice_range t i i)) (ap is_integral none);
    }

-- one that is taken
pub goes-byte : (s new : Stage) (t : List ℕ) (i b : ℕ) → slice_get t i ≡ Some b → StepsTo s b (went.Taken new)
    → Fits s b (went.Taken new) → GoesTo s t i new (i + 1)
goes-byte s new t i b here leads fits =
    let one = sym (slice-one t i b here) in
    record {
      ahead = omega arith;
      within = omega (arith, slice_get_within t i b here);
      ascii = subst IsAscii one (IsAscii-cons b [] fits.0 IsAscii-nil);
      leads = subst (λ w. LeadsOver s w new) one (λ names u j h. leads names u j h.0);
      int = fits.1 ∙ ap (λ x. is_int_stage s && x) (one-not (is_float_byte b) ∙ ap is_integral one);
    }

-- and the bytes after it
pub goes_next : (s m next new : Stage) (t : List ℕ) (i j e : ℕ) → GoesTo s t i m j → j < length t
    → StepsTo m (get_or t j 0) (went.Taken next) → Fits m (get_or t j 0) (went.Taken next) → GoesTo next t (j + 1) new e
    → GoesTo s t i new e
goes_next s m next new t i j e before here leads fits after =
    goes-on s m new t i j e before
    (goes-on m next new t j (j + 1) e
    (goes-byte m next t j (get_or t j 0) (slice_get-get_or t j 0 here) leads fits) after)

-- ---- digits after the first one of their part
digit-fits : (s new : Stage) (b : ℕ) → is_digit b ≡ true → is_int_stage new ≡ is_int_stage s
    → Fits s b (went.Taken new)
digit-fits s new b d same =
    let plain : is_float_byte b ≡ false = grind (arith, nat_tests) in
    (omega (arith, digit-bounds b d), same ∙ all-of (is_int_stage s) (not (is_float_byte b)) (ap not plain))

-- as many as the stages have room for
pub goes-digits : (s : ℕ → Stage) (t : List ℕ) (i n : ℕ) → i + n ≤ length t → i + n ≤ digit_run_end t i
    → ((k b : ℕ) → k < n → is_digit b ≡ true
    → StepsTo (s k) b (went.Taken (s (k + 1))) × (is_int_stage (s (k + 1)) ≡ is_int_stage (s k)))
    → GoesTo (s 0) t i (s n) (i + n)
goes-digits s t i zero within run leads =
    subst (GoesTo (s 0) t i (s 0)) (omega arith) (goes-none (s 0) t i (omega arith))
goes-digits s t i (suc n) within run leads =
    let j = i + n in
    let b = get_or t j 0 in
    let digit = run_end-passes is_digit t i j (omega arith) (omega arith) in
    let one = leads n b (omega arith) digit in
    let before = goes-digits s t i n (omega arith) (omega arith) (λ k c l d. leads k c (omega arith) d) in
    let next = goes-byte (s n) (s (n + 1)) t j b (slice_get-get_or t j 0 (omega arith)) one.0
    (digit-fits (s n) (s (n + 1)) b digit one.1) in
    let more : n + 1 ≡ suc n = omega arith in
    let end : j + 1 ≡ i + suc n = omega arith in
    subst (λ m. GoesTo (s 0) t i (s m) (i + suc n)) more
    (subst (GoesTo (s 0) t i (s (n + 1))) end (goes-on (s 0) (s n) (s (n + 1)) t i j (j + 1) before next))

-- those of an integer part
pub goes-room : (room n : ℕ) (t : List ℕ) (i : ℕ) → n ≤ room → i + n ≤ length t → i + n ≤ digit_run_end t i
    → GoesTo (stage.Digits room) t i (stage.Digits (room - n)) (i + n)
goes-room room n t i most within run =
    let none : room - 0 ≡ room = omega arith in
    subst (λ r. GoesTo (stage.Digits r) t i (stage.Digits (room - n)) (i + n)) none
    (goes-digits (λ k. stage.Digits (room - k)) t i n within run
    (λ k b l d.
    let less : room - k - 1 ≡ room - (k + 1) = omega arith in (
      λ names u j h.
          ap (λ x. span_then x (tail_at u))
          (room-on u j (room - k) (digit_run_end u j) (omega arith)
          ∙ ap₂ (λ r e. within_room r (j + 1) e) less (run-on u j b h d)),
      refl,
    )))

-- all of a fraction or an exponent
pub goes-run : (s : Stage) (t : List ℕ) (i e : ℕ) → i ≤ e → e ≤ length t → e ≡ digit_run_end t i
    → (s ≡ stage.Fraction) ⊎ (s ≡ stage.Exponent) → GoesTo s t i s e
goes-run s t i e ahead within run is =
    let end : i + (e - i) ≡ e = omega arith in
    rw (← end) (goes-digits (λ _. s) t i (e - i) (omega arith) (omega arith) (λ k b l d. (stays is b d, refl)))
  where
    stays : (s ≡ stage.Fraction) ⊎ (s ≡ stage.Exponent) → (b : ℕ) → is_digit b ≡ true → StepsTo s b (went.Taken s)
    stays (inl is) b d = subst (λ s. StepsTo s b (went.Taken s)) (sym is)
        (λ names u j h. ap (exponent_at u) (run-on u j b h d))
    stays (inr is) b d = rw is (λ names u j h. ap (taken tt) (run-on u j b h d))

-- ---- a number that has begun

-- bytes are between those before them and those after
stands-between : (w v u : List ℕ) → Stands (w ++ (v ++ u)) (length w) (length w + length v) v
stands-between w v u =
    let t = w ++ (v ++ u) in
    let r = stands-split t (length w) (length t) v u (stands-last w (v ++ u)) in
    subst (λ j. Stands t (length w) j v) (stands-length t (length w) r.0 v r.1) r.1

begun-goes : (w : List ℕ) (s new : Stage) (t : List ℕ) (i e : ℕ) → IsBegun w s → GoesTo s t i new e
    → IsBegun (w ++ slice_range t i e) new
begun-goes w s new t i e begun go =
    let v = slice_range t i e in
    let long : length (w ++ v) ≡ length w + length v = length-append w v in
    record {
      goes = λ names u.
          let same : (w ++ v) ++ u ≡ w ++ (v ++ u) = append_assoc w v u in
          ap (λ x. number_span names x 0) same
          ∙ begun.goes names (v ++ u)
          ∙ go.leads names (w ++ (v ++ u)) (length w) (stands-between w v u)
          ∙ ap₂ (number_from names new) (sym same) (sym long);
      whole = integral-append w v ∙ ap (λ x. x && is_integral v) begun.whole ∙ sym go.int;
    }

-- It goes on,
pub held-on : (n m : PartialNumber) (w t : List ℕ) (i e : ℕ) → HoldsNumber n w → GoesTo n.stage t i m.stage e
    → string_bytes m.text ≡ string_bytes n.text ++ slice_range t i e → HoldsNumber m (w ++ slice_range t i e)
held-on n m w t i e h go text =
    let v = slice_range t i e in
    record {
      text = text ∙ ap (λ x. x ++ v) h.text;
      begun = begun-goes w n.stage m.stage t i e h.begun go;
      goes = begins-over n.stage m.stage w v h.goes go.leads;
    }

-- and so it does after its first byte.
pub begins-there : (s new : Stage) (t : List ℕ) (i b e : ℕ) → slice_get t i ≡ Some b
    → ((names : Bool) (u : List ℕ) (j : ℕ) → slice_get u j ≡ Some b
    → number_span names u j ≡ number_from names s u (j + 1))
    → is_int_stage s ≡ true → b < 128 → is_float_byte b ≡ false → GoesTo s t (i + 1) new e → BeginsThere t i new e
begins-there s new t i b e here leads int small float go =
    let v = slice_range t (i + 1) e in
    let first : BeginsTo (b ∷ []) s = λ names u j h. leads names u j h.0 in
    let is : (b ∷ []) ++ v ≡ slice_range t i e =
    ap (λ x. x ++ v) (sym (slice-one t i b here)) ∙ sym (slice_range-split t i (i + 1) (omega arith) e go.ahead) in
    let begun : IsBegun (b ∷ []) s =
    record {
      goes = λ names u. first names (b ∷ u) 0 (refl, refl);
      whole = sym (one-not (is_float_byte b)) ∙ ap not float ∙ sym int;
    } in
    record {
      ahead = omega (arith, go.ahead);
      within = go.within;
      ascii = subst IsAscii is (IsAscii-cons b v small go.ascii);
      begun = subst (λ w. IsBegun w new) is (begun-goes (b ∷ []) s new t (i + 1) e begun go);
      goes = subst (λ w. BeginsTo w new) is (begins-over s new (b ∷ []) v first go.leads);
    }

-- Its bytes are kept.
pub held-first : (m : PartialNumber) (s : Stage) (t : List ℕ) (i e : ℕ) → BeginsThere t i s e → m.stage ≡ s
    → string_bytes m.text ≡ slice_range t i e → HoldsNumber m (slice_range t i e)
held-first m s t i e there is text =
    let w = slice_range t i e in
    record {
      text = text;
      begun = subst (IsBegun w) (sym is) there.begun;
      goes = subst (BeginsTo w) (sym is) there.goes;
    }
