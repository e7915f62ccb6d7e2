-- Where a text lies that is read without a copy: where its bytes are.
use Rattle.jiter_value.proofs.Words.{◌≡◌, ◌∙◌, refl, sym, ap, subst, ℕ, ◌+◌, ◌<◌, ◌≤◌, Bool, true, false, List, [], ◌∷◌}
use Rattle.jiter_value.proofs.Words.{◌++◌, length, take, drop, arith, length-append, take-append_seam, length-take-le}
use Rattle.jiter_value.proofs.Words.{length-drop, slice_range, Option, Some, None, nat_lt, ◌-◌, ◌^◌, Number, integer}
use Rattle.jiter_value.proofs.Words.{number_at, taken, ScalarWithin, if_case, number_at-within, text_form, string_at}
use Rattle.jiter_value.proofs.Words.{Text}
use Rattle.std.proofs.Common.{◌==◌}
use Rattle.std.proofs.lemmas.List.{take-append-drop}
use Rattle.std.specs.Prelude.{nat_le}
use Rattle.std.specs.Str.Lossy.{utf8_valid_len, utf8_error_len}
use Rattle.jiter_scan.specs.Ascii as ascii
use Rattle.jiter_scan.specs.Digits.{decimal_of}
use Rattle.jiter_scan.specs.Number.{big, float, is_integral, negative_value, positive_value}
use Rattle.jiter_scan.specs.Number.{integral_value, number_value}
use Rattle.jiter_scan.proofs.Choices.{failed-taken, same_taken}
use Rattle.jiter_scan.proofs.NumberLaws.{number_at-sound}
use Rattle.jiter_scan.proofs.Standing.{slice_range-split, slice-one}
use Rattle.jiter_steps.specs.StringReading.{Stop, closed, unclosed, cut, wrong, part, over, Body, before, join, body_at}
use Rattle.jiter_steps.specs.StringReading.{valid_prefix_by, text_in_form, kept, content_at}
use Rattle.jiter_steps.proofs.Grammar.Places.{Explains}
use Rattle.jiter_steps.proofs.Grammar.StringSound.{closed-text}
use Rattle.jiter_steps.proofs.Reading.Bodies.{part-ahead, each-body}
use Rattle.jiter_value.specs.StringStorage.{LieAt, IsBorrowedAt, IsNumberAt}

length-range : (t : List ℕ) (i j : ℕ) → i ≤ j → j ≤ length t → length (slice_range t i j) ≡ j - i
length-range t i j h le = length-take-le (j - i) (drop i t) (omega (arith, length-drop i t))

-- a range of the bytes
pub range-lies : (t : List ℕ) (i j : ℕ) (w : List ℕ) → i ≤ j → j ≤ length t → w ≡ slice_range t i j → LieAt t i w
range-lies t i j w h le is =
    let range : length (slice_range t i j) ≡ j - i = length-range t i j h le in
    let long : length w ≡ j - i = ap length is ∙ range in
    let ends : i + length w ≡ j = omega (arith, long, h) in
    record { within = omega (arith, ends, le); same = is ∙ ap (slice_range t i) (sym ends) }

-- the prefix of bytes that are there
prefix-lies : (t : List ℕ) (i : ℕ) (a b : List ℕ) → LieAt t i (a ++ b) → LieAt t i a
prefix-lies t i a b h =
    let long = length-append a b in
    let split = slice_range-split t i (i + length a) (omega arith) (i + length (a ++ b)) (omega (arith, long)) in
    let range = length-range t i (i + length a) (omega arith) (omega (arith, h.within, long)) in
    let first : length (slice_range t i (i + length a)) ≡ length a = omega (arith, range) in
    record {
      within = omega (arith, h.within, long);
      same = sym (take-append_seam a b) ∙ ap (take (length a)) (h.same ∙ split)
          ∙ ap (λ n. take n (slice_range t i (i + length a) ++ slice_range t (i + length a) (i + length (a ++ b))))
          (sym first)
          ∙ take-append_seam (slice_range t i (i + length a)) (slice_range t (i + length a) (i + length (a ++ b)));
    }

none-lies : (t : List ℕ) (i : ℕ) → i ≤ length t → LieAt t i []
none-lies t i le =
    let none : i + 0 - i ≡ 0 = omega arith in
    record { within = omega arith; same = ap (λ n. take n (drop i t)) (sym none) }

module _ (t : List ℕ) where
  -- the bytes of a body in which no backslash was read
  abbrev Lies : ℕ → Body → Type 0
  Lies i b = i ≤ length t → b.owned ≡ false → LieAt t i b.bytes

  part-lies : (i j : ℕ) (bs : List ℕ) (o : Bool) → Explains t i (part bs o j) → Lies j (body_at t j)
      → Lies i (before bs o (body_at t j))
  part-lies i j bs true h go le mark = absurd (cc)
  part-lies i j bs false h go le mark =
      let rest = go (part-ahead t i j bs false h).1 mark in
      let bytes = (body_at t j).bytes in
      let one : length bs ≡ 1 = ap length h.is in
      let long = length-append bs bytes in
      let split = slice_range-split t i j (omega (arith, h.ends)) (j + length bytes) (omega arith) in
      let first : slice_range t i j ≡ bs = ap (slice_range t i) h.ends ∙ slice-one t i h.byte h.here ∙ sym h.is in
      record {
        within = omega (arith, rest.within, long, one, h.ends);
        same = ap (λ ys. bs ++ ys) rest.same ∙ ap (λ ys. ys ++ slice_range t j (j + length bytes)) (sym first)
            ∙ sym split ∙ ap (slice_range t i) (omega (arith, long, one, h.ends));
      }

  over-lies : (i : ℕ) (s : Stop) → Explains t i (over s) → Lies i (join (body_at t) (over s))
  over-lies i s h le mark = none-lies t i le

  body-lies : (i : ℕ) → Lies i (body_at t i)
  body-lies = each-body t Lies part-lies over-lies

  -- as much of them as is kept
  prefix-borrowed : (i : ℕ) (o : Bool) (bs : List ℕ) (e : ℕ) (x : Text) (y : ℕ) (error : Option ℕ)
      → (o ≡ false → LieAt t i bs) → valid_prefix_by i o bs e error ≡ taken x y → IsBorrowedAt t i x
  prefix-borrowed i o bs e x y None lies h =
      let is = (same_taken _ x e y h).0 in
      λ mark.
      let k = utf8_valid_len bs in
      let at = lies (ap (λ (z : Text). z.owned) is ∙ mark) in
      subst (LieAt t i) (ap (λ (z : Text). z.bytes) is)
      (prefix-lies t i (take k bs) (drop k bs) (subst (LieAt t i) (sym (take-append-drop k bs)) at))
  prefix-borrowed i o bs e x y (Some m) lies h = absurd (failed-taken _ _ x y h)

  kept-borrowed : (i : ℕ) (o : Bool) (bs : List ℕ) (s : Stop) (x : Text) (e : ℕ) → (o ≡ false → LieAt t i bs)
      → text_in_form kept t i bs o s ≡ taken x e → IsBorrowedAt t i x
  kept-borrowed i o bs (closed f) x e lies h =
      prefix-borrowed i o bs f x e (utf8_error_len (drop (utf8_valid_len bs) bs)) lies h
  kept-borrowed i o bs unclosed x e lies h =
      prefix-borrowed i o bs (length t) x e (utf8_error_len (drop (utf8_valid_len bs) bs)) lies h
  kept-borrowed i o bs cut x e lies h =
      prefix-borrowed i o bs (length t) x e (utf8_error_len (drop (utf8_valid_len bs) bs)) lies h
  kept-borrowed i o bs (wrong k j) x e lies h = absurd (failed-taken _ _ x e h)

  -- the text of a string whose opening quote is at i
  pub string-borrowed : (keep : Bool) (i : ℕ) (x : Text) (e : ℕ) → i < length t → string_at (text_form keep) t i ≡ taken x e
      → IsBorrowedAt t (i + 1) x
  unfolding content_at
  string-borrowed false i x e inside h =
      let b = body_at t (i + 1) in
      let c = closed-text t (i + 1) b.bytes b.owned b.stop x e h in
      λ mark. subst (LieAt t (i + 1)) (sym (ap (λ (z : Text). z.bytes) c.0))
      (body-lies (i + 1) (omega (arith, inside)) (sym (ap (λ (z : Text). z.owned) c.0) ∙ mark))
  string-borrowed true i x e inside h =
      let b = body_at t (i + 1) in
      kept-borrowed (i + 1) b.owned b.bytes b.stop x e (body-lies (i + 1) (omega (arith, inside))) h

-- a number that is its text
abbrev IsText : List ℕ → Number → Type 0
IsText w (integer z) = Unit {0}
IsText w (big v) = v ≡ w
IsText w (float v) = v ≡ w

integral-text : (w : List ℕ) → IsText w (integral_value w)
integral-text [] = refl
integral-text (c ∷ cs) =
    if_case (IsText (c ∷ cs)) (c == ascii.minus) (negative_value (c ∷ cs) (decimal_of cs))
    (positive_value (c ∷ cs) (decimal_of (c ∷ cs)))
    (λ yes. if_case (IsText (c ∷ cs)) (nat_le (decimal_of cs) (2 ^ 63)) _ _ (λ e. tt) (λ e. refl))
    (λ no. if_case (IsText (c ∷ cs)) (nat_lt (decimal_of (c ∷ cs)) (2 ^ 63)) _ _ (λ e. tt) (λ e. refl))

number-text : (w : List ℕ) → IsText w (number_value w)
unfolding number_value
number-text w = if_case (IsText w) (is_integral w) (integral_value w) (float w) (λ e. integral-text w) (λ e. refl)

text-lies : (t : List ℕ) (i e : ℕ) (n : Number) → i ≤ e → e ≤ length t → IsText (slice_range t i e) n → IsNumberAt t i n
text-lies t i e (integer z) h le is = tt
text-lies t i e (big w) h le is = range-lies t i e w h le is
text-lies t i e (float w) h le is = range-lies t i e w h le is

-- the text of a number that begins at i
pub number-borrowed : (names : Bool) (t : List ℕ) (i : ℕ) (n : Number) (e : ℕ) → i < length t
    → number_at names t i ≡ taken n e → IsNumberAt t i n
number-borrowed names t i n e inside h =
    let within = subst (ScalarWithin t i) h (number_at-within names t i inside) in
    let value = (number_at-sound names t i n e h).1 in
    text-lies t i e n (omega (arith, within.0)) within.1
    (subst (IsText (slice_range t i e)) (sym value) (number-text (slice_range t i e)))
