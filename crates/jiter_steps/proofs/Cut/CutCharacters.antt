-- A text that ends within a character.
use Rattle.jiter_steps.proofs.Words.{◌≡◌, ◌⊎◌, inl, inr, ℕ, zero, suc, ◌<◌, ◌≤◌, Bool, true, ◌&&◌, List, [], ◌∷◌, ◌++◌}
use Rattle.jiter_steps.proofs.Words.{length, take, drop, None, refl, sym, ap, ap₂, ◌∙◌, subst, arith, length-append}
use Rattle.jiter_steps.proofs.Words.{append-nil, append_assoc, is_in_range, IsScalar, IsUtf8, IsValidUpTo, all_scalars}
use Rattle.jiter_steps.proofs.Words.{utf8_valid_len, utf8_error_len, second_byte_min, second_byte_max, take-append_seam}
use Rattle.jiter_steps.proofs.Words.{drop-append_seam, le-leb, take-append-drop, length-take, length-drop, take-take}
use Rattle.jiter_steps.proofs.Words.{encode_same, IsUtf8-drop, IsCharBoundary-from_take, utf8_valid_len-IsUtf8}
use Rattle.jiter_steps.proofs.Words.{utf8_valid_len-IsValidUpTo, encode, encodes, drop-append-le}
use Rattle.jiter_steps.proofs.Grammar.Utf8Shape.{Follows, CharShape, of1, of2, of3, of4, shape}

-- w is a prefix of a character's bytes, and not all of them
pub record IsPrefix (w : List ℕ) : Type 0 where
  pub c : ℕ
  pub more : List ℕ
  pub scalar : IsScalar c
  pub is : encode c ≡ w ++ more
  pub some : 0 < length more

range-true : (lo hi x : ℕ) → lo ≤ x → x ≤ hi → is_in_range lo hi x ≡ true
range-true lo hi x p q = ap₂ (λ (a b : Bool). a && b) (le-leb lo x p) (le-leb x hi q)

one-unfinished : (a : ℕ) → 194 ≤ a → a < 245 → utf8_error_len (a ∷ []) ≡ None
unfolding utf8_error_len
one-unfinished a l h = rw (range-true 194 244 a l (omega arith))

two-unfinished : (a b : ℕ) → 194 ≤ a → a < 245 → second_byte_min a ≤ b → b ≤ second_byte_max a
    → utf8_error_len (a ∷ b ∷ []) ≡ None
unfolding utf8_error_len
two-unfinished a b l h u v =
    rw (range-true 194 244 a l (omega arith), range-true (second_byte_min a) (second_byte_max a) b u v)

three-unfinished : (a b d : ℕ) → 194 ≤ a → a < 245 → second_byte_min a ≤ b → b ≤ second_byte_max a → Follows d
    → utf8_error_len (a ∷ b ∷ d ∷ []) ≡ None
unfolding utf8_error_len
three-unfinished a b d l h u v f =
    rw (
      range-true 194 244 a l (omega arith),
      range-true (second_byte_min a) (second_byte_max a) b u v,
      range-true 128 191 d f.least (omega (arith, f.most)),
    )

-- so many of its bytes, and not all
unfinished : (c n : ℕ) → CharShape c → n < length (encode c) → utf8_error_len (take n (encode c)) ≡ None
unfolding utf8_error_len
unfinished c zero s h = refl
unfinished c (suc n) (of1 l is) h = absurd (omega (arith, ap length is))
unfinished c (suc zero) (of2 a b k l m f is) h = rw is (one-unfinished a l (omega arith))
unfinished c (suc (suc n)) (of2 a b k l m f is) h = absurd (omega (arith, ap length is))
unfinished c (suc zero) (of3 a b d u v k l m f g is) h = rw is (one-unfinished a (omega arith) (omega arith))
unfinished c (suc (suc zero)) (of3 a b d u v k l m f g is) h =
    rw is (two-unfinished a b (omega arith) (omega arith) u v)
unfinished c (suc (suc (suc n))) (of3 a b d u v k l m f g is) h = absurd (omega (arith, ap length is))
unfinished c (suc zero) (of4 a b d g u v k l m f o r is) h = rw is (one-unfinished a (omega arith) m)
unfinished c (suc (suc zero)) (of4 a b d g u v k l m f o r is) h = rw is (two-unfinished a b (omega arith) m u v)
unfinished c (suc (suc (suc zero))) (of4 a b d g u v k l m f o r is) h =
    rw is (three-unfinished a b d (omega arith) m u v o)
unfinished c (suc (suc (suc (suc n)))) (of4 a b d g u v k l m f o r is) h = absurd (omega (arith, ap length is))

pub prefix-unfinished : (w : List ℕ) → IsPrefix w → utf8_error_len w ≡ None
prefix-unfinished w f =
    let prefix : take (length w) (encode f.c) ≡ w = ap (take (length w)) f.is ∙ take-append_seam w f.more in
    subst (λ x. utf8_error_len x ≡ None) prefix
    (unfinished f.c (length w) (shape f.c f.scalar) (omega (arith, ap length f.is, length-append w f.more, f.some)))

-- no text ends in it
no-text : (v more : List ℕ) (c : ℕ) → IsUtf8 v → 0 < length v → encode c ≡ v ++ more → 0 < length more → ⊥
no-text v more c u some is h = by u.0 u.1.0 u.1.1 where
  by : (ds : List ℕ) → all_scalars ds ≡ true → encodes ds ≡ v → ⊥
  by [] s e = omega (arith, ap length e)
  by (d ∷ ds) s e =
      let all : encode d ++ (encodes ds ++ more) ≡ encode c ++ [] =
      sym (append_assoc (encode d) (encodes ds) more) ∙ ap (λ l. l ++ more) e ∙ sym is
      ∙ sym (append-nil (encode c)) in
      omega (arith, ap length (encode_same d c (encodes ds ++ more) [] all).1, length-append (encodes ds) more)

module _ (text w : List ℕ) (u : IsUtf8 text) (f : IsPrefix w) where
  valid-some : 0 < length w → IsValidUpTo (text ++ w) (length text)
  valid-some some = record {
    short = omega (arith, length-append text w);
    front = subst IsUtf8 (sym (take-append_seam text w)) u;
    longest = λ m h t.
        let l = take m (text ++ w) in
        let long = length-take m (text ++ w) in
        let both = length-append text w in
        let prefix : take (length text) l ≡ text =
        take-take (length text) m (text ++ w) (omega arith) ∙ take-append_seam text w in
        let bound = IsCharBoundary-from_take l (length text) t (omega arith) (subst IsUtf8 (sym prefix) u) in
        let v = drop (length text) l in
        let rest : w ≡ v ++ drop m (text ++ w) =
        sym (drop-append_seam text w) ∙ ap (drop (length text)) (sym (take-append-drop m (text ++ w)))
        ∙ drop-append-le (length text) l (drop m (text ++ w)) (omega arith) in
        no-text v _ f.c (IsUtf8-drop l (length text) t bound) (omega (arith, length-drop (length text) l))
        (f.is ∙ ap (λ x. x ++ f.more) rest ∙ append_assoc v (drop m (text ++ w)) f.more)
        (omega (arith, f.some, length-append (drop m (text ++ w)) f.more));
  }

  valid-prefix : (w ≡ []) ⊎ (0 < length w) → utf8_valid_len (text ++ w) ≡ length text
  valid-prefix (inl e) =
      ap (λ x. utf8_valid_len (text ++ x)) e ∙ ap utf8_valid_len (append-nil text) ∙ utf8_valid_len-IsUtf8 text u
  valid-prefix (inr s) = utf8_valid_len-IsValidUpTo (text ++ w) (length text) (valid-some s)

  empty-or : (w : List ℕ) → (w ≡ []) ⊎ (0 < length w)
  empty-or [] = inl refl
  empty-or (x ∷ w) = inr (omega arith)

  pub tail-valid : utf8_valid_len (text ++ w) ≡ length text
  tail-valid = valid-prefix (empty-or w)

  pub tail-unfinished : utf8_error_len (drop (utf8_valid_len (text ++ w)) (text ++ w)) ≡ None
  tail-unfinished =
      ap (λ n. utf8_error_len (drop n (text ++ w))) tail-valid ∙ ap utf8_error_len (drop-append_seam text w)
      ∙ prefix-unfinished w f

  pub tail-taken : take (utf8_valid_len (text ++ w)) (text ++ w) ≡ text
  tail-taken = ap (λ n. take n (text ++ w)) tail-valid ∙ take-append_seam text w
