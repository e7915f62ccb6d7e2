-- A text that arrives in parts: what bytes after its characters make of it, and what it is when they are all.
use Rattle.jiter_steps.proofs.Words.{◌≡◌, ◌⊎◌, inl, inr, ℕ, zero, suc, ◌+◌, ◌-◌, ◌<◌, ◌≤◌, ◌==◌, Bool, true, false, not}
use Rattle.jiter_steps.proofs.Words.{List, [], ◌∷◌, ◌++◌, length, take, drop, refl, sym, ap, ◌∙◌, subst, arith}
use Rattle.jiter_steps.proofs.Words.{append-nil, append_assoc, length-append, nat_eq, Option, Some, None, is_some}
use Rattle.jiter_steps.proofs.Words.{if◌then◌else◌, is_in_range, IsUtf8, IsValidUpTo, all_scalars, utf8_valid_len}
use Rattle.jiter_steps.proofs.Words.{utf8_error_len, second_byte_min, second_byte_max, take-append_seam}
use Rattle.jiter_steps.proofs.Words.{drop-append_seam, cases_lt, le-ltb, and_parts, eq-eqb, ne_eqb, take-append-drop}
use Rattle.jiter_steps.proofs.Words.{length-drop, none-some, IsUtf8-append, IsUtf8-drop, IsUtf8-encode}
use Rattle.jiter_steps.proofs.Words.{IsCharBoundary-from_take, utf8_valid_len-IsUtf8, utf8_valid_len-IsValidUpTo}
use Rattle.jiter_steps.proofs.Words.{encode, encodes, invalid_code_point, Scanned, taken, failed, if_gives, if-true}
use Rattle.jiter_steps.proofs.Words.{if-false, Text, if_utf8, valid_prefix, valid_prefix_by, checked, IsUnfinished}
use Rattle.jiter_steps.proofs.Words.{IsBroken, HoldsBytes, SoFar, HoldsText, take-append-add, take-add, take-append-le}
use Rattle.jiter_steps.proofs.Words.{BeginsNoText}
use Rattle.jiter_steps.proofs.Cut.CutCharacters.{IsPrefix, prefix-unfinished}
use Rattle.jiter_steps.proofs.Grammar.Utf8Shape.{lead}

-- no bytes begin no text
none-nil : BeginsNoText []
none-nil zero u = refl
none-nil (suc m) u = refl

-- and are no error
nil-unended : utf8_error_len [] ≡ None
unfolding utf8_error_len
nil-unended = refl

-- and may go on
pub nil-unfinished : IsUnfinished []
nil-unfinished = record { none = none-nil; unended = nil-unended }

-- a character has a byte
encode-some : (c : ℕ) (cs : List ℕ) → all_scalars (c ∷ cs) ≡ true → 0 < length (encode c)
encode-some c cs s = omega (arith, ap length (lead c (and_parts _ _ s).0).is)

-- What is after the longest prefix that is a text begins none.
pub rest-none : (w : List ℕ) (n : ℕ) → IsValidUpTo w n → BeginsNoText (drop n w)
rest-none w n v zero u = refl
rest-none w n v (suc m) u =
    absurd (v.longest (n + suc m) (omega arith)
    (subst IsUtf8 (sym (take-add n (suc m) w)) (IsUtf8-append (take n w) (take (suc m) (drop n w)) v.front u)))

module _ (text w : List ℕ) (u : IsUtf8 text) (none : BeginsNoText w) where
  -- no longer prefix than the text itself is one
  prefix-none : (k : ℕ) → IsUtf8 (take (length text + k) (text ++ w)) → take k w ≡ []
  prefix-none k t =
      let l = take (length text + k) (text ++ w) in
      let is : l ≡ text ++ take k w = take-append-add text w k in
      let prefix : take (length text) l ≡ text = ap (take (length text)) is ∙ take-append_seam text (take k w) in
      let long : length text ≤ length l = omega (arith, ap length is, length-append text (take k w)) in
      let bound = IsCharBoundary-from_take l (length text) t long (subst IsUtf8 (sym prefix) u) in
      let rest : drop (length text) l ≡ take k w =
      ap (drop (length text)) is ∙ drop-append_seam text (take k w) in
      none k (subst IsUtf8 rest (IsUtf8-drop l (length text) t bound))

  -- some of some bytes are some
  some-taken : (k : ℕ) (v : List ℕ) → 0 < k → 0 < length v → take k v ≡ [] → ⊥
  some-taken zero v p q e = omega arith
  some-taken (suc k) [] p q e = omega arith
  some-taken (suc k) (b ∷ v) p q e = absurd (cc)

  -- so it is the longest one, where bytes follow it
  valid-some : 0 < length w → IsValidUpTo (text ++ w) (length text)
  valid-some some = record {
    short = omega (arith, length-append text w);
    front = rw (take-append_seam text w) u;
    longest = λ m h t.
        let at : m ≡ length text + (m - length text) = omega arith in
        some-taken (m - length text) w (omega arith) some (prefix-none (m - length text) (rw (← at) t));
  }

  -- and where none do
  valid-by : (w ≡ []) ⊎ (0 < length w) → utf8_valid_len (text ++ w) ≡ length text
  valid-by (inl e) =
      ap (λ x. utf8_valid_len (text ++ x)) e ∙ ap utf8_valid_len (append-nil text) ∙ utf8_valid_len-IsUtf8 text u
  valid-by (inr s) = utf8_valid_len-IsValidUpTo (text ++ w) (length text) (valid-some s)

  -- The text is the longest prefix that is one.
  pub valid-text : utf8_valid_len (text ++ w) ≡ length text
  valid-text = valid-by (empty-or w) where
    empty-or : (w : List ℕ) → (w ≡ []) ⊎ (0 < length w)
    empty-or [] = inl refl
    empty-or (x ∷ w) = inr (omega arith)

  -- and what is wrong is wrong after it
  pub error-after : utf8_error_len (drop (utf8_valid_len (text ++ w)) (text ++ w)) ≡ utf8_error_len w
  error-after =
      ap (λ n. utf8_error_len (drop n (text ++ w))) valid-text ∙ ap utf8_error_len (drop-append_seam text w)

  -- and it is taken
  pub text-taken : take (utf8_valid_len (text ++ w)) (text ++ w) ≡ text
  text-taken = ap (λ n. take n (text ++ w)) valid-text ∙ take-append_seam text w

-- Bytes that are wrong stay so, whatever follows them: by how many they are.
error-one : (a n : ℕ) (u : List ℕ) → utf8_error_len (a ∷ []) ≡ Some n → utf8_error_len (a ∷ u) ≡ Some n
unfolding utf8_error_len
error-one a n u h =
    if_gives (is_in_range 194 244 a) _ _ (Some n) h (λ e z. absurd (none-some n z))
    (λ e z. rw (ne_eqb (length (a ∷ u)) 0 (omega arith), e) z)

-- of two bytes
error-two : (a b n : ℕ) (u : List ℕ) → utf8_error_len (a ∷ b ∷ []) ≡ Some n → utf8_error_len (a ∷ b ∷ u) ≡ Some n
unfolding utf8_error_len
error-two a b n u h =
    let some = ne_eqb (length (a ∷ b ∷ u)) 0 (omega arith) in
    if_gives (is_in_range 194 244 a) _ _ (Some n) h
    (λ e z. if_gives (is_in_range (second_byte_min a) (second_byte_max a) b) _ _ (Some n) z
    (λ f y. absurd (none-some n y)) (λ f y. rw (some, e, le-ltb (length (a ∷ b ∷ u)) 2 (omega arith), f) y))
    (λ e z. rw (some, e) z)

-- of three
error-three : (a b c n : ℕ) (u : List ℕ) → utf8_error_len (a ∷ b ∷ c ∷ []) ≡ Some n
    → utf8_error_len (a ∷ b ∷ c ∷ u) ≡ Some n
unfolding utf8_error_len
error-three a b c n u h =
    let some = ne_eqb (length (a ∷ b ∷ c ∷ u)) 0 (omega arith) in
    let two = le-ltb (length (a ∷ b ∷ c ∷ u)) 2 (omega arith) in
    if_gives (is_in_range 194 244 a) _ _ (Some n) h
    (λ e z. if_gives (is_in_range (second_byte_min a) (second_byte_max a) b) _ _ (Some n) z
    (λ f y. if_gives (is_in_range 128 191 c) _ _ (Some n) y
    (λ g x. absurd (none-some n x)) (λ g x. rw (some, e, two, f, le-ltb (length (a ∷ b ∷ c ∷ u)) 3 (omega arith), g) x))
    (λ f y. rw (some, e, two, f) y))
    (λ e z. rw (some, e) z)

-- where there are four bytes, no other is asked
error-four : (a b c d : ℕ) (u v : List ℕ)
    → utf8_error_len (a ∷ b ∷ c ∷ d ∷ u) ≡ utf8_error_len (a ∷ b ∷ c ∷ d ∷ v)
unfolding utf8_error_len
error-four a b c d u v =
    let l = λ (w : List ℕ). length (a ∷ b ∷ c ∷ d ∷ w) in
    rw (
      ne_eqb (l u) 0 (omega arith),
      ne_eqb (l v) 0 (omega arith),
      le-ltb (l u) 2 (omega arith),
      le-ltb (l v) 2 (omega arith),
      le-ltb (l u) 3 (omega arith),
      le-ltb (l v) 3 (omega arith),
      le-ltb (l u) 4 (omega arith),
      le-ltb (l v) 4 (omega arith),
    ) refl

-- of any
error-stays : (w u : List ℕ) (n : ℕ) → utf8_error_len w ≡ Some n → utf8_error_len (w ++ u) ≡ Some n
error-stays [] u n h = absurd (none-some n (sym nil-unended ∙ h))
error-stays (a ∷ []) u n h = error-one a n u h
error-stays (a ∷ b ∷ []) u n h = error-two a b n u h
error-stays (a ∷ b ∷ c ∷ []) u n h = error-three a b c n u h
error-stays (a ∷ b ∷ c ∷ d ∷ w) u n h = error-four a b c d (w ++ u) w ∙ h

-- A character that is after what is wrong would be whole in it, or unfinished.
module _ (w : List ℕ) (n : ℕ) (none : BeginsNoText w) (wrong : utf8_error_len w ≡ Some n) where
  -- the bytes w and more begin with no character
  begins-none : (u more : List ℕ) (c : ℕ) (cs : List ℕ) → all_scalars (c ∷ cs) ≡ true → w ++ u ≡ encode c ++ more → ⊥
  begins-none u more c cs s is = elim (cases_lt (length w) (length (encode c))) [
    | inl short ↦
        let prefix : take (length w) (encode c) ≡ w =
        sym (take-append-le (length w) (encode c) more (omega arith)) ∙ ap (take (length w)) (sym is)
        ∙ take-append_seam w u in
        let rest = drop (length w) (encode c) in
        let split : encode c ≡ w ++ rest =
        sym (take-append-drop (length w) (encode c)) ∙ ap (λ x. x ++ rest) prefix in
        let open_prefix : IsPrefix w =
        record {
          c = c;
          more = rest;
          scalar = (and_parts _ _ s).0;
          is = split;
          some = omega (arith, length-drop (length w) (encode c));
        } in
        none-some n (sym (prefix-unfinished w open_prefix) ∙ wrong)
    | inr long ↦
        let k = length (encode c) in
        let prefix : take k w ≡ encode c =
        sym (take-append-le k w u long) ∙ ap (take k) is ∙ take-append_seam (encode c) more in
        let utf8 : IsUtf8 (take k w) = subst IsUtf8 (sym prefix) (IsUtf8-encode c (and_parts _ _ s).0) in
        let nothing : encode c ≡ [] = sym prefix ∙ none k utf8 in
        let some = encode-some c cs s in
        absurd (omega (arith, ap length nothing))
  ]

  -- nor with any text
  none-after : (u : List ℕ) → BeginsNoText (w ++ u)
  none-after u m t = by t.0 t.1.0 t.1.1 where
    by : (cs : List ℕ) → all_scalars cs ≡ true → encodes cs ≡ take m (w ++ u) → take m (w ++ u) ≡ []
    by [] s e = sym e
    by (c ∷ cs) s e =
        absurd (begins-none u (encodes cs ++ drop m (w ++ u)) c cs s
        (sym (take-append-drop m (w ++ u)) ∙ ap (λ x. x ++ drop m (w ++ u)) (sym e)
        ∙ append_assoc (encode c) (encodes cs) (drop m (w ++ u))))

  -- so they are broken
  pub broken-is : IsBroken w
  broken-is = record { none = none-after; count = n; wrong = λ u. error-stays w u n wrong }

-- and so do more
pub broken-on : (w u : List ℕ) → IsBroken w → IsBroken (w ++ u)
broken-on w u b = record {
  none = λ v. subst BeginsNoText (sym (append_assoc w u v)) (b.none (u ++ v));
  count = b.count;
  wrong = λ v. ap utf8_error_len (append_assoc w u v) ∙ b.wrong (u ++ v);
}

-- Where bytes after the characters so far are characters, all are.
pub absorbed-whole : (old text bytes d : List ℕ) → d ≡ old ++ bytes → (rest : List ℕ) → text ≡ old ++ bytes → rest ≡ []
    → HoldsBytes false text rest d
absorbed-whole old text bytes d is rest all none = (
  is ∙ sym all ∙ sym (append-nil text) ∙ ap (λ r. text ++ r) (sym none),
  subst IsUnfinished (sym none) nil-unfinished,
)

-- What is after the longest prefix that is a text, by the error that is found there: an unfinished character,
module _ (w : List ℕ) (n : ℕ) (v : IsValidUpTo w n) where
  pub open-after : (o : Option ℕ) → utf8_error_len (drop n w) ≡ o → is_some o ≡ false → IsUnfinished (drop n w)
  open-after None e s = record { none = rest-none w n v; unended = e }
  open-after (Some k) e s = absurd (cc)

  -- or wrong bytes
  pub broken-after : (o : Option ℕ) → utf8_error_len (drop n w) ≡ o → is_some o ≡ true → IsBroken (drop n w)
  broken-after None e s = absurd (cc)
  broken-after (Some k) e s = broken-is (drop n w) k (rest-none w n v) e

-- a broken text goes on as one
pub broken-goes : (text rest d u : List ℕ) → HoldsBytes true text rest d → HoldsBytes true text rest (d ++ u)
broken-goes text rest d u h =
    (h.0 ++ u, ap (λ x. x ++ u) h.1 ∙ append_assoc text h.0 u, broken-on h.0 u h.2)

-- What the bytes are when no more come.
module _ (text rest d : List ℕ) (utf8 : IsUtf8 text) (i e : ℕ) (owned : Bool) where
  -- all of it is a text
  abbrev whole_text : Scanned Text
  whole_text = taken (record { owned = owned; bytes = text }) e

  -- or a byte is wrong after it
  abbrev wrong_text : Scanned Text
  wrong_text = failed invalid_code_point (i + length text)

  -- of bytes w after the text that begin no other: whether there are none
  if-whole : (w : List ℕ) → d ≡ text ++ w → BeginsNoText w
      → if_utf8 i owned d e ≡ (if nat_eq (length w) 0 then whole_text else wrong_text)
  if-whole [] is none =
      let same : d ≡ text = is ∙ append-nil text in
      let all = ap utf8_valid_len same ∙ utf8_valid_len-IsUtf8 text utf8 ∙ ap length (sym same) in
      if-true (utf8_valid_len d == length d) _ _ (eq-eqb _ _ all)
      ∙ ap (λ x. taken (record { owned = owned; bytes = x }) e) same
  if-whole (b ∷ w) is none =
      let short : utf8_valid_len d ≡ length text = ap utf8_valid_len is ∙ valid-text text (b ∷ w) utf8 none in
      let long = ap length is ∙ length-append text (b ∷ w) in
      if-false (utf8_valid_len d == length d) _ _ (ne_eqb _ _ (omega (arith, short, long)))
      ∙ ap (λ n. failed invalid_code_point (i + n)) short
      ∙ sym (if-false (nat_eq (length (b ∷ w)) 0) _ _ (ne_eqb (length (b ∷ w)) 0 (omega arith)))

  -- what is kept of them, by what is wrong after the text
  kept-by : (w : List ℕ) (o : Option ℕ) → d ≡ text ++ w → BeginsNoText w → utf8_error_len w ≡ o
      → valid_prefix i owned d e ≡ valid_prefix_by i owned d e o
  kept-by w o is none error =
      ap (valid_prefix_by i owned d e)
      (ap (λ x. utf8_error_len (drop (utf8_valid_len x) x)) is ∙ error-after text w utf8 none ∙ error)

  -- kept, an unfinished character is left out,
  pub open-kept : HoldsBytes false text rest d → checked true i owned d e ≡ whole_text
  open-kept h =
      kept-by rest None h.0 h.1.none h.1.unended
      ∙ ap (λ x. taken (record { owned = owned; bytes = take (utf8_valid_len x) x }) e) h.0
      ∙ ap (λ x. taken (record { owned = owned; bytes = x }) e) (text-taken text rest utf8 h.1.none)

  -- whole, it is wrong
  pub open-whole : HoldsBytes false text rest d → (b : Bool) → b ≡ nat_eq (length rest) 0
      → checked false i owned d e ≡ (if b then whole_text else wrong_text)
  open-whole h b is = if-whole rest h.0 h.1.none ∙ ap (λ b. if b then whole_text else wrong_text) (sym is)

  -- and what is broken is always
  pub broken-fails : HoldsBytes true text rest d → (partial : Bool) → checked partial i owned d e ≡ wrong_text
  broken-fails h true =
      let none = subst BeginsNoText (append-nil h.0) (h.2.none []) in
      let wrong = ap utf8_error_len (sym (append-nil h.0)) ∙ h.2.wrong [] in
      let short : utf8_valid_len d ≡ length text = ap utf8_valid_len h.1 ∙ valid-text text h.0 utf8 none in
      kept-by h.0 (Some h.2.count) h.1 none wrong ∙ ap (λ n. failed invalid_code_point (i + n)) short
  broken-fails h false =
      let none = subst BeginsNoText (append-nil h.0) (h.2.none []) in
      let some : nat_eq (length h.0) 0 ≡ false = by h.0 (ap utf8_error_len (sym (append-nil h.0)) ∙ h.2.wrong []) in
      if-whole h.0 h.1 none ∙ if-false (nat_eq (length h.0) 0) _ _ some where
        by : (w : List ℕ) → utf8_error_len w ≡ Some h.2.count → nat_eq (length w) 0 ≡ false
        by [] z = absurd (none-some h.2.count (sym nil-unended ∙ z))
        by (b ∷ w) z = ne_eqb (length (b ∷ w)) 0 (omega arith)

-- of what was read, where it is broken
pub broken-stays : (s : SoFar) (d u : List ℕ) → s.broken ≡ true → HoldsText s d → HoldsText s (d ++ u)
broken-stays s d u broken h =
    subst (λ b. HoldsBytes b s.text s.rest (d ++ u)) (sym broken)
    (broken-goes s.text s.rest d u (subst (λ b. HoldsBytes b s.text s.rest d) broken h))

-- What was read is a text, by what was asked of it.
module _ (s : SoFar) (d : List ℕ) (utf8 : IsUtf8 s.text) (i e : ℕ) (owned : Bool) (h : HoldsText s d) where
  -- by the answer, the text is what is read or the place of a wrong byte
  abbrev Answered : Bool → Bool → Type 0
  Answered partial b =
      checked partial i owned d e
      ≡ (if b then whole_text s.text s.rest d utf8 i e owned else wrong_text s.text s.rest d utf8 i e owned)

  -- of a text that is kept
  pub is_text-kept : s.broken ≡ false → (partial : Bool) → partial ≡ true → Answered partial partial
  is_text-kept is partial k =
      subst (λ k. Answered k k) (sym k)
      (open-kept s.text s.rest d utf8 i e owned (subst (λ b. HoldsBytes b s.text s.rest d) is h))

  -- of a whole one
  pub is_text-whole : s.broken ≡ false → (partial : Bool) → partial ≡ false → (b : Bool) → b ≡ nat_eq (length s.rest) 0
      → Answered partial b
  is_text-whole is partial k b none =
      subst (λ k. Answered k b) (sym k)
      (open-whole s.text s.rest d utf8 i e owned (subst (λ b. HoldsBytes b s.text s.rest d) is h) b none)

  -- of a broken one
  pub is_text-broken : s.broken ≡ true → (partial b : Bool) → b ≡ true → Answered partial (not b)
  is_text-broken is partial b wrong =
      subst (λ b. Answered partial (not b)) (sym wrong)
      (broken-fails s.text s.rest d utf8 i e owned (subst (λ b. HoldsBytes b s.text s.rest d) is h) partial)
