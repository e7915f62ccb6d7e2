-- The name of a float after a minus, in a document that arrives in chunks.
use Rattle.jiter_incremental.proofs.Words.{◌≡◌, ℕ, ◌+◌, ◌==◌, true, false, List, [], ◌∷◌, ◌++◌, length, refl, sym}
use Rattle.jiter_incremental.proofs.Words.{subst, ap, ◌∙◌, arith, append_assoc, codes, drop, slice_get, Option, Some}
use Rattle.jiter_incremental.proofs.Words.{None, eqb-true, failed-taken, stands-length, word_at-complete, word_at-sound}
use Rattle.jiter_incremental.proofs.Words.{eof_value, invalid_number, after_minus, span_from, number_span}
use Rattle.jiter_incremental.proofs.Words.{HoldsNumber, IsBegun, word_from, taken, failed, Stands, Span, word_at}
use Rattle.jiter_incremental.proofs.Words.{PartialNumber, IsLeft, at_value, BeginsAs, Document, HasTakenIn, HoldsMinus}
use Rattle.jiter_incremental.proofs.Words.{HoldsScalar, HoldsWord, IsAllowed, IsRefused, ReadSoFar, any_bytes, in_scalar}
use Rattle.jiter_incremental.proofs.Words.{name_start, OpenFrame}
use Rattle.std.proofs.lemmas.List.{nil_from_length}
use Rattle.jiter_scan.proofs.Choices.{if_both}
use Rattle.jiter_scan.specs.NumberReading.{decimal_at, name_at}
use Rattle.jiter_scan.specs.declared.number.partial_number.Stage.TheVariants as stage
use Rattle.jiter_incremental.specs.declared.names.WordValue.TheVariants as name
use Rattle.jiter_incremental.specs.declared.reader.Token.TheVariants as token
use Rattle.jiter_incremental.specs.declared.reader.Awaits.TheVariants as awaits
use Rattle.jiter_incremental.proofs.Documents.{Keeps, known-in}
use Rattle.jiter_incremental.proofs.Documents.Tokens.{held-end, held-stands, minus-fails, minus-goes}
use Rattle.jiter_incremental.proofs.Documents.Tokens.{number-failed, reading-names, scalar-refused, stands-prefix}

-- ---- the bytes of a number of which the minus was read

module _ (P : Type 0) (t : List ℕ) (e j : ℕ) where
  -- What is read to e where names are allowed, and where they are not is an error of a number at j, gives P.
  abbrev Tells : Span → Span → Type 0
  Tells allowed denied = allowed ≡ taken tt e → denied ≡ failed invalid_number j → P

  -- no decimal number does, which is the same with names and without
  same-tells : (x : Span) → Tells x x
  same-tells x goes fails = absurd (failed-taken invalid_number j tt e (sym fails ∙ goes))

  -- and no name in the place of a value
  name-tells : (w : List ℕ) (i : ℕ) → Tells (name_at true t w i) (name_at false t w i)
  name-tells w i goes fails = absurd cc

  -- the name after a minus does
  after-tells : (i : ℕ) (o : Option ℕ) → (word_at t (codes "Infinity") i ≡ taken tt e → P)
      → Tells (after_minus true t i o) (after_minus false t i o)
  after-tells i None word = same-tells (failed eof_value i)
  after-tells i (Some c) word =
      if_both Tells (c == 73) _ _ _ _ (λ is goes fails. word goes) (λ other. same-tells (decimal_at t i))

  span-tells : (i : ℕ) (o : Option ℕ) → (o ≡ Some 45 → word_at t (codes "Infinity") (i + 1) ≡ taken tt e → P)
      → Tells (span_from true t i o) (span_from false t i o)
  span-tells i None word = same-tells (failed eof_value i)
  span-tells i (Some c) word =
      if_both Tells (c == 45) _ _ _ _
      (λ is. after-tells (i + 1) (slice_get t (i + 1)) (word (ap Some (eqb-true c 45 is))))
      (λ no_minus. if_both Tells (c == 78) _ _ _ _ (λ is. name-tells (codes "NaN") i)
      (λ no_n. if_both Tells (c == 73) _ _ _ _ (λ is. name-tells (codes "Infinity") i)
      (λ no_i. same-tells (decimal_at t i))))

-- A minus begins these bytes, and the same word is after it and after all of them.
first-alone : (w : List ℕ) → slice_get (w ++ codes "Infinity") 0 ≡ Some 45
    → Stands (w ++ codes "Infinity") 1 (length w + 8) (codes "Infinity") → w ≡ 45 ∷ []
first-alone [] first word = absurd cc
first-alone (c ∷ w) first word =
    let long = stands-length ((c ∷ w) ++ codes "Infinity") 1 (length (c ∷ w) + 8) (codes "Infinity") word in
    let is : c ≡ 45 = cc in
    ap (λ x. x ∷ w) is ∙ ap (λ v. 45 ∷ v) (nil_from_length w (omega arith))

-- After the minus, and there alone, `Infinity` is a name.
begun-minus : (w : List ℕ) → IsBegun w stage.Minus → w ≡ 45 ∷ []
begun-minus w begun =
    let word = codes "Infinity" in
    let t = w ++ word in
    let n = length w in
    let s : Stands t n (n + 8) word = stands-prefix w word [] in
    span-tells (w ≡ 45 ∷ []) t (n + 8) n 0 (slice_get t 0)
    (λ first read. first-alone w first (word_at-sound t word 1 (n + 8) tt read))
    (begun.goes true word ∙ ap (after_minus true t n) s.0 ∙ word_at-complete t word n (n + 8) s)
    (begun.goes false word ∙ ap (after_minus false t n) s.0)

-- The bytes of a number of which the minus was read, and no byte after it, are the minus alone.
pub minus-alone : (n : PartialNumber) (w : List ℕ) → HoldsNumber n w → n.stage ≡ stage.Minus → w ≡ 45 ∷ []
minus-alone n w h is = begun-minus w (subst (IsBegun w) is h.begun)

-- ---- the letter after the minus

module _ (d : Document) (t : List ℕ) (fs : List OpenFrame) (b : ℕ) (known : ReadSoFar any_bytes d t (in_scalar fs b))
    (h : HoldsMinus d t fs b)
  where
    abbrev both : List ℕ
    both = 45 ∷ 73 ∷ []

    both-last : t ++ 73 ∷ [] ≡ h.prefix ++ both
    both-last = ap (λ v. v ++ 73 ∷ []) h.is ∙ append_assoc h.prefix (45 ∷ []) (73 ∷ [])

    -- where names are allowed, a word is held
    pub name-taken : (e : Document) → Keeps d e → e.value ≡ d.value → e.begin ≡ d.begin → e.token ≡ token.Word
        → e.name ≡ name.MinusInfinity → e.word.word.now ≡ codes "Infinity" → e.word.seen ≡ 1
        → d.settings.allow_inf_nan ≡ true → HasTakenIn any_bytes e (t ++ 73 ∷ [])
    name-taken e k value begin tok is word one allowed = record {
      opened = in_scalar fs b;
      known = known-in any_bytes any_bytes d e t (73 ∷ []) (in_scalar fs b) h.low k (λ u comes. tt) known;
      held = λ unset. (
        both,
        record { prefix = h.prefix; is = both-last; begin = h.begin; place = begin ∙ h.place },
        subst (λ o. HoldsScalar e o both) (sym tok)
            (subst (λ n. HoldsWord n e.word both × IsAllowed e.settings n × BeginsAs both (name_start n)) (sym is) (
              record {
                word = word;
                spelled = ap (λ m. both ++ drop m e.word.word.now) one ∙ ap (λ x. both ++ drop 1 x) word;
                goes = λ v i s. minus-goes v i s ∙ ap (λ x. word_from x 1 v (i + 2)) (sym word)
                    ∙ ap (λ m. word_from e.word.word.now m v (i + 2)) (sym one);
              },
              ap (λ p. p.allow_inf_nan) k.0 ∙ allowed,
              record { first = 45; rest = 73 ∷ []; is = refl; starts = refl },
            )),
        subst (λ v. IsLeft v (at_value awaits.Value fs)) (sym value) h.left,
        h.low,
      );
    }

    -- where they are not, it is refused
    pub name-refused : d.position ≡ length t → d.settings.allow_inf_nan ≡ false
        → IsRefused d any_bytes (t ++ 73 ∷ []) invalid_number d.position
    name-refused position off =
        subst (IsRefused d any_bytes (t ++ 73 ∷ []) invalid_number) (sym position)
        (scalar-refused any_bytes any_bytes d t (73 ∷ []) fs b invalid_number (length t) known (λ u comes. tt) refl
        (λ p u reading comes.
        let all = t ++ 73 ∷ u in
        let s : Stands all b (b + 2) both =
        subst (λ v. Stands v b (b + 2) both) (append_assoc t (73 ∷ []) u)
        (held-stands h.prefix both (t ++ 73 ∷ []) b both-last h.begin u) in
        let place : b + 1 ≡ length t = held-end h.prefix (45 ∷ []) t b h.is h.begin in
        number-failed p all (length fs) b 45 h.low s.0 invalid_number (length t) refl
        (ap (λ n. number_span n all b) (reading-names d p reading ∙ off) ∙ minus-fails all b s
        ∙ ap (failed invalid_number) place)))
