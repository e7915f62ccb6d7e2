-- The tokens of a document that arrives in chunks: how they begin, go on, end and fail, whatever comes after them.
use Rattle.jiter_incremental.proofs.Words.{◌≡◌, ◌⊎◌, inl, inr, ℕ, ◌+◌, ◌-◌, ◌<◌, ◌≤◌, ◌==◌, Bool, true, false, List, []}
use Rattle.jiter_incremental.proofs.Words.{◌∷◌, ◌++◌, length, take, drop, get_or, refl, sym, subst, ap, ◌∙◌, arith}
use Rattle.jiter_incremental.proofs.Words.{append_assoc, length-append, slice_range, codes, slice_get, string_bytes}
use Rattle.jiter_incremental.proofs.Words.{Some, None, append-nil, slice_get-get_or, get_or_from_slice_get, if_case}
use Rattle.jiter_incremental.proofs.Words.{slice-one, slice_range-split, stands-length, slice-stands, word_at-complete}
use Rattle.jiter_incremental.proofs.Words.{word_at-sound, Kind, expected_value, invalid_number, is_forgiven}
use Rattle.jiter_incremental.proofs.Words.{number_value, after_minus, span_from, number_span, HoldsNumber, IsBegun}
use Rattle.jiter_incremental.proofs.Words.{StepsTo, begins_decimal, number_by, number_from, word_by, word_from}
use Rattle.jiter_incremental.proofs.Words.{is_active, taken, failed, Stands, Span, word_at, PartialNumber, PartialWord}
use Rattle.jiter_incremental.proofs.Words.{resume-fault, inside_at-starts, nothing_forgiven, seen_as, resume, value_in}
use Rattle.jiter_incremental.proofs.Words.{literal_at, literal_tree, start_of, word_of, nesting_limit, number_tree}
use Rattle.jiter_incremental.proofs.Words.{HasTaken, Rules, done, fault, prefix_answer, scalar_at, Text, Tree, Literal}
use Rattle.jiter_incremental.proofs.Words.{Start, IsLeft, at_value, owned, BeginsAs, BeginsHere, MayFollow, Document}
use Rattle.jiter_incremental.proofs.Words.{Follows, HasTakenAll, HasTakenIn, HoldsOpened, HoldsMinus, HoldsScalar}
use Rattle.jiter_incremental.proofs.Words.{HoldsString, HoldsWord, IsAllowed, IsNumberWithin, IsReadAs, IsReading}
use Rattle.jiter_incremental.proofs.Words.{IsRefused, ReadSoFar, NameBegins, Next, Opened, TakenFrom, WordBegins}
use Rattle.jiter_incremental.proofs.Words.{any_bytes, between_tokens, in_key, in_scalar, own_number, by_mode, strict}
use Rattle.jiter_incremental.proofs.Words.{with_byte, name_start, name_tree, name_word, OpenFrame, owned_text, tree_as}
use Rattle.jiter_incremental.proofs.Words.{rules_as, WordValue, Token, Settings}
use Rattle.std.proofs.Math.Seq.{drop-append_seam, take-append_seam}
use Rattle.std.proofs.lemmas.Bool.Decides.{nat_tests}
use Rattle.jiter_scan.proofs.Standing.{stands-append, stands-slice, stands-split}
use Rattle.jiter_scan.proofs.WordLaws.{word_at-same}
use Rattle.jiter_scan.specs.Kind.{expected_ident}
use Rattle.jiter_scan.specs.NumberReading.{number_at, with_value}
use Rattle.jiter_scan.specs.declared.number.partial_number.NumberStep.{NumberStep}
use Rattle.jiter_scan.specs.declared.number.partial_number.NumberStep.TheVariants as went
use Rattle.jiter_scan.specs.declared.partial_word.WordStep.TheVariants as seen
use Rattle.jiter_steps.specs.Read.{inside_at, value_with}
use Rattle.jiter_steps.specs.declared.parse.Literal.TheVariants as literal
use Rattle.jiter_steps.specs.declared.parse.Start.TheVariants as start
use Rattle.jiter_incremental.proofs.Chunks.{range-long}
use Rattle.jiter_incremental.proofs.Documents.{Keeps, byte-first, follows-byte, known-as, known-in, reads-so}
use Rattle.jiter_incremental.specs.Document.{EndsBefore}
use Rattle.jiter_incremental.specs.Names.{name_bytes, name_span}
use Rattle.jiter_incremental.specs.declared.names.WordValue.TheVariants as name
use Rattle.jiter_incremental.specs.declared.reader.Token.TheVariants as token
use Rattle.jiter_incremental.specs.declared.reader.Awaits.TheVariants as awaits

-- ---- bytes in a text

pub stands-prefix : (prefix w u : List ℕ) → Stands (prefix ++ (w ++ u)) (length prefix) (length prefix + length w) w
stands-prefix prefix w u =
    let all = prefix ++ (w ++ u) in
    let i = length prefix in
    let whole = length-append prefix (w ++ u) in
    let rest = length-append w u in
    let count : i + length w - i ≡ length w = omega arith in
    subst (Stands all i (i + length w))
    (ap (λ n. take n (drop i all)) count ∙ ap (take (length w)) (drop-append_seam prefix (w ++ u))
    ∙ take-append_seam w u)
    (stands-slice all i (i + length w) (omega arith) (omega arith))

stands-whole : (w : List ℕ) → Stands w 0 (length w) w
stands-whole w =
    let place : 0 + length w ≡ length w = omega arith in
    subst (λ e. Stands w 0 e w) place
    (subst (λ v. Stands v 0 (0 + length w) w) (append-nil w) (stands-prefix [] w []))

-- the last bytes of some, whatever comes
module _ (prefix w t : List ℕ) (b : ℕ) (is : t ≡ prefix ++ w) (begin : length prefix ≡ b) where
  pub held-end : b + length w ≡ length t
  held-end = let long = ap (λ v. length v) is ∙ length-append prefix w in omega arith

  pub held-stands : (u : List ℕ) → Stands (t ++ u) b (b + length w) w
  held-stands u =
      subst (λ v. Stands v b (b + length w) w) (sym (ap (λ v. v ++ u) is ∙ append_assoc prefix w u))
      (subst (λ k. Stands (prefix ++ (w ++ u)) k (k + length w) w) begin (stands-prefix prefix w u))

-- ---- what is read where a scalar is
module _ (p : Settings) (t : List ℕ) where
  abbrev r : Rules Text Tree
  r = rules_as owned p

  kept : (k : Kind) → is_forgiven k ≡ false → r.forgives k ≡ false
  kept k h =
      if_case (λ (f : Kind → Bool). f k ≡ false) (is_active p.mode) is_forgiven nothing_forgiven (λ on. h) (λ off. refl)

  module _ (depth b c : ℕ) (few : depth ≤ 200) (here : slice_get t b ≡ Some c) where
    pub begins-so : (s : Start) → start_of c ≡ s
        → value_in r t depth b ≡ value_with r (inside_at r t (201 - depth - 1)) t b s
    begins-so s h =
        inside_at-starts r t (201 - depth) b s (omega (arith, few)) (ap start_of (get_or_from_slice_get t b c 0 here) ∙ h)

    number-in : (x : Span) → start_of c ≡ start.Number → number_span p.allow_inf_nan t b ≡ x
        → value_in r t depth b
        ≡ scalar_at b (seen_as (λ n e. tree_as owned_text (number_tree n)) (with_value t b x))
    unfolding number_at
    number-in x h e =
        begins-so start.Number h
        ∙ ap (λ (y : Span). scalar_at b (seen_as (λ n e. tree_as owned_text (number_tree n)) (with_value t b y))) e

    literal-in : (l : Literal) (x : Span) → start_of c ≡ start.Literal l → literal_at t l b ≡ x
        → value_in r t depth b ≡ scalar_at b (seen_as (λ u e. literal_tree l) x)
    literal-in l x h e =
        begins-so (start.Literal l) h ∙ ap (λ (y : Span). scalar_at b (seen_as (λ u e. literal_tree l) y)) e

    name-in : (x : Span) → start_of c ≡ start.Number → p.allow_inf_nan ≡ true → number_span true t b ≡ x
        → value_in r t depth b
        ≡ scalar_at b (seen_as (λ n e. tree_as owned_text (number_tree n)) (with_value t b x))
    name-in x h ok e = number-in x h (ap (λ n. number_span n t b) ok ∙ e)

    -- a word, whole,
    pub word-done : (k : WordValue) (e : ℕ) → start_of c ≡ name_start k → IsAllowed p k → name_span k t b ≡ taken tt e
        → slice_range t b e ≡ name_bytes k → value_in r t depth b ≡ done (name_tree k) e
    unfolding number_value
    word-done (name.Literal l) e h ok x is = literal-in l (taken tt e) h x
    word-done name.NaN e h ok x is = name-in (taken tt e) h ok x ∙ ap (λ w. done (own_number w) e) is
    word-done name.Infinity e h ok x is = name-in (taken tt e) h ok x ∙ ap (λ w. done (own_number w) e) is
    word-done name.MinusInfinity e h ok x is = name-in (taken tt e) h ok x ∙ ap (λ w. done (own_number w) e) is

    -- and with an error
    pub word-failed : (k : WordValue) (f : Kind) (j : ℕ) → start_of c ≡ name_start k → IsAllowed p k
        → name_span k t b ≡ failed f j → value_in r t depth b ≡ fault f j b
    word-failed (name.Literal l) f j h ok x = literal-in l (failed f j) h x
    word-failed name.NaN f j h ok x = name-in (failed f j) h ok x
    word-failed name.Infinity f j h ok x = name-in (failed f j) h ok x
    word-failed name.MinusInfinity f j h ok x = name-in (failed f j) h ok x

    -- the same of a number
    pub number-done : (w : List ℕ) (e : ℕ) → start_of c ≡ start.Number → number_span p.allow_inf_nan t b ≡ taken tt e
        → slice_range t b e ≡ w → value_in r t depth b ≡ done (own_number w) e
    number-done w e h x is = number-in (taken tt e) h x ∙ ap (λ v. done (own_number v) e) is

    pub number-failed : (f : Kind) (j : ℕ) → start_of c ≡ start.Number
        → number_span p.allow_inf_nan t b ≡ failed f j → value_in r t depth b ≡ fault f j b
    number-failed f j h x = number-in (failed f j) h x

-- ---- words

-- the first byte of a literal
literal-first : (c : ℕ) (l : Literal) → start_of c ≡ start.Literal l
    → (c ∷ drop 1 (word_of l) ≡ word_of l) × (c ≡ get_or (word_of l) 0 0) × (0 < length (word_of l))
literal-first c literal.Null h =
    let is : c ≡ 110 = grind (arith, nat_tests, h) in (ap (λ x. x ∷ codes "ull") is, is, omega arith)
literal-first c literal.True h =
    let is : c ≡ 116 = grind (arith, nat_tests, h) in (ap (λ x. x ∷ codes "rue") is, is, omega arith)
literal-first c literal.False h =
    let is : c ≡ 102 = grind (arith, nat_tests, h) in (ap (λ x. x ∷ codes "alse") is, is, omega arith)

pub literal-begins : (c : ℕ) (l : Literal) → start_of c ≡ start.Literal l → WordBegins (name.Literal l) c
literal-begins c l h =
    let f = literal-first c l h in
    record {
      spelled = f.0;
      goes = λ t b here. word_at-same t (word_of l) 0 b c f.2 here f.1;
    }

-- the names that begin with a letter
pub nan-begins : NameBegins name.NaN 78
nan-begins = record {
  starts = refl;
  number = refl;
  allowed = record {
    spelled = refl;
    goes = λ t b here. ap (span_from true t b) here ∙ word_at-same t (codes "NaN") 0 b 78 (omega arith) here refl;
  };
  denied = λ t b here. ap (span_from false t b) here;
}

pub infinity-begins : NameBegins name.Infinity 73
infinity-begins = record {
  starts = refl;
  number = refl;
  allowed = record {
    spelled = refl;
    goes = λ t b here. ap (span_from true t b) here
        ∙ word_at-same t (codes "Infinity") 0 b 73 (omega arith) here refl;
  };
  denied = λ t b here. ap (span_from false t b) here;
}

-- the name after a minus
pub minus-goes : (t : List ℕ) (b : ℕ) → Stands t b (b + 2) (45 ∷ 73 ∷ [])
    → number_span true t b ≡ word_from (codes "Infinity") 1 t (b + 2)
minus-goes t b h =
    let place : b + 1 + 1 ≡ b + 2 = omega arith in
    ap (span_from true t b) h.0 ∙ ap (after_minus true t (b + 1)) h.1.0
    ∙ word_at-same t (codes "Infinity") 0 (b + 1) 73 (omega arith) h.1.0 refl
    ∙ ap (word_at t (drop 1 (codes "Infinity"))) place

pub minus-fails : (t : List ℕ) (b : ℕ) → Stands t b (b + 2) (45 ∷ 73 ∷ [])
    → number_span false t b ≡ failed invalid_number (b + 1)
minus-fails t b h = ap (span_from false t b) h.0 ∙ ap (after_minus false t (b + 1)) h.1.0

-- a word of which one byte more was seen
module _ (w : List ℕ) (n m : ℕ) (c : ℕ)
    (leads : (t : List ℕ) (j : ℕ) → slice_get t j ≡ Some c → word_from w n t j ≡ word_by w m t j seen.Part)
  where
    abbrev rest : List ℕ
    rest = c ∷ drop m w

    rest-read : word_at rest (drop n w) 0 ≡ taken tt (length rest)
    rest-read =
        let s = stands-prefix (c ∷ []) (drop m w) [] in
        let same : rest ≡ c ∷ (drop m w ++ []) = ap (λ v. c ∷ v) (sym (append-nil (drop m w))) in
        let place : 1 + length (drop m w) ≡ length rest = omega arith in
        leads rest 0 refl
        ∙ word_at-complete rest (drop m w) 1 (length rest)
        (subst (λ e. Stands rest 1 e (drop m w)) place
        (subst (λ v. Stands v 1 (1 + length (drop m w)) (drop m w)) (sym same) s))

    pub part-seen : drop n w ≡ c ∷ drop m w
    part-seen =
        slice-stands rest 0 (length rest) (drop n w) (word_at-sound rest (drop n w) 0 (length rest) tt rest-read)
        ∙ sym (slice-stands rest 0 (length rest) rest (stands-whole rest))

pub number-known : (n : Next) (d : Document) (m : PartialNumber) (t : List ℕ) (o : Opened) → ReadSoFar n d t o
    → ReadSoFar n (record d { number = m }) t o
number-known n d m t o =
    known-as n d (record d { number = m }) t o (refl, refl, refl)

pub reading-names : (d : Document) (p : Settings) → IsReading d p → p.allow_inf_nan ≡ d.settings.allow_inf_nan
reading-names d p (by_mode, is, none) = ap (λ q. q.allow_inf_nan) is
reading-names d p (strict, is, none) = ap (λ q. q.allow_inf_nan) is

reading-allows : (d : Document) (p : Settings) (k : WordValue) → IsReading d p → IsAllowed d.settings k → IsAllowed p k
reading-allows d p (name.Literal l) h ok = tt
reading-allows d p name.NaN h ok = reading-names d p h ∙ ok
reading-allows d p name.Infinity h ok = reading-names d p h ∙ ok
reading-allows d p name.MinusInfinity h ok = reading-names d p h ∙ ok

-- A scalar with an error is refused.
pub scalar-refused : (n m : Next) (d : Document) (t w : List ℕ) (fs : List OpenFrame) (b : ℕ) (k : Kind) (i : ℕ)
    → ReadSoFar n d t (in_scalar fs b) → Follows n w m → is_forgiven k ≡ false
    → ((p : Settings) (u : List ℕ) → IsReading d p → MayFollow m u
    → value_in (rules_as owned p) (t ++ (w ++ u)) (length fs) b ≡ fault k i b)
    → IsRefused d m (t ++ w) k i
scalar-refused n m d t w fs b k i known follows bad fails = λ p u reading comes. (
  b,
  ap (prefix_answer (rules_as owned p)) (append_assoc t w u)
      ∙ reads-so n d t (in_scalar fs b) p known reading (w ++ u) (follows u comes)
      ∙ ap (resume (rules_as owned p) (t ++ (w ++ u)) fs) (fails p u reading comes)
      ∙ resume-fault (rules_as owned p) (t ++ (w ++ u)) fs k i b (kept p (t ++ (w ++ u)) k bad),
)

-- ---- tokens that begin

-- a scalar, of which these bytes begin with the one that comes
pub scalar-begins : (d e : Document) (t : List ℕ) (c : ℕ) (w : List ℕ) (fs : List OpenFrame) → BeginsHere c d t fs
    → Keeps d e → e.value ≡ d.value → e.begin ≡ d.position → HoldsScalar e e.token (c ∷ w)
    → HasTakenIn any_bytes e (t ++ c ∷ w)
scalar-begins d e t c w fs h k value begin held = record {
  opened = in_scalar fs (length t);
  known = known-in (with_byte c) any_bytes d e t (c ∷ w) (in_scalar fs (length t)) h.low k
      (λ u comes. (w ++ u, refl)) h.known;
  held = λ unset. (
    c ∷ w,
    record { prefix = t; is = refl; begin = refl; place = begin ∙ h.position },
    held,
    subst (λ v. IsLeft v (at_value awaits.Value fs)) (sym value) h.left,
    h.low,
  );
}

pub word-held : (k : WordValue) (o : PartialWord) (c : ℕ) → WordBegins k c → o.word.now ≡ name_word k → o.seen ≡ 1
    → HoldsWord k o (c ∷ [])
word-held k o c h is one = record {
  word = is;
  spelled = ap (λ n. c ∷ drop n o.word.now) one ∙ ap (λ v. c ∷ drop 1 v) is ∙ h.spelled;
  goes = λ t b s. h.goes t b s.0 ∙ ap (λ v. word_from v 1 t (b + 1)) (sym is)
      ∙ ap (λ n. word_from o.word.now n t (b + 1)) (sym one);
}

pub word-begins : (d e : Document) (k : WordValue) (t : List ℕ) (c : ℕ) (fs : List OpenFrame) → BeginsHere c d t fs
    → Keeps d e → e.value ≡ d.value → e.begin ≡ d.position → e.token ≡ token.Word → e.name ≡ k
    → HoldsWord k e.word (c ∷ []) → IsAllowed d.settings k → start_of c ≡ name_start k
    → HasTakenIn any_bytes e (t ++ c ∷ [])
word-begins d e k t c fs h keeps value begin tok is held ok starts =
    scalar-begins d e t c [] fs h keeps value begin
    (subst (λ o. HoldsScalar e o (c ∷ [])) (sym tok)
    (subst (λ n. HoldsWord n e.word (c ∷ []) × IsAllowed e.settings n × BeginsAs (c ∷ []) (name_start n)) (sym is) (
      held,
      subst (λ s. IsAllowed s k) (sym keeps.0) ok,
      record { first = c; rest = []; is = refl; starts = starts },
    )))

-- a number, with bytes after its first one
pub number-begins : (d e : Document) (t : List ℕ) (c : ℕ) (w : List ℕ) (fs : List OpenFrame) → BeginsHere c d t fs
    → Keeps d e → e.value ≡ d.value → e.begin ≡ d.position → e.token ≡ token.Number → e.number ≡ d.number
    → start_of c ≡ start.Number → HoldsNumber d.number (c ∷ w) → HasTakenIn any_bytes e (t ++ c ∷ w)
number-begins d e t c w fs h keeps value begin tok is starts held =
    scalar-begins d e t c w fs h keeps value begin
    (subst (λ o. HoldsScalar e o (c ∷ w)) (sym tok) (
      subst (λ n. HoldsNumber n (c ∷ w)) (sym is) held,
      record { first = c; rest = w; is = refl; starts = starts },
    ))

-- No other byte than the letter of a name begins a number that is no decimal one.
pub infinity-first : (c : ℕ) → start_of c ≡ start.Number → begins_decimal c ≡ false → (c == 78) ≡ false → c ≡ 73
infinity-first c h named n = grind (arith, nat_tests, h, named, n)

-- a name where names are not allowed
pub name-denied : (d : Document) (k : WordValue) (t : List ℕ) (c : ℕ) (fs : List OpenFrame) → BeginsHere c d t fs
    → NameBegins k c → d.settings.allow_inf_nan ≡ false
    → IsRefused d any_bytes (t ++ c ∷ []) expected_value d.position
name-denied d k t c fs h begins off =
    subst (λ i. IsRefused d any_bytes (t ++ c ∷ []) expected_value i) (sym h.position)
    (scalar-refused (with_byte c) any_bytes d t (c ∷ []) fs (length t) expected_value (length t) h.known (follows-byte c)
    refl
    (λ p u reading comes.
    let here = byte-first c t u in
    number-failed p (t ++ c ∷ u) (length fs) (length t) c h.low here expected_value (length t)
    (begins.starts ∙ begins.number)
    (ap (λ n. number_span n (t ++ c ∷ u) (length t)) (reading-names d p reading ∙ off)
    ∙ begins.denied (t ++ c ∷ u) (length t) here)))

-- a string
string-held : (e : Document) (c : ℕ) → c ≡ 34 → HasTaken e.string [] → HoldsString e (c ∷ [])
string-held e c is fresh = record { rest = []; is = ap (λ x. x ∷ []) is; taken = fresh }

pub string-begins : (d e : Document) (t : List ℕ) (c : ℕ) (fs : List OpenFrame) → BeginsHere c d t fs → Keeps d e
    → e.value ≡ d.value → e.begin ≡ d.position → e.token ≡ token.Text → c ≡ 34 → HasTaken e.string []
    → HasTakenIn any_bytes e (t ++ c ∷ [])
string-begins d e t c fs h keeps value begin tok is fresh =
    scalar-begins d e t c [] fs h keeps value begin
    (subst (λ o. HoldsScalar e o (c ∷ [])) (sym tok) (string-held e c is fresh))

-- ---- tokens that go on and end

-- The word or the number that is unfinished: where it begins, and its bytes so far
pub record Unfinished (d : Document) (t : List ℕ) (k : Token) : Type 0 where
  pub frames : List OpenFrame
  pub begin : ℕ
  pub bytes : List ℕ
  pub known : ReadSoFar any_bytes d t (in_scalar frames begin)
  pub from : TakenFrom d t begin bytes
  pub held : HoldsScalar d k bytes
  pub left : IsLeft d.value (at_value awaits.Value frames)
  pub low : length frames ≤ nesting_limit

-- a word's or a number's token
abbrev pub IsPlain : Token → Type 0
IsPlain k = (k ≡ token.Word) ⊎ (k ≡ token.Number)

plain-nothing : (k : Token) → IsPlain k → k ≡ token.Nothing → ⊥
plain-nothing k (inl e) n = absurd (cc)
plain-nothing k (inr e) n = absurd (cc)

plain-key : (k : Token) → IsPlain k → k ≡ token.Key → ⊥
plain-key k (inl e) n = absurd (cc)
plain-key k (inr e) n = absurd (cc)

unfinished-in : (d : Document) (t : List ℕ) (k : Token) (o : Opened) → d.token ≡ k → IsPlain k
    → ReadSoFar any_bytes d t o → HoldsOpened d t o → Unfinished d t k
unfinished-in d t k (between_tokens s) is plain known h = absurd (plain-nothing k plain (sym is ∙ h.0))
unfinished-in d t k (in_scalar fs b) is plain known h = record {
  frames = fs;
  begin = b;
  bytes = h.0;
  known = known;
  from = h.1;
  held = subst (λ k. HoldsScalar d k h.0) is h.2;
  left = h.3;
  low = h.4;
}
unfinished-in d t k (in_key fs ms b) is plain known h = absurd (plain-key k plain (sym is ∙ h.2))

unfinished : (d : Document) (t : List ℕ) (k : Token) → IsPlain k → HasTakenAll d t → d.fault ≡ None
    → d.token ≡ k → Unfinished d t k
unfinished d t k plain h unset is = unfinished-in d t k h.read.opened is plain h.read.known (h.read.held unset)

pub word-open : (d : Document) (t : List ℕ) → HasTakenAll d t → d.fault ≡ None → d.token ≡ token.Word
    → Unfinished d t token.Word
word-open d t h unset is = unfinished d t token.Word (inl refl) h unset is

pub number-open : (d : Document) (t : List ℕ) → HasTakenAll d t → d.fault ≡ None → d.token ≡ token.Number
    → Unfinished d t token.Number
number-open d t h unset is = unfinished d t token.Number (inr refl) h unset is

-- The same first byte begins more bytes.
begins-more : (w v : List ℕ) (s : Start) → BeginsAs w s → BeginsAs (w ++ v) s
begins-more w v s h = record {
  first = h.first;
  rest = h.rest ++ v;
  is = ap (λ x. x ++ v) h.is;
  starts = h.starts;
}

module _ (d : Document) (t : List ℕ) (k : Token) (x : Unfinished d t k) where
  bytes-end : x.begin + length x.bytes ≡ length t
  bytes-end = held-end x.from.prefix x.bytes t x.begin x.from.is x.from.begin

  bytes-stand : (u : List ℕ) → Stands (t ++ u) x.begin (x.begin + length x.bytes) x.bytes
  bytes-stand u = held-stands x.from.prefix x.bytes t x.begin x.from.is x.from.begin u

  first-stands : (s : Start) (g : BeginsAs x.bytes s) (u : List ℕ) → slice_get (t ++ u) x.begin ≡ Some g.first
  first-stands s g u =
      (subst (λ w. Stands (t ++ u) x.begin (x.begin + length x.bytes) w) g.is (bytes-stand u)).0

  next-stands : (u : List ℕ) (c : ℕ) → slice_get (t ++ c ∷ u) (x.begin + length x.bytes) ≡ Some c
  next-stands u c = ap (slice_get (t ++ c ∷ u)) bytes-end ∙ byte-first c t u

  -- The bytes w are taken into it.
  pub token-on : (e : Document) (w : List ℕ) → Keeps d e → e.value ≡ d.value → e.begin ≡ d.begin
      → HoldsScalar e e.token (x.bytes ++ w) → HasTakenIn any_bytes e (t ++ w)
  token-on e w keeps value begin held = record {
    opened = in_scalar x.frames x.begin;
    known = known-in any_bytes any_bytes d e t w (in_scalar x.frames x.begin) x.low keeps (λ u comes. tt) x.known;
    held = λ unset. (
      x.bytes ++ w,
      record {
        prefix = x.from.prefix;
        is = ap (λ v. v ++ w) x.from.is ∙ append_assoc x.from.prefix x.bytes w;
        begin = x.from.begin;
        place = begin ∙ x.from.place;
      },
      held,
      subst (λ v. IsLeft v (at_value awaits.Value x.frames)) (sym value) x.left,
      x.low,
    );
  }

-- ---- a byte of a word
module _ (k : WordValue) (o m : PartialWord) (w : List ℕ) (c : ℕ) (h : HoldsWord k o w) where
  -- one more of it
  word-on : m.word.now ≡ o.word.now
      → ((t : List ℕ) (j : ℕ) → slice_get t j ≡ Some c
      → word_from o.word.now o.seen t j ≡ word_by o.word.now m.seen t j seen.Part)
      → HoldsWord k m (w ++ c ∷ [])
  word-on same leads = record {
    word = same ∙ h.word;
    spelled = append_assoc w (c ∷ []) (drop m.seen m.word.now) ∙ ap (λ v. w ++ c ∷ drop m.seen v) same
        ∙ ap (λ v. w ++ v) (sym (part-seen o.word.now o.seen m.seen c leads)) ∙ h.spelled;
    goes = λ t b s.
        let a = stands-split t b (b + length (w ++ c ∷ [])) w (c ∷ []) s in
        let place = stands-length t b a.0 w a.1 in
        let more : b + length w + 1 ≡ b + length (w ++ c ∷ []) = omega (arith, length-append w (c ∷ [])) in
        h.goes t b (subst (λ j. Stands t b j w) place a.1)
        ∙ leads t (b + length w) (ap (slice_get t) (sym place) ∙ a.2.0)
        ∙ ap (word_from o.word.now m.seen t) more
        ∙ ap (λ v. word_from v m.seen t (b + length (w ++ c ∷ []))) (sym same);
  }

  -- its last byte, after the others
  module _ (leads : (t : List ℕ) (j : ℕ) → slice_get t j ≡ Some c
      → word_from o.word.now o.seen t j ≡ word_by o.word.now m.seen t j seen.Last)
      (t : List ℕ) (b : ℕ) (s : Stands t b (b + length w) w) (here : slice_get t (b + length w) ≡ Some c) where
    abbrev j : ℕ
    j = b + length w

    last-span : name_span k t b ≡ taken tt (j + 1)
    last-span = h.goes t b s ∙ leads t j here

    last-bytes : slice_range t b (j + 1) ≡ name_bytes k
    last-bytes =
        let left = drop o.seen o.word.now in
        let tail = word_at-sound t left j (j + 1) tt (leads t j here) in
        sym (slice-stands t b (j + 1) (w ++ left) (stands-append t b j (j + 1) w left s tail)) ∙ h.spelled

module _ (d : Document) (t : List ℕ) (x : Unfinished d t token.Word) (m : PartialWord) (c : ℕ) where
  abbrev o : PartialWord
  o = d.word

  abbrev on : List ℕ → List ℕ
  on u = t ++ c ∷ u

  -- A word goes on,
  pub word-goes-on : d.token ≡ token.Word → m.word.now ≡ d.word.word.now
      → ((t : List ℕ) (j : ℕ) → slice_get t j ≡ Some c
      → word_from d.word.word.now d.word.seen t j ≡ word_by d.word.word.now m.seen t j seen.Part)
      → HasTakenIn any_bytes (record d { word = m }) (t ++ c ∷ [])
  word-goes-on is same leads =
      let e : Document = record d { word = m } in
      token-on d t token.Word x e (c ∷ []) (refl, refl, refl) refl refl
      (subst (λ k. HoldsScalar e k (x.bytes ++ c ∷ [])) (sym is) (
        word-on d.name d.word m x.bytes c x.held.0 same leads,
        x.held.1,
        begins-more x.bytes (c ∷ []) (name_start d.name) x.held.2,
      ))

  -- ends,
  pub word-ends : ((t : List ℕ) (j : ℕ) → slice_get t j ≡ Some c
      → word_from d.word.word.now d.word.seen t j ≡ word_by d.word.word.now m.seen t j seen.Last)
      → IsReadAs d any_bytes (t ++ c ∷ []) (length x.frames) x.begin (name_tree d.name)
  word-ends leads = λ p u reading comes.
      let place : x.begin + length x.bytes + 1 ≡ length (t ++ c ∷ []) =
      omega (arith, bytes-end d t token.Word x, length-append t (c ∷ [])) in
      let stands = bytes-stand d t token.Word x (c ∷ u) in
      let here = next-stands d t token.Word x u c in
      ap (λ v. value_in (rules_as owned p) v (length x.frames) x.begin) (append_assoc t (c ∷ []) u)
      ∙ word-done p (on u) (length x.frames) x.begin x.held.2.first x.low
      (first-stands d t token.Word x (name_start d.name) x.held.2 (c ∷ u)) d.name (x.begin + length x.bytes + 1)
      x.held.2.starts (reading-allows d p d.name reading x.held.1)
      (last-span d.name d.word m x.bytes c x.held.0 leads (on u) x.begin stands here)
      (last-bytes d.name d.word m x.bytes c x.held.0 leads (on u) x.begin stands here)
      ∙ ap (done (name_tree d.name)) place

  -- or is none.
  pub word-refused : d.position ≡ length t
      → ((t : List ℕ) (j : ℕ) → slice_get t j ≡ Some c
      → word_from d.word.word.now d.word.seen t j ≡ word_by d.word.word.now m.seen t j seen.Other)
      → IsRefused d any_bytes (t ++ c ∷ []) expected_ident d.position
  word-refused at leads =
      scalar-refused any_bytes any_bytes d t (c ∷ []) x.frames x.begin expected_ident d.position x.known (λ u comes. tt) refl
      (λ p u reading comes.
      let place : x.begin + length x.bytes ≡ d.position = bytes-end d t token.Word x ∙ sym at in
      word-failed p (on u) (length x.frames) x.begin x.held.2.first x.low
      (first-stands d t token.Word x (name_start d.name) x.held.2 (c ∷ u)) d.name expected_ident d.position
      x.held.2.starts (reading-allows d p d.name reading x.held.1)
      (x.held.0.goes (on u) x.begin (bytes-stand d t token.Word x (c ∷ u))
      ∙ leads (on u) (x.begin + length x.bytes) (next-stands d t token.Word x u c)
      ∙ ap (failed expected_ident) place))

-- ---- a byte of a number

-- None is taken: it holds the same ones.
number-same : (n m : PartialNumber) (w : List ℕ) → HoldsNumber n w → string_bytes m.text ≡ string_bytes n.text
    → m.stage ≡ n.stage → HoldsNumber m w
number-same n m w h text stage = record {
  text = text ∙ h.text;
  begun = subst (IsBegun w) (sym stage) h.begun;
  goes = λ names t b stands.
      h.goes names t b stands ∙ ap (λ s. number_from names s t (b + length w)) (sym stage);
}

pub number-stays : (d : Document) (m : PartialNumber) (t : List ℕ) → HasTakenAll d t → d.fault ≡ None
    → d.token ≡ token.Number → string_bytes m.text ≡ string_bytes d.number.text → m.stage ≡ d.number.stage
    → HasTakenAll (record d { number = m }) t
number-stays d m t h unset is text stage =
    let x = number-open d t h unset is in
    let e : Document = record d { number = m } in
    record {
      read =
          record {
            opened = in_scalar x.frames x.begin;
            known = number-known any_bytes d m t (in_scalar x.frames x.begin) x.known;
            held = λ none. (
              x.bytes,
              record { prefix = x.from.prefix; is = x.from.is; begin = x.from.begin; place = x.from.place },
              subst (λ k. HoldsScalar e k x.bytes) (sym is)
                  (number-same d.number m x.bytes x.held.0 text stage, x.held.1),
              x.left,
              x.low,
            );
          };
      position = h.position;
    }

-- It goes on with these bytes.
pub number-takes : (d : Document) (m : PartialNumber) (t v : List ℕ) → HasTakenAll d t → d.fault ≡ None
    → d.token ≡ token.Number → ((w : List ℕ) → HoldsNumber d.number w → HoldsNumber m (w ++ v))
    → HasTakenIn any_bytes (record d { number = m }) (t ++ v)
number-takes d m t v h unset is more =
    let x = number-open d t h unset is in
    let e : Document = record d { number = m } in
    token-on d t token.Number x e v (refl, refl, refl) refl refl
    (subst (λ k. HoldsScalar e k (x.bytes ++ v)) (sym is)
    (more x.bytes x.held.0, begins-more x.bytes v start.Number x.held.1))

module _ (d : Document) (t : List ℕ) (x : Unfinished d t token.Number) (c : ℕ) where
  -- what is said of the byte after its bytes
  span-by : (w : NumberStep) → StepsTo d.number.stage c w → (names : Bool) (u : List ℕ)
      → number_span names (t ++ c ∷ u) x.begin ≡ number_by names (t ++ c ∷ u) (length t) w
  span-by w leads names u =
      x.held.0.goes names (t ++ c ∷ u) x.begin (bytes-stand d t token.Number x (c ∷ u))
      ∙ ap (number_from names d.number.stage (t ++ c ∷ u)) (bytes-end d t token.Number x)
      ∙ leads names (t ++ c ∷ u) (length t) (byte-first c t u)

  number-reads : StepsTo d.number.stage c went.Over
      → IsReadAs d (with_byte c) t (length x.frames) x.begin (own_number x.bytes)
  number-reads leads = λ p u reading comes.
      let v = comes.0 in
      let all = t ++ c ∷ v in
      let stands = subst (λ e. Stands all x.begin e x.bytes) (bytes-end d t token.Number x)
      (bytes-stand d t token.Number x (c ∷ v)) in
      ap (λ w. value_in (rules_as owned p) (t ++ w) (length x.frames) x.begin) comes.1
      ∙ number-done p all (length x.frames) x.begin x.held.1.first x.low
      (first-stands d t token.Number x start.Number x.held.1 (c ∷ v)) x.bytes (length t) x.held.1.starts
      (span-by went.Over leads p.allow_inf_nan v)
      (sym (slice-stands all x.begin (length t) x.bytes stands))

  -- or it is refused,
  pub number-refused : (w : NumberStep) (k : Kind) (i : ℕ) → is_forgiven k ≡ false → StepsTo d.number.stage c w
      → ((names : Bool) (u : List ℕ) → number_by names u (length t) w ≡ failed k i)
      → IsRefused d any_bytes (t ++ c ∷ []) k i
  number-refused w k i bad leads fails =
      scalar-refused any_bytes any_bytes d t (c ∷ []) x.frames x.begin k i x.known (λ u comes. tt) bad
      (λ p u reading comes.
      number-failed p (t ++ c ∷ u) (length x.frames) x.begin x.held.1.first x.low
      (first-stands d t token.Number x start.Number x.held.1 (c ∷ u)) k i x.held.1.starts
      (span-by w leads p.allow_inf_nan u ∙ fails p.allow_inf_nan (t ++ c ∷ u)))

  -- or ends before the byte,
  pub number-ends : StepsTo d.number.stage c went.Over
      → IsReadAs d (with_byte c) t (length x.frames) x.begin (own_number (string_bytes d.number.text))
  number-ends leads =
      subst (λ w. IsReadAs d (with_byte c) t (length x.frames) x.begin (own_number w)) (sym x.held.0.text)
      (number-reads leads)

  -- or its minus is alone.
  pub number-minus : x.bytes ≡ 45 ∷ [] → HoldsMinus d t x.frames x.begin
  number-minus minus = record {
    prefix = x.from.prefix;
    is = x.from.is ∙ ap (λ w. x.from.prefix ++ w) minus;
    begin = x.from.begin;
    place = x.from.place;
    left = x.left;
    low = x.low;
  }

-- ---- a number that lies whole in a chunk, with the byte after it

pub decimal-starts : (c : ℕ) → begins_decimal c ≡ true → start_of c ≡ start.Number
decimal-starts c h = grind (arith, nat_tests, h)

-- the bytes of a chunk from a place on begin with the one there
pub range-first : (chunk : List ℕ) (at e : ℕ) → at < e → e ≤ length chunk
    → slice_range chunk at e ≡ get_or chunk at 0 ∷ slice_range chunk (at + 1) e
range-first chunk at e lt le =
    slice_range-split chunk at (at + 1) (omega arith) e (omega arith)
    ∙ ap (λ w. w ++ slice_range chunk (at + 1) e)
    (slice-one chunk at (get_or chunk at 0) (slice_get-get_or chunk at 0 (omega arith)))

module _ (d : Document) (t : List ℕ) (fs : List OpenFrame) (chunk : List ℕ) (at : ℕ) (v : Tree) (e : ℕ)
    (here : BeginsHere (get_or chunk at 0) d t fs) (h : IsNumberWithin chunk at v e) where
  abbrev first : ℕ
  first = get_or chunk at 0

  abbrev bytes : List ℕ
  bytes = slice_range chunk at e

  bytes-are : bytes ≡ first ∷ slice_range chunk (at + 1) e
  bytes-are = range-first chunk at e (omega (arith, h.ends.begins)) (omega (arith, h.ends.within))

  bytes-long : length bytes ≡ e - at
  bytes-long =
      let end : at + (e - at) ≡ e = omega (arith, h.ends.begins) in
      ap (λ k. length (slice_range chunk at k)) (sym end)
      ∙ range-long chunk at (e - at) (omega (arith, h.ends.begins, h.ends.within))

  read-within : (p : Settings) (u : List ℕ) → MayFollow (with_byte (get_or chunk e 0)) u
      → value_in (rules_as owned p) ((t ++ bytes) ++ u) (length fs) (length t) ≡ done v (length (t ++ bytes))
  read-within p u comes =
      let all = (t ++ bytes) ++ u in
      let b = length t in
      let count : b + length bytes ≡ b + (e - at) = omega (arith, bytes-long) in
      let stands = held-stands t bytes (t ++ bytes) b refl refl u in
      let place : length (t ++ bytes) ≡ b + (e - at) = omega (arith, length-append t bytes, bytes-long) in
      let after : slice_get all (b + (e - at)) ≡ Some (get_or chunk e 0) =
      ap (λ w. slice_get ((t ++ bytes) ++ w) (b + (e - at))) comes.1
      ∙ ap (slice_get ((t ++ bytes) ++ get_or chunk e 0 ∷ comes.0)) (sym place)
      ∙ byte-first (get_or chunk e 0) (t ++ bytes) comes.0 in
      let same = after ∙ sym (slice_get-get_or chunk e 0 h.ends.within) in
      let standing : Stands all b (b + (e - at)) bytes = subst (λ k. Stands all b k bytes) count stands in
      let begun = subst (λ w. Stands all b (b + length bytes) w) bytes-are stands in
      let is : own_number bytes ≡ v =
      ap (λ n. tree_as owned_text (number_tree n)) (sym h.ends.value) ∙ sym h.is in
      number-done p all (length fs) b first here.low begun.0 bytes (b + (e - at)) (decimal-starts first h.begins)
      (h.ends.reads p.allow_inf_nan all b standing same) (sym (slice-stands all b (b + (e - at)) bytes standing))
      ∙ ap (λ x. done x (b + (e - at))) is ∙ ap (done v) (sym place)

  pub number-within-ends : EndsBefore d t bytes (get_or chunk e 0) fs v
  number-within-ends = record {
    first = first;
    rest = slice_range chunk (at + 1) e;
    is = bytes-are;
    begins = here;
    reads = λ p u reading comes. read-within p u comes;
  }

-- the bytes of a chunk to before a place, and the one there
pub range-more : (chunk : List ℕ) (at e : ℕ) → at ≤ e → e < length chunk
    → slice_range chunk at e ++ get_or chunk e 0 ∷ [] ≡ slice_range chunk at (e + 1)
range-more chunk at e le h =
    sym
    (slice_range-split chunk at e le (e + 1) (omega arith)
    ∙ ap (λ w. slice_range chunk at e ++ w) (slice-one chunk e (get_or chunk e 0) (slice_get-get_or chunk e 0 h)))

pub range-after : (t chunk : List ℕ) (at e : ℕ) → at ≤ e → e < length chunk
    → (t ++ slice_range chunk at e) ++ get_or chunk e 0 ∷ [] ≡ t ++ slice_range chunk at (e + 1)
range-after t chunk at e le h =
    append_assoc t (slice_range chunk at e) (get_or chunk e 0 ∷ []) ∙ ap (λ w. t ++ w) (range-more chunk at e le h)
