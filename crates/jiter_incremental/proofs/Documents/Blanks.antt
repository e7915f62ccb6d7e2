-- Whitespace of a document that arrives in chunks: a run of them is taken at once, and before the first byte that is none
-- no memory is wanted.
use Rattle.jiter_incremental.proofs.Words.{◌≡◌, ◌≢◌, ℕ, zero, suc, ◌+◌, ◌-◌, ◌<◌, ◌≤◌, true, false, List, [], ◌∷◌, ◌++◌}
use Rattle.jiter_incremental.proofs.Words.{length, take, drop, ◌⊎◌, get_or, inl, inr, refl, sym, ap, ◌∙◌, subst, arith}
use Rattle.jiter_incremental.proofs.Words.{append_assoc, length-append, slice_get, slice_range, Some, None, Result, Ok}
use Rattle.jiter_incremental.proofs.Words.{Err, OnErr, false≢true, append-nil, take-append-drop, take_more}
use Rattle.jiter_incremental.proofs.Words.{get_or_from_slice_get, slice_get-get_or, slice_get_within, slice-one}
use Rattle.jiter_incremental.proofs.Words.{slice_range-split, is_blank, past_blanks, IsScalarStart, Document}
use Rattle.jiter_incremental.proofs.Words.{HasTakenIn, HoldsOpened, HoldsScalar, MayRefuseAt, Opened, any_bytes}
use Rattle.jiter_incremental.proofs.Words.{between_tokens, in_key, in_scalar, with_byte, Token}
use Rattle.std.proofs.lemmas.Bool.{cases_lt}
use Rattle.std.proofs.lemmas.List.{get_or_append_left}
use Rattle.std.proofs.lemmas.Option.{slice_get_read}
use Rattle.jiter_scan.proofs.Runs.{run_end-passes}
use Rattle.jiter_steps.proofs.Grammar.Blanks.{no_blank-after, past_blanks-bound}
use Rattle.jiter_incremental.specs.declared.reader.Token.TheVariants as token
use Rattle.jiter_incremental.proofs.Documents.Ends.{name-starts, no-blank}
use Rattle.jiter_incremental.proofs.Documents.{byte-first, known-any, taken-between, takes-byte}
use Rattle.jiter_incremental.proofs.Between.{goes-blank}

-- whitespace is taken
blank-taken : (d : Document) (t : List ℕ) (c : ℕ) → HasTakenIn any_bytes d t → d.fault ≡ None
    → d.token ≡ token.Nothing → is_blank c ≡ true → HasTakenIn any_bytes d (t ++ c ∷ [])
blank-taken d t c h unset none blank =
    let b = taken-between any_bytes d t h unset none in
    takes-byte d d.value c t b.state (known-any (with_byte c) d t (between_tokens b.state) b.known) none
    (goes-blank d.value b.state c blank b.left)

module _ (d : Document) (t : List ℕ) (h : HasTakenIn any_bytes d t) (unset : d.fault ≡ None)
    (none : d.token ≡ token.Nothing) (s : List ℕ) (i : ℕ) where
  -- and each of so many
  blanks-taken : (n : ℕ) → i + n ≤ length s → ((k : ℕ) → i ≤ k → k < i + n → is_blank (get_or s k 0) ≡ true)
      → HasTakenIn any_bytes d (t ++ slice_range s i (i + n))
  blanks-taken zero within each =
      let nothing : i + zero - i ≡ 0 = omega arith in
      let empty : slice_range s i (i + zero) ≡ [] = ap (λ n. take n (drop i s)) nothing in
      subst (HasTakenIn any_bytes d) (sym (ap (λ w. t ++ w) empty ∙ append-nil t)) h
  blanks-taken (suc n) within each =
      let j = i + n in
      let c = get_or s j 0 in
      let w = slice_range s i j in
      let here : j < length s = omega arith in
      let end : j + 1 ≡ i + suc n = omega arith in
      let one = blank-taken d (t ++ w) c (blanks-taken n (omega arith) (λ k from to. each k from (omega arith))) unset
      none (each j (omega arith) (omega arith)) in
      let last = slice-one s j c (slice_get-get_or s j 0 here) in
      let all : w ++ c ∷ [] ≡ slice_range s i (j + 1) =
      ap (λ u. w ++ u) (sym last) ∙ sym (slice_range-split s i j (omega arith) (j + 1) (omega arith)) in
      subst (HasTakenIn any_bytes d)
      (append_assoc t w (c ∷ []) ∙ ap (λ u. t ++ u) (all ∙ ap (slice_range s i) end)) one

  -- A run of whitespace is taken.
  pub run-taken : (n : ℕ) → i + n ≡ past_blanks s i → i ≤ length s → HasTakenIn any_bytes d (t ++ slice_range s i (i + n))
  unfolding past_blanks
  run-taken n end le =
      let bound = past_blanks-bound s i le in
      blanks-taken n (omega arith) (λ k from to. run_end-passes is_blank s i k from (omega arith))

-- a byte that is not whitespace is not passed
blank-stops : (s : List ℕ) (i c : ℕ) → slice_get s i ≡ Some c → is_blank c ≡ false → past_blanks s 0 ≤ i
unfolding past_blanks
blank-stops s i c here other = by (cases_lt i (past_blanks s 0)) where
  by : (i < past_blanks s 0) ⊎ (past_blanks s 0 ≤ i) → past_blanks s 0 ≤ i
  by (inr le) = le
  by (inl lt) =
      let passed = run_end-passes is_blank s 0 i (omega arith) lt in
      let same = ap is_blank (get_or_from_slice_get s i c 0 here) in
      absurd (false≢true (sym other ∙ sym same ∙ passed))

-- Before a byte that is not whitespace an allocation may fail.
pub refuse-here : (t : List ℕ) (c : ℕ) → is_blank c ≡ false → MayRefuseAt (t ++ c ∷ []) (length t)
refuse-here t c other = record {
  begun = blank-stops (t ++ c ∷ []) (length t) c (byte-first c t []) other;
  before = omega (arith, length-append t (c ∷ []));
}

-- a byte is not whitespace
pub record HasByte (t : List ℕ) : Type 0 where
  pub place : ℕ
  pub byte : ℕ
  pub here : slice_get t place ≡ Some byte
  pub other : is_blank byte ≡ false

before-more : (s r : List ℕ) (i c : ℕ) → slice_get s i ≡ Some c → slice_get (s ++ r) i ≡ Some c
before-more s r i c here =
    let lt = slice_get_within s i c here in
    slice_get_read (s ++ r) (length (s ++ r)) i c refl (omega (arith, length-append s r))
    (sym (get_or_append_left s r c i lt ∙ get_or_from_slice_get s i c c here))

-- after it too
pub refuse-after : (t : List ℕ) (c : ℕ) → HasByte t → MayRefuseAt (t ++ c ∷ []) (length t)
refuse-after t c b =
    let lt = slice_get_within t b.place b.byte b.here in
    let stops = blank-stops (t ++ c ∷ []) b.place b.byte (before-more t (c ∷ []) b.place b.byte b.here) b.other in
    record { begun = omega arith; before = omega (arith, length-append t (c ∷ [])) }

-- whatever comes
pub refuse-on : (s r : List ℕ) (i : ℕ) → MayRefuseAt s i → MayRefuseAt (s ++ r) i
refuse-on s r i h =
    let j = past_blanks s 0 in
    let c = get_or s j 0 in
    let lt : j < length s = omega (arith, h.begun, h.before) in
    let here = slice_get-get_or s j 0 lt in
    let stops = blank-stops (s ++ r) j c (before-more s r j c here) (no_blank-after s 0 (Some c) here) in
    record { begun = omega (arith, h.begun); before = omega (arith, h.before, length-append s r) }

-- a token begins with a byte that is not whitespace
scalar-begins : (d : Document) (k : Token) (w : List ℕ) → HoldsScalar d k w
    → (c : ℕ) × (rest : List ℕ) × (w ≡ c ∷ rest) × (is_blank c ≡ false)
scalar-begins d token.Word w h =
    let b = h.2 in (b.first, b.rest, b.is, no-blank b.first (subst IsScalarStart (sym b.starts) (name-starts d.name)))
scalar-begins d token.Number w h =
    let b = h.1 in (b.first, b.rest, b.is, no-blank b.first (subst IsScalarStart (sym b.starts) tt))
scalar-begins d token.Text w h = (34, h.rest, h.is, refl)
scalar-begins d other w h = absurd h

pub held-byte : (d : Document) (t : List ℕ) (o : Opened) → HoldsOpened d t o → d.token ≢ token.Nothing → HasByte t
held-byte d t (between_tokens s) h begun = absurd (begun h.0)
held-byte d t (in_scalar fs b) h begun =
    let f = h.1 in
    let w = scalar-begins d d.token h.0 h.2 in
    let is : t ≡ f.prefix ++ w.0 ∷ w.1 = f.is ∙ ap (λ u. f.prefix ++ u) w.2 in
    record {
      place = length f.prefix;
      byte = w.0;
      here = ap (λ u. slice_get u (length f.prefix)) is ∙ byte-first w.0 f.prefix w.1;
      other = w.3;
    }
held-byte d t (in_key fs ms b) h begun =
    let f = h.1 in
    let q = h.3 in
    let is : t ≡ f.prefix ++ 34 ∷ q.rest = f.is ∙ ap (λ u. f.prefix ++ u) q.is in
    record {
      place = length f.prefix;
      byte = 34;
      here = ap (λ u. slice_get u (length f.prefix)) is ∙ byte-first 34 f.prefix q.rest;
      other = refl;
    }

-- a byte that is passed is whitespace
pub first-blank : (s : List ℕ) (i : ℕ) → i < past_blanks s i → is_blank (get_or s i 0) ≡ true
unfolding past_blanks
first-blank s i more = run_end-passes is_blank s i i (omega arith) more

-- a byte that is not passed is not whitespace
pub not-passed : (s : List ℕ) (i : ℕ) → i < length s → past_blanks s i ≡ i → is_blank (get_or s i 0) ≡ false
not-passed s i lt stays =
    no_blank-after s i (Some (get_or s i 0)) (ap (slice_get s) stays ∙ slice_get-get_or s i 0 lt)

-- what holds anyway
pub if-refused : {T E P : Type 0} (r : Result T E) → P → OnErr r P
if-refused (Ok x) p = tt
if-refused (Err e) p = p

-- where a byte of a chunk comes next
pub refuse-inside : (t chunk : List ℕ) (at i : ℕ) → at < length chunk → i ≡ length (t ++ take at chunk)
    → MayRefuseAt ((t ++ take at chunk) ++ get_or chunk at 0 ∷ []) (length (t ++ take at chunk))
    → MayRefuseAt (t ++ chunk) i
refuse-inside t chunk at i lt place h =
    let u = t ++ take at chunk in
    let c = get_or chunk at 0 in
    let rest = drop (at + 1) chunk in
    let parts : (u ++ c ∷ []) ++ rest ≡ t ++ chunk =
    ap (λ w. w ++ rest) (append_assoc t (take at chunk) (c ∷ []) ∙ ap (λ w. t ++ w) (sym (take_more chunk at 0 lt)))
    ∙ append_assoc t (take (at + 1) chunk) rest
    ∙ ap (λ w. t ++ w) (take-append-drop (at + 1) chunk) in
    subst (λ w. MayRefuseAt w i) parts (rw place (refuse-on (u ++ c ∷ []) rest (length u) h))
