-- Values that are read by one call.
use Rattle.std.proofs.Common.{◌≡◌, ◌∙◌, ℕ, ◌<◌, Bool, true, false, if◌then◌else◌, List, length, refl, sym, ap, subst, arith}
use Rattle.std.proofs.lemmas.Option.{get_or_from_slice_get, slice_get_within}
use Rattle.std.specs.Prelude.{Result, Ok, Err, IsErrAnd, Option, Some, None, slice_get, slice_range}
use Rattle.jiter_scan.specs.Number.{Number}
use Rattle.jiter_scan.specs.NumberReading.{Integer, float_seen, int_at, int_seen, number_at}
use Rattle.jiter_scan.specs.Scanned.{Scanned, failed, taken}
use Rattle.jiter_scan.specs.Word.{Span}
use Rattle.jiter_steps.specs.Answer.{only_ends, read_at, seen_as, skip_at}
use Rattle.jiter_steps.specs.Literal.{literal_at, start_of}
use Rattle.jiter_steps.specs.Node.{nesting_limit}
use Rattle.jiter_steps.specs.Read.{Reading, done, fault, inside_at, scalar_at, value_at, value_with}
use Rattle.jiter_steps.specs.StringReading.{kept, raw, string_at, whole}
use Rattle.jiter_steps.specs.Tree.{Text, Tree}
use Rattle.jiter_steps.specs.declared.parse.Literal.TheVariants as literal
use Rattle.jiter_steps.specs.declared.parse.Start.{Start}
use Rattle.jiter_steps.specs.declared.parse.Start.TheVariants as start
use Rattle.jiter_steps.proofs.Calls.SkipLaw.{EndsAlike, skip_at-law}
use Rattle.jiter_steps.proofs.Grammar.StringLaws.{raw-whole}
use Rattle.jiter.specs.Caller.{Node, ReaderState, Reads, Reply, begin, bool_read, bool_told, cause_of, end, gave}
use Rattle.jiter.specs.Caller.{int_read, int_told, never, next, null_read, null_told, number_bytes_read, number_bytes_told}
use Rattle.jiter.specs.Caller.{number_read, number_told, only_at, refused, reply_seen, skip_read, str_read, str_told}
use Rattle.jiter.specs.Caller.{text_bytes, value_of, value_place, value_read}
use Rattle.jiter.specs.Reader.{if_byte, integer_reply, scalar_reply, value_reply}
use Rattle.jiter.specs.Reads.{Memory, RunsOut}
use Rattle.jiter.specs.Jiter.{IsMemory}
use Rattle.jiter.specs.declared.errors.JiterError.{JiterError}
use Rattle.jiter.proofs.Integers.{AgreeAsInteger, int_at-number}
use Rattle.jiter.proofs.Walking.{gave-is, gave-refused}
use Rattle.jiter_walk.specs.declared.walk_error.WalkError.{WalkError}
use Rattle.jiter_walk.specs.declared.walk_error.WalkError.TheVariants as variant
use Rattle.jiter_walk.specs.Walk.{Comes, SkipsTo, Walks}
use Rattle.jiter_walk.specs.Values.{replied}
use Rattle.jiter_walk.proofs.Coming.{comes-tells}
use Rattle.jiter_walk.proofs.Passing.{reader-fails}

-- a reply that gives something gives it up to e
abbrev EndsAt : {A : Type 0} → ℕ → Reply A → Type 0
EndsAt e (gave a i) = i ≡ e
EndsAt e (refused c x stop) = Unit {0}

-- What a call replies for a value that comes next, and how a skip passes what it gives.
pub record Scalar {A : Type 0} (s0 : ReaderState) (r : Reply A) (told : List ℕ → Node → Reply A) : Type 0 where
  pub tells : (n : Node) → Comes s0 n → r ≡ told s0.text n
  pub ends : (n : Node) → EndsAt (end n) (told s0.text n)
  pub skips : s0.partial_strings ≡ false → (a : A) (e : ℕ) → r ≡ gave a e → SkipsTo s0.names s0.text (value_place s0) e

value-given : {X A : Type 0} (when : Memory) (view : X → A) (s0 s : ReaderState) (r : Reply A) (a : X)
    → Reads when view r (Ok a) s0 s → r ≡ gave (view a) s.position
value-given never view s0 s r a h = h.value
value-given (only_at At) view s0 s r a h = h.value

error-given : {X A : Type 0} (when : Memory) (view : X → A) (s0 s : ReaderState) (r : Reply A) (e : JiterError)
    → Reads when view r (Err e) s0 s → (IsMemory e → ⊥) → r ≡ refused (cause_of e.error_type) e.index s.position
error-given never view s0 s r e h bytes = h.value
error-given (only_at At) view s0 s r e h bytes = h.value bytes

runs-out : (when : Memory) (s : ReaderState) (e : JiterError) → RunsOut when s e → s.position ≡ e.index
runs-out never s e h = absurd h
runs-out (only_at At) s e h = h.0

module _ {C X A : Type 0} (when : Memory) (view : X → A) {s0 s : ReaderState} {r : Reply A}
    {told : List ℕ → Node → Reply A} (law : Scalar s0 r told) where
  pub scalar-given : (a : X) → Reads when view r (Ok a) s0 s
      → Walks {C = C} view (λ t n. replied (told t n)) (Ok a) s0 s
  scalar-given a h =
      let is = value-given when view s0 s r a h in
      record {
        moves = h.moves;
        value = λ n comes. ap replied (sym (law.tells n comes) ∙ is);
        place = λ n comes. subst (EndsAt (end n)) (sym (law.tells n comes) ∙ is) (law.ends n);
        reads = λ strict. law.skips strict (view a) s.position is;
        index = tt;
        memory = tt;
      }

  pub scalar-fails : (e : JiterError) (x : Result X (WalkError C)) → IsErrAnd x (λ d. d ≡ variant.Reader e)
      → Reads when view r (Err e) s0 s → Walks view (λ t n. replied (told t n)) x s0 s
  scalar-fails e x is h =
      reader-fails view (λ t n. replied (told t n)) x s0 s h.moves e is
      (λ n comes bytes. ap replied (sym (law.tells n comes) ∙ error-given when view s0 s r e h bytes)) h.index
      (λ m. runs-out when s e (h.memory m))

-- ---- how a skip passes what a call gives
module _ (s0 : ReaderState) where
  abbrev t : List ℕ
  t = s0.text

  abbrev names : Bool
  names = s0.names

  -- what begins so, as a skip reads it
  abbrev skipped : ℕ → Start → Reading (Unit {0})
  skipped i b = value_with (only_ends names) (inside_at (only_ends names) t 0) t i b

  next-skips : {A : Type 0} (read : ℕ → Start → Reply A)
      → ((i : ℕ) → i < length t → (b : Start) (a : A) (e : ℕ) → read i b ≡ gave a e → skipped i b ≡ done (tt {0}) e)
      → (a : A) (e : ℕ) → next s0 read ≡ gave a e → SkipsTo names t (value_place s0) e
  next-skips {A = A} read law a e is = (0, by (slice_get t (value_place s0)) refl is) where
    by : (o : Option ℕ) → slice_get t (value_place s0) ≡ o
        → if_byte (value_place s0) o (λ c. read (value_place s0) (start_of c)) ≡ gave a e
        → value_at (only_ends names) t 0 (value_place s0) ≡ done (tt {0}) e
    by None there h = absurd (gave-refused (sym h))
    by (Some c) there h =
        ap (skipped (value_place s0)) (ap start_of (get_or_from_slice_get t (value_place s0) c 0 there))
        ∙ law (value_place s0) (slice_get_within t (value_place s0) c there) (start_of c) a e h

  span-skips : {A : Type 0} (i : ℕ) (f : Unit {0} → ℕ → A) (x : Span) (a : A) (e : ℕ)
      → scalar_reply i (seen_as f x) ≡ gave a e → scalar_at i x ≡ done (tt {0}) e
  span-skips i f (taken u m) a e h = ap (λ j. done tt j) (gave-is (f u m) a m e h).1
  span-skips i f (failed k j) a e h = absurd (gave-refused (sym h))

  seen-skips : {A B : Type 0} (i : ℕ) (f : B → ℕ → A) (x : Scanned B) (a : A) (e : ℕ)
      → scalar_reply i (seen_as f x) ≡ gave a e → scalar_at i (seen_as (λ s j. tt {0}) x) ≡ done (tt {0}) e
  seen-skips i f (taken u m) a e h = ap (λ j. done tt j) (gave-is (f u m) a m e h).1
  seen-skips i f (failed k j) a e h = absurd (gave-refused (sym h))

  plain-skips : {B : Type 0} (i : ℕ) (x : Scanned B) (a : B) (e : ℕ)
      → scalar_reply i x ≡ gave a e → scalar_at i (seen_as (λ s j. tt {0}) x) ≡ done (tt {0}) e
  plain-skips i (taken u m) a e h = ap (λ j. done tt j) (gave-is u a m e h).1
  plain-skips i (failed k j) a e h = absurd (gave-refused (sym h))

  bool-skips : (i : ℕ) → i < length t → (b : Start) (a : Bool) (e : ℕ) → bool_read s0 i b ≡ gave a e → skipped i b ≡ done (tt {0}) e
  bool-skips i lt (start.Literal literal.True) a e h = span-skips i (λ u j. true) (literal_at t literal.True i) a e h
  bool-skips i lt (start.Literal literal.False) a e h = span-skips i (λ u j. false) (literal_at t literal.False i) a e h
  bool-skips i lt b a e h = absurd (gave-refused (sym h))

  null-skips : (i : ℕ) → i < length t → (b : Start) (a : Unit {0}) (e : ℕ) → null_read s0 i b ≡ gave a e → skipped i b ≡ done (tt {0}) e
  null-skips i lt (start.Literal literal.Null) a e h = by (literal_at t literal.Null i) h where
    by : (x : Span) → scalar_reply i x ≡ gave a e → scalar_at i x ≡ done (tt {0}) e
    by (taken u m) h = ap (λ j. done tt j) (gave-is u a m e h).1
    by (failed k j) h = absurd (gave-refused (sym h))
  null-skips i lt b a e h = absurd (gave-refused (sym h))

  number-skips : (i : ℕ) → i < length t → (b : Start) (a : Number) (e : ℕ) → number_read s0 i b ≡ gave a e → skipped i b ≡ done (tt {0}) e
  number-skips i lt start.Number a e h = plain-skips i (number_at names t i) a e h
  number-skips i lt b a e h = absurd (gave-refused (sym h))

  source-skips : (i : ℕ) → i < length t → (b : Start) (a : List ℕ) (e : ℕ) → number_bytes_read s0 i b ≡ gave a e → skipped i b ≡ done (tt {0}) e
  source-skips i lt start.Number a e h = seen-skips i (λ n j. slice_range t i j) (number_at names t i) a e h
  source-skips i lt b a e h = absurd (gave-refused (sym h))

  int-skips : (i : ℕ) → i < length t → (b : Start) (a : Number) (e : ℕ) → int_read s0 i b ≡ gave a e → skipped i b ≡ done (tt {0}) e
  int-skips i lt start.Number a e h = by (int_at t i) (int_at-number t i names (omega (arith, lt))) h where
    by : (x : Scanned Integer) → AgreeAsInteger x (number_at names t i) → integer_reply i x ≡ gave a e
        → scalar_at i (seen_as (λ s j. tt {0}) (number_at names t i)) ≡ done (tt {0}) e
    by (taken (int_seen n) m) agree h =
        ap (λ x. scalar_at i (seen_as (λ s j. tt {0}) x)) agree.0 ∙ ap (λ j. done tt j) (gave-is n a m e h).1
    by (taken float_seen j) agree h = absurd (gave-refused (sym h))
    by (failed k j) agree h = absurd (gave-refused (sym h))
  int-skips i lt b a e h = absurd (gave-refused (sym h))

  str-skips : s0.partial_strings ≡ false → (i : ℕ) → i < length t → (b : Start) (a : Text) (e : ℕ) → str_read s0 i b ≡ gave a e
      → skipped i b ≡ done (tt {0}) e
  str-skips strict i lt start.String a e h =
      by (string_at whole t i) refl (sym (ap (λ p. scalar_reply i (string_at (if p then kept else whole) t i)) strict) ∙ h) where
        by : (x : Scanned Text) → string_at whole t i ≡ x → scalar_reply i x ≡ gave a e
            → scalar_at i (seen_as (λ s j. tt {0}) (string_at raw t i)) ≡ done (tt {0}) e
        by (taken s m) there h =
            ap (λ x. scalar_at i (seen_as (λ s j. tt {0}) x)) (raw-whole t i m s there) ∙ ap (λ j. done tt j) (gave-is s a m e h).1
        by (failed k j) there h = absurd (gave-refused (sym h))
  str-skips strict i lt b a e h = absurd (gave-refused (sym h))

  seen-gave : {A B : Type 0} (f : A → B) (r : Reply A) (b : B) (e : ℕ) → reply_seen f r ≡ gave b e
      → (a : A) × (r ≡ gave a e)
  seen-gave f (gave a i) b e h = (a, ap (λ j. gave a j) (gave-is (f a) b i e h).1)
  seen-gave f (refused c x stop) b e h = absurd (gave-refused (sym h))

  -- a value that is read whole, and its end alone
  skip-skips : (a : Unit {0}) (e : ℕ) → next s0 (skip_read s0) ≡ gave a e → SkipsTo names t (value_place s0) e
  skip-skips a e is = (nesting_limit, by (slice_get t (value_place s0)) is) where
    at : (x : Reading (Unit {0})) → value_reply x ≡ gave a e → x ≡ done (tt {0}) e
    at (done u m) h = ap (λ j. done tt j) (gave-is u a m e h).1
    at (fault k i stop) h = absurd (gave-refused (sym h))

    by : (o : Option ℕ) → if_byte (value_place s0) o (λ c. skip_read s0 (value_place s0) (start_of c)) ≡ gave a e
        → skip_at names t (value_place s0) ≡ done (tt {0}) e
    by None h = absurd (gave-refused (sym h))
    by (Some c) h = at (skip_at names t (value_place s0)) h

  value-skips : (a : Tree) (e : ℕ) → next s0 (value_read s0) ≡ gave a e → SkipsTo names t (value_place s0) e
  value-skips a e is = (nesting_limit, by (slice_get t (value_place s0)) is) where
    at : (x : Reading Tree) → EndsAlike x (skip_at names t (value_place s0)) → value_reply x ≡ gave a e
        → skip_at names t (value_place s0) ≡ done (tt {0}) e
    at (done v m) alike h = alike.1 ∙ ap (λ j. done tt j) (gave-is v a m e h).1
    at (fault k i stop) alike h = absurd (gave-refused (sym h))

    by : (o : Option ℕ) → if_byte (value_place s0) o (λ c. value_read s0 (value_place s0) (start_of c)) ≡ gave a e
        → skip_at names t (value_place s0) ≡ done (tt {0}) e
    by None h = absurd (gave-refused (sym h))
    by (Some c) h =
        at (read_at names t (value_place s0)) (skip_at-law names t (value_place s0)) h

-- ---- the calls
text-end : (v : Tree) (b e : ℕ) → EndsAt e (reply_seen text_bytes (str_told v b e))
text-end (Tree.string s) b e = refl
text-end v b e = tt

flag-end : (v : Tree) (b e : ℕ) → EndsAt e (bool_told v b e)
flag-end (Tree.boolean x) b e = refl
flag-end v b e = tt

null-end : (v : Tree) (b e : ℕ) → EndsAt e (null_told v b e)
null-end Tree.null b e = refl
null-end v b e = tt

integer-end : (v : Tree) (b e : ℕ) → EndsAt e (int_told v b e)
integer-end (Tree.int z) b e = refl
integer-end (Tree.big s) b e = refl
integer-end v b e = tt

number-end : (v : Tree) (b e : ℕ) → EndsAt e (number_told v b e)
number-end (Tree.int z) b e = refl
number-end (Tree.big s) b e = refl
number-end (Tree.float s) b e = refl
number-end v b e = tt

source-end : (t : List ℕ) (v : Tree) (b e : ℕ) → EndsAt e (number_bytes_told t v b e)
source-end t (Tree.int z) b e = refl
source-end t (Tree.big s) b e = refl
source-end t (Tree.float s) b e = refl
source-end t v b e = tt

pub text-law : (s : ReaderState) → Scalar s (reply_seen text_bytes (next s (str_read s)))
    (λ t n. reply_seen text_bytes (str_told (value_of t n) (begin n) (end n)))
text-law s = record {
  tells = λ n comes. ap (reply_seen text_bytes) (comes-tells s n comes).text;
  ends = λ n. text-end (value_of s.text n) (begin n) (end n);
  skips = λ strict a e is.
      let given = seen-gave s text_bytes (next s (str_read s)) a e is in
      next-skips s (str_read s) (str-skips s strict) given.0 e given.1;
}

pub flag-law : (s : ReaderState) → Scalar s (next s (bool_read s)) (λ t n. bool_told (value_of t n) (begin n) (end n))
flag-law s = record {
  tells = λ n comes. (comes-tells s n comes).truth;
  ends = λ n. flag-end (value_of s.text n) (begin n) (end n);
  skips = λ strict. next-skips s (bool_read s) (bool-skips s);
}

pub null-law : (s : ReaderState) → Scalar s (next s (null_read s)) (λ t n. null_told (value_of t n) (begin n) (end n))
null-law s = record {
  tells = λ n comes. (comes-tells s n comes).nothing;
  ends = λ n. null-end (value_of s.text n) (begin n) (end n);
  skips = λ strict. next-skips s (null_read s) (null-skips s);
}

pub integer-law : (s : ReaderState) → Scalar s (next s (int_read s)) (λ t n. int_told (value_of t n) (begin n) (end n))
integer-law s = record {
  tells = λ n comes. (comes-tells s n comes).integer;
  ends = λ n. integer-end (value_of s.text n) (begin n) (end n);
  skips = λ strict. next-skips s (int_read s) (int-skips s);
}

pub number-law : (s : ReaderState) → Scalar s (next s (number_read s)) (λ t n. number_told (value_of t n) (begin n) (end n))
number-law s = record {
  tells = λ n comes. (comes-tells s n comes).number;
  ends = λ n. number-end (value_of s.text n) (begin n) (end n);
  skips = λ strict. next-skips s (number_read s) (number-skips s);
}

pub source-law : (s : ReaderState)
    → Scalar s (next s (number_bytes_read s)) (λ t n. number_bytes_told t (value_of t n) (begin n) (end n))
source-law s = record {
  tells = λ n comes. (comes-tells s n comes).number_bytes;
  ends = λ n. source-end s.text (value_of s.text n) (begin n) (end n);
  skips = λ strict. next-skips s (number_bytes_read s) (source-skips s);
}

pub skip-law : (s : ReaderState) → Scalar s (next s (skip_read s)) (λ t n. gave tt (end n))
skip-law s = record {
  tells = λ n comes. (comes-tells s n comes).passed;
  ends = λ n. refl;
  skips = λ strict. skip-skips s;
}

pub tree-law : (s : ReaderState) → Scalar s (next s (value_read s)) (λ t n. gave (value_of t n) (end n))
tree-law s = record {
  tells = λ n comes. (comes-tells s n comes).value;
  ends = λ n. refl;
  skips = λ strict. value-skips s;
}
