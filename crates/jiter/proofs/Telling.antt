-- Where a node of a document comes next, calls of the pull reader reply by its value.
use Rattle.jiter.proofs.Words.{◌≡◌, ◌∙◌, ◌≤◌, ℕ, Bool, true, false, List, length, arith, refl, sym, ap, subst}
use Rattle.jiter.proofs.Words.{slice_get, slice_index, slice_range, if◌then◌else◌, get_or_from_slice_get, Number}
use Rattle.jiter.proofs.Words.{integer, big, float, number_value, Integer, int_seen, float_seen, int_at, number_at}
use Rattle.jiter.proofs.Words.{Scanned, taken, failed, seen_as, start_of, Node, begin, end, value_of, Form, kept}
use Rattle.jiter.proofs.Words.{string_at, begins-value, start_is, ValueType, null, string, bool, array, object}
use Rattle.jiter.proofs.Words.{wrong_type, ReaderState, gave, refused, next, refused_as, array_read, integer_reply}
use Rattle.jiter.proofs.Words.{scalar_reply, string_read, str_read, bool_read, int_read, object_read, if_byte}
use Rattle.jiter.proofs.Words.{null_read, number_read, number_bytes_read, peek, value_read, value_reply}
use Rattle.jiter_scan.proofs.Choices.{same_taken}
use Rattle.jiter_steps.specs.Node.{number_tree}
use Rattle.jiter_steps.specs.Node as grammar
use Rattle.jiter_steps.specs.StringReading as form
use Rattle.jiter_steps.specs.declared.parse.Literal.TheVariants as literal
use Rattle.jiter_steps.specs.declared.parse.Start.TheVariants as start
use Rattle.jiter_scan.proofs.NumberLaws.{number_at-complete}
use Rattle.jiter_scan.proofs.WordLaws.{word_at-complete}
use Rattle.jiter_steps.specs.Literal.{word_of}
use Rattle.jiter_steps.proofs.Grammar.StringLaws.{string_at-complete}
use Rattle.jiter.specs.Reader.{number_type, number_refusal}
use Rattle.jiter.specs.Telling.{tree_start, tree_type, other_type, str_told, bool_told, int_told, null_told}
use Rattle.jiter.specs.Telling.{number_told, number_bytes_told, Tells}
use Rattle.jiter.proofs.Integers.{AgreeAsInteger, IsWhole, int_at-number}
use Rattle.jiter.proofs.Members.{read-spelled}
use Rattle.jiter.proofs.Walking.{ComesNext, IsNoArray, IsNoObject, next-reads, skip-passes}

type-is : (n : Number) → number_type n ≡ tree_type (number_tree n)
type-is (integer z) = refl
type-is (big w) = refl
type-is (float w) = refl

-- a number is no text, no truth value and no null
no_other : (n : Number) (b e : ℕ) → (str_told (number_tree n) b e ≡ other_type string (number_tree n) b)
    × (bool_told (number_tree n) b e ≡ other_type bool (number_tree n) b)
    × (null_told (number_tree n) b e ≡ other_type null (number_tree n) b)
no_other (integer z) b e = (refl, refl, refl)
no_other (big w) b e = (refl, refl, refl)
no_other (float w) b e = (refl, refl, refl)

-- what a number gives
number-gives : (t : List ℕ) (n : Number) (b e : ℕ) → (number_told (number_tree n) b e ≡ gave n e)
    × (number_bytes_told t (number_tree n) b e ≡ gave (slice_range t b e) e)
number-gives t (integer z) b e = (refl, refl)
number-gives t (big w) b e = (refl, refl)
number-gives t (float w) b e = (refl, refl)

number-starts : (n : Number) → start.Number ≡ tree_start (number_tree n)
number-starts (integer z) = refl
number-starts (big w) = refl
number-starts (float w) = refl

node-starts : (t : List ℕ) (n : Node) → start_is n ≡ tree_start (value_of t n)
node-starts t (grammar.literal literal.Null b e) = refl
node-starts t (grammar.literal literal.True b e) = refl
node-starts t (grammar.literal literal.False b e) = refl
node-starts t (grammar.number b e) = number-starts (number_value (slice_range t b e))
node-starts t (grammar.string ps b e) = refl
node-starts t (grammar.array b e ns) = refl
node-starts t (grammar.object b e ms) = refl

integer-told : (x : Scanned Integer) (n : Number) (b e : ℕ) → AgreeAsInteger x (taken n e)
    → integer_reply b x ≡ int_told (number_tree n) b e
integer-told (taken (int_seen m) j) (integer z) b e h = let same = same_taken _ _ _ _ h.0 in cc
integer-told (taken (int_seen m) j) (big w) b e h = let same = same_taken _ _ _ _ h.0 in cc
integer-told (taken (int_seen m) j) (float w) b e h =
    let same = same_taken _ _ _ _ h.0 in absurd (subst IsWhole (sym same.0) h.1)
integer-told (taken float_seen j) (integer z) b e h = absurd h
integer-told (taken float_seen j) (big w) b e h = absurd h
integer-told (taken float_seen j) (float w) b e h = refl
integer-told (failed k j) n b e h = absurd (cc)

module _ (s : ReaderState) where
  number-read : (b e : ℕ) → ComesNext s (grammar.number b e)
      → number_at s.names s.text b ≡ taken (number_value (slice_range s.text b e)) e
  number-read b e h =
      let spelled = h.stands.spelled in
      number_at-complete s.names s.text b e spelled.ordered spelled.within spelled.text h.quiet

  -- another type was wanted
  refusal-told : {A : Type 0} (wanted : ValueType) (n : Node) → ComesNext s n
      → refused_as {A = A} s (begin n) wanted (start_is n) ≡ other_type wanted (value_of s.text n) (begin n)
  refusal-told wanted (grammar.literal literal.Null b e) h = refl
  refusal-told wanted (grammar.literal literal.True b e) h = refl
  refusal-told wanted (grammar.literal literal.False b e) h = refl
  refusal-told wanted (grammar.number b e) h =
      ap (λ x. refused (number_refusal b wanted x).cause (number_refusal b wanted x).index b) (number-read b e h)
      ∙ ap (λ a. refused (wrong_type wanted a) b b) (type-is (number_value (slice_range s.text b e)))
  refusal-told wanted (grammar.string ps b e) h = refl
  refusal-told wanted (grammar.array b e ns) h = refl
  refusal-told wanted (grammar.object b e ms) h = refl

  string-told : (f : Form) → f ≡ form.whole → (n : Node) → ComesNext s n
      → string_read f s (begin n) (start_is n) ≡ str_told (value_of s.text n) (begin n) (end n)
  string-told f whole (grammar.string ps b e) h =
      ap (λ g. scalar_reply b (string_at g s.text b)) whole
      ∙ ap (scalar_reply b) (string_at-complete s.text b e ps h.stands.spelled)
  string-told f whole (grammar.literal literal.Null b e) h = refl
  string-told f whole (grammar.literal literal.True b e) h = refl
  string-told f whole (grammar.literal literal.False b e) h = refl
  string-told f whole (grammar.number b e) h =
      refusal-told string (grammar.number b e) h ∙ sym (no_other (number_value (slice_range s.text b e)) b e).0
  string-told f whole (grammar.array b e ns) h = refl
  string-told f whole (grammar.object b e ms) h = refl

  truth-told : (n : Node) → ComesNext s n
      → bool_read s (begin n) (start_is n) ≡ bool_told (value_of s.text n) (begin n) (end n)
  truth-told (grammar.literal literal.Null b e) h = refl
  truth-told (grammar.literal literal.True b e) h =
      ap (λ x. scalar_reply b (seen_as (λ u e. true) x))
      (word_at-complete s.text (word_of literal.True) b e h.stands.spelled)
  truth-told (grammar.literal literal.False b e) h =
      ap (λ x. scalar_reply b (seen_as (λ u e. false) x))
      (word_at-complete s.text (word_of literal.False) b e h.stands.spelled)
  truth-told (grammar.number b e) h =
      refusal-told bool (grammar.number b e) h ∙ sym (no_other (number_value (slice_range s.text b e)) b e).1
  truth-told (grammar.string ps b e) h = refl
  truth-told (grammar.array b e ns) h = refl
  truth-told (grammar.object b e ms) h = refl

  whole-told : (n : Node) → ComesNext s n
      → int_read s (begin n) (start_is n) ≡ int_told (value_of s.text n) (begin n) (end n)
  whole-told (grammar.literal literal.Null b e) h = refl
  whole-told (grammar.literal literal.True b e) h = refl
  whole-told (grammar.literal literal.False b e) h = refl
  whole-told (grammar.number b e) h =
      let inside : b ≤ length s.text = omega (arith, h.stands.spelled.ordered, h.stands.spelled.within) in
      integer-told (int_at s.text b) (number_value (slice_range s.text b e)) b e
      (subst (AgreeAsInteger (int_at s.text b)) (number-read b e h) (int_at-number s.text b s.names inside))
  whole-told (grammar.string ps b e) h = refl
  whole-told (grammar.array b e ns) h = refl
  whole-told (grammar.object b e ms) h = refl

  null-told : (n : Node) → ComesNext s n
      → null_read s (begin n) (start_is n) ≡ null_told (value_of s.text n) (begin n) (end n)
  null-told (grammar.literal literal.Null b e) h =
      ap (scalar_reply b) (word_at-complete s.text (word_of literal.Null) b e h.stands.spelled)
  null-told (grammar.literal literal.True b e) h = refl
  null-told (grammar.literal literal.False b e) h = refl
  null-told (grammar.number b e) h =
      refusal-told null (grammar.number b e) h ∙ sym (no_other (number_value (slice_range s.text b e)) b e).2
  null-told (grammar.string ps b e) h = refl
  null-told (grammar.array b e ns) h = refl
  null-told (grammar.object b e ms) h = refl

  number-told : (n : Node) → ComesNext s n
      → number_read s (begin n) (start_is n) ≡ number_told (value_of s.text n) (begin n) (end n)
  number-told (grammar.number b e) h =
      ap (scalar_reply b) (number-read b e h) ∙ sym (number-gives s.text (number_value (slice_range s.text b e)) b e).0
  number-told (grammar.literal literal.Null b e) h = refl
  number-told (grammar.literal literal.True b e) h = refl
  number-told (grammar.literal literal.False b e) h = refl
  number-told (grammar.string ps b e) h = refl
  number-told (grammar.array b e ns) h = refl
  number-told (grammar.object b e ms) h = refl

  number_bytes-told : (n : Node) → ComesNext s n
      → number_bytes_read s (begin n) (start_is n) ≡ number_bytes_told s.text (value_of s.text n) (begin n) (end n)
  number_bytes-told (grammar.number b e) h =
      ap (λ x. scalar_reply b (seen_as (λ n i. slice_range s.text b i) x)) (number-read b e h)
      ∙ sym (number-gives s.text (number_value (slice_range s.text b e)) b e).1
  number_bytes-told (grammar.literal literal.Null b e) h = refl
  number_bytes-told (grammar.literal literal.True b e) h = refl
  number_bytes-told (grammar.literal literal.False b e) h = refl
  number_bytes-told (grammar.string ps b e) h = refl
  number_bytes-told (grammar.array b e ns) h = refl
  number_bytes-told (grammar.object b e ms) h = refl

  -- its first byte
  first-byte : (n : Node) → ComesNext s n
      → (peek s ≡ gave (slice_index s.text (begin n)) (begin n))
      × (start_of (slice_index s.text (begin n)) ≡ tree_start (value_of s.text n))
  first-byte n h =
      let first = begins-value s.names s.text n h.stands.spelled in
      let byte : slice_index s.text (begin n) ≡ first.byte =
      get_or_from_slice_get s.text (begin n) first.byte 0 first.here in (
        ap (λ i. if_byte i (slice_get s.text i) (λ c. gave c i)) h.stands.place
            ∙ ap (λ o. if_byte (begin n) o (λ c. gave c (begin n))) first.here
            ∙ ap (λ c. gave c (begin n)) (sym byte),
        ap start_of byte ∙ first.starts ∙ node-starts s.text n,
      )

  -- A value that comes next is told as what it is.
  pub tells : s.partial_strings ≡ false → (n : Node) → ComesNext s n
      → Tells s (value_of s.text n) (begin n) (end n)
  tells strict n h = record {
    place = h.stands.place;
    text =
        next-reads s n h.stands (str_read s)
        ∙ string-told (if s.partial_strings then kept else form.whole)
        (ap (λ (b : Bool). if b then kept else form.whole) strict) n h;
    truth = next-reads s n h.stands (bool_read s) ∙ truth-told n h;
    integer = next-reads s n h.stands (int_read s) ∙ whole-told n h;
    number = next-reads s n h.stands (number_read s) ∙ number-told n h;
    number_bytes = next-reads s n h.stands (number_bytes_read s) ∙ number_bytes-told n h;
    nothing = next-reads s n h.stands (null_read s) ∙ null-told n h;
    value = next-reads s n h.stands (value_read s)
        ∙ ap value_reply (read-spelled s.names s.text n h.stands.spelled h.stands.limit h.quiet);
    passed = skip-passes s n h;
    peeked = (first-byte n h).0;
    starts = (first-byte n h).1;
  }

  -- Another value than an object is refused as one.
  pub object-refused : (f : Form) (n : Node) → ComesNext s n → IsNoObject n
      → next s (object_read f s) ≡ other_type object (value_of s.text n) (begin n)
  object-refused f n h other = next-reads s n h.stands (object_read f s) ∙ by n h other where
    by : (n : Node) → ComesNext s n → IsNoObject n
        → object_read f s (begin n) (start_is n) ≡ other_type object (value_of s.text n) (begin n)
    by (grammar.literal literal.Null b e) h other = refl
    by (grammar.literal literal.True b e) h other = refl
    by (grammar.literal literal.False b e) h other = refl
    by (grammar.number b e) h other = refusal-told object (grammar.number b e) h
    by (grammar.string ps b e) h other = refl
    by (grammar.array b e ns) h other = refl
    by (grammar.object b e ms) h other = absurd other

  -- Another value than an array is refused as one.
  pub array-refused : (n : Node) → ComesNext s n → IsNoArray n
      → next s (array_read s) ≡ other_type array (value_of s.text n) (begin n)
  array-refused n h other = next-reads s n h.stands (array_read s) ∙ by n h other where
    by : (n : Node) → ComesNext s n → IsNoArray n
        → array_read s (begin n) (start_is n) ≡ other_type array (value_of s.text n) (begin n)
    by (grammar.literal literal.Null b e) h other = refl
    by (grammar.literal literal.True b e) h other = refl
    by (grammar.literal literal.False b e) h other = refl
    by (grammar.number b e) h other = refusal-told array (grammar.number b e) h
    by (grammar.string ps b e) h other = refl
    by (grammar.object b e ms) h other = refl
    by (grammar.array b e ns) h other = absurd other
