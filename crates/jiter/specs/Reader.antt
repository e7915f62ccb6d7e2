-- The pull reader: what it holds, what each of its calls replies, and where that leaves it.
use Rattle.std.specs.Prelude.{◌≡◌, ℕ, ◌+◌, Bool, true, false, if◌then◌else◌, List, Option, Some, None}
use Rattle.std.specs.Prelude.{slice_get, slice_index, slice_range}
use Rattle.jiter_scan.specs.Kind.{eof_value, expected_value, trailing_characters}
use Rattle.jiter_scan.specs.Scanned.{Scanned, taken, failed}
use Rattle.jiter_scan.specs.Number.{Number, integer, big}
use Rattle.jiter_scan.specs.Number as number
use Rattle.jiter_scan.specs.Word.{Span}
use Rattle.jiter_scan.specs.NumberReading.{Integer, int_seen, float_seen, number_at, int_at}
use Rattle.jiter_steps.specs.Blank.{past_blanks}
use Rattle.jiter_steps.specs.Literal.{literal_at, start_of}
use Rattle.jiter_steps.specs.Tree.{Text, Tree}
use Rattle.jiter_steps.specs.StringReading.{Form, kept, raw, raw_kept, string_at}
use Rattle.jiter_steps.specs.StringReading as form
use Rattle.jiter_steps.specs.Step.{Step, more, closed, stuck, step, colon}
use Rattle.jiter_steps.specs.Step.{array_first, array_step, object_first, object_step}
use Rattle.jiter_steps.specs.Read.{Reading, done, fault}
use Rattle.jiter_steps.specs.Answer.{seen_as, read_at, skip_at}
use Rattle.jiter_steps.specs.declared.parse.Literal.TheVariants as literal
use Rattle.jiter_steps.specs.declared.parse.Start.{Start}
use Rattle.jiter_steps.specs.declared.parse.Start.TheVariants as start
use Rattle.jiter.specs.Cause.{Cause, json_error, wrong_type}
use Rattle.jiter.specs.Cause.{ValueType, null, bool, int, float, string, array, object}

-- the bytes, the place that the reader is at, and whether names are numbers and cut strings are kept
pub record ReaderState : Type 0 where
  pub text : List ℕ
  pub position : ℕ
  pub names : Bool
  pub partial_strings : Bool

-- What a call gave; or why it refused, and at which index. Then the place where the reader is.
pub data Reply (A : Type 0) : Type 0 where
  gave : A → ℕ → Reply A
  refused : Cause → ℕ → ℕ → Reply A

-- the same reader at another place
abbrev pub with_position : ReaderState → ℕ → ReaderState
with_position s i = record { text = s.text; position = i; names = s.names; partial_strings = s.partial_strings }

-- where the reader is then
abbrev pub position_after : {A : Type 0} → Reply A → ℕ
position_after (gave a e) = e
position_after (refused c i stop) = stop

-- where the call refused, the reader is at i
abbrev pub StaysAt : {A : Type 0} → ℕ → Reply A → Type 0
StaysAt i (gave a e) = Unit {0}
StaysAt i (refused c j stop) = stop ≡ i

-- the first place that has no whitespace, or the length
abbrev pub value_place : ReaderState → ℕ
value_place s = past_blanks s.text s.position

-- what the byte at i leads to; an error where there is none
abbrev pub if_byte : {A : Type 0} → ℕ → Option ℕ → (ℕ → Reply A) → Reply A
if_byte i None reply = refused (json_error eof_value) i i
if_byte i (Some c) reply = reply c

-- The first byte that is not whitespace. It is not consumed.
abbrev pub peek : ReaderState → Reply ℕ
peek s = if_byte (value_place s) (slice_get s.text (value_place s)) (λ c. gave c (value_place s))

-- A next_ call peeks, and reads at that place what begins so.
abbrev pub next : {A : Type 0} → ReaderState → (ℕ → Start → Reply A) → Reply A
next s read = if_byte (value_place s) (slice_get s.text (value_place s)) (λ c. read (value_place s) (start_of c))

-- A known_ call reads at the position itself.
abbrev pub known : {A : Type 0} → ReaderState → (ℕ → Start → Reply A) → Reply A
known s read = read s.position (start_of (slice_index s.text s.position))

-- a scalar at i; where it is refused the reader stays there
abbrev pub scalar_reply : {A : Type 0} → ℕ → Scanned A → Reply A
scalar_reply i (taken a e) = gave a e
scalar_reply i (failed k j) = refused (json_error k) j i

-- the type that a number is told as
abbrev pub number_type : Number → ValueType
number_type (integer z) = int
number_type (big w) = int
number_type (number.float w) = float

-- why a call refuses, and at which index
pub record Refusal : Type 0 where
  pub cause : Cause
  pub index : ℕ

-- a number where another type was wanted: its own error goes first
abbrev pub number_refusal : ℕ → ValueType → Scanned Number → Refusal
number_refusal i wanted (taken n e) = record { cause = wrong_type wanted (number_type n); index = i }
number_refusal i wanted (failed k j) = record { cause = json_error k; index = j }

-- another type was wanted than what begins so at i
abbrev pub type_refusal : ReaderState → ℕ → ValueType → Start → Refusal
type_refusal s i wanted start.Array = record { cause = wrong_type wanted array; index = i }
type_refusal s i wanted start.Object = record { cause = wrong_type wanted object; index = i }
type_refusal s i wanted start.String = record { cause = wrong_type wanted string; index = i }
type_refusal s i wanted start.Number = number_refusal i wanted (number_at s.names s.text i)
type_refusal s i wanted (start.Literal literal.Null) = record { cause = wrong_type wanted null; index = i }
type_refusal s i wanted (start.Literal literal.True) = record { cause = wrong_type wanted bool; index = i }
type_refusal s i wanted (start.Literal literal.False) = record { cause = wrong_type wanted bool; index = i }
type_refusal s i wanted start.Nothing = record { cause = json_error expected_value; index = i }

-- The reader stays at the value then.
abbrev pub refused_as : {A : Type 0} → ReaderState → ℕ → ValueType → Start → Reply A
refused_as s i wanted b = refused (type_refusal s i wanted b).cause (type_refusal s i wanted b).index i

-- What a call reads at a place, of what begins there. First the scalars: `null`.
abbrev pub null_read : ReaderState → ℕ → Start → Reply (Unit {0})
null_read s i (start.Literal literal.Null) = scalar_reply i (literal_at s.text literal.Null i)
null_read s i b = refused_as s i null b

-- `true` or `false`
abbrev pub bool_read : ReaderState → ℕ → Start → Reply Bool
bool_read s i (start.Literal literal.True) =
    scalar_reply i (seen_as (λ u e. true) (literal_at s.text literal.True i))
bool_read s i (start.Literal literal.False) =
    scalar_reply i (seen_as (λ u e. false) (literal_at s.text literal.False i))
bool_read s i b = refused_as s i bool b

-- a number
abbrev pub number_read : ReaderState → ℕ → Start → Reply Number
number_read s i start.Number = scalar_reply i (number_at s.names s.text i)
number_read s i b = refused_as s i int b

-- an integer at i; a float that shows after it is another type, whatever follows
abbrev pub integer_reply : ℕ → Scanned Integer → Reply Number
integer_reply i (taken (int_seen n) e) = gave n e
integer_reply i (taken float_seen j) = refused (wrong_type int float) i i
integer_reply i (failed k j) = refused (json_error k) j i

-- an integer
abbrev pub int_read : ReaderState → ℕ → Start → Reply Number
int_read s i start.Number = integer_reply i (int_at s.text i)
int_read s i b = refused_as s i int b

-- a number's own bytes
abbrev pub number_bytes_read : ReaderState → ℕ → Start → Reply (List ℕ)
number_bytes_read s i start.Number =
    scalar_reply i (seen_as (λ n e. slice_range s.text i e) (number_at s.names s.text i))
number_bytes_read s i b = refused_as s i float b

-- a string of this form
abbrev pub string_read : Form → ReaderState → ℕ → Start → Reply Text
string_read f s i start.String = scalar_reply i (string_at f s.text i)
string_read f s i b = refused_as s i string b

-- its decoded text
abbrev pub str_read : ReaderState → ℕ → Start → Reply Text
str_read s i b = string_read (if s.partial_strings then kept else form.whole) s i b

-- its bytes between the quotes
abbrev pub bytes_read : ReaderState → ℕ → Start → Reply Text
bytes_read s i b = string_read (if s.partial_strings then raw_kept else raw) s i b

-- a whole value; where it is refused the reader is where the reading stopped
abbrev pub value_reply : {A : Type 0} → Reading A → Reply A
value_reply (done a e) = gave a e
value_reply (fault k i stop) = refused (json_error k) i stop

-- A whole value, whatever begins there.
abbrev pub value_read : ReaderState → ℕ → Start → Reply Tree
value_read s i b = value_reply (read_at s.names s.text i)

-- Its end alone.
abbrev pub skip_read : ReaderState → ℕ → Start → Reply (Unit {0})
skip_read s i b = value_reply (skip_at s.names s.text i)

-- what is told where the next part begins; or none, and the closer was consumed
abbrev pub part_reply : {K : Type 0} → (ℕ → Reply (Option K)) → Step → Reply (Option K)
part_reply begun (more j) = begun j
part_reply begun (closed e) = gave None e
part_reply begun (stuck k j) = refused (json_error k) j j

-- the next item's first byte, which is not consumed
abbrev pub item_reply : List ℕ → Step → Reply (Option ℕ)
item_reply t s = part_reply (λ j. gave (Some (slice_index t j)) j) s

-- An array: its first item.
abbrev pub array_read : ReaderState → ℕ → Start → Reply (Option ℕ)
array_read s i start.Array = item_reply s.text (step s.text array_first (i + 1))
array_read s i b = refused_as s i array b

-- The call array_step: after an item, the next one.
abbrev pub item_step : ReaderState → Reply (Option ℕ)
item_step s = item_reply s.text (step s.text (array_step s.text) s.position)

-- a key and its colon; what follows the colon is not looked at
abbrev pub colon_reply : Text → Span → Reply (Option Text)
colon_reply key (taken u j) = gave (Some key) j
colon_reply key (failed k j) = refused (json_error k) j j

-- the same of a key that begins at i
abbrev pub key_reply : List ℕ → ℕ → Scanned Text → Reply (Option Text)
key_reply t i (taken key e) = colon_reply key (step t colon e)
key_reply t i (failed k j) = refused (json_error k) j i

-- the next key of this form, with its colon consumed
abbrev pub member_reply : Form → List ℕ → Step → Reply (Option Text)
member_reply f t s = part_reply (λ j. key_reply t j (string_at f t j)) s

-- An object: its first key. The form is `whole` for a text and `raw` for bytes.
abbrev pub object_read : Form → ReaderState → ℕ → Start → Reply (Option Text)
object_read f s i start.Object = member_reply f s.text (step s.text object_first (i + 1))
object_read f s i b = refused_as s i object b

-- The calls next_key and next_key_bytes: after a member, the next key.
abbrev pub key_step : Form → ReaderState → Reply (Option Text)
key_step f s = member_reply f s.text (step s.text (object_step s.text) s.position)

-- nothing may be at i
abbrev pub end_reply : ℕ → Option ℕ → Reply (Unit {0})
end_reply i None = gave tt i
end_reply i (Some c) = refused (json_error trailing_characters) i i

-- Nothing but whitespace is left.
abbrev pub finish : ReaderState → Reply (Unit {0})
finish s = end_reply (value_place s) (slice_get s.text (value_place s))
