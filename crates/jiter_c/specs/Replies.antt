-- What each call of C's reader replies, in the words of the library's reader.
use Rattle.std.specs.Prelude.{ℕ, ℤ, pos, Bool, true, false, List, [], length, min, Option, Some, None}
use Rattle.jiter_scan.specs.Number as number
use Rattle.jiter.specs.Jiter.{key_bytes, reply_seen, text_bytes}
use Rattle.jiter.specs.Reader.{ReaderState, Reply, array_read, bytes_read, int_read, item_step, key_step, next}
use Rattle.jiter.specs.Reader.{object_read, peek, str_read}
use Rattle.jiter_scan.specs.Number.{Number}
use Rattle.jiter_steps.specs.Literal.{start_of}
use Rattle.jiter_steps.specs.StringReading.{Form}
use Rattle.jiter_steps.specs.declared.parse.Literal.{Literal}
use Rattle.jiter_steps.specs.declared.parse.Start.{Start}
use Rattle.jiter_c.specs.declared.reader.JiterReader.{JiterReader}

-- the library's reader that is where C's does; one that C puts past the length is at it
abbrev pub state_of : JiterReader → ReaderState
state_of r = record {
  text = r.bytes.now;
  position = min r.index (length r.bytes.now);
  names = r.allow_inf_nan;
  partial_strings = r.allow_partial_strings;
}

-- what a next_ call replies
abbrev pub next_reply : {A : Type 0} → JiterReader → (ReaderState → ℕ → Start → Reply A) → Reply A
next_reply r read = next (state_of r) (read (state_of r))

-- what begins so, by its number; `true` and `false` have one, and all numbers another than that of their types
abbrev pub start_number : Start → ℕ
start_number Start.Nothing = 0
start_number (Start.Literal Literal.Null) = 1
start_number (Start.Literal Literal.True) = 2
start_number (Start.Literal Literal.False) = 2
start_number Start.String = 5
start_number Start.Array = 6
start_number Start.Object = 7
start_number Start.Number = 8

abbrev pub peek_reply : JiterReader → Reply ℕ
peek_reply r = reply_seen (λ b. start_number (start_of b)) (peek (state_of r))

-- whether 64 signed bits hold an integer, and the integer, or 0 where they do not
abbrev pub is_small : Number → Bool
is_small (number.integer z) = true
is_small n = false

abbrev pub small_value : Number → ℤ
small_value (number.integer z) = z
small_value n = pos 0

abbrev pub int_reply : JiterReader → Reply Number
int_reply r = next_reply r int_read

-- whether a part is told of
abbrev pub has_part : {A : Type 0} → Option A → Bool
has_part (Some a) = true
has_part None = false

abbrev pub array_reply : JiterReader → Reply Bool
array_reply r = reply_seen has_part (next_reply r array_read)

abbrev pub item_reply : JiterReader → Reply Bool
item_reply r = reply_seen has_part (item_step (state_of r))

-- the bytes of a key, or none where no key is left
abbrev pub or_empty : Option (List ℕ) → List ℕ
or_empty (Some key) = key
or_empty None = []

-- the first key of an object, and the next one, of this form
abbrev pub object_reply : Form → JiterReader → Reply (Option (List ℕ))
object_reply f r = reply_seen key_bytes (next_reply r (object_read f))

abbrev pub key_reply : Form → JiterReader → Reply (Option (List ℕ))
key_reply f r = reply_seen key_bytes (key_step f (state_of r))

-- the decoded text of a string, and its bytes between the quotes
abbrev pub str_reply : JiterReader → Reply (List ℕ)
str_reply r = reply_seen text_bytes (next_reply r str_read)

abbrev pub bytes_reply : JiterReader → Reply (List ℕ)
bytes_reply r = reply_seen text_bytes (next_reply r bytes_read)
