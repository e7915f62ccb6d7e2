-- Reading a string from the left (RFC 8259, 7 and 8.1): what is at each place, these joined up to the end,
-- and what each form makes of it.
use Rattle.std.specs.Prelude.{ℕ, zero, suc, ◌+◌, ◌-◌, ◌==◌, ◌||◌, Bool, true, false, if◌then◌else◌, List, [], ◌∷◌, ◌++◌}
use Rattle.std.specs.Prelude.{length, take, drop, slice_get, slice_index, slice_range, Option, Some, None, nat_lt}
use Rattle.std.specs.Char.{encode_utf8}
use Rattle.std.specs.Str.Lossy.{utf8_valid_len, utf8_error_len}
use Rattle.jiter_scan.specs.Ascii as ascii
use Rattle.jiter_scan.specs.Scanned.{Scanned, taken, failed}
use Rattle.jiter_steps.specs.Tree.{Text}
use Rattle.jiter_scan.specs.Kind.{Kind, eof_string, invalid_escape, invalid_code_point, control_character}
use Rattle.jiter_scan.specs.Kind.{lone_surrogate, end_of_hex_escape}
use Rattle.jiter_steps.specs.Escape.{short_escape, is_hex, unit_of, is_high, is_low, pair_of}

-- how a string ends: by its quote, by the end of input before a piece or within an escape, or by an error
pub data Stop : Type 0 where
  closed : ℕ → Stop
  unclosed : Stop
  cut : Stop
  wrong : Kind → ℕ → Stop

-- what is at a place of a string: decoded bytes, whether they were escaped, and their end; or how the string ends
pub data Event : Type 0 where
  part : List ℕ → Bool → ℕ → Event
  over : Stop → Event

-- the first of the four bytes at i that is no hex digit
abbrev pub bad_digit : List ℕ → ℕ → Option ℕ
bad_digit t i =
    if is_hex (slice_index t i) then
    (if is_hex (slice_index t (i + 1)) then
    (if is_hex (slice_index t (i + 2)) then (if is_hex (slice_index t (i + 3)) then None
    else Some (i + 3)) else Some (i + 2)) else Some (i + 1)) else Some i

-- the number that the four bytes at i spell
abbrev pub unit_at : List ℕ → ℕ → ℕ
unit_at t i = unit_of (slice_index t i) (slice_index t (i + 1)) (slice_index t (i + 2)) (slice_index t (i + 3))

-- four hex digits: their number, the first byte that is none, or fewer bytes than four
pub data HexDigits : Type 0 where
  number : ℕ → HexDigits
  bad : ℕ → HexDigits
  few : HexDigits

-- the number, unless a byte is no hex digit
abbrev pub hex_digits_or : Option ℕ → ℕ → HexDigits
hex_digits_or None u = number u
hex_digits_or (Some i) u = bad i

-- the four hex digits at i
abbrev pub hex_digits_at : List ℕ → ℕ → HexDigits
hex_digits_at t i = if nat_lt (length t) (i + 4) then few else hex_digits_or (bad_digit t i) (unit_at t i)

-- after four hex digits, what follows for their number
abbrev pub after : (ℕ → Event) → HexDigits → Event
after next (number u) = next u
after next (bad i) = over (wrong invalid_escape i)
after next few = over cut

-- the digits at i, and what follows for their end and their number
abbrev pub unit_then : List ℕ → ℕ → (ℕ → ℕ → Event) → Event
unit_then t i next = after (next (i + 4)) (hex_digits_at t i)

-- the second number of a pair, which ends at j
abbrev pub surrogate_pair : ℕ → ℕ → ℕ → Event
surrogate_pair high j low =
    if is_low low then part (encode_utf8 (pair_of high low)) true j else over (wrong lone_surrogate (j - 1))

-- after the backslash that follows a high surrogate
abbrev pub after_high_backslash : List ℕ → ℕ → ℕ → Option ℕ → Event
after_high_backslash t high i None = over cut
after_high_backslash t high i (Some b) =
    if b == ascii.small_u then unit_then t (i + 1) (surrogate_pair high) else over (wrong end_of_hex_escape i)

-- after the digits of a high surrogate
abbrev pub after_high : List ℕ → ℕ → ℕ → Option ℕ → Event
after_high t high i None = over cut
after_high t high i (Some b) =
    if b == ascii.backslash then after_high_backslash t high (i + 1) (slice_get t (i + 1))
    else over (wrong end_of_hex_escape i)

-- the number of an escape that ends at j, where it is no high surrogate
abbrev pub single : ℕ → ℕ → Event
single j u = if is_low u then over (wrong lone_surrogate (j - 1)) else part (encode_utf8 u) true j

-- the number of an escape whose digits end at j
abbrev pub unicode_escape : List ℕ → ℕ → ℕ → Event
unicode_escape t j u = if is_high u then after_high t u j (slice_get t j) else single j u

-- an escape of one letter or sign, at i
abbrev pub short : ℕ → Option ℕ → Event
short i None = over (wrong invalid_escape i)
short i (Some c) = part (encode_utf8 c) true (i + 1)

-- after a backslash
abbrev pub after_backslash : List ℕ → ℕ → Option ℕ → Event
after_backslash t i None = over cut
after_backslash t i (Some b) =
    if b == ascii.small_u then unit_then t (i + 1) (unicode_escape t) else short i (short_escape b)

-- a byte that stands for itself
abbrev pub plain : ℕ → ℕ → Event
plain i b = if nat_lt b ascii.space then over (wrong control_character i) else part (b ∷ []) false (i + 1)

-- a byte that is no quote
abbrev pub escape_or_plain : List ℕ → ℕ → ℕ → Event
escape_or_plain t i b = if b == ascii.backslash then after_backslash t (i + 1) (slice_get t (i + 1)) else plain i b

-- what is at i, by its byte
abbrev pub event_by : List ℕ → ℕ → Option ℕ → Event
event_by t i None = over unclosed
event_by t i (Some b) = if b == ascii.quote then over (closed (i + 1)) else escape_or_plain t i b

-- what is at i
unfoldable pub event_at : List ℕ → ℕ → Event
event_at t i = event_by t i (slice_get t i)

-- the decoded bytes up to where a string ends, and whether a backslash was read
pub record Body : Type 0 where
  pub bytes : List ℕ
  pub owned : Bool
  pub stop : Stop

-- the input ends within an escape
abbrev pub is_cut : Stop → Bool
is_cut (closed e) = false
is_cut unclosed = false
is_cut cut = true
is_cut (wrong k i) = false

-- the body after these bytes, with them
abbrev pub before : List ℕ → Bool → Body → Body
before bytes owned b = record { bytes = bytes ++ b.bytes; owned = owned || b.owned; stop = b.stop }

-- what is at a place, and the rest after it
abbrev pub join : (ℕ → Body) → Event → Body
join rest (part bytes owned j) = before bytes owned (rest j)
join rest (over s) = record { bytes = []; owned = is_cut s; stop = s }

-- The number bounds the rounds; the text's length is always enough.
unfoldable pub body_within : ℕ → List ℕ → ℕ → Body
body_within zero t i = record { bytes = []; owned = false; stop = unclosed }
body_within (suc n) t i = join (body_within n t) (event_at t i)

-- the body that begins at i
unfoldable pub body_at : List ℕ → ℕ → Body
body_at t i = body_within (length t) t i

-- the text; where the input ends, as much of it as there is; the bytes between the quotes; these where the
-- input ends
pub data Form : Type 0 where
  whole : Form
  kept : Form
  raw : Form
  raw_kept : Form

-- of a text, and of the bytes between the quotes: whether what the input's end cuts off is kept
abbrev pub text_form : Bool → Form
text_form partial = if partial then kept else whole

abbrev pub raw_form : Bool → Form
raw_form partial = if partial then raw_kept else raw

-- the decoded bytes, which begin at i, have to be UTF-8
abbrev pub if_utf8 : ℕ → Bool → List ℕ → ℕ → Scanned Text
if_utf8 i owned bytes e =
    if utf8_valid_len bytes == length bytes then taken (record { owned = owned; bytes = bytes }) e
    else failed invalid_code_point (i + utf8_valid_len bytes)

-- the same, where an unfinished character follows the valid bytes, or n bytes that are none
abbrev pub valid_prefix_by : ℕ → Bool → List ℕ → ℕ → Option ℕ → Scanned Text
valid_prefix_by i owned bytes e None = taken (record { owned = owned; bytes = take (utf8_valid_len bytes) bytes }) e
valid_prefix_by i owned bytes e (Some n) = failed invalid_code_point (i + utf8_valid_len bytes)

-- the bytes as far as they are UTF-8, where no more than an unfinished character follows
abbrev pub valid_prefix : ℕ → Bool → List ℕ → ℕ → Scanned Text
valid_prefix i owned bytes e = valid_prefix_by i owned bytes e (utf8_error_len (drop (utf8_valid_len bytes) bytes))

-- the decoded bytes as a text: all of them, or kept as far as they are UTF-8
abbrev pub checked : Bool → ℕ → Bool → List ℕ → ℕ → Scanned Text
checked partial i owned bytes e = if partial then valid_prefix i owned bytes e else if_utf8 i owned bytes e

-- the source bytes from i to before j
abbrev pub between : List ℕ → ℕ → ℕ → Text
between t i j = record { owned = false; bytes = slice_range t i j }

-- the text of a content that begins at i, by how it ends
abbrev pub text_in_form : Form → List ℕ → ℕ → List ℕ → Bool → Stop → Scanned Text
text_in_form form t i bytes owned (wrong k j) = failed k j
text_in_form whole t i bytes owned (closed e) = if_utf8 i owned bytes e
text_in_form kept t i bytes owned (closed e) = valid_prefix i owned bytes e
text_in_form raw t i bytes owned (closed e) = taken (between t i (e - 1)) e
text_in_form raw_kept t i bytes owned (closed e) = taken (between t i (e - 1)) e
text_in_form kept t i bytes owned unclosed = valid_prefix i owned bytes (length t)
text_in_form kept t i bytes owned cut = valid_prefix i owned bytes (length t)
text_in_form raw_kept t i bytes owned unclosed = taken (between t i (length t)) (length t)
text_in_form form t i bytes owned unclosed = failed eof_string (length t)
text_in_form form t i bytes owned cut = failed eof_string (length t)

-- the string whose content begins at i
unfoldable pub content_at : Form → List ℕ → ℕ → Scanned Text
content_at form t i = text_in_form form t i (body_at t i).bytes (body_at t i).owned (body_at t i).stop

-- the string whose opening quote is at i
abbrev pub string_at : Form → List ℕ → ℕ → Scanned Text
string_at form t i = content_at form t (i + 1)
