-- The steps between the parts of a container (RFC 8259, 4 and 5): whitespace is passed, and then a byte decides.
use Rattle.std.specs.Prelude.{ℕ, ◌+◌, ◌==◌, if◌then◌else◌, Bool, not, List, slice_get, Option, Some, None}
use Rattle.jiter_scan.specs.Ascii as ascii
use Rattle.jiter_scan.specs.Kind.{Kind, eof_list, eof_object, eof_value, expected_colon, expected_list_comma_or_end}
use Rattle.jiter_scan.specs.Kind.{expected_object_comma_or_end, key_must_be_a_string, trailing_comma}
use Rattle.jiter_scan.specs.Kind.{trailing_characters}
use Rattle.jiter_scan.specs.Scanned.{taken, failed}
use Rattle.jiter_scan.specs.Word.{Span}
use Rattle.jiter_scan.specs.NumberReading.{span_then}
use Rattle.jiter_steps.specs.Blank.{past_blanks}
use Rattle.jiter_steps.specs.declared.parse.ContainerKind.{ContainerKind}
use Rattle.jiter_steps.specs.declared.parse.ContainerKind.TheVariants as shape
use Rattle.jiter_steps.specs.declared.parse.Start.{Start}
use Rattle.jiter_steps.specs.declared.parse.Start.TheVariants as start

-- where the reading goes on, the end of the container, or an error at its place
pub data Step : Type 0 where
  more : ℕ → Step
  closed : ℕ → Step
  stuck : Kind → ℕ → Step

-- what the byte after the whitespace from i on decides, or the end of input there
abbrev pub step : {A : Type 0} → List ℕ → (ℕ → Option ℕ → A) → ℕ → A
step t row i = row (past_blanks t i) (slice_get t (past_blanks t i))

-- What the steps of arrays and those of objects differ in: the byte that closes,
abbrev pub closer_of : ContainerKind → ℕ
closer_of shape.Array = ascii.right_bracket
closer_of shape.Object = ascii.right_brace

-- what its first byte says,
abbrev pub opening : ContainerKind → Start
opening shape.Array = start.Array
opening shape.Object = start.Object

-- what a part begins with: an item with any other byte, a member with its key's quote,
abbrev pub begins_part : ContainerKind → ℕ → Bool
begins_part shape.Array c = not (c == ascii.right_bracket)
begins_part shape.Object c = c == ascii.quote

-- the error where the input ends before it is closed,
abbrev pub end_kind_of : ContainerKind → Kind
end_kind_of shape.Array = eof_list
end_kind_of shape.Object = eof_object

-- and the error where neither a comma nor the closer is after a part.
abbrev pub comma_kind_of : ContainerKind → Kind
comma_kind_of shape.Array = expected_list_comma_or_end
comma_kind_of shape.Object = expected_object_comma_or_end

-- after the opening bracket: a part, or the closer
abbrev pub container_first : ContainerKind → ℕ → Option ℕ → Step
container_first b j None = stuck (end_kind_of b) j
container_first b j (Some c) =
    if begins_part b c then more j
    else (if c == closer_of b then closed (j + 1)
    else stuck key_must_be_a_string j)

-- after a comma: a part
abbrev pub container_comma : ContainerKind → ℕ → Option ℕ → Step
container_comma b j None = stuck eof_value j
container_comma b j (Some c) =
    if begins_part b c then more j
    else (if c == closer_of b then stuck trailing_comma j
    else stuck key_must_be_a_string j)

-- after a part: a comma and the part after it, or the closer
abbrev pub container_step : ContainerKind → List ℕ → ℕ → Option ℕ → Step
container_step b t j None = stuck (end_kind_of b) j
container_step b t j (Some c) =
    if c == closer_of b then closed (j + 1)
    else (if c == ascii.comma then step t (container_comma b) (j + 1)
    else stuck (comma_kind_of b) j)

-- after `[`, and after an item
abbrev pub array_first : ℕ → Option ℕ → Step
array_first = container_first shape.Array

abbrev pub array_step : List ℕ → ℕ → Option ℕ → Step
array_step = container_step shape.Array

-- after `{`, and after a member
abbrev pub object_first : ℕ → Option ℕ → Step
object_first = container_first shape.Object

abbrev pub object_step : List ℕ → ℕ → Option ℕ → Step
object_step = container_step shape.Object

-- the colon after a key
abbrev pub colon : ℕ → Option ℕ → Span
colon j None = failed eof_object j
colon j (Some c) = if c == ascii.colon then taken tt (j + 1) else failed expected_colon j

-- where a value begins: at any byte
abbrev pub value_first : ℕ → Option ℕ → Span
value_first j None = failed eof_value j
value_first j (Some c) = taken tt j

-- after a key: its colon, and the place where its value begins
abbrev pub object_colon : List ℕ → ℕ → Span
object_colon t i = span_then (step t colon i) (step t value_first)

-- after a document's value: nothing
abbrev pub document_end : ℕ → Option ℕ → Span
document_end j None = taken tt j
document_end j (Some c) = failed trailing_characters j
