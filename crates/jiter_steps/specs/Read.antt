-- Reading a value from the left. What a scalar gives, what is built and what is forgiven are the caller's rules.
use Rattle.std.specs.Prelude.{ℕ, zero, suc, ◌+◌, Bool, if◌then◌else◌, List, [], ◌∷◌, ◌++◌, length, slice_index}
use Rattle.std.specs.Prelude.{slice_get, Option, Some, None}
use Rattle.jiter_scan.specs.Kind.{Kind, eof_value, expected_value, trailing_characters, recursion_limit}
use Rattle.jiter_scan.specs.Scanned.{Scanned, taken, failed}
use Rattle.jiter_scan.specs.Word.{Span}
use Rattle.jiter_steps.specs.Blank.{past_blanks}
use Rattle.jiter_steps.specs.Literal.{start_of}
use Rattle.jiter_steps.specs.Node.{nesting_limit}
use Rattle.jiter_steps.specs.Step.{Step, more, closed, stuck, step, array_first, array_step, object_first, object_colon}
use Rattle.jiter_steps.specs.Step.{object_step}
use Rattle.jiter_steps.specs.declared.parse.Literal.{Literal}
use Rattle.jiter_steps.specs.declared.parse.Start.{Start}
use Rattle.jiter_steps.specs.declared.parse.Start.TheVariants as start

-- a value and its end; or an error's kind, its index, and where the reading is then
pub data Reading (A : Type 0) : Type 0 where
  done : A → ℕ → Reading A
  fault : Kind → ℕ → ℕ → Reading A

-- Keys are seen as K and values as A. A container is built from its begin to its end.
pub record Rules (K A : Type 0) : Type 0 where
  pub forgives : Kind → Bool
  pub literal : List ℕ → Literal → ℕ → Scanned A
  pub number : List ℕ → ℕ → Scanned A
  pub text : List ℕ → ℕ → Scanned A
  pub key : List ℕ → ℕ → Scanned K
  -- the error of a key at this place that these members before it forbid
  pub refuses : List (K × A) → List ℕ → ℕ → Option (Kind × ℕ)
  pub array : ℕ → ℕ → List A → A
  pub object : ℕ → ℕ → List (K × A) → A

-- A container: what may be after its bracket, what after a part, a part at a place, the error there that the parts
-- before it make, and what is built of the parts.
pub record Container (P A : Type 0) : Type 0 where
  pub first : ℕ → Option ℕ → Step
  pub next : ℕ → Option ℕ → Step
  pub part : ℕ → Reading P
  pub refuses : List P → ℕ → Option (Kind × ℕ)
  pub build : ℕ → List P → A

-- a scalar at i; its error leaves the reading there
abbrev pub scalar_at : {A : Type 0} → ℕ → Scanned A → Reading A
scalar_at i (taken a e) = done a e
scalar_at i (failed k j) = fault k j i

-- A member is a key, its colon and its value. Errors of the colon leave the reading at their index.
abbrev pub with_key : {K A : Type 0} → K → Reading A → Reading (K × A)
with_key k (done a e) = done (k, a) e
with_key k (fault kind i stop) = fault kind i stop

abbrev pub after_colon : {K A : Type 0} → K → (ℕ → Reading A) → Span → Reading (K × A)
after_colon k inner (taken u j) = with_key k (inner j)
after_colon k inner (failed kind j) = fault kind j j

abbrev pub after_key : {K A : Type 0} → (ℕ → Reading A) → List ℕ → ℕ → Scanned K → Reading (K × A)
after_key inner t i (taken k e) = after_colon k inner (object_colon t e)
after_key inner t i (failed kind j) = fault kind j i

-- a part, unless those before it refuse it: it is not looked at then
abbrev pub unless_refused : {P : Type 0} → Option (Kind × ℕ) → Reading P → Reading P
unless_refused None x = x
unless_refused (Some f) x = fault f.0 f.1 f.1

-- after a whole text's value nothing may be
abbrev pub if_last : {A : Type 0} → A → ℕ → ℕ → Option ℕ → Reading A
if_last a e j None = done a e
if_last a e j (Some c) = fault trailing_characters j j

abbrev pub to_end : {A : Type 0} → List ℕ → Reading A → Reading A
to_end t (done a e) = if_last a e (past_blanks t e) (slice_get t (past_blanks t e))
to_end t (fault k i stop) = fault k i stop

module _ {K A : Type 0} where
  -- an error inside a container: where it is forgiven the container closes at the stop
  abbrev pub if_forgiven : Rules K A → (ℕ → A) → Kind → ℕ → ℕ → Reading A
  if_forgiven r close k i stop = if r.forgives k then done (close stop) stop else fault k i stop

  -- goes on, or closes the container
  abbrev pub follow : Rules K A → (ℕ → Reading A) → (ℕ → A) → Step → Reading A
  follow r next close (more j) = next j
  follow r next close (closed e) = done (close e) e
  follow r next close (stuck k j) = if_forgiven r close k j j

  module _ {P : Type 0} where
    -- after a part
    abbrev pub after_part : Rules K A → Container P A → List ℕ → (List P → ℕ → Reading A) → List P → Reading P
        → Reading A
    after_part r c t go parts (done p e) =
        follow r (go (parts ++ p ∷ [])) (λ e. c.build e (parts ++ p ∷ [])) (step t c.next e)
    after_part r c t go parts (fault k i stop) = if_forgiven r (λ e. c.build e parts) k i stop

    -- The parts from i on, after those so far. The number bounds the rounds; the text's length is always enough.
    unfoldable pub parts_at : Rules K A → Container P A → List ℕ → ℕ → List P → ℕ → Reading A
    parts_at r c t zero parts i = fault eof_value i i
    parts_at r c t (suc n) parts i =
        after_part r c t (λ more_parts j. parts_at r c t n more_parts j) parts
        (unless_refused (c.refuses parts i) (c.part i))

    -- the container whose bracket is at i
    abbrev pub container_at : Rules K A → Container P A → List ℕ → ℕ → Reading A
    container_at r c t i = follow r (parts_at r c t (length t) []) (λ e. c.build e []) (step t c.first (i + 1))

  -- the array that begins at i, and the object, where inner reads the values inside
  abbrev pub array_of : Rules K A → (ℕ → Reading A) → List ℕ → ℕ → Container A A
  array_of r inner t i =
      record {
        first = array_first;
        next = array_step t;
        part = inner;
        refuses = λ items j. None;
        build = r.array i;
      }

  abbrev pub object_of : Rules K A → (ℕ → Reading A) → List ℕ → ℕ → Container (K × A) A
  object_of r inner t i =
      record {
        first = object_first;
        next = object_step t;
        part = λ j. after_key inner t j (r.key t j);
        refuses = λ members j. r.refuses members t j;
        build = r.object i;
      }

  -- a value that begins so
  abbrev pub value_with : Rules K A → (ℕ → Reading A) → List ℕ → ℕ → Start → Reading A
  value_with r inner t i start.Array = container_at r (array_of r inner t i) t i
  value_with r inner t i start.Object = container_at r (object_of r inner t i) t i
  value_with r inner t i start.String = scalar_at i (r.text t i)
  value_with r inner t i start.Number = scalar_at i (r.number t i)
  value_with r inner t i (start.Literal l) = scalar_at i (r.literal t l i)
  value_with r inner t i start.Nothing = fault expected_value i i

  -- A value inside a container with so many levels left: with none it is the limit's error at its first byte.
  unfoldable pub inside_at : Rules K A → List ℕ → ℕ → ℕ → Reading A
  inside_at r t zero i = fault recursion_limit i i
  inside_at r t (suc levels) i = value_with r (λ j. inside_at r t levels j) t i (start_of (slice_index t i))

  -- The value at i, with levels left for so many containers that are not empty, one inside another.
  abbrev pub value_at : Rules K A → List ℕ → ℕ → ℕ → Reading A
  value_at r t levels i = value_with r (inside_at r t levels) t i (start_of (slice_index t i))

  abbrev pub if_begun : Rules K A → List ℕ → ℕ → Option ℕ → Reading A
  if_begun r t i None = fault eof_value i i
  if_begun r t i (Some c) = value_at r t nesting_limit i

  -- the text's value, whatever follows it
  unfoldable pub prefix_answer : Rules K A → List ℕ → Reading A
  prefix_answer r t = if_begun r t (past_blanks t 0) (slice_get t (past_blanks t 0))

  -- the text's value, with nothing but whitespace round it
  unfoldable pub whole_answer : Rules K A → List ℕ → Reading A
  whole_answer r t = to_end t (prefix_answer r t)
