-- Open containers, and what the rest of a text completes them to.
use Rattle.std.specs.Prelude.{ℕ, suc, ◌-◌, if◌then◌else◌, Bool, List, [], ◌∷◌, length}
use Rattle.jiter_scan.specs.Kind.{Kind}
use Rattle.jiter_steps.specs.Node.{nesting_limit}
use Rattle.jiter_steps.specs.Step.{Step, more, closed, stuck, step}
use Rattle.jiter_steps.specs.Read.{Reading, Rules, Container, with_key, follow, after_part, parts_at, array_of}
use Rattle.jiter_steps.specs.Read.{object_of, inside_at}

-- an open container: the items so far; or the members so far, and the key that awaits its value
pub data Frame (K A : Type 0) : Type 0 where
  items_frame : List A → Frame K A
  members_frame : List (K × A) → K → Frame K A

-- a step whose forgiven error closes the container
abbrev pub resolve_step : (Kind → Bool) → Step → Step
resolve_step forgives (more j) = more j
resolve_step forgives (closed e) = closed e
resolve_step forgives (stuck k j) = if forgives k then closed j else stuck k j

module _ {K A : Type 0} (r : Rules K A) (t : List ℕ) where
  module _ {P : Type 0} (c : Container P A) where
    -- the rest of a container that has these parts: where the next one begins, and what a step after them leads to
    abbrev pub parts_from : List P → ℕ → Reading A
    parts_from parts j = parts_at r c t (length t) parts j

    abbrev pub parts_step : List P → Step → Reading A
    parts_step parts s = follow r (parts_from parts) (λ e. c.build e parts) s

  -- a value inside so many open containers
  abbrev pub value_in : ℕ → ℕ → Reading A
  value_in depth j = inside_at r t (suc nesting_limit - depth) j

  -- an array and an object that are in so many open containers
  abbrev pub array_in : ℕ → Container A A
  array_in depth = array_of r (value_in (suc depth)) t 0

  abbrev pub object_in : ℕ → Container (K × A) A
  object_in depth = object_of r (value_in (suc depth)) t 0

  -- what an open container goes on to, once the value that it awaits is read so
  abbrev pub after_value : ℕ → Frame K A → Reading A → Reading A
  after_value depth (items_frame items) x = after_part r (array_in depth) t (parts_from (array_in depth)) items x
  after_value depth (members_frame members k) x =
      after_part r (object_in depth) t (parts_from (object_in depth)) members (with_key k x)

  -- and then all of them, the innermost first
  abbrev pub resume : List (Frame K A) → Reading A → Reading A
  resume [] x = x
  resume (f ∷ fs) x = resume fs (after_value (length fs) f x)

  -- What is inside these open containers: where a value begins at j,
  abbrev pub value_from : List (Frame K A) → ℕ → Reading A
  value_from fs j = resume fs (value_in (length fs) j)

  -- where an object has these members and its next key begins at j,
  abbrev pub key_from : List (Frame K A) → List (K × A) → ℕ → Reading A
  key_from fs members j = resume fs (parts_from (object_in (length fs)) members j)

  -- where an array has these items, the last of which ends at e,
  abbrev pub items_from : List (Frame K A) → List A → ℕ → Reading A
  items_from fs items e = resume fs (parts_step (array_in (length fs)) items (step t (array_in (length fs)).next e))

  -- and where an object has these members, the last of which ends at e.
  abbrev pub members_from : List (Frame K A) → List (K × A) → ℕ → Reading A
  members_from fs members e =
      resume fs (parts_step (object_in (length fs)) members (step t (object_in (length fs)).next e))
