-- A document that arrives in chunks: what its bytes so far leave open, and what the rest of it completes that to.
use Rattle.std.specs.Prelude.{◌≡◌, ℕ, ◌+◌, ◌-◌, List, [], ◌∷◌, ◌++◌, length, Option, Some, None}
use Rattle.jiter_scan.specs.Kind.{Kind, eof_object, eof_value}
use Rattle.jiter_scan.specs.Scanned.{taken, failed}
use Rattle.jiter_scan.specs.Word.{Span}
use Rattle.jiter_steps.specs.Frames.{resume, value_in, array_in, object_in, parts_step}
use Rattle.jiter_steps.specs.Read.{Reading, done, fault, Rules, Container, prefix_answer}
use Rattle.jiter_steps.specs.Step.{Step, step, value_first, object_colon, container_first, container_comma, end_kind_of}
use Rattle.jiter_steps.specs.Step.{container_step}
use Rattle.jiter_steps.specs.Tree.{Text, Tree}
use Rattle.jiter_steps.specs.declared.parse.ContainerKind.{ContainerKind}
use Rattle.jiter_steps.specs.declared.parse.ContainerKind.TheVariants as shape
use Rattle.jiter_value.specs.Owned.{owned_text}
use Rattle.jiter_value.specs.Settings.{TextPolicy, each, rules_as}
use Rattle.jiter_incremental.specs.Slot.{OpenFrame, begun, filled, AwaitsPart, IsOfKey}
use Rattle.jiter_value.specs.Stacks.{PartTree, built}
use Rattle.jiter_incremental.specs.declared.reader.Awaits.{Awaits}
use Rattle.jiter_incremental.specs.declared.reader.Awaits.TheVariants as awaits
use Rattle.jiter_value.specs.declared.parse.settings.Settings.{Settings}

-- What the bytes so far leave open, where no token is unfinished: inside these containers a value is awaited, or its
-- colon; inside them is a container of these parts, of which another is awaited, a comma or the end; or the value
-- is whole, and ended so many bytes before.
pub data Arrived : Type 0 where
  at_value : Awaits → List OpenFrame → Arrived
  between_parts : Awaits → (h : ContainerKind) → List (PartTree h) → List OpenFrame → Arrived
  at_end : Tree → ℕ → Arrived

-- the value so far, if there is one
abbrev pub shown : Arrived → Option Tree
shown (at_value a []) = None
shown (at_value a (f ∷ fs)) = Some (filled fs (begun f))
shown (between_parts a h xs fs) = Some (filled fs (built h xs))
shown (at_end v n) = Some v

-- the error where the input ends there and nothing is forgiven, unless the value is whole
abbrev pub end_of : Arrived → Option Kind
end_of (at_value awaits.Colon fs) = Some eof_object
end_of (at_value a fs) = Some eof_value
end_of (between_parts awaits.Next h xs fs) = Some eof_value
end_of (between_parts a h xs fs) = Some (end_kind_of h)
end_of (at_end v n) = None

-- What is awaited before a value, and what between the parts of a container
abbrev pub IsBeforeValue : Awaits → Type 0
IsBeforeValue awaits.Value = Unit {0}
IsBeforeValue awaits.Colon = Unit {0}
IsBeforeValue other = ⊥

abbrev pub IsBetweenParts : Awaits → Type 0
IsBetweenParts awaits.First = Unit {0}
IsBetweenParts awaits.Next = Unit {0}
IsBetweenParts awaits.Comma = Unit {0}
IsBetweenParts other = ⊥

-- What is held of the value so far: what is awaited, how many containers are open, the last key, and the value.
pub record OpenValue : Type 0 where
  pub awaits : Awaits
  pub depth : ℕ
  pub key : Text
  pub tree : Tree

-- It leaves this open.
abbrev pub IsLeft : OpenValue → Arrived → Type 0
IsLeft v (at_value b fs) = (v.awaits ≡ b) × IsBeforeValue b × AwaitsPart v.depth v.tree fs × IsOfKey v.key fs
IsLeft v (between_parts b h xs fs) =
    (v.awaits ≡ b) × IsBetweenParts b × (v.depth ≡ length fs + 1) × (v.tree ≡ filled fs (built h xs))
IsLeft v (at_end x n) = (v.awaits ≡ awaits.Nothing) × (v.depth ≡ 0) × (v.tree ≡ x)

module _ (r : Rules Text Tree) (t : List ℕ) where
  -- where a value begins, or the error there
  abbrev pub value_span : Awaits → ℕ → Span
  value_span awaits.Colon j = object_colon t j
  value_span a j = step t value_first j

  -- and the value, inside so many containers
  abbrev pub value_then : ℕ → Span → Reading Tree
  value_then depth (taken u j) = value_in r t depth j
  value_then depth (failed k j) = fault k j j

  -- what decides between the parts of a container
  abbrev pub part_row : Awaits → ContainerKind → ℕ → Option ℕ → Step
  part_row awaits.First h = container_first h
  part_row awaits.Next h = container_comma h
  part_row a h = container_step h t

  abbrev pub container_of : (h : ContainerKind) → ℕ → Container (PartTree h) Tree
  container_of shape.Array depth = array_in r t depth
  container_of shape.Object depth = object_in r t depth

  -- What the rest of the text, from j on, completes it to.
  abbrev pub leads_on : Arrived → ℕ → Reading Tree
  leads_on (at_value a fs) j = resume r t fs (value_then (length fs) (value_span a j))
  leads_on (between_parts a h xs fs) j =
      resume r t fs (parts_step r t (container_of h (length fs)) xs (step t (part_row a h) j))
  leads_on (at_end v n) j = done v (j - n)

-- each text owned, repeated keys kept
abbrev pub owned : TextPolicy
owned = each owned_text

-- These bytes leave this open: whatever comes after them completes it to the value that the whole begins with.
pub record HasRead (p : Settings) (t : List ℕ) (s : Arrived) : Type 0 where
  pub goes : (u : List ℕ)
      → prefix_answer (rules_as owned p) (t ++ u) ≡ leads_on (rules_as owned p) (t ++ u) s (length t)
