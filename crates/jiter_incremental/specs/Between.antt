-- A value that comes byte by byte: what the next byte makes of it, whatever comes after it.
use Rattle.std.specs.Prelude.{◌≡◌, ◌⊎◌, ℕ, ◌+◌, true, false, List, [], ◌∷◌, ◌++◌, slice_get, Some}
use Rattle.jiter_scan.specs.Kind.{Kind}
use Rattle.jiter_scan.specs.PartialMode.{is_active}
use Rattle.jiter_steps.specs.Blank.{is_blank}
use Rattle.jiter_steps.specs.Frames.{items_frame, members_frame}
use Rattle.jiter_steps.specs.Read.{Reading, fault}
use Rattle.jiter_steps.specs.Step.{begins_part}
use Rattle.jiter_steps.specs.Tree.{Text, Tree}
use Rattle.jiter_steps.specs.declared.parse.ContainerKind.TheVariants as shape
use Rattle.jiter_steps.specs.declared.parse.Start.{Start}
use Rattle.jiter_steps.specs.declared.parse.Start.TheVariants as start
use Rattle.jiter_incremental.specs.Arrived.{Arrived, OpenValue, IsLeft, at_value, between_parts, at_end, leads_on, owned}
use Rattle.jiter_incremental.specs.Slot.{OpenFrame}
use Rattle.jiter_value.specs.Settings.{rules_as}
use Rattle.jiter_incremental.specs.declared.reader.Awaits.{Awaits}
use Rattle.jiter_incremental.specs.declared.reader.Awaits.TheVariants as awaits
use Rattle.jiter_value.specs.declared.parse.settings.Settings.{Settings}

-- what is left open after a value inside these containers
abbrev pub after_value : Tree → List OpenFrame → Arrived
after_value x [] = at_end x 0
after_value x (items_frame xs ∷ fs) = between_parts awaits.Comma shape.Array (xs ++ x ∷ []) fs
after_value x (members_frame ms k ∷ fs) = between_parts awaits.Comma shape.Object (ms ++ (k, x) ∷ []) fs

-- these bytes as a text of their own
abbrev pub text_of : List ℕ → Text
text_of w = record { owned = true; bytes = w }

-- by any rules and in any text in which this byte is at j
abbrev pub Everywhere : ℕ → (Settings → List ℕ → ℕ → Type 0) → Type 0
Everywhere c P = (p : Settings) (t : List ℕ) (j : ℕ) → slice_get t j ≡ Some c → P p t j

-- what the rest of a text completes it to by these rules
abbrev pub completed : Settings → List ℕ → Arrived → ℕ → Reading Tree
completed p t s j = leads_on (rules_as owned p) t s j

-- what is left open where the whitespace byte c is passed
abbrev pub passed : Arrived → Arrived
passed (at_value a fs) = at_value a fs
passed (between_parts a h xs fs) = between_parts a h xs fs
passed (at_end v n) = at_end v (n + 1)

-- A value that is whole ended right here, or whitespace was passed after it.
abbrev pub EndsHere : Arrived → ℕ → Arrived → Type 0
EndsHere s c (at_end v n) = (n ≡ 0) ⊎ ((is_blank c ≡ true) × (passed s ≡ at_end v n))
EndsHere s c other = Unit {0}

-- The byte is taken.
pub record TakesByte (new : OpenValue) (s : Arrived) (c : ℕ) : Type 0 where
  pub next : Arrived
  pub left : IsLeft new next
  pub ends : EndsHere s c next
  pub goes : Everywhere c (λ p t j. completed p t s j ≡ completed p t next (j + 1))

-- a first byte of a string, a number or a literal
abbrev pub IsScalarStart : Start → Type 0
IsScalarStart start.Array = ⊥
IsScalarStart start.Object = ⊥
IsScalarStart start.Nothing = ⊥
IsScalarStart other = Unit {0}

-- an item may begin with the byte: it is not whitespace, and ends no array
abbrev pub BeginsItem : ℕ → Type 0
BeginsItem c = (is_blank c ≡ false) × (begins_part shape.Array c ≡ true)

-- A comma or the end is missing before the byte: in a partial mode the container ends there, else that is an error.
pub record ClosesBefore (new : OpenValue) (s : Arrived) (c : ℕ) (k : Kind) : Type 0 where
  pub next : Arrived
  pub left : IsLeft new next
  pub goes : Everywhere c (λ p t j. is_active p.mode ≡ true → completed p t s j ≡ completed p t next j)
  pub fails : Everywhere c (λ p t j. is_active p.mode ≡ false → completed p t s j ≡ fault k j j)

-- a part of a container is awaited
abbrev pub IsBeforePart : Awaits → Type 0
IsBeforePart awaits.First = Unit {0}
IsBeforePart awaits.Next = Unit {0}
IsBeforePart other = ⊥

-- a comma or the end of a container is awaited, or nothing
abbrev pub IsAfter : Awaits → Type 0
IsAfter awaits.Comma = Unit {0}
IsAfter awaits.Nothing = Unit {0}
IsAfter other = ⊥
