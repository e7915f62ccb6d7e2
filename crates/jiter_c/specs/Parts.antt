-- What C is told of a walk through the array or the object that comes next.
use Rattle.std.specs.Prelude.{◌≡◌, ◌≤◌, ℕ, suc, Bool, true, false, List, Option, Some, None, if◌then◌else◌, MatchOption}
use Rattle.std.specs.Prelude.{Result, Ok, Err}
use Rattle.std.specs.Str.{bytes_eq}
use Rattle.jiter.specs.Cause.{Cause}
use Rattle.jiter.specs.Errors.{cause_of}
use Rattle.jiter.specs.Jiter.{key_bytes, reply_seen}
use Rattle.jiter.specs.Parts.{RefusedAfter}
use Rattle.jiter.specs.Reader.{ReaderState, Reply, array_read, gave, item_step, key_step, next, object_read, peek}
use Rattle.jiter.specs.Reader.{refused, skip_read, value_place, with_position}
use Rattle.jiter.specs.declared.errors.JiterError.{JiterError}
use Rattle.jiter_steps.specs.StringReading.{raw, whole}
use Rattle.jiter_steps.specs.declared.parse.Start.{Start}
use Rattle.jiter_c.specs.Faults.{fault_of}
use Rattle.jiter_c.specs.Replies.{has_part}
use Rattle.jiter_c.specs.declared.faults.JiterFault.{JiterFault}

-- whether an object that comes next has a member, or else an array an item
abbrev pub first_part : Bool → ReaderState → Reply Bool
first_part true s = reply_seen has_part (next s (object_read raw s))
first_part false s = reply_seen has_part (next s (array_read s))

-- whether after a member another one follows, or else after an item
abbrev pub next_part : Bool → ReaderState → Reply Bool
next_part true s = reply_seen has_part (key_step raw s)
next_part false s = reply_seen has_part (item_step s)

-- the step into the array or the object that comes next: whether it has a part; another value is refused as no array
abbrev pub into_read : ReaderState → ℕ → Start → Reply Bool
into_read s i Start.Object = reply_seen has_part (object_read raw s i Start.Object)
into_read s i b = reply_seen has_part (array_read s i b)

-- where a reply is an error, P
abbrev pub IfRefused : {A : Type 0} → Reply A → Type 0 → Type 0
IfRefused (gave a e) P = Unit {0}
IfRefused (refused c i stop) P = P

-- where this reply is an error, so is what was returned, of the same cause at the same index, and the reader was left
-- there
abbrev pub RefusedSo : {X A : Type 0} → Reply A → Result X JiterError → ℕ → Type 0
RefusedSo (gave a e) result i = Unit {0}
RefusedSo (refused c x stop) (Ok a) i = ⊥
RefusedSo (refused c x stop) (Err e) i = (cause_of e.error_type ≡ c) × (e.index ≡ x) × (i ≡ stop)

-- an error tells why one of the reader's calls refused, at a place that lies no further back, and left the reader at i
pub record ReportsRefusal (s : ReaderState) (i : ℕ) (f : JiterFault) : Type 0 where
  pub cause : Cause
  pub index : ℕ
  pub refused : RefusedAfter s cause index i
  pub fault : f ≡ fault_of cause index

-- What a walk reports that left the reader at i: nothing, or why one of its calls failed.
abbrev pub ReportsWalk : ReaderState → Bool → ℕ → JiterFault → JiterFault → Type 0
ReportsWalk s true i before later = later ≡ before
ReportsWalk s false i before later = ReportsRefusal s i later

-- The walk passed k parts of an object, or else of an array, and each call of it succeeded. The reader is at i, and `more`
-- is whether another part follows.
pub data PartsPassed (object : Bool) (s : ReaderState) : Bool → ℕ → ℕ → Type 0 where
  first : (more : Bool) (i : ℕ) → first_part object s ≡ gave more i → PartsPassed object s more 0 i
  past : (k i j e : ℕ) (more : Bool) → PartsPassed object s true k i
      → next (with_position s i) (skip_read (with_position s i)) ≡ gave tt j
      → next_part object (with_position s j) ≡ gave more e → PartsPassed object s more (suc k) e

-- All parts of what comes next were passed, so many.
abbrev pub CountsParts : ReaderState → ℕ → Type 0
CountsParts s count = (object : Bool) × (e : ℕ) × PartsPassed object s false count e

-- The item with this number begins at e; or there are fewer, and the array ends at e.
abbrev pub FindsItem : ReaderState → ℕ → Bool → ℕ → Type 0
FindsItem s number true e =
    (i : ℕ) × (c : ℕ) × PartsPassed false s true number i × (peek (with_position s i) ≡ gave c e)
FindsItem s number false e = (k : ℕ) × (k ≤ number) × PartsPassed false s false k e

-- The walk passed members of an object, and each call of it succeeded. The reader is at i, after this key of the next
-- member if there is one; the value of the last member with the name began at `found`.
pub data MembersPassed (name : List ℕ) (s : ReaderState) : Option (List ℕ) → Option ℕ → ℕ → Type 0 where
  first : (key : Option (List ℕ)) (i : ℕ) → reply_seen key_bytes (next s (object_read whole s)) ≡ gave key i
      → MembersPassed name s key None i
  past : (key : List ℕ) (found : Option ℕ) (following : Option (List ℕ)) (i j e : ℕ)
      → MembersPassed name s (Some key) found i
      → next (with_position s i) (skip_read (with_position s i)) ≡ gave tt j
      → reply_seen key_bytes (key_step whole (with_position s j)) ≡ gave following e
      → MembersPassed name s following
      (if bytes_eq key name then Some (value_place (with_position s i)) else found) e

-- All members were passed. The reader is at the value of the last one with the name, or after the object.
abbrev pub FindsMember : List ℕ → ReaderState → Bool → ℕ → Type 0
FindsMember name s found i =
    (place : Option ℕ) × (e : ℕ) × MembersPassed name s None place e
    × MatchOption place ((found ≡ false) × (i ≡ e)) (λ p. (found ≡ true) × (i ≡ p))
