-- A member of an object, as it is in its text.
use Rattle.std.specs.Prelude.{◌≡◌, ℕ, Bool, if◌then◌else◌, List, Option, Some, None, option_map, slice_range}
use Rattle.std.specs.Str.{bytes_eq}
use Rattle.jiter.specs.Caller.{Cause, Key, Node, NodeMembers, ReaderState, Reply, Start, Text, ValueType, at_start, begin}
use Rattle.jiter.specs.Caller.{end, finish, gave, key_step, next, object_read, refused, reply_seen, skip_read, text_at}
use Rattle.jiter.specs.Caller.{tree_type, value_of, value_place, value_read, whole, with_position, wrong_type}

-- after one value more, of a key that is the name or isn't
abbrev pub with_value : Bool → List ℕ → Option (List ℕ) → Option (List ℕ)
with_value is_named source found = if is_named then Some source else found

-- how a value is written
abbrev pub source_of : List ℕ → Node → List ℕ
source_of t n = slice_range t (begin n) (end n)

-- the decoded key is this name
abbrev pub is_name : List ℕ → List ℕ → Key → Bool
is_name name t k = bytes_eq (text_at t k.pieces k.begin k.end).bytes name

-- the source of the last member with this name, where this was found before these members
abbrev pub last_source : List ℕ → List ℕ → Option (List ℕ) → NodeMembers → Option (List ℕ)
last_source name t found NodeMembers.no_members = found
last_source name t found (NodeMembers.member k n ms) =
    last_source name t (with_value (is_name name t k) (source_of t n) found) ms

-- why a value that isn't an object is refused
abbrev pub no_object : List ℕ → Node → Cause
no_object t n = wrong_type ValueType.object (tree_type (value_of t n))

-- ---- any line, by what the reader's calls reply
-- the value of a member that has the name is read, and that of any other one skipped
abbrev pub part_read : Bool → ReaderState → ℕ → Start → Reply (Unit {0})
part_read is_named s i b = if is_named then reply_seen (λ v. tt) (value_read s i b) else skip_read s i b

-- whether a key is the name
abbrev pub key_is : List ℕ → Option Text → Option Bool
key_is name = option_map (λ key. bytes_eq key.bytes name)

-- The reader passed members of the object that comes next at s, and is at i: after the next member's key, of which
-- `key` says whether it is the name, or after the object. `found` is the source of the last member with the name.
pub data Passed (name : List ℕ) (s : ReaderState) : Option Bool → Option (List ℕ) → ℕ → Type 0 where
  first : (key : Option Bool) (i : ℕ) → reply_seen (key_is name) (next s (object_read whole s)) ≡ gave key i
      → Passed name s key None i
  past : (is_named : Bool) (found : Option (List ℕ)) (key : Option Bool) (i j e : ℕ)
      → Passed name s (Some is_named) found i
      → next (with_position s i) (part_read is_named (with_position s i)) ≡ gave tt j
      → reply_seen (key_is name) (key_step whole (with_position s j)) ≡ gave key e
      → Passed name s key
      (with_value is_named (slice_range s.text (value_place (with_position s i)) j) found) e

-- all members were passed, and nothing follows the object
pub record Finds (name line : List ℕ) (found : Option (List ℕ)) : Type 0 where
  pub place : ℕ
  pub last : ℕ
  pub passed : Passed name (at_start line) None found place
  pub ended : finish (with_position (at_start line) place) ≡ gave tt last

-- The first call that is refused, for this cause and at this index: that for the object, for a member's value, for the
-- next key, or for the end of the line.
pub data Fails (name : List ℕ) (s : ReaderState) (c : Cause) (x stop : ℕ) : Type 0 where
  at_object : next s (object_read whole s) ≡ refused c x stop → Fails name s c x stop
  at_value : (is_named : Bool) (found : Option (List ℕ)) (i : ℕ) → Passed name s (Some is_named) found i
      → next (with_position s i) (part_read is_named (with_position s i)) ≡ refused c x stop
      → Fails name s c x stop
  at_key : (is_named : Bool) (found : Option (List ℕ)) (i j : ℕ) → Passed name s (Some is_named) found i
      → next (with_position s i) (part_read is_named (with_position s i)) ≡ gave tt j
      → key_step whole (with_position s j) ≡ refused c x stop → Fails name s c x stop
  at_end : (found : Option (List ℕ)) (i : ℕ) → Passed name s None found i
      → finish (with_position s i) ≡ refused c x stop → Fails name s c x stop
