-- What reading a value by a walk comes to. A walk reads the value that comes next to the pull reader: a scalar at once, a
-- container part by part (RFC 8259, 4 and 5).
use Rattle.std.specs.Prelude.{◌≡◌, ◌≤◌, ◌-◌, ℕ, Bool, false, List, length, Option, Some, Result, Ok, Err, IfOk, IfErr, IfSome}
use Rattle.std.specs.Prelude.{slice_get}
use Rattle.jiter_scan.specs.NumberWithin.{continues_number}
use Rattle.jiter_steps.specs.Answer.{only_ends}
use Rattle.jiter_steps.specs.Blank.{IsBlank, past_blanks}
use Rattle.jiter_steps.specs.Read.{done, value_at}
use Rattle.jiter.specs.Caller.{Cause, Key, Kind, MovesOn, Node, NodeMembers, Nodes, ReaderState, Spells, ValueType, begin}
use Rattle.jiter.specs.Caller.{cause_of, cause_text, end, is_memory_cause, json_error, nesting, nesting_limit, text_at}
use Rattle.jiter.specs.Caller.{tree_type, value_of, value_place, wrong_type}
use Rattle.jiter_walk.specs.declared.walk_error.WalkError.{WalkError}
use Rattle.jiter_walk.specs.declared.walk_error.WalkError.TheVariants as variant

-- Why a value can't be read: as the pull reader says, or for a cause of the caller's own.
pub data Reason (C : Type 0) : Type 0 where
  of_reader : Cause → Reason C
  custom : C → Reason C

-- What a value means to the caller: this, or an error with its reason and index.
pub data Outcome (C A : Type 0) : Type 0 where
  gives : A → Outcome C A
  fails : Reason C → ℕ → Outcome C A

-- What comes of it next; an error stays.
abbrev pub and_then : {C A B : Type 0} → Outcome C A → (A → Outcome C B) → Outcome C B
and_then (gives a) f = f a
and_then (fails r i) f = fails r i

-- Another type was wanted than that of the value: an error at its first byte.
abbrev pub other : {C A : Type 0} → ValueType → List ℕ → Node → Outcome C A
other wanted t n = fails (of_reader (wrong_type wanted (tree_type (value_of t n)))) (begin n)

-- ---- what the code returns
abbrev pub reason : {C : Type 0} → WalkError C → Reason C
reason (variant.Reader e) = of_reader (cause_of e.error_type)
reason (variant.Custom c i) = custom c

abbrev pub index_of : {C : Type 0} → WalkError C → ℕ
index_of (variant.Reader e) = e.index
index_of (variant.Custom c i) = i

abbrev pub is_memory_reason : {C : Type 0} → Reason C → Bool
is_memory_reason (of_reader c) = is_memory_cause c
is_memory_reason (custom c) = false

-- what an error prints, if a custom cause prints this
abbrev pub reason_output : {C : Type 0} → (C → Option (List ℕ)) → Reason C → Option (List ℕ)
reason_output output (of_reader c) = Some (cause_text c)
reason_output output (custom c) = output c

-- an allocation failed
abbrev pub IsOutOfMemory : {C : Type 0} → WalkError C → Type 0
IsOutOfMemory e = reason e ≡ of_reader (json_error Kind.out_of_memory)

-- no allocation failed
abbrev pub NeverOutOfMemory : {C X : Type 0} → Result X (WalkError C) → Type 0
NeverOutOfMemory result = IfErr result (λ e. IsOutOfMemory e → ⊥)

-- What was returned is this outcome, unless an allocation failed.
abbrev pub Returns : {C X A : Type 0} → (X → A) → Result X (WalkError C) → Outcome C A → Type 0
Returns view (Ok x) o = o ≡ gives (view x)
Returns view (Err e) o = (IsOutOfMemory e → ⊥) → o ≡ fails (reason e) (index_of e)

-- ---- the value that comes next
-- This value of the grammar comes next to a reader without partial strings: it nests within the limit, and no number
-- goes on after it. In a document this holds at each value.
pub record Comes (s : ReaderState) (n : Node) : Type 0 where
  pub strict : s.partial_strings ≡ false
  pub place : value_place s ≡ begin n
  pub spelled : Spells s.names s.text n
  pub limit : nesting n ≤ nesting_limit
  pub quiet : IfSome (slice_get s.text (end n)) (λ c. continues_number c ≡ false)

-- From i to e there is a value as far as the pull reader can tell: a skip of it, with some limit of nesting, ends at e.
-- A skip tests all of the grammar, but not UTF-8.
abbrev pub SkipsTo : Bool → List ℕ → ℕ → ℕ → Type 0
SkipsTo names t i e = (levels : ℕ) × (value_at (only_ends names) t levels i ≡ done tt e)

-- The bytes are a document as far as the pull reader can tell: whitespace, such a value, whitespace.
pub record IsReadable (t : List ℕ) : Type 0 where
  pub last : ℕ
  pub value : SkipsTo false t (past_blanks t 0) last
  pub after : IsBlank t last (length t)

-- What every walk promises of the value that comes next, of which it makes what `meaning` says.
pub record Walks {C X A : Type 0} (view : X → A) (meaning : List ℕ → Node → Outcome C A)
    (result : Result X (WalkError C)) (old new : ReaderState) : Type 0 where
  -- The reader keeps its bytes and settings, never moves back and stays within the bytes.
  pub moves : MovesOn old new
  -- The result is what the value means, unless an allocation failed.
  pub value : (n : Node) → Comes old n → Returns view result (meaning old.text n)
  -- Then the reader is at the value's end.
  pub place : (n : Node) → Comes old n → IfOk result (λ _. new.position ≡ end n)
  -- Whatever the bytes are: something is returned only for a value, as far as the reader can tell.
  pub reads : old.partial_strings ≡ false
      → IfOk result (λ _. SkipsTo old.names old.text (value_place old) new.position)
  -- An error's index is within the bytes.
  pub index : IfErr result (λ e. index_of e ≤ length old.text)
  -- When memory runs out, the error's index is the reader's position.
  pub memory : IfErr result (λ e. IsOutOfMemory e → index_of e ≡ new.position)

-- ---- the walks through containers
-- the bytes of a decoded key
abbrev pub key_text : List ℕ → Key → List ℕ
key_text t k = (text_at t k.pieces k.begin k.end).bytes

-- After these members. Of each its key, the index of the key's quote and its value are told.
abbrev pub members_walked : {C S : Type 0} → (List ℕ → List ℕ → ℕ → Node → S → Outcome C S) → List ℕ → S → NodeMembers
    → Outcome C S
members_walked after t s NodeMembers.no_members = gives s
members_walked after t s (NodeMembers.member k n ms) =
    and_then (after t (key_text t k) k.begin n s) (λ r. members_walked after t r ms)

-- after the members of an object
abbrev pub object_walked : {C S : Type 0} → (List ℕ → List ℕ → ℕ → Node → S → Outcome C S) → S → List ℕ → Node
    → Outcome C S
object_walked after s t (Node.object b e ms) = members_walked after t s ms
object_walked after s t n = other ValueType.object t n

-- what the members of an object come to: this, or this is missing
pub data Finished (C A : Type 0) : Type 0 where
  complete : A → Finished C A
  missing : C → Finished C A

-- What was returned is this.
abbrev pub Completes : {C X A : Type 0} → (X → A) → Result X C → Finished C A → Type 0
Completes view (Ok x) f = f ≡ complete (view x)
Completes view (Err c) f = f ≡ missing c

-- What is missing is an error at the object's last byte.
abbrev pub finished : {C A : Type 0} → Finished C A → ℕ → Outcome C A
finished (complete a) i = gives a
finished (missing c) i = fails (custom c) i

-- what an object means whose members come to this
abbrev pub object_meaning : {C S A : Type 0} → (List ℕ → List ℕ → ℕ → Node → S → Outcome C S) → (S → Finished C A) → S
    → List ℕ → Node → Outcome C A
object_meaning after whole s t n = and_then (object_walked after s t n) (λ r. finished (whole r) (end n - 1))

-- after these items
abbrev pub items_walked : {C S : Type 0} → (List ℕ → Node → S → Outcome C S) → List ℕ → S → Nodes → Outcome C S
items_walked after t s Nodes.no_nodes = gives s
items_walked after t s (Nodes.node n ns) = and_then (after t n s) (λ r. items_walked after t r ns)

-- after the items of an array
abbrev pub array_walked : {C S : Type 0} → (List ℕ → Node → S → Outcome C S) → S → List ℕ → Node → Outcome C S
array_walked after s t (Node.array b e ns) = items_walked after t s ns
array_walked after s t n = other ValueType.array t n
