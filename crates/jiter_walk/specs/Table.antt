-- Objects that become structs by a table of their fields.
use Prim.Native.String.{String}
use Rattle.std.specs.Prelude.{◌≡◌, ◌⊎◌, ◌&&◌, ℕ, Bool, true, not, if◌then◌else◌, List, [], ◌∷◌, Option, Some, None, codes}
use Rattle.std.specs.Prelude.{unwrap_or}
use Rattle.std.specs.Str.{bytes_eq}
use Rattle.jiter.specs.Caller.{Members, Node, Tree, member_named, value_of}
use Rattle.jiter_walk.specs.Walk.{Finished, Outcome, and_then, complete, custom, fails, gives, missing, object_meaning}

-- What a value means; and what this says of its tree.
pub record Meaning (C A : Type 0) : Type 1 where
  pub of : List ℕ → Node → Outcome C A
  pub Is : Tree → A → Type 0
  pub shows : (t : List ℕ) (n : Node) (a : A) → of t n ≡ gives a → Is (value_of t n) a

-- Without a member of the name: an error with this cause, nothing, or a default.
pub data Absent (C A : Type 0) : Type 0 where
  error : C → Absent C A
  nothing : Absent C A
  default : A → Absent C A

-- A second member of the name counts in place of the first, or is skipped, or is an error with this cause at its key.
pub data Repeated (C : Type 0) : Type 0 where
  last_counts : Repeated C
  first_counts : Repeated C
  error : C → Repeated C

-- A member of another name is skipped, or is an error with this cause at its key.
pub data Unknown (C : Type 0) : Type 0 where
  skipped : Unknown C
  error : C → Unknown C

pub record Field (C : Type 0) : Type 1 where
  pub Value : Type 0
  pub key : List ℕ
  pub meaning : Meaning C Value
  pub absent : Absent C Value
  pub repeated : Repeated C

pub record Table (C : Type 0) : Type 1 where
  pub fields : List (Field C)
  pub unknown : Unknown C

-- ---- how a table is written
-- a field that must be there; without it this is the cause
abbrev pub required : {C A : Type 0} → String → Meaning C A → C → Field C
required key m c = record {
  Value = _;
  key = codes key;
  meaning = m;
  absent = Absent.error c;
  repeated = Repeated.last_counts;
}

-- a field that may be there
abbrev pub optional : {C A : Type 0} → String → Meaning C A → Field C
optional key m = record {
  Value = _;
  key = codes key;
  meaning = m;
  absent = Absent.nothing;
  repeated = Repeated.last_counts;
}

-- a field that has this value if it is not there
abbrev pub defaulted : {C A : Type 0} → String → Meaning C A → A → Field C
defaulted key m a = record {
  Value = _;
  key = codes key;
  meaning = m;
  absent = Absent.default a;
  repeated = Repeated.last_counts;
}

-- this field at most once; a second one is an error with this cause
abbrev pub once : {C : Type 0} → C → Field C → Field C
once c f = record {
  Value = f.Value;
  key = f.key;
  meaning = f.meaning;
  absent = f.absent;
  repeated = Repeated.error c;
}

-- this field by its first member; a second one is skipped
abbrev pub first : {C : Type 0} → Field C → Field C
first f = record {
  Value = f.Value;
  key = f.key;
  meaning = f.meaning;
  absent = f.absent;
  repeated = Repeated.first_counts;
}

-- these fields; other members are skipped
abbrev pub table : {C : Type 0} → List (Field C) → Table C
table fs = record { fields = fs; unknown = Unknown.skipped }

-- these fields alone; another member is an error with this cause
abbrev pub only : {C : Type 0} → C → List (Field C) → Table C
only c fs = record { fields = fs; unknown = Unknown.error c }

-- ---- what has been read: a slot for each field
abbrev pub Slots : {C : Type 0} → List (Field C) → Type 0
Slots [] = Unit {0}
Slots (f ∷ fs) = Option f.Value × Slots fs

abbrev pub all_empty : {C : Type 0} (fs : List (Field C)) → Slots fs
all_empty [] = tt
all_empty (f ∷ fs) = (None, all_empty fs)

-- a value for this slot, unless the field is repeated; its key is at this index
abbrev pub unless_repeated : {C A : Type 0} → Repeated C → ℕ → Option A → Outcome C A → Outcome C A
unless_repeated Repeated.last_counts i s o = o
unless_repeated Repeated.first_counts i None o = o
unless_repeated Repeated.first_counts i (Some a) o = gives a
unless_repeated (Repeated.error c) i None o = o
unless_repeated (Repeated.error c) i (Some a) o = fails (custom c) i

abbrev pub unless_unknown : {C S : Type 0} → Unknown C → ℕ → S → Outcome C S
unless_unknown Unknown.skipped i s = gives s
unless_unknown (Unknown.error c) i s = fails (custom c) i

-- After a member with this key at i, and this value. The slots of these fields are put beside those before them.
abbrev pub set_among : {C S : Type 0} → Unknown C → (fs : List (Field C)) → (Slots fs → S) → List ℕ → List ℕ → ℕ → Node
    → Slots fs → Outcome C S
set_among u [] put t key i n s = unless_unknown u i (put s)
set_among u (f ∷ fs) put t key i n s =
    if bytes_eq key f.key then
    and_then (unless_repeated f.repeated i s.0 (f.meaning.of t n)) (λ a. gives (put (Some a, s.1)))
    else set_among u fs (λ r. put (s.0, r)) t key i n s.1

abbrev pub set : {C : Type 0} (x : Table C) → List ℕ → List ℕ → ℕ → Node → Slots x.fields → Outcome C (Slots x.fields)
set x t key i n s = set_among x.unknown x.fields (λ r. r) t key i n s

-- ---- the keys of the fields
-- no field has this key
abbrev pub differs : {C : Type 0} → List ℕ → List (Field C) → Bool
differs key [] = true
differs key (f ∷ fs) = not (bytes_eq key f.key) && differs key fs

-- The name that a key was found to be: this one, or none of the fields'.
abbrev pub IsNameIn : {C : Type 0} → List (Field C) → List ℕ → Option (List ℕ) → Type 0
IsNameIn fs key (Some name) = bytes_eq key name ≡ true
IsNameIn fs key None = differs key fs ≡ true

-- After a member with the key of this name; or with a name that no field has.
abbrev pub set_named : {C : Type 0} (x : Table C) → List ℕ → Option (List ℕ) → ℕ → Node → Slots x.fields
    → Outcome C (Slots x.fields)
set_named x t (Some name) i n s = set x t name i n s
set_named x t None i n s = unless_unknown x.unknown i s

-- ---- what all members come to
abbrev pub Final : {C A : Type 0} → Absent C A → Type 0
Final {A = A} (Absent.error c) = A
Final {A = A} Absent.nothing = Option A
Final {A = A} (Absent.default a) = A

abbrev pub final : {C A : Type 0} (w : Absent C A) → Option A → Finished C (Final w)
final (Absent.error c) None = missing c
final (Absent.error c) (Some a) = complete a
final Absent.nothing s = complete s
final (Absent.default d) s = complete (unwrap_or s d)

abbrev pub Finals : {C : Type 0} → List (Field C) → Type 0
Finals [] = Unit {0}
Finals (f ∷ fs) = Final f.absent × Finals fs

abbrev pub and_finally : {C A B : Type 0} → Finished C A → (A → Finished C B) → Finished C B
and_finally (complete a) g = g a
and_finally (missing c) g = missing c

-- the first field that is missing is the error
abbrev pub all_final : {C : Type 0} (fs : List (Field C)) → Slots fs → Finished C (Finals fs)
all_final [] s = complete tt
all_final (f ∷ fs) s = and_finally (final f.absent s.0) (λ x. and_finally (all_final fs s.1) (λ r. complete (x, r)))

-- What a node means by a table.
abbrev pub object_in : {C : Type 0} (x : Table C) → List ℕ → Node → Outcome C (Finals x.fields)
object_in x t n = object_meaning (set x) (all_final x.fields) (all_empty x.fields) t n

-- no two fields have one key
abbrev pub distinct : {C : Type 0} → List (Field C) → Bool
distinct [] = true
distinct (f ∷ fs) = differs f.key fs && distinct fs

-- ---- what the struct says of the tree
-- the value of the first member of this name (RFC 8259, 4: names should be unique, and readers differ where they aren't)
abbrev pub first_among : List ℕ → Members → Option Tree
first_among key Members.no_members = None
first_among key (Members.member k v ms) = if bytes_eq k.bytes key then Some v else first_among key ms

abbrev pub first_named : List ℕ → Tree → Option Tree
first_named key (Tree.object ms) = first_among key ms
first_named key v = None

-- the last member of this name has a value of which this holds
pub record LastIs {A : Type 0} (Is : Tree → A → Type 0) (v : Tree) (key : List ℕ) (a : A) : Type 0 where
  pub value : Tree
  pub last : member_named key v ≡ Some value
  pub is : Is value a

-- the first member of this name has a value of which this holds
pub record FirstIs {A : Type 0} (Is : Tree → A → Type 0) (v : Tree) (key : List ℕ) (a : A) : Type 0 where
  pub value : Tree
  pub first : first_named key v ≡ Some value
  pub is : Is value a

-- the member of this name that counts; where a second one is an error there is only one
abbrev pub CountedIs : {C A : Type 0} → Repeated C → (Is : Tree → A → Type 0) → Tree → List ℕ → A → Type 0
CountedIs Repeated.last_counts Is v key a = LastIs Is v key a
CountedIs Repeated.first_counts Is v key a = FirstIs Is v key a
CountedIs (Repeated.error c) Is v key a = LastIs Is v key a

-- no member has this name
abbrev pub HasNo : Tree → List ℕ → Type 0
HasNo v key = member_named key v ≡ None

abbrev pub FieldHolds : {C A : Type 0} (Is : Tree → A → Type 0) (w : Absent C A) → Repeated C → List ℕ → Tree → Final w
    → Type 0
FieldHolds Is (Absent.error c) r key v x = CountedIs r Is v key x
FieldHolds Is Absent.nothing r key v None = HasNo v key
FieldHolds Is Absent.nothing r key v (Some x) = CountedIs r Is v key x
FieldHolds Is (Absent.default d) r key v x = CountedIs r Is v key x ⊎ (HasNo v key × (x ≡ d))

-- Each field is what the last member of its name is, or the first one where that counts.
abbrev pub Holds : {C : Type 0} (fs : List (Field C)) → Tree → Finals fs → Type 0
Holds [] v x = Unit {0}
Holds (f ∷ fs) v x = FieldHolds f.meaning.Is f.absent f.repeated f.key v x.0 × Holds fs v x.1
