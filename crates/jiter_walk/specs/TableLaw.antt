-- Of a walk by a table: each field is what the member of its name is that counts. These are proofs, which no reader has
-- to believe, as in Shown. No proof here calls a tactic.
use Rattle.std.proofs.Common.{◌≡◌, ◌∙◌, inl, inr, ◌-◌, ℕ, Bool, true, false, not, List, [], ◌∷◌, refl, sym, ap, subst}
use Rattle.std.specs.Prelude.{Option, Some, None, if◌then◌else◌, option_map, slice_range, unwrap_or}
use Rattle.std.specs.Str.{bytes_eq}
use Rattle.std.proofs.lemmas.Bool.{and_parts, false≢true}
use Rattle.std.proofs.lemmas.Slice.Eq.{bytes_eq-Decides}
use Rattle.jiter.specs.Caller.{Literal, Members, Node, NodeMembers, Number, Tree, end, last_such, member_named, members_of}
use Rattle.jiter.specs.Caller.{number_tree, number_value, value_of}
use Rattle.jiter_walk.specs.Walk.{Finished, Outcome, and_then, complete, finished, gives, key_text, members_walked}
use Rattle.jiter_walk.specs.Walk.{missing, object_walked}
use Rattle.jiter_walk.specs.Table.{Absent, CountedIs, Field, FieldHolds, Final, Finals, HasNo, Holds, Meaning, Repeated}
use Rattle.jiter_walk.specs.Table.{Slots, Table, Unknown, all_empty, all_final, and_finally, differs, distinct, final}
use Rattle.jiter_walk.specs.Table.{first_among, first_named, object_in, set, set_among, unless_repeated, unless_unknown}
use Rattle.jiter_walk.specs.Shown.{and_then-gives, gives-same, given, nothing-some, some-same}

-- the one that counts, of what was found and one more
abbrev counts : {C X : Type 0} → Repeated C → Option X → X → Option X
counts Repeated.first_counts (Some y) x = Some y
counts w found x = Some x

-- the value of the member of this name that counts, of these and of what was found before
abbrev counted_node : {C : Type 0} → Repeated C → List ℕ → List ℕ → Option Node → NodeMembers → Option Node
counted_node w t key found NodeMembers.no_members = found
counted_node w t key found (NodeMembers.member k n ms) =
    counted_node w t key (if bytes_eq (key_text t k) key then counts w found n else found) ms

-- the same in a tree
abbrev counted_tree : {C : Type 0} → Repeated C → List ℕ → Option Tree → Members → Option Tree
counted_tree w key found Members.no_members = found
counted_tree w key found (Members.member k v ms) =
    counted_tree w key (if bytes_eq k.bytes key then counts w found v else found) ms

-- the value of the member of this name that counts, if there is one
abbrev counted_member : {C : Type 0} → Repeated C → List ℕ → List ℕ → Node → Option Node
counted_member w key t (Node.object b e ms) = counted_node w t key None ms
counted_member w key t n = None

abbrev counted_named : {C : Type 0} → Repeated C → List ℕ → Tree → Option Tree
counted_named w key (Tree.object ms) = counted_tree w key None ms
counted_named w key v = None

if-true : {X : Type 0} (b : Bool) (x y : X) → b ≡ true → (if b then x else y) ≡ x
if-true true x y h = refl
if-true false x y h = absurd (false≢true h)

if-false : {X : Type 0} (b : Bool) (x y : X) → b ≡ false → (if b then x else y) ≡ y
if-false false x y h = refl
if-false true x y h = absurd (false≢true (sym h))

not-true : (b : Bool) → not b ≡ true → b ≡ false
not-true false h = refl
not-true true h = absurd (false≢true h)

-- ---- after each member
-- a slot holds what was found under its key
abbrev pub Keeps : {C A : Type 0} → (List ℕ → Node → Outcome C A) → List ℕ → Option Node → Option A → Type 0
Keeps of t None s = s ≡ None
Keeps of t (Some n) s = (a : _) × (of t n ≡ gives a) × (s ≡ Some a)

-- what was found under each key, by which member counts
abbrev Found : Type 0 → Type 0
Found C = Repeated C → List ℕ → Option Node

abbrev pub AllKeep : {C : Type 0} (fs : List (Field C)) → List ℕ → Found C → Slots fs → Type 0
AllKeep [] t found s = Unit {0}
AllKeep (f ∷ fs) t found s = Keeps f.meaning.of t (found f.repeated f.key) s.0 × AllKeep fs t found s.1

all-keep-none : {C : Type 0} (fs : List (Field C)) (t : List ℕ) → AllKeep fs t (λ w key. None) (all_empty fs)
all-keep-none [] t = tt
all-keep-none (f ∷ fs) t = (refl, all-keep-none fs t)

-- after a member more
slot-keeps : {C A : Type 0} (of : List ℕ → Node → Outcome C A) (t : List ℕ) (w : Repeated C) (i : ℕ) (found : Option Node)
    (s : Option A) (n : Node) (a : A) → unless_repeated w i s (of t n) ≡ gives a → Keeps of t found s
    → Keeps of t (counts w found n) (Some a)
slot-keeps of t Repeated.last_counts i found s n a h k = (a, h, refl)
slot-keeps of t Repeated.first_counts i None None n a h k = (a, h, refl)
slot-keeps of t Repeated.first_counts i None (Some b) n a h k = absurd (nothing-some b (sym k))
slot-keeps of t Repeated.first_counts i (Some m) None n a h k = absurd (nothing-some k.0 k.2)
slot-keeps {C = C} of t Repeated.first_counts i (Some m) (Some b) n a h k =
    (k.0, k.1, sym (ap Some (gives-same {C = C} b a h)) ∙ k.2)
slot-keeps of t (Repeated.error c) i found None n a h k = (a, h, refl)
slot-keeps of t (Repeated.error c) i found (Some b) n a h k = absurd (nothing-some a (ap given h))

known-gives : {C S : Type 0} (u : Unknown C) (i : ℕ) (s r : S) → unless_unknown u i s ≡ gives r → s ≡ r
known-gives {C = C} Unknown.skipped i s r h = gives-same {C = C} s r h
known-gives (Unknown.error c) i s r h = absurd (nothing-some r (ap given h))

-- what was found, with a member more
abbrev pub found_too : {C : Type 0} → List ℕ → Node → Found C → Found C
found_too k n found w key = if bytes_eq k key then counts w (found w key) n else found w key

module _ {C : Type 0} (t k : List ℕ) (n : Node) (found : Found C) where
  -- no field has the key
  untouched : (key : List ℕ) (fs : List (Field C)) → bytes_eq k key ≡ true → differs key fs ≡ true → (s : Slots fs)
      → AllKeep fs t found s → AllKeep fs t (found_too k n found) s
  untouched key [] same apart s h = tt
  untouched key (f ∷ fs) same apart s h =
      let parts = and_parts (not (bytes_eq key f.key)) (differs key fs) apart in
      let other : bytes_eq k f.key ≡ false =
      ap (λ x. bytes_eq x f.key) ((bytes_eq-Decides k key).0 same) ∙ not-true (bytes_eq key f.key) parts.0 in (
        subst (λ o. Keeps f.meaning.of t o s.0)
            (sym (if-false (bytes_eq k f.key) (counts f.repeated (found f.repeated f.key) n) (found f.repeated f.key) other))
            h.0,
        untouched key fs same parts.1 s.1 h.1,
      )

  kept : {S : Type 0} (u : Unknown C) (i : ℕ) (fs : List (Field C)) (put : Slots fs → S) (s : Slots fs) (r : S)
      → distinct fs ≡ true → set_among u fs put t k i n s ≡ gives r → AllKeep fs t found s
      → (s1 : Slots fs) × (r ≡ put s1) × AllKeep fs t (found_too k n found) s1
  kept u i [] put s r apart h so_far = (s, sym (known-gives u i (put s) r h), tt)
  kept {S = S} u i (f ∷ fs) put s r apart h so_far =
      by (bytes_eq k f.key) refl h
      (λ g. kept u i fs (λ x. put (s.0, x)) s.1 r (and_parts (differs f.key fs) (distinct fs) apart).1 g so_far.1) where
        by : (b : Bool) → bytes_eq k f.key ≡ b
            → (if b then and_then (unless_repeated f.repeated i s.0 (f.meaning.of t n)) (λ a. gives (put (Some a, s.1)))
            else set_among u fs (λ x. put (s.0, x)) t k i n s.1) ≡ gives r
            → (set_among u fs (λ x. put (s.0, x)) t k i n s.1 ≡ gives r
            → (s1 : Slots fs) × (r ≡ put (s.0, s1)) × AllKeep fs t (found_too k n found) s1)
            → (s1 : Slots (f ∷ fs)) × (r ≡ put s1) × AllKeep (f ∷ fs) t (found_too k n found) s1
        by true is h more =
            let first = and_then-gives (unless_repeated f.repeated i s.0 (f.meaning.of t n)) (λ a. gives (put (Some a, s.1))) r h in (
              (Some first.0, s.1),
              sym (gives-same (put (Some first.0, s.1)) r first.2),
              (
                subst (λ o. Keeps f.meaning.of t o (Some first.0))
                    (sym (if-true (bytes_eq k f.key) (counts f.repeated (found f.repeated f.key) n) (found f.repeated f.key) is))
                    (slot-keeps f.meaning.of t f.repeated i (found f.repeated f.key) s.0 n first.0 first.1 so_far.0),
                untouched f.key fs is (and_parts (differs f.key fs) (distinct fs) apart).0 s.1 so_far.1,
              ),
            )
        by false is h more =
            let rest = more h in (
              (s.0, rest.0),
              rest.1,
              (
                subst (λ o. Keeps f.meaning.of t o s.0)
                    (sym (if-false (bytes_eq k f.key) (counts f.repeated (found f.repeated f.key) n) (found f.repeated f.key) is))
                    so_far.0,
                rest.2,
              ),
            )

module _ {C : Type 0} (x : Table C) (apart : distinct x.fields ≡ true) (t : List ℕ) where
  abbrev fs : List (Field C)
  fs = x.fields

  all-kept : (ms : NodeMembers) (found : Found C) (s r : Slots fs) → members_walked (set x) t s ms ≡ gives r
      → AllKeep fs t found s → AllKeep fs t (λ w key. counted_node w t key (found w key) ms) r
  all-kept NodeMembers.no_members found s r h so_far = subst (AllKeep fs t found) (gives-same s r h) so_far
  all-kept (NodeMembers.member k n ms) found s r h so_far =
      let first = and_then-gives (set x t (key_text t k) k.begin n s) (λ y. members_walked (set x) t y ms) r h in
      let one = kept t (key_text t k) n found x.unknown k.begin fs (λ y. y) s first.0 apart first.1 so_far in
      all-kept ms (found_too (key_text t k) n found) first.0 r first.2
      (subst (AllKeep fs t (found_too (key_text t k) n found)) (sym one.1) one.2)

  -- After an object.
  object-kept : (n : Node) (r : Slots fs) → object_walked (set x) (all_empty fs) t n ≡ gives r
      → AllKeep fs t (λ w key. counted_member w key t n) r
  object-kept (Node.object b e ms) r h = all-kept ms (λ w key. None) (all_empty fs) r h (all-keep-none fs t)
  object-kept n r h = absurd (nothing-some r (ap given h))

-- ---- in the words of trees
mapped : {X Y : Type 0} (f : X → Y) (b : Bool) (x found : Option X)
    → option_map f (if b then x else found) ≡ (if b then option_map f x else option_map f found)
mapped f true x found = refl
mapped f false x found = refl

mapped-counts : {C X Y : Type 0} (f : X → Y) (w : Repeated C) (found : Option X) (x : X)
    → option_map f (counts w found x) ≡ counts w (option_map f found) (f x)
mapped-counts f Repeated.last_counts found x = refl
mapped-counts f Repeated.first_counts None x = refl
mapped-counts f Repeated.first_counts (Some y) x = refl
mapped-counts f (Repeated.error c) found x = refl

values-counted : {C : Type 0} (w : Repeated C) (t key : List ℕ) (ms : NodeMembers) (found : Option Node)
    → option_map (value_of t) (counted_node w t key found ms)
    ≡ counted_tree w key (option_map (value_of t) found) (members_of t ms)
values-counted w t key NodeMembers.no_members found = refl
values-counted w t key (NodeMembers.member k n ms) found =
    values-counted w t key ms (if bytes_eq (key_text t k) key then counts w found n else found)
    ∙ ap (λ o. counted_tree w key o (members_of t ms))
    (mapped (value_of t) (bytes_eq (key_text t k) key) (counts w found n) found
    ∙ ap (λ o. if bytes_eq (key_text t k) key then o else option_map (value_of t) found)
    (mapped-counts (value_of t) w found n))

no_member : {C : Type 0} (w : Repeated C) (key : List ℕ) (n : Number) → None ≡ counted_named w key (number_tree n)
no_member w key (Number.integer z) = refl
no_member w key (Number.big b) = refl
no_member w key (Number.float b) = refl

value-counted : {C : Type 0} (w : Repeated C) (t key : List ℕ) (n : Node)
    → option_map (value_of t) (counted_member w key t n) ≡ counted_named w key (value_of t n)
value-counted w t key (Node.object b e ms) = values-counted w t key ms None
value-counted w t key (Node.literal Literal.Null b e) = refl
value-counted w t key (Node.literal Literal.True b e) = refl
value-counted w t key (Node.literal Literal.False b e) = refl
value-counted w t key (Node.number b e) = no_member w key (number_value (slice_range t b e))
value-counted w t key (Node.string ps b e) = refl
value-counted w t key (Node.array b e ns) = refl

-- The last one counts.
abbrev LastCounts : {C : Type 0} → Repeated C → Type 0
LastCounts {C = C} w = (found : Option Tree) (v : Tree) → counts w found v ≡ Some v

last-such : {C : Type 0} (w : Repeated C) → LastCounts w → (key : List ℕ) (ms : Members) (found : Option Tree)
    → counted_tree w key found ms ≡ last_such (λ k. bytes_eq k key) found ms
last-such w last key Members.no_members found = refl
last-such w last key (Members.member k v ms) found =
    last-such w last key ms (if bytes_eq k.bytes key then counts w found v else found)
    ∙ ap (λ o. last_such (λ j. bytes_eq j key) (if bytes_eq k.bytes key then o else found) ms) (last found v)

last-named : {C : Type 0} (w : Repeated C) → LastCounts w → (key : List ℕ) (v : Tree)
    → counted_named w key v ≡ member_named key v
last-named w last key (Tree.object ms) = last-such w last key ms None
last-named w last key v = refl

-- The first one counts.
abbrev else_such : Option Tree → Option Tree → Option Tree
else_such None o = o
else_such (Some v) o = Some v

abbrev firsts : (C : Type 0) → Repeated C
firsts C = Repeated.first_counts

first-such : (C : Type 0) (key : List ℕ) (ms : Members) (found : Option Tree)
    → counted_tree (firsts C) key found ms ≡ else_such found (first_among key ms)
first-such C key Members.no_members None = refl
first-such C key Members.no_members (Some v) = refl
first-such C key (Members.member k v ms) found = by (λ o. first-such C key ms o) (bytes_eq k.bytes key) found where
  by : ((o : Option Tree) → counted_tree (firsts C) key o ms ≡ else_such o (first_among key ms)) → (b : Bool)
      (o : Option Tree)
      → counted_tree (firsts C) key (if b then counts (firsts C) o v else o) ms
      ≡ else_such o (if b then Some v else first_among key ms)
  by more true None = more (Some v)
  by more true (Some u) = more (Some u)
  by more false o = more o

first-named : (C : Type 0) (key : List ℕ) (v : Tree) → counted_named (firsts C) key v ≡ first_named key v
first-named C key (Tree.object ms) = first-such C key ms None
first-named C key v = refl

-- Without a first one there is no last one.
none-such : (key : List ℕ) (ms : Members) → first_among key ms ≡ None → last_such (λ k. bytes_eq k key) None ms ≡ None
none-such key Members.no_members h = refl
none-such key (Members.member k v ms) h = by (none-such key ms) (bytes_eq k.bytes key) h where
  by : (first_among key ms ≡ None → last_such (λ j. bytes_eq j key) None ms ≡ None) → (b : Bool)
      → (if b then Some v else first_among key ms) ≡ None
      → last_such (λ j. bytes_eq j key) (if b then Some v else None) ms ≡ None
  by more true h = absurd (nothing-some v (sym h))
  by more false h = more h

none-named : (key : List ℕ) (v : Tree) → first_named key v ≡ None → member_named key v ≡ None
none-named key (Tree.object ms) h = none-such key ms h
none-named key v h = refl

counted-none : {C : Type 0} (w : Repeated C) (key : List ℕ) (v : Tree) → counted_named w key v ≡ None → HasNo v key
counted-none {C = C} Repeated.last_counts key v h = sym (last-named {C = C} Repeated.last_counts (λ found u. refl) key v) ∙ h
counted-none {C = C} Repeated.first_counts key v h = none-named key v (sym (first-named C key v) ∙ h)
counted-none (Repeated.error c) key v h = sym (last-named (Repeated.error c) (λ found u. refl) key v) ∙ h

counted-is : {C A : Type 0} (w : Repeated C) (Is : Tree → A → Type 0) (v : Tree) (key : List ℕ) (value : Tree) (a : A)
    → counted_named w key v ≡ Some value → Is value a → CountedIs w Is v key a
counted-is {C = C} Repeated.last_counts Is v key value a h is = record {
  value = value;
  last = sym (last-named {C = C} Repeated.last_counts (λ found u. refl) key v) ∙ h;
  is = is;
}
counted-is {C = C} Repeated.first_counts Is v key value a h is = record {
  value = value;
  first = sym (first-named C key v) ∙ h;
  is = is;
}
counted-is (Repeated.error c) Is v key value a h is = record {
  value = value;
  last = sym (last-named (Repeated.error c) (λ found u. refl) key v) ∙ h;
  is = is;
}

-- ---- what all members come to
abbrev completed : {C A : Type 0} → Finished C A → Option A
completed (complete a) = Some a
completed (missing c) = None

complete-same : {C A : Type 0} (a b : A) → ◌≡◌ {A = Finished C A} (complete a) (complete b) → a ≡ b
complete-same a b h = some-same a b (ap completed h)

and_finally-complete : {C A B : Type 0} (x : Finished C A) (g : A → Finished C B) (r : B) → and_finally x g ≡ complete r
    → (a : A) × (x ≡ complete a) × (g a ≡ complete r)
and_finally-complete (complete a) g r h = (a, refl, h)
and_finally-complete (missing c) g r h = absurd (nothing-some r (ap completed h))

finished-gives : {C A : Type 0} (x : Finished C A) (i : ℕ) (a : A) → finished x i ≡ gives a → x ≡ complete a
finished-gives {C = C} (complete b) i a h = ap complete (gives-same {C = C} b a h)
finished-gives (missing c) i a h = absurd (nothing-some a (ap given h))

module _ {C A : Type 0} (m : Meaning C A) (r : Repeated C) (t key : List ℕ) (v : Tree) where
  -- what was found, in the tree
  abbrev IsFound : Option Node → Type 0
  IsFound found = option_map (value_of t) found ≡ counted_named r key v

  is-one : (n : Node) (a b : A) → IsFound (Some n) → m.of t n ≡ gives a → a ≡ b → CountedIs r m.Is v key b
  is-one n a b there h same =
      counted-is r m.Is v key (value_of t n) b (sym there) (subst (m.Is (value_of t n)) same (m.shows t n a h))

  holds : (w : Absent C A) (found : Option Node) (s : Option A) (x : Final w) → IsFound found
      → Keeps m.of t found s → final w s ≡ complete x → FieldHolds m.Is w r key v x
  holds (Absent.error c) None None x there h is = absurd (nothing-some x (ap completed is))
  holds (Absent.error c) None (Some y) x there h is = absurd (nothing-some y (sym h))
  holds (Absent.error c) (Some n) None x there h is = absurd (nothing-some x (ap completed is))
  holds (Absent.error c) (Some n) (Some y) x there h is =
      is-one n h.0 x there h.1 (sym (some-same y h.0 h.2) ∙ complete-same {C = C} y x is)
  holds Absent.nothing None s None there h is = counted-none r key v (sym there)
  holds Absent.nothing None s (Some x) there h is = absurd (nothing-some x (sym h ∙ complete-same {C = C} s (Some x) is))
  holds Absent.nothing (Some n) s None there h is =
      absurd (nothing-some h.0 (sym (complete-same {C = C} s None is) ∙ h.2))
  holds Absent.nothing (Some n) s (Some x) there h is =
      is-one n h.0 x there h.1 (some-same h.0 x (sym h.2 ∙ complete-same {C = C} s (Some x) is))
  holds (Absent.default d) None s x there h is =
      inr (counted-none r key v (sym there), sym (complete-same {C = C} (unwrap_or s d) x is) ∙ ap (λ o. unwrap_or o d) h)
  holds (Absent.default d) (Some n) s x there h is =
      inl (is-one n h.0 x there h.1
      (sym (ap (λ o. unwrap_or o d) h.2) ∙ complete-same {C = C} (unwrap_or s d) x is))

all-hold : {C : Type 0} (fs : List (Field C)) (t : List ℕ) (n : Node) (s : Slots fs) (x : Finals fs)
    → AllKeep fs t (λ w key. counted_member w key t n) s → all_final fs s ≡ complete x → Holds fs (value_of t n) x
all-hold [] t n s x h is = tt
all-hold (f ∷ fs) t n s x h is =
    let first = and_finally-complete (final f.absent s.0) (λ y. and_finally (all_final fs s.1) (λ r. complete (y, r))) x is in
    let rest = and_finally-complete (all_final fs s.1) (λ r. complete (first.0, r)) x first.2 in
    let same : (first.0, rest.0) ≡ x = complete-same (first.0, rest.0) x rest.2 in
    subst (Holds (f ∷ fs) (value_of t n)) same (
      holds f.meaning f.repeated t f.key (value_of t n) f.absent (counted_member f.repeated f.key t n) s.0 first.0
          (value-counted f.repeated t f.key n) h.0 first.1,
      all-hold fs t n s.1 rest.0 h.1 rest.1,
    )

-- What a node means by a table is what its tree has.
pub object-shows : {C : Type 0} (x : Table C) → distinct x.fields ≡ true → (t : List ℕ) (n : Node) (r : Finals x.fields)
    → object_in x t n ≡ gives r → Holds x.fields (value_of t n) r
object-shows x apart t n r h =
    let both = and_then-gives (object_walked (set x) (all_empty x.fields) t n)
    (λ s. finished (all_final x.fields s) (end n - 1)) r h in
    all-hold x.fields t n both.0 r (object-kept x apart t n both.0 both.1)
    (finished-gives (all_final x.fields both.0) (end n - 1) r both.2)
