-- The open containers of a value that comes in chunks: a part is put into one, taken out of it, or changed inside it.
use Rattle.jiter_incremental.proofs.Words.{◌≡◌, ℕ, zero, suc, ◌≤◌, ◌+◌, ◌-◌, ◌<◌, List, [], ◌∷◌, ◌++◌, length, take}
use Rattle.jiter_incremental.proofs.Words.{get_or, refl, sym, subst, ap, ap₂, ◌∙◌, arith, length-append, Vec, rules}
use Rattle.jiter_incremental.proofs.Words.{vec_len, with_item, Global, CowStr, get_or-append_seam, take_all, take_more}
use Rattle.jiter_incremental.proofs.Words.{items_frame, members_frame, text_view, Text, Tree, array, object, items_of}
use Rattle.jiter_incremental.proofs.Words.{members_of, OpenFrame, around, begun, filled, IsOfKey, Member, view}
use Rattle.jiter_incremental.proofs.Words.{JsonValue, Array, Object, out-JsonValue, the_lemmas, JsonValue-F, view_array}
use Rattle.jiter_incremental.proofs.Words.{view_object}
use Rattle.std.proofs.Common.{map}
use Rattle.std.specs.Prelude.{slice_set}
use Rattle.std.proofs.Math.Seq.{set-append_seam}
use Rattle.std.proofs.lemmas.List.{map_push, length-map, same_from_push}
use Rattle.jiter_steps.specs.Tree.{Items, no_items, item, Members, no_members, member}
use Rattle.jiter_value.specs.Stacks.{member_view}

-- a list that is not empty, by its last
pub last-of : {X : Type 0} (xs : List X) → 0 < length xs → (x : X) × (xs ≡ take (length xs - 1) xs ++ x ∷ [])
last-of [] h = let no : ⊥ = omega arith in absurd no
last-of (y ∷ ys) h =
    let n = length (y ∷ ys) - 1 in
    (get_or (y ∷ ys) n y, sym (take_all (n + 1) (y ∷ ys) (omega arith)) ∙ take_more (y ∷ ys) n y (omega arith))

-- the last, read at its index
pub last-read : {X : Type 0} (xs before : List X) (n : ℕ) (old got : X) → xs ≡ before ++ old ∷ []
    → n ≡ length before → got ≡ get_or xs n got → got ≡ old
last-read xs before n old got h at g =
    g ∙ ap₂ (λ ys m. get_or ys m got) h at ∙ get_or-append_seam before old [] got

-- and set
pub last-set : {X : Type 0} (xs before : List X) (n : ℕ) (old x : X) → xs ≡ before ++ old ∷ []
    → n ≡ length before → slice_set xs n x ≡ before ++ x ∷ []
last-set xs before n old x h at = rw (h, at) (set-append_seam before old [] x)

-- what is listed of the items and members of a tree
listed : Items → List Tree
listed no_items = []
listed (item v is) = v ∷ listed is

-- and of the items of a list
listed-of : (xs : List Tree) → listed (items_of xs) ≡ xs
unfolding listed
listed-of [] = refl
listed-of (x ∷ xs) = ap (λ ys. x ∷ ys) (listed-of xs)

-- the items of a list are those of no other
items-same : (xs ys : List Tree) → items_of xs ≡ items_of ys → xs ≡ ys
items-same xs ys h = sym (listed-of xs) ∙ ap listed h ∙ listed-of ys

-- the same of members
entries : Members → List (Text × Tree)
entries no_members = []
entries (member k v ms) = (k, v) ∷ entries ms

entries-of : (ms : List (Text × Tree)) → entries (members_of ms) ≡ ms
unfolding entries
entries-of [] = refl
entries-of (m ∷ ms) = ap (λ ns. m ∷ ns) (entries-of ms)

members-same : (ms ns : List (Text × Tree)) → members_of ms ≡ members_of ns → ms ≡ ns
members-same ms ns h = sym (entries-of ms) ∙ ap entries h ∙ entries-of ns

-- a list whose image has a last has one
mapped-last : {X Y : Type 0} (f : X → Y) (vs : List X) (xs : List Y) (x : Y) → map f vs ≡ xs ++ x ∷ []
    → (v : X) × (vs ≡ take (length vs - 1) vs ++ v ∷ []) × (map f (take (length vs - 1) vs) ≡ xs) × (f v ≡ x)
mapped-last f vs xs x h =
    let long : 0 < length vs =
    omega (arith, ap length h, length-append xs (x ∷ []), length-map vs f) in
    let last = last-of vs long in
    let same = same_from_push (map f (take (length vs - 1) vs)) xs (f last.0) x
    (sym (map_push f (take (length vs - 1) vs) last.0) ∙ ap (map f) (sym last.1) ∙ h) in
    (last.0, last.1, same.0, same.1)

-- the items of an array whose last part is x
pub record LastItem (vs : List JsonValue) (f : OpenFrame) (x : Tree) : Type 0 where
  pub before : List JsonValue
  pub old : JsonValue
  pub items : vs ≡ before ++ old ∷ []
  pub frame : f ≡ items_frame (map view before)
  pub part : view old ≡ x

pub last-item : (vs : List JsonValue) (f : OpenFrame) (x : Tree) → array (items_of (map view vs)) ≡ around f x
    → LastItem vs f x
last-item vs (items_frame xs) x h =
    let same : items_of (map view vs) ≡ items_of (xs ++ x ∷ []) = cc in
    let last = mapped-last view vs xs x (items-same (map view vs) (xs ++ x ∷ []) same) in
    record {
      before = take (length vs - 1) vs;
      old = last.0;
      items = last.1;
      frame = ap items_frame (sym last.2);
      part = last.3;
    }
last-item vs (members_frame ms k) x h = absurd (cc)

-- the members of an object whose last part is x
pub record LastMember (vs : List Member) (f : OpenFrame) (x : Tree) : Type 0 where
  pub before : List Member
  pub key : CowStr Global
  pub old : JsonValue
  pub members : vs ≡ before ++ (key, old) ∷ []
  pub frame : f ≡ members_frame (map member_view before) (text_view key)
  pub part : view old ≡ x

pub last-member : (vs : List Member) (f : OpenFrame) (x : Tree)
    → object (members_of (map member_view vs)) ≡ around f x → LastMember vs f x
last-member vs (items_frame xs) x h = absurd (cc)
last-member vs (members_frame ms k) x h =
    let same : members_of (map member_view vs) ≡ members_of (ms ++ (k, x) ∷ []) = cc in
    let last = mapped-last member_view vs ms (k, x)
    (members-same (map member_view vs) (ms ++ (k, x) ∷ []) same) in
    record {
      before = take (length vs - 1) vs;
      key = last.0.0;
      old = last.0.1;
      members = last.1;
      frame = ap₂ members_frame (sym last.2) (sym (ap (λ m. m.0) last.3));
      part = ap (λ m. m.1) last.3;
    }

-- one level of an array and of an object
pub out-array : (v : Vec JsonValue Global) → out-JsonValue (Array v) ≡ JsonValue-F.Array v
out-array v = search (rules, the_lemmas)

pub out-object : (v : Vec Member Global) → out-JsonValue (Object v) ≡ JsonValue-F.Object v
out-object v = search (rules, the_lemmas)

-- an array whose last item is another
pub array-around : (w : Vec JsonValue Global) (before : List JsonValue) (v : JsonValue) → w.items ≡ before ++ v ∷ []
    → view (Array w) ≡ around (items_frame (map view before)) (view v)
array-around w before v h =
    view_array w ∙ ap (λ xs. array (items_of xs)) (ap (map view) h ∙ map_push view before v)

-- an object whose last member has another value
pub object-around : (w : Vec Member Global) (before : List Member) (k : CowStr Global) (v : JsonValue)
    → w.items ≡ before ++ (k, v) ∷ []
    → view (Object w) ≡ around (members_frame (map member_view before) (text_view k)) (view v)
object-around w before k v h =
    view_object w
    ∙ ap (λ xs. object (members_of xs)) (ap (map member_view) h ∙ map_push member_view before (k, v))

-- A container that is as it is so far is a frame of its parts;
pub array-begun : (vs : List JsonValue) (f : OpenFrame) → array (items_of (map view vs)) ≡ begun f
    → f ≡ items_frame (map view vs)
array-begun vs (items_frame xs) h =
    let same : items_of (map view vs) ≡ items_of xs = cc in ap items_frame (sym (items-same (map view vs) xs same))
array-begun vs (members_frame ms k) h = absurd (cc)

pub object-begun : (vs : List Member) (k : Text) (f : OpenFrame) → object (members_of (map member_view vs)) ≡ begun f
    → IsOfKey k (f ∷ []) → f ≡ members_frame (map member_view vs) k
object-begun vs k (items_frame xs) h of = absurd (cc)
object-begun vs k (members_frame ms l) h of =
    let same : members_of (map member_view vs) ≡ members_of ms = cc in
    ap₂ members_frame (sym (members-same (map member_view vs) ms same)) of

-- without its last part
pub array-without : (w : Vec JsonValue Global) (old : List JsonValue) (v : JsonValue) (k : Text) (f : OpenFrame)
    (x : Tree) → old ≡ w.items ++ v ∷ [] → array (items_of (map view old)) ≡ around f x
    → (view (Array w) ≡ begun f) × IsOfKey k (f ∷ [])
array-without w old v k f x is h =
    let last = last-item old f x h in
    let same = same_from_push w.items last.before v last.old (sym is ∙ last.items) in (
      view_array w ∙ ap (λ vs. array (items_of (map view vs))) same.0 ∙ ap begun (sym last.frame),
      subst (λ g. IsOfKey k (g ∷ [])) (sym last.frame) tt,
    )

-- and an object its last member, by its key.
pub object-without : (w : Vec Member Global) (old : List Member) (k : CowStr Global) (v : JsonValue) (f : OpenFrame)
    (x : Tree) → old ≡ w.items ++ (k, v) ∷ [] → object (members_of (map member_view old)) ≡ around f x
    → (view (Object w) ≡ begun f) × IsOfKey (text_view k) (f ∷ [])
object-without w old k v f x is h =
    let last = last-member old f x h in
    let same = same_from_push w.items last.before (k, v) (last.key, last.old) (sym is ∙ last.members) in (
      view_object w ∙ ap (λ ms. object (members_of (map member_view ms))) same.0 ∙ ap begun (sym last.frame),
      subst (λ g. IsOfKey (text_view k) (g ∷ [])) (sym last.frame) (ap (λ m. text_view m.0) (sym same.1)),
    )

-- The part that is taken out is its last.
pub array-last : (w : Vec JsonValue Global) (old : List JsonValue) (v : JsonValue) (f : OpenFrame) (x : Tree)
    → old ≡ w.items ++ v ∷ [] → array (items_of (map view old)) ≡ around f x → view v ≡ x
array-last w old v f x is h =
    let last = last-item old f x h in
    ap view (same_from_push w.items last.before v last.old (sym is ∙ last.items)).1 ∙ last.part

pub object-last : (w : Vec Member Global) (old : List Member) (k : CowStr Global) (v : JsonValue) (f : OpenFrame) (x : Tree)
    → old ≡ w.items ++ (k, v) ∷ [] → object (members_of (map member_view old)) ≡ around f x → view v ≡ x
object-last w old k v f x is h =
    let last = last-member old f x h in
    ap (λ (m : Member). view m.1) (same_from_push w.items last.before (k, v) (last.key, last.old) (sym is ∙ last.members)).1
    ∙ last.part

-- Where the last part of a container becomes another, the container is around that;
pub array-swapped : (old new : Vec JsonValue Global) (n : ℕ) (y z : JsonValue)
    → n + 1 ≡ length old.items → y ≡ get_or old.items n y → new.items ≡ slice_set old.items n z
    → (f : OpenFrame) (x : Tree) → view (Array old) ≡ around f x
    → (view (Array new) ≡ around f (view z)) × (view y ≡ x)
array-swapped old new n y z at got set f x h =
    let l = last-item old.items f x (sym (view_array old) ∙ h) in
    let place : n ≡ length l.before =
    omega (arith, at, ap length l.items, length-append l.before (l.old ∷ [])) in
    let put = set ∙ last-set old.items l.before n l.old z l.items place in
    let read = last-read old.items l.before n l.old y l.items place got in (
      array-around new l.before z put ∙ ap (λ g. around g (view z)) (sym l.frame),
      ap view read ∙ l.part,
    )

pub object-swapped : (old new : Vec Member Global) (n : ℕ) (m : Member) (z : JsonValue)
    → n + 1 ≡ length old.items → m ≡ get_or old.items n m → new.items ≡ slice_set old.items n (m.0, z)
    → (f : OpenFrame) (x : Tree) → view (Object old) ≡ around f x
    → (view (Object new) ≡ around f (view z)) × (view m.1 ≡ x)
object-swapped old new n m z at got set f x h =
    let l = last-member old.items f x (sym (view_object old) ∙ h) in
    let place : n ≡ length l.before =
    omega (arith, at, ap length l.members, length-append l.before ((l.key, l.old) ∷ [])) in
    let read = last-read old.items l.before n (l.key, l.old) m l.members place got in
    let put : new.items ≡ l.before ++ (l.key, z) ∷ [] =
    set ∙ ap (λ (e : Member). slice_set old.items n (e.0, z)) read
    ∙ last-set old.items l.before n (l.key, l.old) (l.key, z) l.members place in (
      object-around new l.before l.key z put ∙ ap (λ g. around g (view z)) (sym l.frame),
      ap (λ (e : Member). view e.1) read ∙ l.part,
    )

-- There is one.
pub array-place : (s : JsonValue) (v w : Vec JsonValue Global) (f : OpenFrame) (x : Tree) (size : ℕ) → s ≡ Array v → w ≡ v
    → size ≡ vec_len w → view s ≡ around f x → (size - 1 < vec_len w) × (size - 1 + 1 ≡ length v.items)
array-place s v w f x size is same n h =
    let l = last-item v.items f x (sym (view_array v) ∙ ap view (sym is) ∙ h) in
    let long = length-append l.before (l.old ∷ []) in
    (omega (arith, n, ap vec_len same, v.ok.0, ap length l.items, long), omega (arith, n, ap vec_len same, v.ok.0, ap length l.items, long))

pub object-place : (s : JsonValue) (v w : Vec Member Global) (f : OpenFrame) (x : Tree) (size : ℕ) → s ≡ Object v → w ≡ v
    → size ≡ vec_len w → view s ≡ around f x → (size - 1 < vec_len w) × (size - 1 + 1 ≡ length v.items)
object-place s v w f x size is same n h =
    let l = last-member v.items f x (sym (view_object v) ∙ ap view (sym is) ∙ h) in
    let long = length-append l.before ((l.key, l.old) ∷ []) in
    (omega (arith, n, ap vec_len same, v.ok.0, ap length l.members, long), omega (arith, n, ap vec_len same, v.ok.0, ap length l.members, long))

-- The last part of a slot is y: where it becomes another, the slot is what `put` makes of that.
pub record Swaps (s y : JsonValue) (put : JsonValue → JsonValue) (f : OpenFrame) (x : Tree) : Type 0 where
  pub is : view y ≡ x
  pub was : view s ≡ around f (view y)
  pub now : (z : JsonValue) → view (put z) ≡ around f (view z)

pub array-swaps : (s : JsonValue) (v w : Vec JsonValue Global) (size : ℕ) (y : JsonValue) → s ≡ Array v → w ≡ v
    → size ≡ vec_len w → y ≡ get_or w.items (size - 1) y → (f : OpenFrame) (x : Tree) → view s ≡ around f x
    → Swaps s y (λ z. Array (with_item v (size - 1) z)) f x
array-swaps s v w size y is same n got f x h =
    let swapped = λ (z : JsonValue). array-swapped v (with_item v (size - 1) z) (size - 1) y z
    (array-place s v w f x size is same n h).1 (got ∙ ap (λ (u : Vec JsonValue Global). get_or u.items (size - 1) y) same) refl f x
    (sym (ap view is) ∙ h) in
    record { is = (swapped y).1; was = h ∙ ap (around f) (sym (swapped y).1); now = λ z. (swapped z).0 }

pub object-swaps : (s : JsonValue) (v w : Vec Member Global) (size : ℕ) (m : Member) → s ≡ Object v → w ≡ v
    → size ≡ vec_len w → m ≡ get_or w.items (size - 1) m → (f : OpenFrame) (x : Tree) → view s ≡ around f x
    → Swaps s m.1 (λ z. Object (with_item v (size - 1) (m.0, z))) f x
object-swaps s v w size m is same n got f x h =
    let swapped = λ (z : JsonValue). object-swapped v (with_item v (size - 1) (m.0, z)) (size - 1) m z
    (object-place s v w f x size is same n h).1 (got ∙ ap (λ (u : Vec Member Global). get_or u.items (size - 1) m) same) refl f x
    (sym (ap view is) ∙ h) in
    record { is = (swapped m.1).1; was = h ∙ ap (around f) (sym (swapped m.1).1); now = λ z. (swapped z).0 }

-- The container with its parts so far and one more is one.
pub part-more : (f : OpenFrame) (x : Tree) → (g : OpenFrame) × (around f x ≡ begun g)
part-more (items_frame xs) x = (items_frame (xs ++ x ∷ []), refl)
part-more (members_frame ms k) x = (members_frame (ms ++ (k, x) ∷ []) k, refl)

around-same : (f g : OpenFrame) (x y : Tree) → around f x ≡ around g y → (f ≡ g) × (x ≡ y)
around-same (items_frame xs) (items_frame ys) x y h =
    let same : items_of (xs ++ x ∷ []) ≡ items_of (ys ++ y ∷ []) = cc in
    let s = same_from_push xs ys x y (items-same (xs ++ x ∷ []) (ys ++ y ∷ []) same) in (ap items_frame s.0, s.1)
around-same (items_frame xs) (members_frame ns l) x y h = absurd (cc)
around-same (members_frame ms k) (items_frame ys) x y h = absurd (cc)
around-same (members_frame ms k) (members_frame ns l) x y h =
    let same : members_of (ms ++ (k, x) ∷ []) ≡ members_of (ns ++ (l, y) ∷ []) = cc in
    let s = same_from_push ms ns (k, x) (l, y) (members-same (ms ++ (k, x) ∷ []) (ns ++ (l, y) ∷ []) same) in
    (ap₂ members_frame s.0 (ap (λ m. m.0) s.1), ap (λ m. m.1) s.1)

-- Containers inside each other, as many as these and the same value from outside, are these.
pub filled-same : (fs gs : List OpenFrame) (x y : Tree) → length fs ≡ length gs → filled fs x ≡ filled gs y
    → (fs ≡ gs) × (x ≡ y)
filled-same [] [] x y n h = (refl, h)
filled-same [] (g ∷ gs) x y n h = absurd (omega arith)
filled-same (f ∷ fs) [] x y n h = absurd (omega arith)
filled-same (f ∷ fs) (g ∷ gs) x y n h =
    let r = filled-same fs gs (around f x) (around g y) (omega arith) h in
    let s = around-same f g x y r.1 in
    (ap₂ (λ a b. a ∷ b) s.0 r.0, s.1)

-- an outermost container more
pub filled-push : (gs : List OpenFrame) (f : OpenFrame) (x : Tree) → filled (gs ++ f ∷ []) x ≡ around f (filled gs x)
filled-push [] f x = refl
filled-push (g ∷ gs) f x = filled-push gs f (around g x)

-- Of those of a value the outer ones, and in them the value of the next that is inside
pub record Nested (outer fs : List OpenFrame) (v x : Tree) : Type 0 where
  pub inner : List OpenFrame
  pub all : fs ≡ inner ++ outer
  pub is : v ≡ filled inner x

filled-append : (is os : List OpenFrame) (x : Tree) → filled (is ++ os) x ≡ filled os (filled is x)
filled-append [] os x = refl
filled-append (f ∷ is) os x = filled-append is os (around f x)

-- a list that is longer than another ends with as many
split-at : {X : Type 0} (n : ℕ) (xs : List X) → n ≤ length xs → (a b : List X) × (xs ≡ a ++ b) × (length b ≡ n)
split-at n xs h =
    let r = by (length xs - n) xs (omega arith) in
    (r.0, r.1, r.2, omega (arith, r.3, h)) where
      by : {X : Type 0} (k : ℕ) (xs : List X) → k ≤ length xs → (a b : List X) × (xs ≡ a ++ b) × (length b ≡ length xs - k)
      by zero xs h = ([], xs, refl, omega arith)
      by (suc k) [] h = absurd (omega arith)
      by (suc k) (x ∷ xs) h =
          let r = by k xs (omega arith) in (x ∷ r.0, r.1, ap (λ ys. x ∷ ys) r.2, omega (arith, r.3))

pub nested-in : (outer fs : List OpenFrame) (v x : Tree) → length outer ≤ length fs
    → filled outer v ≡ filled fs x → Nested outer fs v x
nested-in outer fs v x few h =
    let s = split-at (length outer) fs few in
    let all = h ∙ ap (λ gs. filled gs x) s.2 ∙ filled-append s.0 s.1 x in
    let same = filled-same outer s.1 v (filled s.0 x) (sym s.3) all in
    record { inner = s.0; all = s.2 ∙ ap (λ os. s.0 ++ os) (sym same.0); is = same.1 }
