-- Goes through the parts of the array or the object that comes next: what is left of it, and that no call is refused.
use Rattle.std.proofs.Common.{◌≡◌, ◌≢◌, ◌∙◌, ◌+◌, ◌-◌, ◌<◌, ◌≤◌, ℕ, suc, Bool, true, false, List, [], ◌∷◌, length}
use Rattle.std.proofs.Common.{refl, sym, ap, subst, arith}
use Rattle.std.specs.Prelude.{Option, Some, None, Result, Ok, Err, IfErr, IsErrAnd, option_map, slice_get}
use Rattle.std.specs.Prelude.{if◌then◌else◌, is_some, nat_eq}
use Rattle.std.specs.Str.{bytes_eq}
use Rattle.std.proofs.lemmas.Bool.Decides.{nat_tests}
use Rattle.std.proofs.lemmas.Option.{none-some}
use Rattle.jiter_steps.specs.Literal.{start_of}
use Rattle.jiter_steps.specs.Node.{Key, Node, Nodes, NodeMembers, IsContainer, begin, end, text_at}
use Rattle.jiter_steps.specs.Node as grammar
use Rattle.jiter_steps.specs.StringReading.{raw, whole}
use Rattle.jiter_steps.specs.Tree.{Text}
use Rattle.jiter_steps.specs.declared.parse.ContainerKind.{ContainerKind}
use Rattle.jiter_steps.specs.declared.parse.ContainerKind.TheVariants as shape
use Rattle.jiter_steps.specs.declared.parse.Start.TheVariants as start
use Rattle.jiter_steps.proofs.Grammar.Sound.{object-byte}
use Rattle.jiter_steps.proofs.Grammar.SpelledParts.{begins-value, members_list, nodes_list, start_is}
use Rattle.jiter.specs.Cause.{Cause}
use Rattle.jiter.specs.Jiter.{IsMemory, MovesOn, UnlessMemory, WhereMemory, key_bytes, reply_seen}
use Rattle.jiter.specs.Parts.{LedTo, RefusedAfter, Refuses, StandsNext, count_items, count_members, count_parts}
use Rattle.jiter.specs.Parts.{last_named, numbered}
use Rattle.jiter.specs.Reader.{ReaderState, Reply, array_read, gave, if_byte, item_step, key_step, next}
use Rattle.jiter.specs.Reader.{object_read, peek, refused, skip_read, value_place, with_position}
use Rattle.jiter.specs.declared.errors.JiterError.{JiterError}
use Rattle.jiter.proofs.Peeking.{past_blanks-again}
use Rattle.jiter.proofs.Walking.{AMember, AnItem, ComesNext, GivenAt, KeyAt, KeyTold, MembersLeft, PartsLeft, SeesKeys}
use Rattle.jiter.proofs.Walking.{TellsOf}
use Rattle.jiter.proofs.Walking.{array-tells, first_byte, gave-is, gave-refused, item-tells, key-given, key-not_refused}
use Rattle.jiter.proofs.Walking.{key-tells, key_of, moves-on, node_of, object-tells, part-given, part-not_refused}
use Rattle.jiter.proofs.Walking.{raw_key, sees-raw, sees-whole, skip-ahead, skip-passes, whole_key}
use Rattle.jiter_c.specs.Parts.{first_part, next_part}
use Rattle.jiter_c.specs.Replies.{has_part}

-- ---- moves and errors
-- Where nothing was read the reader stays.
pub stays : (s s1 : ReaderState) → MovesOn s s1 → MovesOn s s
stays s s1 m = record { same = refl; forward = omega arith; within = omega (arith, m.forward, m.within) }

-- A call refused after others.
pub refused-after : (s0 s s1 : ReaderState) (c : Cause) (x : ℕ) → MovesOn s0 s → MovesOn s s1
    → Refuses s c x s1.position → RefusedAfter s0 c x s1.position
refused-after s0 s s1 c x m n h = record {
  place = s.position;
  forward = m.forward;
  within = m.within;
  refuses = subst (λ (v : ReaderState). Refuses v c x s1.position) m.same h;
}

-- An error that is passed on.
pub passed-on : {X : Type 0} (P : JiterError → Type 0) (x : Result X JiterError) (e : JiterError)
    → IsErrAnd x (λ d. d ≡ e) → P e → IfErr x P
passed-on P (Ok a) e is h = absurd is
passed-on P (Err d) e is h = subst P (sym is) h

pub unless-memory : {X : Type 0} (x : Result X JiterError) (e : JiterError) (P : Type 0) → IsErrAnd x (λ d. d ≡ e)
    → ((IsMemory e → ⊥) → P) → UnlessMemory x P
unless-memory (Ok a) e P is h = absurd is
unless-memory (Err d) e P is h = λ bytes. h (λ m. bytes (subst IsMemory (sym is) m))

pub where-memory : {X : Type 0} (P : JiterError → Type 0) (x : Result X JiterError) (e : JiterError)
    → IsErrAnd x (λ d. d ≡ e) → (IsMemory e → P e) → WhereMemory x P
where-memory P (Ok a) e is h = absurd is
where-memory P (Err d) e is h = λ m. subst P (sym is) (h (subst IsMemory is m))

-- a reply that was refused, whatever is seen of what is given
pub seen-refused : {A B : Type 0} (f : A → B) (r : Reply A) (c : Cause) (x stop : ℕ) → reply_seen f r ≡ refused c x stop
    → r ≡ refused c x stop
seen-refused f (gave a e) c x stop h = absurd (gave-refused h)
seen-refused f (refused d y i) c x stop h = cc

seen-gave : {A B : Type 0} (f : A → B) (r : Reply A) (b : B) (i : ℕ) → reply_seen f r ≡ gave b i
    → (a : A) × (r ≡ gave a i) × (f a ≡ b)
seen-gave f (gave a e) b i h = let same = gave-is (f a) b e i h in (a, ap (gave a) same.1, same.0)
seen-gave f (refused c x stop) b i h = absurd (gave-refused (sym h))

pub part-refuses : (object : Bool) (s : ReaderState) (c : Cause) (x stop : ℕ) → first_part object s ≡ refused c x stop
    → Refuses s c x stop
part-refuses true s c x stop h = Refuses.at_object raw (seen-refused has_part _ c x stop h)
part-refuses false s c x stop h = Refuses.at_array (seen-refused has_part _ c x stop h)

pub next-refuses : (object : Bool) (s : ReaderState) (c : Cause) (x stop : ℕ) → next_part object s ≡ refused c x stop
    → Refuses s c x stop
next-refuses true s c x stop h = Refuses.at_key raw (seen-refused has_part _ c x stop h)
next-refuses false s c x stop h = Refuses.at_item (seen-refused has_part _ c x stop h)

-- ---- a peek
module _ (s : ReaderState) (n : Node) (h : StandsNext s n) where
  peeked : (byte : ℕ) × (peek s ≡ gave byte (begin n)) × (start_of byte ≡ start_is n)
  peeked =
      let first = begins-value s.names s.text n h.spelled in (
        first.byte,
        ap (λ i. if_byte i (slice_get s.text i) (λ c. gave c i)) h.place
            ∙ ap (λ o. if_byte (begin n) o (λ c. gave c (begin n))) first.here,
        first.starts,
      )

  pub peek-not_refused : (c : Cause) (x stop : ℕ) → peek s ≡ refused c x stop → ⊥
  peek-not_refused c x stop is = gave-refused (sym peeked.1 ∙ is)

  -- It tells the node's first byte, and the reader is at the node.
  pub peek-begins : (c i : ℕ) → peek s ≡ gave c i → (start_of c ≡ start_is n) × (i ≡ begin n)
  peek-begins c i is =
      let same = gave-is peeked.0 c (begin n) i (sym peeked.1 ∙ is) in
      (ap start_of (sym same.0) ∙ peeked.2, sym same.1)

-- After a peek the same node comes next.
pub stands-peeked : (s s1 : ReaderState) (n : Node) → MovesOn s s1 → s1.position ≡ value_place s → StandsNext s n
    → StandsNext s1 n
stands-peeked s s1 n m place h =
    let is : with_position s (value_place s) ≡ s1 = ap (with_position s) (sym place) ∙ sym m.same in
    subst (λ (v : ReaderState). StandsNext v n) is
    (record { place = past_blanks-again s.text s.position ∙ h.place; spelled = h.spelled; limit = h.limit })

-- ---- the parts that are left
-- After the value of a part.
pub after-value : {P : Type 0} (b : ContainerKind) (IsPart : Bool → List ℕ → ℕ → P → ℕ → Type 0) (s s1 : ReaderState) (n : Node)
    (ps : List P) (e : ℕ) → ComesNext s n → PartsLeft b IsPart (with_position s (end n)) ps e → MovesOn s s1
    → next s (skip_read s) ≡ gave tt s1.position → PartsLeft b IsPart s1 ps e
after-value b IsPart s s1 n ps e comes left m passed =
    let there : end n ≡ s1.position = (gave-is _ _ _ _ (sym (skip-passes s n comes) ∙ passed)).1 in
    let is : with_position s (end n) ≡ s1 = ap (with_position s) there ∙ sym m.same in
    subst (λ (v : ReaderState). PartsLeft b IsPart v ps e) is left

module _ {P : Type 0} (b : ContainerKind) (IsPart : Bool → List ℕ → ℕ → P → ℕ → Type 0) (value : P → Node) where
  -- whether a part comes next; these are left, up to e
  abbrev pub Left : ReaderState → List P → ℕ → Bool → Type 0
  Left s [] e false = s.position ≡ e
  Left s (p ∷ ps) e true = ComesNext s (value p) × PartsLeft b IsPart (with_position s (end (value p))) ps e
  Left s ps e more = ⊥

  module _ {K : Type 0} (key : P → K) where
    given-left : (s : ReaderState) (ps : List P) (e : ℕ) (o : Option K) → GivenAt b IsPart key value s ps e o
        → Left s ps e (has_part o)
    given-left s [] e None at = at
    given-left s [] e (Some x) at = absurd at
    given-left s (p ∷ ps) e None at = absurd at
    given-left s (p ∷ ps) e (Some x) (told, comes, left) = (comes, left)

    -- what a call told, that gave a part or none
    pub told-left : (old s : ReaderState) (ps : List P) (e : ℕ) (r : Reply (Option K)) (more : Bool) → MovesOn old s
        → TellsOf b IsPart key value old ps e r → reply_seen has_part r ≡ gave more s.position → Left s ps e more
    told-left old s ps e r more m told is =
        let given = seen-gave has_part r more s.position is in
        subst (Left s ps e) given.2
        (given-left s ps e given.0 (part-given b IsPart key value old s ps e r given.0 told given.1 m.same))

    pub told-not_refused : (old : ReaderState) (ps : List P) (e : ℕ) (r : Reply (Option K)) (c : Cause) (x stop : ℕ)
        → TellsOf b IsPart key value old ps e r → reply_seen has_part r ≡ refused c x stop → ⊥
    told-not_refused old ps e r c x stop told is =
        part-not_refused b IsPart key value old ps e r c x stop told (seen-refused has_part r c x stop is)

abbrev pub LeftOfArray : ReaderState → Nodes → ℕ → Bool → Type 0
LeftOfArray s ns = Left shape.Array AnItem (λ n. n) s (nodes_list ns)

abbrev pub LeftOfObject : ReaderState → NodeMembers → ℕ → Bool → Type 0
LeftOfObject s ms = Left shape.Object AMember node_of s (members_list ms)

-- ---- the count
-- so many parts are left of an object, or else of an array
abbrev pub Remaining : Bool → ReaderState → Bool → ℕ → Type 0
Remaining true s more k = (ms : NodeMembers) × (e : ℕ) × LeftOfObject s ms e more × (count_members ms ≡ k)
Remaining false s more k = (ns : Nodes) × (e : ℕ) × LeftOfArray s ns e more × (count_items ns ≡ k)

array_no_object : (c : ℕ) → c ≡ 123 → start_of c ≡ start.Array → ⊥
array_no_object c is h = let same : start_of 123 ≡ start.Array = ap start_of (sym is) ∙ h in absurd (cc)

-- whether this byte is an object's bracket
abbrev pub IsBracket : ℕ → Bool → Type 0
IsBracket c true = c ≡ 123
IsBracket c false = c ≢ 123

-- whether a byte that was told is
pub is-bracket : (c : ℕ) (object : Bool) → object ≡ nat_eq c 123 → IsBracket c object
is-bracket c true h = grind (arith, nat_tests, h)
is-bracket c false h = grind (arith, nat_tests, h)

-- The first part.
module _ (s s1 : ReaderState) (c : ℕ) (told : peek s ≡ gave c s1.position) (m : MovesOn s s1)
    (place : s1.position ≡ value_place s) where
  array-first : (object : Bool) → IsBracket c object → (b e : ℕ) (ns : Nodes) → StandsNext s (grammar.array b e ns)
      → (object ≡ false) × StandsNext s1 (grammar.array b e ns)
  array-first true is b e ns h = absurd (array_no_object c is (peek-begins s (grammar.array b e ns) h c _ told).0)
  array-first false is b e ns h = (refl, stands-peeked s s1 (grammar.array b e ns) m place h)

  object-first : (object : Bool) → IsBracket c object → (b e : ℕ) (ms : NodeMembers)
      → StandsNext s (grammar.object b e ms) → (object ≡ true) × StandsNext s1 (grammar.object b e ms)
  object-first true is b e ms h = (refl, stands-peeked s s1 (grammar.object b e ms) m place h)
  object-first false is b e ms h =
      absurd (is (object-byte c (peek-begins s (grammar.object b e ms) h c _ told).0))

  module _ (object : Bool) (is : IsBracket c object) where
    pub first-not_refused : (n : Node) → StandsNext s n → IsContainer n → (d : Cause) (x stop : ℕ)
        → first_part object s1 ≡ refused d x stop → ⊥
    first-not_refused (grammar.array b e ns) h w d x stop refusal =
        let first = array-first object is b e ns h in
        told-not_refused shape.Array AnItem (λ n. n) (first_byte s1.text) s1 (nodes_list ns) e _ d x stop
        (array-tells s1 b e ns first.1)
        (subst (λ o. first_part o s1 ≡ refused d x stop) first.0 refusal)
    first-not_refused (grammar.object b e ms) h w d x stop refusal =
        let first = object-first object is b e ms h in
        told-not_refused shape.Object AMember node_of (key_of (raw_key s1.text)) s1 (members_list ms) e _ d x stop
        (object-tells raw (raw_key s1.text) s1 (sees-raw s1.text) b e ms first.1)
        (subst (λ o. first_part o s1 ≡ refused d x stop) first.0 refusal)
    first-not_refused (grammar.literal l b e) h w d x stop refusal = w
    first-not_refused (grammar.number b e) h w d x stop refusal = w
    first-not_refused (grammar.string ps b e) h w d x stop refusal = w

    first-remains : (s2 : ReaderState) (more : Bool) → MovesOn s1 s2 → first_part object s1 ≡ gave more s2.position
        → (n : Node) → StandsNext s n → IsContainer n → Remaining object s2 more (count_parts n)
    first-remains s2 more m2 given (grammar.array b e ns) h w =
        let first = array-first object is b e ns h in
        let all : Remaining false s2 more (count_items ns) = (
          ns,
          e,
          told-left shape.Array AnItem (λ n. n) (first_byte s1.text) s1 s2 (nodes_list ns) e _ more m2
              (array-tells s1 b e ns first.1) (subst (λ o. first_part o s1 ≡ gave more s2.position) first.0 given),
          refl,
        ) in
        subst (λ o. Remaining o s2 more (count_items ns)) (sym first.0) all
    first-remains s2 more m2 given (grammar.object b e ms) h w =
        let first = object-first object is b e ms h in
        let all : Remaining true s2 more (count_members ms) = (
          ms,
          e,
          told-left shape.Object AMember node_of (key_of (raw_key s1.text)) s1 s2 (members_list ms) e _ more m2
              (object-tells raw (raw_key s1.text) s1 (sees-raw s1.text) b e ms first.1)
              (subst (λ o. first_part o s1 ≡ gave more s2.position) first.0 given),
          refl,
        ) in
        subst (λ o. Remaining o s2 more (count_members ms)) (sym first.0) all
    first-remains s2 more m2 given (grammar.literal l b e) h w = absurd w
    first-remains s2 more m2 given (grammar.number b e) h w = absurd w
    first-remains s2 more m2 given (grammar.string ps b e) h w = absurd w

-- After a part.
module _ (s : ReaderState) where
  -- its value is passed
  pub skip-not_refused : (object : Bool) (k : ℕ) → Remaining object s true k → (c : Cause) (x stop : ℕ)
      → next s (skip_read s) ≡ refused c x stop → ⊥
  skip-not_refused true k (ms, e, left, counted) c x stop is = by ms left where
    by : (ms : NodeMembers) → LeftOfObject s ms e true → ⊥
    by NodeMembers.no_members none = none
    by (NodeMembers.member key v ms) (comes, left) = gave-refused (sym (skip-passes s v comes) ∙ is)
  skip-not_refused false k (ns, e, left, counted) c x stop is = by ns left where
    by : (ns : Nodes) → LeftOfArray s ns e true → ⊥
    by Nodes.no_nodes none = none
    by (Nodes.node v ns) (comes, left) = gave-refused (sym (skip-passes s v comes) ∙ is)

  module _ (s1 : ReaderState) (m : MovesOn s s1) (passed : next s (skip_read s) ≡ gave tt s1.position) where
    pub next-not_refused : (object : Bool) (k : ℕ) → Remaining object s true k → (c : Cause) (x stop : ℕ)
        → next_part object s1 ≡ refused c x stop → ⊥
    next-not_refused true k (ms, e, left, counted) c x stop is = by ms left where
      by : (ms : NodeMembers) → LeftOfObject s ms e true → ⊥
      by NodeMembers.no_members none = none
      by (NodeMembers.member key v ms) (comes, left) =
          told-not_refused shape.Object AMember node_of (key_of (raw_key s1.text)) s1 (members_list ms) e _ c x stop
          (key-tells raw (raw_key s1.text) s1 (sees-raw s1.text) ms e
          (after-value shape.Object AMember s s1 v (members_list ms) e comes left m passed)) is
    next-not_refused false k (ns, e, left, counted) c x stop is = by ns left where
      by : (ns : Nodes) → LeftOfArray s ns e true → ⊥
      by Nodes.no_nodes none = none
      by (Nodes.node v ns) (comes, left) =
          told-not_refused shape.Array AnItem (λ n. n) (first_byte s1.text) s1 (nodes_list ns) e _ c x stop
          (item-tells s1 (nodes_list ns) e (after-value shape.Array AnItem s s1 v (nodes_list ns) e comes left m passed)) is

    next-remains : (object : Bool) (k : ℕ) → Remaining object s true k → (s2 : ReaderState) (more : Bool)
        → MovesOn s1 s2 → next_part object s1 ≡ gave more s2.position → (j : ℕ) × Remaining object s2 more j × (suc j ≡ k)
    next-remains true k (ms, e, left, counted) s2 more m2 given = by ms left counted where
      by : (ms : NodeMembers) → LeftOfObject s ms e true → count_members ms ≡ k
          → (j : ℕ) × Remaining true s2 more j × (suc j ≡ k)
      by NodeMembers.no_members none counted = absurd none
      by (NodeMembers.member key v ms) (comes, left) counted =
          let told = key-tells raw (raw_key s1.text) s1 (sees-raw s1.text) ms e
          (after-value shape.Object AMember s s1 v (members_list ms) e comes left m passed) in (
            count_members ms,
            (
              ms,
              e,
              told-left shape.Object AMember node_of (key_of (raw_key s1.text)) s1 s2 (members_list ms) e _ more m2 told
                  given,
              refl,
            ),
            counted,
          )
    next-remains false k (ns, e, left, counted) s2 more m2 given = by ns left counted where
      by : (ns : Nodes) → LeftOfArray s ns e true → count_items ns ≡ k
          → (j : ℕ) × Remaining false s2 more j × (suc j ≡ k)
      by Nodes.no_nodes none counted = absurd none
      by (Nodes.node v ns) (comes, left) counted =
          let told = item-tells s1 (nodes_list ns) e
          (after-value shape.Array AnItem s s1 v (nodes_list ns) e comes left m passed) in (
            count_items ns,
            (
              ns,
              e,
              told-left shape.Array AnItem (λ n. n) (first_byte s1.text) s1 s2 (nodes_list ns) e _ more m2 told given,
              refl,
            ),
            counted,
          )

-- After the last part none is left.
remains-none : (object : Bool) (s : ReaderState) (k : ℕ) → Remaining object s false k → k ≡ 0
remains-none true s k (ms, e, left, counted) = by ms left counted where
  by : (ms : NodeMembers) → LeftOfObject s ms e false → count_members ms ≡ k → k ≡ 0
  by NodeMembers.no_members left counted = sym counted
  by (NodeMembers.member key v ms) none counted = absurd none
remains-none false s k (ns, e, left, counted) = by ns left counted where
  by : (ns : Nodes) → LeftOfArray s ns e false → count_items ns ≡ k → k ≡ 0
  by Nodes.no_nodes left counted = sym counted
  by (Nodes.node v ns) none counted = absurd none

-- so many parts were passed, and whether one comes next
pub record Counted (s0 s : ReaderState) (object more : Bool) (count : ℕ) : Type 0 where
  pub moves : MovesOn s0 s
  pub below : count ≤ s.position
  pub counts : (n : Node) → StandsNext s0 n → IsContainer n
      → (k : ℕ) × Remaining object s more k × (count + k ≡ count_parts n)

pub count-begins : (s0 s1 s2 : ReaderState) (c : ℕ) (object more : Bool) → peek s0 ≡ gave c s1.position
    → MovesOn s0 s1 → s1.position ≡ value_place s0 → IsBracket c object → MovesOn s1 s2
    → first_part object s1 ≡ gave more s2.position → Counted s0 s2 object more 0
count-begins s0 s1 s2 c object more told m place is m2 given = record {
  moves = moves-on s0 s1 s2 m m2;
  below = omega arith;
  counts = λ n h w. (
    count_parts n,
    first-remains s0 s1 c told m place object is s2 more m2 given n h w,
    omega arith,
  );
}

module _ (s0 s : ReaderState) (object : Bool) (count : ℕ) (h : Counted s0 s object true count) (s1 : ReaderState)
    (m : MovesOn s s1) (passed : next s (skip_read s) ≡ gave tt s1.position) (s2 : ReaderState) (more : Bool)
    (m2 : MovesOn s1 s2) (given : next_part object s1 ≡ gave more s2.position) where
  pub count-goes_on : Counted s0 s2 object more (count + 1)
  count-goes_on =
      let ahead = skip-ahead s s1.position passed in
      record {
        moves = moves-on s0 s s2 h.moves (moves-on s s1 s2 m m2);
        below = omega (arith, h.below, ahead, m2.forward);
        counts = λ n is w.
            let all = h.counts n is w in
            let left = next-remains s s1 m passed object all.0 all.1 s2 more m2 given in
            (left.0, left.1, omega (arith, left.2, all.2));
      }

-- The reader has moved on.
pub count-less : (s0 s : ReaderState) (object : Bool) (count : ℕ) → Counted s0 s object true count → (s1 : ReaderState)
    → MovesOn s s1 → next s (skip_read s) ≡ gave tt s1.position → (s2 : ReaderState) → MovesOn s1 s2
    → length s0.text - s2.position < length s0.text - s.position
count-less s0 s object count h s1 m passed s2 m2 =
    let ahead = skip-ahead s s1.position passed in
    let last = moves-on s0 s s2 h.moves (moves-on s s1 s2 m m2) in
    omega (arith, ahead, m2.forward, last.within)

pub count-ends : (s0 s : ReaderState) (object : Bool) (count : ℕ) → Counted s0 s object false count → (n : Node)
    → StandsNext s0 n → IsContainer n → count ≡ count_parts n
count-ends s0 s object count h n is w =
    let all = h.counts n is w in
    omega (arith, all.2, remains-none object s all.0 all.1)

-- ---- the item with a number
pub record ItemsOn (s : ReaderState) (more : Bool) (before e : ℕ) (found : Option Node) : Type 0 where
  pub rest : Nodes
  pub left : LeftOfArray s rest e more
  pub led : numbered before rest ≡ found

-- so many items are to be passed yet
pub record ItemsTo (s0 s : ReaderState) (more : Bool) (number before : ℕ) : Type 0 where
  pub moves : MovesOn s0 s
  pub items : (b e : ℕ) (ns : Nodes) → StandsNext s0 (grammar.array b e ns)
      → ItemsOn s more before e (numbered number ns)

pub items-begin : (s0 s : ReaderState) (o : Option ℕ) (number : ℕ) → MovesOn s0 s
    → next s0 (array_read s0) ≡ gave o s.position → ItemsTo s0 s (has_part o) number number
items-begin s0 s o number m is = record {
  moves = m;
  items = λ b e ns h. record {
    rest = ns;
    left = told-left shape.Array AnItem (λ n. n) (first_byte s0.text) s0 s (nodes_list ns) e _ (has_part o) m
        (array-tells s0 b e ns h) (ap (reply_seen has_part) is);
    led = refl;
  };
}

pub items-not_refused : (s0 : ReaderState) (b e : ℕ) (ns : Nodes) → StandsNext s0 (grammar.array b e ns) → (c : Cause)
    (x stop : ℕ) → next s0 (array_read s0) ≡ refused c x stop → ⊥
items-not_refused s0 b e ns h c x stop =
    part-not_refused shape.Array AnItem (first_byte s0.text) (λ n. n) s0 (nodes_list ns) e _ c x stop
    (array-tells s0 b e ns h)

-- what a test tells of an item that was told
pub has-item : {A B : Type 0} (f : A → B) (o : Option A) (some : Bool) → some ≡ is_some o → has_part (option_map f o) ≡ some
has-item f None some is = sym is
has-item f (Some x) some is = sym is

-- What is left of an array, by how many items it is.
array-remains : (s : ReaderState) (more : Bool) (before e : ℕ) (found : Option Node) → ItemsOn s more before e found
    → (k : ℕ) × Remaining false s more k
array-remains s more before e found l = (count_items l.rest, (l.rest, e, l.left, refl))

module _ (s0 s : ReaderState) (number before : ℕ) (h : ItemsTo s0 s true number before) where
  pub item-not_refused : (b e : ℕ) (ns : Nodes) → StandsNext s0 (grammar.array b e ns) → (c : Cause) (x stop : ℕ)
      → next s (skip_read s) ≡ refused c x stop → ⊥
  item-not_refused b e ns is =
      let left = array-remains s true before e _ (h.items b e ns is) in skip-not_refused s false left.0 left.1

  module _ (s1 : ReaderState) (m : MovesOn s s1) (passed : next s (skip_read s) ≡ gave tt s1.position) where
    pub step-not_refused : (b e : ℕ) (ns : Nodes) → StandsNext s0 (grammar.array b e ns) → (c : Cause) (x stop : ℕ)
        → item_step s1 ≡ refused c x stop → ⊥
    step-not_refused b e ns is c x stop refusal =
        let left = array-remains s true before e _ (h.items b e ns is) in
        next-not_refused s s1 m passed false left.0 left.1 c x stop (ap (reply_seen has_part) refusal)

    pub items-go_on : (s2 : ReaderState) (o : Option ℕ) (fewer : ℕ) → MovesOn s1 s2 → item_step s1 ≡ gave o s2.position
        → before ≡ suc fewer → ItemsTo s0 s2 (has_part o) number fewer
    items-go_on s2 o fewer m2 given is = record {
      moves = moves-on s0 s s2 h.moves (moves-on s s1 s2 m m2);
      items = λ b e ns at. let l = h.items b e ns at in by e (numbered number ns) l.rest l.left l.led;
    } where
      by : (e : ℕ) (found : Option Node) (rest : Nodes) → LeftOfArray s rest e true → numbered before rest ≡ found
          → ItemsOn s2 (has_part o) fewer e found
      by e found Nodes.no_nodes none led = absurd none
      by e found (Nodes.node v ns) (comes, left) led = record {
        rest = ns;
        left = told-left shape.Array AnItem (λ n. n) (first_byte s1.text) s1 s2 (nodes_list ns) e _ (has_part o) m2
            (item-tells s1 (nodes_list ns) e
            (after-value shape.Array AnItem s s1 v (nodes_list ns) e comes left m passed))
            (ap (reply_seen has_part) given);
        led = ap (λ i. numbered i (Nodes.node v ns)) (sym is) ∙ led;
      }

-- The array has no item with this number.
pub items-end : (s0 s : ReaderState) (number before : ℕ) → ItemsTo s0 s false number before → (b e : ℕ) (ns : Nodes)
    → StandsNext s0 (grammar.array b e ns) → LedTo (numbered number ns) e false s.position
items-end s0 s number before h b e ns is = let l = h.items b e ns is in by l.rest l.left l.led where
  by : (rest : Nodes) → LeftOfArray s rest e false → numbered before rest ≡ numbered number ns
      → LedTo (numbered number ns) e false s.position
  by Nodes.no_nodes left led = subst (λ o. LedTo o e false s.position) led (refl, left)
  by (Nodes.node v ns) none led = absurd none

-- It has, and it comes next.
module _ (s0 s : ReaderState) (number : ℕ) (h : ItemsTo s0 s true number 0) (b e : ℕ) (ns : Nodes)
    (is : StandsNext s0 (grammar.array b e ns)) where
  item-next : (v : Node) × ComesNext s v × (Some v ≡ numbered number ns)
  item-next = let l = h.items b e ns is in by l.rest l.left l.led where
    by : (rest : Nodes) → LeftOfArray s rest e true → numbered 0 rest ≡ numbered number ns
        → (v : Node) × ComesNext s v × (Some v ≡ numbered number ns)
    by Nodes.no_nodes none led = absurd none
    by (Nodes.node v ns) (comes, left) led = (v, comes, led)

  pub item-found : (i : ℕ) → i ≡ value_place s → LedTo (numbered number ns) e true i
  item-found i place =
      subst (λ o. LedTo o e true i) item-next.2 (refl, place ∙ item-next.1.stands.place)

  pub place-not_refused : (c : Cause) (x stop : ℕ) → peek s ≡ refused c x stop → ⊥
  place-not_refused = peek-not_refused s item-next.0 item-next.1.stands

-- ---- the last member of a name
-- a reply for a key, by whether it is this name
abbrev pub named_reply : List ℕ → Reply (Option Text) → Reply (Option Bool)
named_reply name r = reply_seen (option_map (λ k. bytes_eq k name)) (reply_seen key_bytes r)

-- what was told of a key that was borrowed
pub named-given : {A : Type 0} (at : A → List ℕ) (name : List ℕ) (key : Option A) (o : Option Bool)
    (r : Reply (Option Text)) (i : ℕ) → reply_seen key_bytes r ≡ gave (option_map at key) i
    → o ≡ option_map (λ x. bytes_eq (at x) name) key → named_reply name r ≡ gave o i
named-given at name key o r i h is =
    ap (reply_seen (option_map (λ k. bytes_eq k name))) h ∙ ap (λ x. gave x i) (by key ∙ sym is) where
      by : (key : Option _) → option_map (λ k. bytes_eq k name) (option_map at key) ≡ option_map (λ x. bytes_eq (at x) name) key
      by None = refl
      by (Some x) = refl

-- whether a key is this name
abbrev pub key_is : List ℕ → Option Text → Option Bool
key_is name key = option_map (λ k. bytes_eq k name) (key_bytes key)

named-gave : (name : List ℕ) (r : Reply (Option Text)) (o : Option Bool) (i : ℕ) → named_reply name r ≡ gave o i
    → (key : Option Text) × (r ≡ gave key i) × (key_is name key ≡ o)
named-gave name (gave key j) o i h = let same = gave-is (key_is name key) o j i h in (key, ap (gave key) same.1, same.0)
named-gave name (refused c x stop) o i h = absurd (gave-refused (sym h))

some-same : {A : Type 0} (x y : A) → Some x ≡ Some y → x ≡ y
some-same x y h = cc

pub record MembersOn (t name : List ℕ) (s : ReaderState) (named : Option Bool) (place : Option ℕ) (e : ℕ)
    (last : Option Node) : Type 0 where
  pub rest : NodeMembers
  pub key : Option Text
  pub found : Option Node
  pub at : KeyAt (whole_key t) s rest e key
  pub names : key_is name key ≡ named
  pub placed : place ≡ option_map begin found
  pub led : last_named t name found rest ≡ last

-- whether the key that was told is the name, and the place of the last value of the name so far
pub record MembersTo (s0 s : ReaderState) (name : List ℕ) (named : Option Bool) (place : Option ℕ) : Type 0 where
  pub moves : MovesOn s0 s
  pub members : (b e : ℕ) (ms : NodeMembers) → StandsNext s0 (grammar.object b e ms)
      → MembersOn s0.text name s named place e (last_named s0.text name None ms)

sees-same : (s0 s : ReaderState) → MovesOn s0 s → SeesKeys whole (whole_key s0.text) s.text
sees-same s0 s m =
    subst (SeesKeys whole (whole_key s0.text)) (sym (ap (λ (v : ReaderState). v.text) m.same)) (sees-whole s0.text)

module _ (s0 : ReaderState) (b e : ℕ) (ms : NodeMembers) (h : StandsNext s0 (grammar.object b e ms)) where
  first-told : KeyTold (whole_key s0.text) s0 ms e (next s0 (object_read whole s0))
  first-told = object-tells whole (whole_key s0.text) s0 (sees-whole s0.text) b e ms h

  pub members-not_refused : (c : Cause) (x stop : ℕ) → next s0 (object_read whole s0) ≡ refused c x stop → ⊥
  members-not_refused c x stop = key-not_refused (whole_key s0.text) s0 ms e _ c x stop first-told

pub members-begin : (s0 s : ReaderState) (name : List ℕ) (named : Option Bool) → MovesOn s0 s
    → named_reply name (next s0 (object_read whole s0)) ≡ gave named s.position → MembersTo s0 s name named None
members-begin s0 s name named m is =
    let given = named-gave name _ named s.position is in
    record {
      moves = m;
      members = λ b e ms h. record {
        rest = ms;
        key = given.0;
        found = None;
        at = key-given (whole_key s0.text) s0 s ms e _ given.0 (first-told s0 b e ms h) given.1 m.same;
        names = given.2;
        placed = refl;
        led = refl;
      };
    }

-- the member whose key was told
record MemberOn (t name : List ℕ) (s : ReaderState) (same : Bool) (e : ℕ) (found last : Option Node) : Type 0 where
  value : Node
  rest : NodeMembers
  comes : ComesNext s value
  left : MembersLeft (with_position s (end value)) rest e
  led : last_named t name (if same then Some value else found) rest ≡ last

member-on : (t name : List ℕ) (s : ReaderState) (same : Bool) (place : Option ℕ) (e : ℕ) (last : Option Node)
    → (l : MembersOn t name s (Some same) place e last) → MemberOn t name s same e l.found last
member-on t name s same place e last l = by l.rest l.key l.names l.at l.led where
  by : (rest : NodeMembers) (key : Option Text) → key_is name key ≡ Some same → KeyAt (whole_key t) s rest e key
      → last_named t name l.found rest ≡ last → MemberOn t name s same e l.found last
  by NodeMembers.no_members None names at led = absurd (none-some _ names)
  by NodeMembers.no_members (Some x) names at led = absurd at
  by (NodeMembers.member k v ms) None names at led = absurd at
  by (NodeMembers.member k v ms) (Some x) names (here, comes, left) led =
      let is : bytes_eq (whole_key t k).bytes name ≡ same =
      ap (λ (y : Text). bytes_eq y.bytes name) (sym here) ∙ some-same (bytes_eq x.bytes name) same names in
      record {
        value = v;
        rest = ms;
        comes = comes;
        left = left;
        led = ap (λ b. last_named t name (if b then Some v else l.found) ms) (sym is) ∙ led;
      }

-- where the last value of the name lies
placed-on : (same : Bool) (v : Node) (found : Option Node) (place : Option ℕ) (start : ℕ) → place ≡ option_map begin found
    → start ≡ begin v → (if same then Some start else place) ≡ option_map begin (if same then Some v else found)
placed-on true v found place start placed is = ap Some is
placed-on false v found place start placed is = placed

module _ (s0 s : ReaderState) (name : List ℕ) (same : Bool) (place : Option ℕ)
    (h : MembersTo s0 s name (Some same) place) where
  on : (b e : ℕ) (ms : NodeMembers) (is : StandsNext s0 (grammar.object b e ms))
      → MemberOn s0.text name s same e (h.members b e ms is).found (last_named s0.text name None ms)
  on b e ms is = member-on s0.text name s same place e _ (h.members b e ms is)

  pub member-not_refused : (b e : ℕ) (ms : NodeMembers) → StandsNext s0 (grammar.object b e ms) → (c : Cause)
      (x stop : ℕ) → next s (skip_read s) ≡ refused c x stop → ⊥
  member-not_refused b e ms is c x stop refusal = gave-refused (sym (skip-passes s _ (on b e ms is).comes) ∙ refusal)

  module _ (s1 : ReaderState) (m : MovesOn s s1) (passed : next s (skip_read s) ≡ gave tt s1.position) where
    key-told : (b e : ℕ) (ms : NodeMembers) (is : StandsNext s0 (grammar.object b e ms))
        → KeyTold (whole_key s0.text) s1 (on b e ms is).rest e (key_step whole s1)
    key-told b e ms is =
        let a = on b e ms is in
        key-tells whole (whole_key s0.text) s1 (sees-same s0 s1 (moves-on s0 s s1 h.moves m)) a.rest e
        (after-value shape.Object AMember s s1 a.value (members_list a.rest) e a.comes a.left m passed)

    pub next_key-not_refused : (b e : ℕ) (ms : NodeMembers) → StandsNext s0 (grammar.object b e ms) → (c : Cause)
        (x stop : ℕ) → key_step whole s1 ≡ refused c x stop → ⊥
    next_key-not_refused b e ms is c x stop =
        key-not_refused (whole_key s0.text) s1 (on b e ms is).rest e _ c x stop (key-told b e ms is)

    pub members-go_on : (start : ℕ) → start ≡ value_place s → (s2 : ReaderState) (named : Option Bool) → MovesOn s1 s2
        → named_reply name (key_step whole s1) ≡ gave named s2.position
        → MembersTo s0 s2 name named (if same then Some start else place)
    members-go_on start there s2 named m2 given =
        let key = named-gave name _ named s2.position given in
        record {
          moves = moves-on s0 s s2 h.moves (moves-on s s1 s2 m m2);
          members = λ b e ms is.
              let a = on b e ms is in
              let l = h.members b e ms is in
              record {
                rest = a.rest;
                key = key.0;
                found = if same then Some a.value else l.found;
                at = key-given (whole_key s0.text) s1 s2 a.rest e _ key.0 (key-told b e ms is) key.1 m2.same;
                names = key.2;
                placed = placed-on same a.value l.found place start l.placed (there ∙ a.comes.stands.place);
                led = a.led;
              };
        }

    -- The reader has moved on.
    pub members-less : (s2 : ReaderState) → MovesOn s1 s2 → length s0.text - s2.position < length s0.text - s.position
    members-less s2 m2 =
        let ahead = skip-ahead s s1.position passed in
        let last = moves-on s0 s s2 h.moves (moves-on s s1 s2 m m2) in
        omega (arith, ahead, m2.forward, last.within)

-- After the last member.
pub members-end : (s0 s : ReaderState) (name : List ℕ) (place : Option ℕ) → MembersTo s0 s name None place → (b e : ℕ)
    (ms : NodeMembers) → StandsNext s0 (grammar.object b e ms)
    → (place ≡ option_map begin (last_named s0.text name None ms)) × (s.position ≡ e)
members-end s0 s name place h b e ms is = let l = h.members b e ms is in by l l.rest l.key l.names l.at l.led where
  by : (l : MembersOn s0.text name s None place e (last_named s0.text name None ms)) (rest : NodeMembers)
      (key : Option Text) → key_is name key ≡ None → KeyAt (whole_key s0.text) s rest e key
      → last_named s0.text name l.found rest ≡ last_named s0.text name None ms
      → (place ≡ option_map begin (last_named s0.text name None ms)) × (s.position ≡ e)
  by l NodeMembers.no_members None names at led = (l.placed ∙ ap (option_map begin) led, at)
  by l NodeMembers.no_members (Some x) names at led = absurd at
  by l (NodeMembers.member k v ms) None names at led = absurd at
  by l (NodeMembers.member k v ms) (Some x) names at led = absurd (none-some _ (sym names))
