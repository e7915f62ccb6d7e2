-- What is read is spelled so.
use Rattle.jiter_steps.proofs.Words.{◌≡◌, ℕ, zero, suc, ◌+◌, ◌<◌, ◌≤◌, Bool, List, length, refl, sym, ap, ◌∙◌, subst}
use Rattle.jiter_steps.proofs.Words.{arith, None, slice_get, slice_index, Some, chars, slice_get-get_or}
use Rattle.jiter_steps.proofs.Words.{slice_get_within, nat_tests, number_at, Scanned, taken, failed, Span}
use Rattle.jiter_steps.proofs.Words.{ScalarWithin, seen_as, start_of, literal_at, Key, Node, Nodes, no_nodes, node}
use Rattle.jiter_steps.proofs.Words.{NodeMembers, no_members, member, begin, end, StandsAfter, SpellsKey, Spells}
use Rattle.jiter_steps.proofs.Words.{SpellsItems, SpellsMoreItems, SpellsMembers, SpellsMoreMembers, nesting}
use Rattle.jiter_steps.proofs.Words.{nesting_round, nesting_round_members, SpellsString, Reading, done, fault}
use Rattle.jiter_steps.proofs.Words.{Container, scalar_at, with_key, after_colon, after_key, container_at, array_of}
use Rattle.jiter_steps.proofs.Words.{object_of, value_with, inside_at, value_at, whole, string_at, Text, Start}
use Rattle.jiter_steps.proofs.Words.{number_at-sound, word_of, number_at-within, word_at-sound}
use Rattle.jiter_steps.specs.Node as grammar
use Rattle.jiter_steps.specs.declared.parse.Start.TheVariants as start
use Rattle.jiter_steps.proofs.Reading.Bounds.{Within}
use Rattle.jiter_steps.proofs.Reading.FirstBytes.{string-first}
use Rattle.jiter_steps.proofs.Reading.Instances.{nodes-advances, literal_at-within}
use Rattle.jiter_steps.proofs.Grammar.NodeRules.{nodes, nodes_of, node_members_of, key_of, pieces_from}
use Rattle.jiter_steps.proofs.Reading.Parts.{Grammar, parts-are, Reads, BuiltOf, container_at-built}
use Rattle.jiter_steps.specs.declared.parse.ContainerKind.TheVariants as shape
use Rattle.jiter_steps.proofs.Grammar.RowSteps.{ByteAt, PartAt, begins-quote, PartAfter, After, SpanIs, delimits}
use Rattle.jiter_steps.proofs.Grammar.RowSteps.{object_colon-is, Delimits}
use Rattle.jiter_steps.proofs.Grammar.StringLaws.{string_at-within, string_at-sound}
use Rattle.jiter_steps.proofs.Reading.Values.{AllWithin, Goes, array_of-goes, object_of-goes, container_at-within}
use Rattle.jiter_steps.proofs.Reading.Values.{inside_at-within}

round-items : (n : Node) (ns : Nodes) (levels : ℕ) → nesting n < levels → nesting_round ns ≤ levels
    → nesting_round (node n ns) ≤ levels
round-items n no_nodes levels d h = omega arith
round-items n (node m ns) levels d h = omega arith

round-members : (k : Key) (n : Node) (ms : NodeMembers) (levels : ℕ) → nesting n < levels
    → nesting_round_members ms ≤ levels
    → nesting_round_members (member k n ms) ≤ levels
round-members k n no_members levels d h = omega arith
round-members k n (member l m ms) levels d h = omega arith

-- the bytes that begin an array and an object
pub array-byte : (c : ℕ) → start_of c ≡ start.Array → c ≡ 91
array-byte c e = grind (arith, nat_tests, e)

pub object-byte : (c : ℕ) → start_of c ≡ start.Object → c ≡ 123
object-byte c e = grind (arith, nat_tests, e)

-- the text spells n from i to e
pub record IsNodeAt (names : Bool) (t : List ℕ) (i : ℕ) (n : Node) (e : ℕ) : Type 0 where
  pub spelled : Spells names t n
  pub begins : begin n ≡ i
  pub ends : end n ≡ e
  pub within : e ≤ length t

-- with a level left for it
abbrev pub Sound : Bool → List ℕ → ℕ → ℕ → Reading Node → Type 0
Sound names t levels i (done n e) = IsNodeAt names t i n e × (nesting n ≤ levels)
Sound names t levels i (fault k x stop) = Unit {0}

-- inside a container, which needs a level itself
abbrev pub IsItemAt : Bool → List ℕ → ℕ → ℕ → Node → ℕ → Type 0
IsItemAt names t levels i n e = IsNodeAt names t i n e × (nesting n < levels)

abbrev pub InsideSound : Bool → List ℕ → ℕ → ℕ → Reading Node → Type 0
InsideSound names t levels i (done n e) = IsItemAt names t levels i n e
InsideSound names t levels i (fault k x stop) = Unit {0}

-- a key at i, its colon, and its value before e
pub record IsMemberAt (names : Bool) (t : List ℕ) (levels i : ℕ) (k : Key) (n : Node) (e : ℕ) : Type 0 where
  pub begins : k.begin ≡ i
  pub key : SpellsKey t k (begin n)
  pub value : IsNodeAt names t (begin n) n e
  pub limit : nesting n < levels

abbrev pub MemberSound : Bool → List ℕ → ℕ → ℕ → Reading (Key × Node) → Type 0
MemberSound names t levels i (done m e) = IsMemberAt names t levels i m.0 m.1 e
MemberSound names t levels i (fault k x stop) = Unit {0}

module _ (names : Bool) (t : List ℕ) where
  sound-at : (levels : ℕ) (n : Node) → Spells names t n → end n ≤ length t → nesting n ≤ levels
      → Sound names t levels (begin n) (done n (end n))
  sound-at levels n h le d = (record { spelled = h; begins = refl; ends = refl; within = le }, d)

  -- scalars
  scalar-sound : {X : Type 0} (levels i : ℕ) (f : X → ℕ → Node) (x : Scanned X) → ScalarWithin t i x
      → ((s : X) (e : ℕ) → x ≡ taken s e → i < e → e ≤ length t → Sound names t levels i (done (f s e) e))
      → Sound names t levels i (scalar_at i (seen_as f x))
  scalar-sound levels i f (taken s e) w all = all s e refl w.0 w.1
  scalar-sound levels i f (failed k j) w all = tt

  module _ (levels : ℕ) where
    abbrev pub inner : ℕ → Reading Node
    inner i = inside_at (nodes names) t levels i

    abbrev pub InnerSound : Type 0
    InnerSound = (i : ℕ) → i < length t → InsideSound names t levels i (inner i)

    -- a member: its key, its colon and its value
    with_key-sound : (i colon j : ℕ) (k : Key) → k.begin ≡ i → SpellsString t k.begin k.pieces k.end
        → StandsAfter t k.end 58 colon
        → PartAfter t (ByteAt t) colon j → (x : Reading Node) → InsideSound names t levels j x
        → MemberSound names t levels i (with_key k x)
    with_key-sound i colon j k begins string after h (done n d) is =
        record {
          begins = begins;
          key = record { string = string; colon = colon; after = after; blanks = rw is.0.begins h.blanks };
          value = rw is.0.begins is.0;
          limit = is.1;
        }
    with_key-sound i colon j k begins string after h (fault kind x stop) is = tt

    after_colon-sound : InnerSound → (i : ℕ) (k : Key) → k.begin ≡ i → SpellsString t k.begin k.pieces k.end
        → (x : Span) → SpanIs (After t k.end 58 (PartAfter t (ByteAt t))) x
        → MemberSound names t levels i (after_colon k inner x)
    after_colon-sound all i k begins string (taken u j) h =
        with_key-sound i h.0 j k begins string h.1 h.2 (inner j)
        (all j (slice_get_within t j h.2.begins.byte h.2.begins.here))
    after_colon-sound all i k begins string (failed kind j) h = tt

    after_key-sound : InnerSound → (i : ℕ) → slice_get t i ≡ Some 34 → (x : Scanned Text) → string_at whole t i ≡ x
        → ScalarWithin t i x → MemberSound names t levels i (after_key inner t i (seen_as (key_of t i) x))
    after_key-sound all i quote (taken s e) is w =
        after_colon-sound all i (key_of t i s e) refl (string_at-sound t i e s quote is).0 _ (object_colon-is t e w.1)
    after_key-sound all i quote (failed k j) is w = tt

    -- the containers whose values are read inside
    abbrev pub array : ℕ → Container Node Node
    array b = array_of (nodes names) inner t b

    abbrev pub object : ℕ → Container (Key × Node) Node
    object b = object_of (nodes names) inner t b

    inner-within : AllWithin t inner
    inner-within = inside_at-within (nodes names) t (nodes-advances t names) levels

    pub array-goes : (b : ℕ) → Goes (array b) t
    array-goes b = array_of-goes (nodes names) t (nodes-advances t names) inner inner-within b

    pub object-goes : (b : ℕ) → Goes (object b) t
    object-goes b = object_of-goes (nodes names) t (nodes-advances t names) inner inner-within b

    -- and their grammar
    abbrev pub ItemsAre : List Node → ℕ → ℕ → Type 0
    ItemsAre ns i e = SpellsItems names t i (nodes_of ns) e × (nesting_round (nodes_of ns) ≤ levels)

    abbrev pub MoreItemsAre : List Node → ℕ → ℕ → Type 0
    MoreItemsAre ns i e = SpellsMoreItems names t i (nodes_of ns) e × (nesting_round (nodes_of ns) ≤ levels)

    abbrev pub MembersAre : List (Key × Node) → ℕ → ℕ → Type 0
    MembersAre ms i e =
        SpellsMembers names t i (node_members_of ms) e × (nesting_round_members (node_members_of ms) ≤ levels)

    abbrev pub MoreMembersAre : List (Key × Node) → ℕ → ℕ → Type 0
    MoreMembersAre ms i e =
        SpellsMoreMembers names t i (node_members_of ms) e × (nesting_round_members (node_members_of ms) ≤ levels)

    pub items-grammar : (Begins : ℕ → Type 0) (IsPart : ℕ → Node → ℕ → Type 0)
        → ((j : ℕ) (n : Node) (m : ℕ) → Begins j → IsPart j n m → IsItemAt names t levels j n m)
        → Grammar t 93 Begins IsPart ItemsAre MoreItemsAre
    items-grammar Begins IsPart each = record {
      none = λ i e h. (h, omega arith);
      no_more = λ i e h. (h, omega arith);
      part = λ n ns i j m e blanks at is rest.
          let x = each j n m at is in (
            (rw x.0.begins blanks, x.0.spelled, rw x.0.ends rest.0),
            round-items n (nodes_of ns) levels x.1 rest.1,
          );
      comma = λ n ns i c e h x. ((c, h, x.0.0, x.0.1, x.0.2), x.1);
    }

    pub members-grammar : (Begins : ℕ → Type 0) (IsPart : ℕ → Key × Node → ℕ → Type 0)
        → ((j : ℕ) (p : Key × Node) (m : ℕ) → Begins j → IsPart j p m → IsMemberAt names t levels j p.0 p.1 m)
        → Grammar t 125 Begins IsPart MembersAre MoreMembersAre
    members-grammar Begins IsPart each = record {
      none = λ i e h. (h, omega arith);
      no_more = λ i e h. (h, omega arith);
      part = λ p ms i j m e blanks at is rest.
          let x = each j p m at is in (
            (rw x.begins blanks, x.key, x.value.spelled, rw x.value.ends rest.0),
            round-members p.0 p.1 (node_members_of ms) levels x.limit rest.1,
          );
      comma = λ p ms i c e h x. ((c, h, x.0.0, x.0.1, x.0.2, x.0.3), x.1);
    }

    -- what is read of a container is a part of it
    pub item-read : InnerSound → (j : ℕ) (n : Node) (m : ℕ) → PartAt shape.Array t j → inner j ≡ done n m
        → IsItemAt names t levels j n m
    item-read all j n m at is = subst (InsideSound names t levels j) is (all j (slice_get_within t j at.byte at.here))

    pub member-read : InnerSound → (b j : ℕ) (p : Key × Node) (m : ℕ) → PartAt shape.Object t j → Reads (object b) j p m
        → IsMemberAt names t levels j p.0 p.1 m
    member-read all b j p m at is =
        let quote = begins-quote t j at in
        let within = string_at-within whole t j (slice_get_within t j 34 quote) in
        subst (MemberSound names t levels j) is (after_key-sound all j quote _ refl within)

    -- values
    container-sound : {P : Type 0} (c : Container P Node) (closer : ℕ) (Begins : ℕ → Type 0)
        (Are MoreAre : List P → ℕ → ℕ → Type 0)
        → ((ps : List P) (i : ℕ) → c.refuses ps i ≡ None) → Delimits t c.first c.next closer Begins → Goes c t
        → Grammar t closer Begins (Reads c) Are MoreAre
        → (b : ℕ) → b < length t
        → ((ps : List P) (e : ℕ) → Are ps (b + 1) e → e ≤ length t → Sound names t levels b (done (c.build e ps) e))
        → Sound names t levels b (container_at (nodes names) c t b)
    container-sound c closer Begins Are MoreAre free delimits goes grammar b h all =
        by _ (container_at-built (nodes names) t c closer Begins (λ k. refl) free delimits goes b h)
        (container_at-within (nodes names) t c goes b h) where
          by : (x : Reading Node) → BuiltOf (nodes names) t c closer Begins (b + 1) x → Within t b x
              → Sound names t levels b x
          by (done n e) built within =
              let are = parts-are t closer Begins (Reads c) Are MoreAre grammar built.0 (b + 1) e built.2 in
              subst (λ n. Sound names t levels b (done n e)) (sym built.1) (all built.0 e are within.1)
          by (fault k x stop) built within = tt

    pub byte-here : (i c : ℕ) → i < length t → slice_index t i ≡ c → slice_get t i ≡ Some c
    byte-here i c h e = slice_get-get_or t i 0 h ∙ ap Some e

    value_with-sound : InnerSound → (i : ℕ) → i < length t → (s : Start) → start_of (slice_index t i) ≡ s
        → Sound names t levels i (value_with (nodes names) inner t i s)
    value_with-sound all i h start.Array e =
        let here = byte-here i 91 h (array-byte _ e) in
        container-sound (array i) 93 (PartAt shape.Array t) ItemsAre MoreItemsAre (λ ps j. refl)
        (delimits t shape.Array)
        (array-goes i)
        (items-grammar (PartAt shape.Array t) (Reads (array i)) (item-read all)) i h
        (λ ns f x le. sound-at levels (grammar.array i f (nodes_of ns)) (here, x.0) le x.1)
    value_with-sound all i h start.Object e =
        let here = byte-here i 123 h (object-byte _ e) in
        container-sound (object i) 125 (PartAt shape.Object t) MembersAre MoreMembersAre (λ ps j. refl)
        (delimits t shape.Object)
        (object-goes i)
        (members-grammar (PartAt shape.Object t) (Reads (object i)) (member-read all i)) i h
        (λ ms f x le. sound-at levels (grammar.object i f (node_members_of ms)) (here, x.0) le x.1)
    value_with-sound all i h start.String e =
        let here = byte-here i 34 h (string-first _ e) in
        scalar-sound levels i (λ s e. grammar.string (pieces_from t (i + 1) (chars s.bytes)) i e) (string_at whole t i)
        (string_at-within whole t i h)
        (λ s e is l le. sound-at levels (grammar.string _ i e) (string_at-sound t i e s here is).0 le (omega arith))
    value_with-sound all i h start.Number e =
        scalar-sound levels i (λ n e. grammar.number i e) (number_at names t i) (number_at-within names t i h)
        (λ n e is l le. sound-at levels (grammar.number i e)
        (record { ordered = omega arith; within = le; text = (number_at-sound names t i n e is).0 }) le (omega arith))
    value_with-sound all i h (start.Literal l) e =
        scalar-sound levels i (λ u e. grammar.literal l i e) (literal_at t l i) (literal_at-within t l i (omega arith))
        (λ u e is b le. sound-at levels (grammar.literal l i e) (word_at-sound t (word_of l) i e u is) le (omega arith))
    value_with-sound all i h start.Nothing e = tt

  -- a value inside needs a level for the container round it
  levels-inside : (levels i : ℕ) (x : Reading Node) → Sound names t levels i x → InsideSound names t (suc levels) i x
  levels-inside levels i (done n e) h = (h.0, omega (arith, h.1))
  levels-inside levels i (fault k x stop) h = tt

  pub inside_at-sound : (levels i : ℕ) → i < length t
      → InsideSound names t levels i (inside_at (nodes names) t levels i)
  unfolding inside_at
  inside_at-sound zero i h = tt
  inside_at-sound (suc levels) i h =
      levels-inside levels i _ (value_with-sound levels (inside_at-sound levels) i h (start_of (slice_index t i)) refl)

  -- A node is read only where the text spells it.
  pub value_at-sound : (levels i : ℕ) → i < length t → Sound names t levels i (value_at (nodes names) t levels i)
  value_at-sound levels i h = value_with-sound levels (inside_at-sound levels) i h (start_of (slice_index t i)) refl
