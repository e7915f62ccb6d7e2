-- What the grammar spells of a container is parts that are one after another; and what a value begins with.
use Rattle.jiter_steps.proofs.Words.{◌≡◌, ◌≢◌, ℕ, zero, suc, ◌+◌, ◌<◌, ◌≤◌, ◌⊎◌, inl, inr, Bool, not, true, false, List}
use Rattle.jiter_steps.proofs.Words.{[], ◌∷◌, length, refl, sym, ap, ◌∙◌, subst, arith, ◌==◌, IfSome, slice_get}
use Rattle.jiter_steps.proofs.Words.{slice_index, slice_range, Some, slice_get_within, slice_get-get_or, slice_get_past}
use Rattle.jiter_steps.proofs.Words.{get_or_from_slice_get, nat_tests, IsNumberText, begins_number, taken}
use Rattle.jiter_steps.proofs.Words.{continues_number, seen_as, is_blank, IsBlank, Stands, stands-length, stands-within}
use Rattle.jiter_steps.proofs.Words.{stands-slice, slice-stands, word_of, start_of, Key, Node, Nodes, no_nodes, node}
use Rattle.jiter_steps.proofs.Words.{NodeMembers, no_members, member, begin, end, StandsAfter, SpellsNumber, SpellsKey}
use Rattle.jiter_steps.proofs.Words.{Spells, SpellsItems, SpellsMoreItems, SpellsMembers, SpellsMoreMembers, nesting}
use Rattle.jiter_steps.proofs.Words.{nesting_round, nesting_round_members, SpellsString, whole, string_at, Literal}
use Rattle.jiter_steps.proofs.Words.{Start, cases_eq, nesting_of, nesting_of_members}
use Rattle.jiter_steps.specs.Node as grammar
use Rattle.jiter_steps.specs.declared.parse.Literal.TheVariants as literal
use Rattle.jiter_steps.specs.declared.parse.Start.TheVariants as start
use Rattle.jiter_steps.proofs.Grammar.NodeRules.{nodes_of, node_members_of, key_of}
use Rattle.jiter_steps.proofs.Reading.Parts.{after-ahead, MoreParts, Parts, Grammar, parts-are}
use Rattle.jiter_steps.specs.declared.parse.ContainerKind.TheVariants as shape
use Rattle.jiter_steps.proofs.Grammar.RowSteps.{PartAt, quote-begins}
use Rattle.jiter_steps.proofs.Grammar.StringLaws.{string-ordered, string_at-complete, pieces-again}
use Rattle.jiter_scan.proofs.NumberLaws as numbers
use Rattle.jiter_steps.proofs.Grammar.ScalarLaws.{EndsNumber}

-- what kind of value a node is
abbrev pub start_is : Node → Start
start_is (grammar.literal l b e) = start.Literal l
start_is (grammar.number b e) = start.Number
start_is (grammar.string ps b e) = start.String
start_is (grammar.array b e ns) = start.Array
start_is (grammar.object b e ms) = start.Object

-- the byte at i begins a value of this kind
pub record BeginsValue (t : List ℕ) (i : ℕ) (s : Start) : Type 0 where
  pub byte : ℕ
  pub here : slice_get t i ≡ Some byte
  pub starts : start_of byte ≡ s
  pub no_blank : is_blank byte ≡ false
  pub no_closer : (byte == 93) ≡ false

-- the byte that begins a number
number-byte : (c : ℕ) → begins_number c ≡ true
    → (start_of c ≡ start.Number) × (is_blank c ≡ false) × ((c == 93) ≡ false)
number-byte c e = (grind (arith, nat_tests, e), grind (arith, nat_tests, e), grind (arith, nat_tests, e))

slice-first : (t : List ℕ) (b e : ℕ) → b < e → e ≤ length t
    → slice_range t b e ≡ slice_index t b ∷ slice_range t (b + 1) e
slice-first t b e h le =
    let rest = stands-slice t (b + 1) e (omega arith) le in
    sym (slice-stands t b e (slice_index t b ∷ slice_range t (b + 1) e) ((slice_get-get_or t b 0 (omega arith)), rest))

module _ (t : List ℕ) where
  -- a number does not go on at i
  ends-get : (i c : ℕ) → slice_get t i ≡ Some c → continues_number c ≡ false → EndsNumber t i
  ends-get i c e h = subst (λ o. IfSome o (λ b. continues_number b ≡ false)) (sym e) h

  -- nor before whitespace after which it does not
  ends-before : (i j : ℕ) → IsBlank t i j → EndsNumber t j → EndsNumber t i
  ends-before i j b quiet = by (cases_eq i j) where
    by : (i ≡ j) ⊎ (i ≢ j) → EndsNumber t i
    by (inl same) = subst (EndsNumber t) (sym same) quiet
    by (inr apart) =
        ends-get i (slice_index t i) (slice_get-get_or t i 0 (omega (arith, b.within)))
        (grind (arith, nat_tests, b.each i (omega arith) (omega (arith, b.ordered))))

  ends-after : (i sign e : ℕ) → continues_number sign ≡ false → StandsAfter t i sign e → EndsNumber t i
  ends-after i sign e quiet h = ends-before i h.at h.blanks (ends-get h.at sign h.here quiet)

  pub ends-end : (i : ℕ) → IsBlank t i (length t) → EndsNumber t i
  ends-end i h =
      let none = slice_get_past t (length t) (omega arith) in
      ends-before i (length t) h (subst (λ o. IfSome o (λ b. continues_number b ≡ false)) (sym none) tt)

-- what follows a part ends a number
more_parts-quiet : {P : Type 0} (t : List ℕ) (closer : ℕ) (Begins : ℕ → Type 0) (IsPart : ℕ → P → ℕ → Type 0)
    → continues_number closer ≡ false
    → (ps : List P) (i e : ℕ) → MoreParts t closer Begins IsPart ps i e → EndsNumber t i
more_parts-quiet t closer Begins IsPart quiet [] i e h = ends-after t i closer e quiet h
more_parts-quiet t closer Begins IsPart quiet (p ∷ ps) i e h = ends-after t i 44 h.0 refl h.1

-- nodes as a list, members too
abbrev pub nodes_list : Nodes → List Node
nodes_list no_nodes = []
nodes_list (node n ns) = n ∷ nodes_list ns

abbrev pub members_list : NodeMembers → List (Key × Node)
members_list no_members = []
members_list (member k n ms) = (k, n) ∷ members_list ms

pub nodes-listed : (ns : Nodes) → nodes_of (nodes_list ns) ≡ ns
nodes-listed no_nodes = refl
nodes-listed (node n ns) = ap (node n) (nodes-listed ns)

pub members-listed : (ms : NodeMembers) → node_members_of (members_list ms) ≡ ms
members-listed no_members = refl
members-listed (member k n ms) = ap (member k n) (members-listed ms)

-- the text spells n from i to e as an item: there is a level left, and after it no number goes on
pub record IsItem (names : Bool) (t : List ℕ) (levels i : ℕ) (n : Node) (e : ℕ) : Type 0 where
  pub spelled : Spells names t n
  pub begins : begin n ≡ i
  pub ends : end n ≡ e
  pub limit : nesting n < levels
  pub quiet : EndsNumber t e

-- a key from i on, its colon, and its value as an item
pub record IsMember (names : Bool) (t : List ℕ) (levels i : ℕ) (m : Key × Node) (e : ℕ) : Type 0 where
  pub begins : m.0.begin ≡ i
  pub key : SpellsKey t m.0 (begin m.1)
  pub value : IsItem names t levels (begin m.1) m.1 e

module _ (names : Bool) (t : List ℕ) where
  number-ahead : (b e : ℕ) → SpellsNumber names t b e → (b ≡ e) ⊎ (b ≢ e) → b < e
  number-ahead b e h (inl same) =
      absurd (numbers.number-not_empty names (subst (IsNumberText names) (sym (slice-stands t b e [] same)) h.text))
  number-ahead b e h (inr apart) = omega (arith, h.ordered)

  -- what a value's first byte says
  number-begins : (b e : ℕ) → SpellsNumber names t b e → BeginsValue t b start.Number
  number-begins b e h =
      let lt = number-ahead b e h (cases_eq b e) in
      let first = number-byte (slice_index t b) (numbers.number-begins names (slice_index t b) (slice_range t (b + 1) e)
      (subst (IsNumberText names) (slice-first t b e lt h.within) h.text)) in
      record {
        byte = slice_index t b;
        here = slice_get-get_or t b 0 (omega (arith, h.within));
        starts = first.0;
        no_blank = first.1;
        no_closer = first.2;
      }

  pub begins-value : (n : Node) → Spells names t n → BeginsValue t (begin n) (start_is n)
  begins-value (grammar.literal literal.Null b e) h =
      record { byte = 110; here = h.0; starts = refl; no_blank = refl; no_closer = refl }
  begins-value (grammar.literal literal.True b e) h =
      record { byte = 116; here = h.0; starts = refl; no_blank = refl; no_closer = refl }
  begins-value (grammar.literal literal.False b e) h =
      record { byte = 102; here = h.0; starts = refl; no_blank = refl; no_closer = refl }
  begins-value (grammar.number b e) h = number-begins b e h
  begins-value (grammar.string ps b e) h =
      record { byte = 34; here = h.opens; starts = refl; no_blank = refl; no_closer = refl }
  begins-value (grammar.array b e ns) h =
      record { byte = 91; here = h.0; starts = refl; no_blank = refl; no_closer = refl }
  begins-value (grammar.object b e ms) h =
      record { byte = 123; here = h.0; starts = refl; no_blank = refl; no_closer = refl }

  pub node-starts : (n : Node) → Spells names t n → start_of (slice_index t (begin n)) ≡ start_is n
  node-starts n h =
      let first = begins-value n h in ap start_of (get_or_from_slice_get t (begin n) first.byte 0 first.here)
      ∙ first.starts

  -- where an item begins
  item-begins : (n : Node) → Spells names t n → PartAt shape.Array t (begin n)
  item-begins n h =
      let first = begins-value n h in
      record { byte = first.byte; here = first.here; no_blank = first.no_blank; begins = (ap not first.no_closer) }

  pub key-taken : (k : Key) → SpellsString t k.begin k.pieces k.end
      → seen_as (key_of t k.begin) (string_at whole t k.begin) ≡ taken k k.end
  key-taken k h =
      ap (seen_as (key_of t k.begin)) (string_at-complete t k.begin k.end k.pieces h)
      ∙ ap (λ ps. taken (record { pieces = ps; begin = k.begin; end = k.end }) k.end)
      (pieces-again t k.begin k.end k.pieces h)

  -- the parts of a container, by the grammar
  module _ (levels : ℕ) where
    abbrev MoreItems : List Node → ℕ → ℕ → Type 0
    MoreItems ns i e = MoreParts t 93 (PartAt shape.Array t) (IsItem names t levels) ns i e

    abbrev MoreMembers : List (Key × Node) → ℕ → ℕ → Type 0
    MoreMembers ms i e = MoreParts t 125 (PartAt shape.Object t) (IsMember names t levels) ms i e

    abbrev pub Items : List Node → ℕ → ℕ → Type 0
    Items ns i e = Parts t 93 (PartAt shape.Array t) (IsItem names t levels) ns i e

    abbrev pub Members : List (Key × Node) → ℕ → ℕ → Type 0
    Members ms i e = Parts t 125 (PartAt shape.Object t) (IsMember names t levels) ms i e

    is_item : (n : Node) → Spells names t n → nesting n < levels → EndsNumber t (end n)
        → IsItem names t levels (begin n) n (end n)
    is_item n h d q = record { spelled = h; begins = refl; ends = refl; limit = d; quiet = q }

    item-first : (n : Node) (ns : List Node) (i e : ℕ) → IsBlank t i (begin n) → Spells names t n → nesting n < levels
        → MoreItems ns (end n) e → Items (n ∷ ns) i e
    item-first n ns i e blanks h d rest =
        let quiet = more_parts-quiet t 93 (PartAt shape.Array t) (IsItem names t levels) refl ns (end n) e rest in
        let is = is_item n h d quiet in
        record { begin = begin n; end = end n; blanks = blanks; begins = item-begins n h; is = is; rest = rest }

    more_items-parts : (ns : Nodes) (i e : ℕ) → SpellsMoreItems names t i ns e → nesting_of ns < levels
        → MoreItems (nodes_list ns) i e
    more_items-parts no_nodes i e h d = h
    more_items-parts (node n ns) i e h d =
        let rest = more_items-parts ns (end n) e h.4 (omega arith) in
        (h.0, h.1, item-first n (nodes_list ns) h.0 e h.2 h.3 (omega arith) rest)

    pub items-parts : (ns : Nodes) (i e : ℕ) → SpellsItems names t i ns e → nesting_round ns ≤ levels
        → Items (nodes_list ns) i e
    items-parts no_nodes i e h d = h
    items-parts (node n ns) i e h d =
        item-first n (nodes_list ns) i e h.0 h.1 (omega arith) (more_items-parts ns (end n) e h.2 (omega arith))

    member-first : (k : Key) (n : Node) (ms : List (Key × Node)) (i e : ℕ) → IsBlank t i k.begin
        → SpellsKey t k (begin n) → Spells names t n → nesting n < levels → MoreMembers ms (end n) e
        → Members ((k, n) ∷ ms) i e
    member-first k n ms i e blanks key h d rest =
        let quiet = more_parts-quiet t 125 (PartAt shape.Object t) (IsMember names t levels) refl ms (end n) e rest in
        let value = is_item n h d quiet in
        let is : IsMember names t levels k.begin (k, n) (end n) = record { begins = refl; key = key; value = value } in
        let begins = quote-begins t k.begin key.string.opens in
        record { begin = k.begin; end = end n; blanks = blanks; begins = begins; is = is; rest = rest }

    more_members-parts : (ms : NodeMembers) (i e : ℕ) → SpellsMoreMembers names t i ms e
        → nesting_of_members ms < levels
        → MoreMembers (members_list ms) i e
    more_members-parts no_members i e h d = h
    more_members-parts (member k n ms) i e h d =
        let rest = more_members-parts ms (end n) e h.5 (omega arith) in
        (h.0, h.1, member-first k n (members_list ms) h.0 e h.2 h.3 h.4 (omega arith) rest)

    pub members-parts : (ms : NodeMembers) (i e : ℕ) → SpellsMembers names t i ms e → nesting_round_members ms ≤ levels
        → Members (members_list ms) i e
    members-parts no_members i e h d = h
    members-parts (member k n ms) i e h d =
        member-first k n _ i e h.0 h.1 h.2 (omega arith) (more_members-parts ms (end n) e h.3 (omega arith))

  -- What is spelled lies within the text, a node ahead of its begin.
  pub begin-within : (n : Node) → Spells names t n → begin n < length t
  begin-within n h = let first = begins-value n h in slice_get_within t (begin n) first.byte first.here

  after-within : (i c e : ℕ) → StandsAfter t i c e → e ≤ length t
  after-within i c e h = let last = slice_get_within t h.at c h.here in omega (arith, h.ends)

  -- from a key to its value
  pub key-ahead : (key : Key) (j : ℕ) → SpellsKey t key j → key.begin < j
  key-ahead key j h =
      let string = string-ordered t key.begin key.end key.pieces h.string in
      omega (arith, string.0, after-ahead t key.end 58 h.colon h.after, h.blanks.ordered)

  module _ (levels : ℕ) where
    -- the values of these parts are one after another, from i to before e, which lies within the text
    abbrev pub InOrder : {P : Type 0} → (P → Node) → ℕ → List P → ℕ → Type 0
    InOrder value i [] e = (i < e) × (e ≤ length t)
    InOrder value i (p ∷ ps) e =
        (i ≤ begin (value p)) × Spells names t (value p) × (nesting (value p) < levels)
        × InOrder value (end (value p)) ps e

    -- So are parts whose values are such, one after another.
    order-grammar : {P : Type 0} (closer : ℕ) (Begins : ℕ → Type 0) (IsPart : ℕ → P → ℕ → Type 0) (value : P → Node)
        → ((i : ℕ) (p : P) (e : ℕ) → IsPart i p e
        → (i ≤ begin (value p)) × Spells names t (value p) × (nesting (value p) < levels) × (end (value p) ≡ e))
        → Grammar t closer Begins IsPart (λ ps i e. InOrder value i ps e) (λ ps i e. InOrder value i ps e)
    order-grammar closer Begins IsPart value each = record {
      none = λ i e h. (after-ahead t i closer e h, after-within i closer e h);
      no_more = λ i e h. (after-ahead t i closer e h, after-within i closer e h);
      part = λ p ps i j m e blanks begins is rest.
          let x = each j p m is in
          (omega (arith, blanks.ordered, x.0), x.1, x.2, subst (λ j. InOrder value j ps e) (sym x.3) rest);
      comma = λ p ps i c e h x. (omega (arith, after-ahead t i 44 c h, x.0), x.1, x.2, x.3);
    }

    pub items-order : (ns : Nodes) (i e : ℕ) → SpellsItems names t i ns e → nesting_round ns ≤ levels
        → InOrder (λ n. n) i (nodes_list ns) e
    items-order ns i e h d =
        parts-are t 93 _ _ _ _
        (order-grammar 93 (PartAt shape.Array t) (IsItem names t levels) (λ n. n)
        (λ i n e is. (omega (arith, is.begins), is.spelled, is.limit, is.ends)))
        (nodes_list ns) i e (items-parts levels ns i e h d)

    pub members-order : (ms : NodeMembers) (i e : ℕ) → SpellsMembers names t i ms e → nesting_round_members ms ≤ levels
        → InOrder (λ m. m.1) i (members_list ms) e
    members-order ms i e h d =
        parts-are t 125 _ _ _ _
        (order-grammar 125 (PartAt shape.Object t) (IsMember names t levels) (λ m. m.1)
        (λ i m e is.
        let value = is.value in
        (omega (arith, is.begins, key-ahead m.0 (begin m.1) is.key), value.spelled, value.limit, value.ends)))
        (members_list ms) i e (members-parts levels ms i e h d)

    -- from its begin on, to an end within the text
    abbrev Ends : Type 0
    Ends = (n : Node) → Spells names t n → nesting n < levels → (begin n < end n) × (end n ≤ length t)

    order-ends : Ends → {P : Type 0} (value : P → Node) (ps : List P) (i e : ℕ) → InOrder value i ps e
        → (i < e) × (e ≤ length t)
    order-ends all value [] i e h = h
    order-ends all value (p ∷ ps) i e h =
        let rest = order-ends all value ps (end (value p)) e h.3 in
        (omega (arith, h.0, (all (value p) h.1 h.2).0, rest.0), rest.1)

  word-ahead : (l : Literal) (b e : ℕ) → Stands t b e (word_of l) → b < e
  word-ahead literal.Null b e h = omega (arith, stands-length t b e (word_of literal.Null) h)
  word-ahead l b e h = omega (arith, stands-length t b e (word_of l) h)

  node-ends : (levels : ℕ) → Ends levels
  node-ends zero n h d = absurd (omega arith)
  node-ends (suc levels) (grammar.literal l b e) h d =
      (word-ahead l b e h, stands-within t b e (word_of l) (omega (arith, begin-within (grammar.literal l b e) h)) h)
  node-ends (suc levels) (grammar.number b e) h d = (number-ahead b e h (cases_eq b e), h.within)
  node-ends (suc levels) (grammar.string ps b e) h d = let order = string-ordered t b e ps h in (order.0, order.1)
  node-ends (suc levels) (grammar.array b e ns) h d =
      let order = items-order levels ns (b + 1) e h.1 (omega arith) in
      let ends = order-ends levels (node-ends levels) (λ n. n) (nodes_list ns) (b + 1) e order in
      (omega (arith, ends.0), ends.1)
  node-ends (suc levels) (grammar.object b e ms) h d =
      let order = members-order levels ms (b + 1) e h.1 (omega arith) in
      let ends = order-ends levels (node-ends levels) (λ m. m.1) (members_list ms) (b + 1) e order in
      (omega (arith, ends.0), ends.1)

  pub node-ahead : (n : Node) → Spells names t n → begin n < end n
  node-ahead n h = (node-ends (suc (nesting n)) n h (omega arith)).0

  pub node-within : (n : Node) → Spells names t n → end n ≤ length t
  node-within n h = (node-ends (suc (nesting n)) n h (omega arith)).1

  pub order-ahead : (levels : ℕ) {P : Type 0} (value : P → Node) (ps : List P) (i e : ℕ) → InOrder levels value i ps e
      → i < e
  order-ahead levels value ps i e h = (order-ends levels (node-ends levels) value ps i e h).0
