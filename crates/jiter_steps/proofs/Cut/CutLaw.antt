-- The cut law. A document that is an array or an object is cut anywhere after its bracket: then a partial reading of
-- the prefix returns exactly what the cut leaves of the document, with the marks of its strings, and never an error.
-- The prefix is read along the node (ReadPrefix): what ends by the cut is read whole, and what the cut falls into leaves
-- what `Leaves` says, a scalar by its own laws and a container by induction over its parts.
use Rattle.jiter_steps.proofs.Words.{◌≡◌, ◌⊎◌, inl, inr, ℕ, ◌+◌, ◌<◌, ◌≤◌, Bool, true, false, Option, Some, None, List}
use Rattle.jiter_steps.proofs.Words.{[], ◌∷◌, ◌++◌, length, take, refl, sym, ap, ap₂, ◌∙◌, subst, arith, if◌then◌else◌}
use Rattle.jiter_steps.proofs.Words.{append-nil, append_assoc, slice_get, slice_range, cons_option, option_map}
use Rattle.jiter_steps.proofs.Words.{cases_lt, take_all, Kind, is_forgiven, Number, number_at, is_number_text}
use Rattle.jiter_steps.proofs.Words.{allows_trailing_strings, Scanned, taken, failed, Stands, Span, PartialMode}
use Rattle.jiter_steps.proofs.Words.{if_case, if-true, if-false, seen_as, value_form, partial_trees, partial_answer}
use Rattle.jiter_steps.proofs.Words.{cut_number, word_of, literal_at, literal_tree, Key, Node, begin, end, SpellsNumber}
use Rattle.jiter_steps.proofs.Words.{Spells, nesting_round, nesting_round_members, nesting_limit, text_at, number_tree}
use Rattle.jiter_steps.proofs.Words.{value_of, IsContainer, IsDocument, Piece, SpellsString, Reading, done, fault}
use Rattle.jiter_steps.proofs.Words.{Rules, Container, scalar_at, with_key, if_forgiven, follow, parts_at, container_at}
use Rattle.jiter_steps.proofs.Words.{array_of, Step, stuck, step, whole, kept, string_at, Text, Tree, Literal}
use Rattle.jiter_steps.proofs.Words.{is_active, answer_in, IsBegunContainer, word_at-complete}
use Rattle.jiter_steps.specs.Cut.{cut}
use Rattle.jiter_steps.specs.Node as grammar
use Rattle.jiter_steps.specs.Tree as tree
use Rattle.jiter_steps.proofs.Reading.WholeTexts.{prefix-begins}
use Rattle.jiter_steps.proofs.Cut.CutNodes.{values-listed, member_values-listed, item_seen, member_seen, part_left}
use Rattle.jiter_steps.proofs.Cut.CutNodes.{parts_left, literal-left, number-left, cut_string_if, string-left}
use Rattle.jiter_steps.proofs.Cut.CutNodes.{array-left, object-left, node-late, parts-late}
use Rattle.jiter_steps.proofs.Cut.CutParts.{EndsInput, CutParts}
use Rattle.jiter_steps.proofs.Grammar.Documents.{key_text, answer-of}
use Rattle.jiter_steps.proofs.Cut.DocumentPrefixes.{prefix-length, prefix-get, prefix-blank, prefix-stands, prefix-word}
use Rattle.jiter_steps.proofs.Cut.LaterCuts.{node-whole}
use Rattle.jiter_steps.specs.declared.parse.ContainerKind.TheVariants as shape
use Rattle.jiter_steps.proofs.Cut.Halting.{Halts, StuckAt, end-forgiven, byte-halts, cut-halts, begin-halts}
use Rattle.jiter_steps.proofs.Cut.Halting.{container-halts}
use Rattle.jiter_steps.proofs.Reading.Instances.{trees-advances}
use Rattle.jiter_steps.proofs.Grammar.Blanks.{blank-passed}
use Rattle.jiter_steps.proofs.Cut.NumberCutLaws.{CutNumber, number_at-before, number_at-cuts}
use Rattle.jiter_steps.proofs.Cut.ReadPrefixes.{IsCutMember, CutRules, node-quiet, value_at-prefix}
use Rattle.jiter_steps.proofs.Grammar.ScalarLaws.{EndsNumber}
use Rattle.jiter_steps.proofs.Grammar.SpelledParts.{begins-value, begin-within, node-within, ends-end, nodes_list}
use Rattle.jiter_steps.proofs.Grammar.SpelledParts.{InOrder, items-order, members-order}
use Rattle.jiter_steps.proofs.Cut.StringCutLaws.{string_at-cut, string_at-cut_whole, string_at-before}
use Rattle.jiter_steps.proofs.Reading.Values.{Goes, parts-part, parts-fault}

-- The induction hypothesis: what the reading of a value leaves that the prefix u cuts. Where the value has a cut, it is
-- read; where it has none, the error is one that the container around it forgives. Either way the reading halts where no
-- container takes a byte.
abbrev pub Leaves : {A : Type 0} → List ℕ → Option A → Reading A → Type 0
Leaves u (Some v) (done w p) = (w ≡ v) × Halts u p
Leaves u None (fault kind i stop) = (is_forgiven kind ≡ true) × Halts u stop
Leaves u o x = ⊥

module _ (names : Bool) (t : List ℕ) (k : ℕ) (within : k ≤ length t) (mode : PartialMode) where
  abbrev prefix : List ℕ
  prefix = take k t

  abbrev rules : Rules Text Tree
  rules = partial_trees names mode

  abbrev IsCut : Node → Reading Tree → Type 0
  IsCut n x = Leaves prefix (cut names t n k mode) x

  -- The reading x of a node that is begun: its value if it ends by k, or what the cut leaves.
  abbrev Reads : Node → Reading Tree → Type 0
  Reads n x = (end n ≤ k → x ≡ done (value_of t n) (end n)) × (k < end n → IsCut n x)

  -- Scalars. One that is cut has no cut or is read up to k, and else the reading is at its first byte.
  abbrev LiteralOf : Literal → ℕ → Span → Reading Tree
  LiteralOf l b x = scalar_at b (seen_as (λ v e. literal_tree l) x)

  abbrev NumberOf : ℕ → Scanned Number → Reading Tree
  NumberOf b x = scalar_at b (seen_as (λ n e. number_tree n) x)

  abbrev StringOf : ℕ → Scanned Text → Reading Tree
  StringOf b x = scalar_at b (seen_as (λ s e. tree.string s) x)

  literal-reads : (l : Literal) (b e : ℕ) → Stands t b e (word_of l) → b < k
      → Reads (grammar.literal l b e) (LiteralOf l b (literal_at prefix l b))
  literal-reads l b e h lt = (
    λ le. ap (LiteralOf l b) (word_at-complete prefix (word_of l) b e (prefix-stands t k within b e (word_of l) h le)),
    λ gt.
        let none = literal-left names t k mode l b e gt in
        let short = prefix-word t k within (word_of l) b e h (omega arith) gt in
        rw none (rw short (refl, begin-halts names t k within (grammar.literal l b e) h lt)),
  )

  number-leaves : (b : ℕ) (x : Scanned Number) → Halts prefix b → CutNumber names t k within b x
      → Leaves prefix (cut_number names (slice_range t b k)) (NumberOf b x)
  number-leaves b (taken n e) halts h =
      subst (λ o. Leaves prefix o (done (number_tree n) e))
      (sym (if-true (is_number_text names (slice_range t b k)) _ None h.0))
      (ap number_tree h.1, subst (Halts prefix) (sym h.2) (cut-halts t k within))
  number-leaves b (failed kind j) halts h =
      subst (λ o. Leaves prefix o (fault kind j b))
      (sym (if-false (is_number_text names (slice_range t b k)) _ None h.0)) (end-forgiven kind h.1, halts)

  number-reads : (b e : ℕ) → SpellsNumber names t b e → EndsNumber t e → b < k
      → Reads (grammar.number b e) (NumberOf b (number_at names prefix b))
  number-reads b e h q lt = (
    λ le. ap (NumberOf b) (number_at-before names t k within b e h q le),
    λ gt.
        rw (number-left names t k mode b e lt gt)
        (number-leaves b (number_at names prefix b) (begin-halts names t k within (grammar.number b e) h lt)
        (number_at-cuts names t k within b e h q lt gt)),
  )

  text-whole : (ps : List Piece) (b e : ℕ) → SpellsString t b ps e → e ≤ k → (keeps : Bool)
      → string_at (if keeps then kept else whole) prefix b ≡ taken (text_at t ps b e) e
  text-whole ps b e h le true = (string_at-before t k within b e ps h le).1
  text-whole ps b e h le false = (string_at-before t k within b e ps h le).0

  text-leaves : (ps : List Piece) (b e : ℕ) → SpellsString t b ps e → b < k → k < e → (keeps : Bool)
      → Leaves prefix (cut_string_if names t k mode ps b keeps)
      (StringOf b (string_at (if keeps then kept else whole) prefix b))
  text-leaves ps b e h lt gt true = rw (string_at-cut t k within b e ps h lt gt) (refl, (cut-halts t k within))
  text-leaves ps b e h lt gt false =
      rw (string_at-cut_whole t k within b e ps h lt gt).0
      (refl, begin-halts names t k within (grammar.string ps b e) h lt)

  text-reads : (ps : List Piece) (b e : ℕ) → SpellsString t b ps e → b < k
      → Reads (grammar.string ps b e) (StringOf b (string_at (value_form mode) prefix b))
  text-reads ps b e h lt = (
    λ le. ap (StringOf b) (text-whole ps b e h le (allows_trailing_strings mode)),
    λ gt.
        rw (string-left names t k mode ps b e lt gt) (text-leaves ps b e h lt gt (allows_trailing_strings mode)),
  )

  -- Containers whose reading sticks where it halts after a part, and whose part that k cuts leaves its cut.
  module _ {P Q : Type 0} (c : Container Q Tree) (value : P → Node) (seen : P → Tree → Q)
      (IsCut : P → Reading Q → Type 0) (free : (qs : List Q) (i : ℕ) → c.refuses qs i ≡ None) (goes : Goes c prefix)
      (sticks : (p : ℕ) → Halts prefix p → StuckAt p (step prefix c.next p))
      (leaves : (p : P) (x : Reading Q) → Spells names t (value p) → IsCut p x
      → Leaves prefix (part_left names t k mode value seen p) x) where
    -- a part as it is in the complete text, and what is left of parts
    abbrev as_whole : P → Q
    as_whole p = seen p (value_of t (value p))

    abbrev left : List P → List Q
    left ps = parts_left names t k mode value seen ps

    abbrev At : List Q → ℕ → Reading Tree
    At qs j = parts_at rules c prefix (length prefix) qs j

    abbrev After : List Q → Step → Reading Tree
    After qs s = follow rules (At qs) (λ e. c.build e qs) s

    -- the container is closed around these parts
    abbrev Closes : List Q → Reading Tree → Type 0
    Closes qs x = (p : ℕ) × (x ≡ done (c.build p qs) p) × Halts prefix p

    along : (qs : List Q) (x y : Reading Tree) → x ≡ y → Closes qs y → Closes qs x
    along qs x y e h = (h.0, e ∙ h.1, h.2)

    fault-closes : (qs : List Q) (kind : Kind) (i stop : ℕ) → is_forgiven kind ≡ true → Halts prefix stop
        → Closes qs (if_forgiven rules (λ e. c.build e qs) kind i stop)
    fault-closes qs kind i stop h halts =
        (stop, if-true (is_forgiven kind) _ _ h, halts)

    stuck-closes : (qs : List Q) (p : ℕ) (s : Step) → StuckAt p s → Halts prefix p → Closes qs (After qs s)
    stuck-closes qs p s h halts =
        along qs (After qs s) (After qs (stuck h.0 p)) (ap (After qs) h.1) (fault-closes qs h.0 p p h.2 halts)

    -- where the input ends, no part is left
    input-closes : (qs : List Q) (ps : List P) (s : Step) → EndsInput t k within s → left ps ≡ []
        → Closes (qs ++ left ps) (After qs s)
    input-closes qs ps s h none =
        subst (λ l. Closes l (After qs s)) (sym (ap (λ l. qs ++ l) none ∙ append-nil qs))
        (stuck-closes qs k s (h.0, h.1, end-forgiven h.0 h.2) (cut-halts t k within))

    -- a part that is cut is the last one
    part-closes : (qs : List Q) (ps : List P) (j : ℕ) (o : Option Q) (x : Reading Q) → j < length prefix
        → left ps ≡ [] → c.part j ≡ x → Leaves prefix o x → Closes (qs ++ cons_option o (left ps)) (At qs j)
    part-closes qs ps j (Some v) (done q e) lt none is h =
        let read = parts-part rules prefix c goes j e qs q (step prefix c.next e) lt (free qs j) is refl in
        subst (λ l. Closes (qs ++ l) (At qs j)) (ap₂ (λ a l. a ∷ l) h.0 (sym none))
        (along (qs ++ q ∷ []) (At qs j) (After (qs ++ q ∷ []) (step prefix c.next e)) read
        (stuck-closes (qs ++ q ∷ []) e (step prefix c.next e) (sticks e h.1) h.1))
    part-closes qs ps j None (fault kind i stop) lt none is h =
        subst (λ l. Closes l (At qs j)) (sym (ap (λ l. qs ++ l) none ∙ append-nil qs))
        (along qs (At qs j) (if_forgiven rules (λ e. c.build e qs) kind i stop)
        (parts-fault rules prefix c goes j i stop qs kind lt (free qs j) is) (fault-closes qs kind i stop h.0 h.1))
    part-closes qs ps j o x lt none is h = absurd h

    inside : (j : ℕ) → j < k → j < length prefix
    inside j lt = omega (arith, prefix-length t k within)

    -- After the parts so far, the container is closed around those that the cut leaves.
    parts-close : (levels i e : ℕ) (ps : List P) (row : ℕ → Option ℕ → Step) (m : ℕ) (qs : List Q)
        → InOrder names t levels value i ps e → CutParts t k within c value as_whole IsCut row m ps
        → Closes (qs ++ left ps) (After qs (step prefix row m))
    parts-close levels i e [] row m qs order h = input-closes qs [] (step prefix row m) h refl
    parts-close levels i e (p ∷ ps) row m qs order (inl h) =
        input-closes qs (p ∷ ps) (step prefix row m) h.0
        (parts-late names t k mode value seen levels k (p ∷ ps) e (h.1, order.1, order.2, order.3) (omega arith))
    parts-close levels i e (p ∷ ps) row m qs order (inr (j, begins, lt, inl (past, cuts))) =
        let none = parts-late names t k mode value seen levels (end (value p)) ps e order.3 (omega arith) in
        along (qs ++ left (p ∷ ps)) (After qs (step prefix row m)) (At qs j) (ap (After qs) begins)
        (part-closes qs ps j (part_left names t k mode value seen p) (c.part j) (inside j lt) none refl
        (leaves p (c.part j) order.1 cuts))
    parts-close levels i e (p ∷ ps) row m qs order (inr (j, begins, lt, inr (ends, f, is, more_parts))) =
        let q = as_whole p in
        let read = parts-part rules prefix c goes j f qs q (step prefix c.next f) (inside j lt) (free qs j) is refl in
        let after = After (qs ++ q ∷ []) (step prefix c.next f) in
        let rest = parts-close levels (end (value p)) e ps c.next f (qs ++ q ∷ []) order.3 more_parts in
        let same = ap (option_map (seen p)) (node-whole names t mode k (value p) order.1 ends) in
        let whole = append_assoc qs (q ∷ []) (left ps) ∙ ap (λ o. qs ++ cons_option o (left ps)) (sym same) in
        along (qs ++ left (p ∷ ps)) _ after (ap (After qs) begins ∙ read) (subst (λ l. Closes l after) whole rest)

    -- A container that is cut leaves its cut.
    container-leaves : (b i e levels : ℕ) (ps : List P) (o : Option Tree) → InOrder names t levels value i ps e
        → CutParts t k within c value as_whole IsCut c.first (b + 1) ps
        → ((p : ℕ) → o ≡ Some (c.build p (left ps))) → Leaves prefix o (container_at rules c prefix b)
    container-leaves b i e levels ps o order h is =
        let closes = parts-close levels i e ps c.first (b + 1) [] order h in
        rw (is closes.0) (rw closes.1 (refl, closes.2))

  -- Members that k cuts.
  with_key-leaves : (key : Text) (o : Option Tree) (y : Reading Tree) → Leaves prefix o y
      → Leaves prefix (option_map (λ v. (key, v)) o) (with_key key y)
  with_key-leaves key (Some v) (done w p) h = (ap (λ a. (key, a)) h.0, h.1)
  with_key-leaves key None (fault kind i stop) h = h
  with_key-leaves key o y h = absurd h

  key-halts : (p : ℕ) → (p ≡ k) ⊎ (slice_get prefix p ≡ Some 34) → Halts prefix p
  key-halts p (inl at) = subst (Halts prefix) (sym at) (cut-halts t k within)
  key-halts p (inr quote) = byte-halts prefix p 34 quote (λ e. cc)

  abbrev CutsMember : Key × Node → Reading (Text × Tree) → Type 0
  CutsMember m x = IsCutMember rules names t k within (key_text t) (value_of t) IsCut m x

  member-leaves : (m : Key × Node) (x : Reading (Text × Tree)) → Spells names t m.1 → CutsMember m x
      → Leaves prefix (part_left names t k mode (λ m. m.1) (member_seen t) m) x
  member-leaves m x h (inl before) =
      rw (node-late names t k mode m.1 before.unread)
      (rw before.is (end-forgiven before.kind before.early, key-halts before.stop before.stands))
  member-leaves m x h (inr (y, is, cuts)) = rw is (with_key-leaves (key_text t m.0) (cut names t m.1 k mode) y cuts)

  -- items
  item-leaves : (o : Option Tree) (x : Reading Tree) → Leaves prefix o x → Leaves prefix (option_map (λ v. v) o) x
  item-leaves None x h = h
  item-leaves (Some v) x h = h

  cut-rules : CutRules rules names t k within (key_text t) (value_of t) IsCut
  cut-rules = record {
    literal = literal-reads;
    number = number-reads;
    text = text-reads;
    key = λ key h le. (string_at-before t k within key.begin key.end key.pieces h le).0;
    key-cut = λ key h lt gt. (string_at-cut_whole t k within key.begin key.end key.pieces h lt gt).0;
    free = λ members i. refl;
    array = λ b e ns. ap tree.array (values-listed t ns);
    object = λ b e ms. ap tree.object (member_values-listed t ms);
    array-cut = λ inner b e ns h lt goes parts.
        let levels = nesting_round ns in
        let order = items-order names t levels ns (b + 1) e h.1 (omega arith) in
        container-leaves (array_of rules inner prefix b) (λ n. n) item_seen IsCut (λ qs j. refl) goes
        (container-halts prefix shape.Array) (λ n x h cuts. item-leaves (cut names t n k mode) x cuts) b (b + 1) e levels
        (nodes_list ns) _ order parts (λ p. array-left names t k mode b e ns lt);
    object-cut = λ inner b e ms h lt goes parts.
        let levels = nesting_round_members ms in
        let order = members-order names t levels ms (b + 1) e h.1 (omega arith) in
        container-leaves _ (λ m. m.1) _ CutsMember (λ qs j. refl) goes (container-halts prefix shape.Object)
        member-leaves b (b + 1) e levels _ _ order parts (λ p. object-left names t k mode b e ms lt);
  }

  -- A document that is begun before the cut: whole if it ends by k, or its cut.
  document-reads : (n : Node) → IsDocument names t n → begin n < k → Reads n (partial_answer names mode prefix)
  document-reads n d lt =
      let first = begins-value names t n d.spelled in
      let here = prefix-get t k within (begin n) first.byte lt first.here in
      let blanks = prefix-blank t k within 0 (begin n) d.before (omega arith) in
      let at = blank-passed prefix 0 (begin n) first.byte blanks here first.no_blank in
      let begins = prefix-begins rules prefix (begin n) at (omega (arith, prefix-length t k within)) in
      rw begins (value_at-prefix rules names t k within (key_text t) (value_of t) IsCut
      (trees-advances prefix is_forgiven (value_form mode) names) cut-rules n nesting_limit d.spelled d.limit
      (node-quiet t n (ends-end t (end n) d.after)) lt)

  container-cut : (n : Node) → IsContainer n → begin n < k → (v : Tree) × (cut names t n k mode ≡ Some v)
  container-cut (grammar.array b e ns) is lt = (_, array-left names t k mode b e ns lt)
  container-cut (grammar.object b e ms) is lt = (_, object-left names t k mode b e ms lt)
  container-cut n is lt = absurd is

  left-answered : (v : Tree) (x : Reading Tree) → Leaves prefix (Some v) x → (e : ℕ) × (x ≡ done v e)
  left-answered v (done w p) h = (p, ap (λ a. done a p) h.0)
  left-answered v (fault kind i stop) h = absurd h

  -- the cut is returned
  abbrev IsCutBy : Node → Reading Tree → Type 0
  IsCutBy n x = (v : Tree) × (e : ℕ) × (x ≡ done v e) × (cut names t n k mode ≡ Some v)

-- The cut law: of a document that is an array or an object, cut at k after its bracket, a partial reading of the prefix
-- returns what the cut leaves.
pub cut-law : (names : Bool) (t : List ℕ) (n : Node) (k : ℕ) (mode : PartialMode) → IsDocument names t n
    → IsContainer n → begin n < k → k ≤ length t
    → (v : Tree) × (e : ℕ) × (partial_answer names mode (take k t) ≡ done v e) × (cut names t n k mode ≡ Some v)
cut-law names t n k mode d is lt within = by (cases_lt k (end n)) where
  x : Reading Tree
  x = partial_answer names mode (take k t)

  reads : Reads names t k within mode n x
  reads = document-reads names t k within mode n d lt

  by : (k < end n) ⊎ (end n ≤ k) → IsCutBy names t k within mode n x
  by (inr le) = (value_of t n, end n, reads.0 le, node-whole names t mode k n d.spelled le)
  by (inl gt) =
      let left = container-cut names t k within mode n is lt in
      let leaves = subst (λ o. Leaves (take k t) o x) left.1 (reads.1 gt) in
      let read = left-answered names t k within mode left.0 x leaves in
      (left.0, read.0, read.1, left.1)

-- A document's value is returned in a partial mode too, with its end.
pub partial_answer-of : (names : Bool) (t : List ℕ) (mode : PartialMode) (n : Node) → IsDocument names t n
    → partial_answer names mode t ≡ done (value_of t n) (end n)
partial_answer-of names t mode n d =
    let reads = document-reads names t (length t) (omega arith) mode n d (begin-within names t n d.spelled) in
    subst (λ u. partial_answer names mode u ≡ done (value_of t n) (end n)) (take_all (length t) t (omega arith))
    (reads.0 (node-within names t n d.spelled))

-- What a parse in this mode returns. The cut of a prefix:
abbrev pub AnswersCut : (names : Bool) (u : List ℕ) → PartialMode → IsBegunContainer names u → Reading Tree
    → Type 0
AnswersCut names u mode f (done v e) = cut names f.text f.node f.place mode ≡ Some v
AnswersCut names u mode f (fault k i stop) = ⊥

pub answer_in-cut : (names : Bool) (u : List ℕ) (mode : PartialMode) (f : IsBegunContainer names u)
    → is_active mode ≡ true → AnswersCut names u mode f (answer_in names mode u)
answer_in-cut names u mode f active =
    let law = cut-law names f.text f.node f.place mode f.document f.container f.begun f.within in
    let read = if-true (is_active mode) _ _ active ∙ ap (partial_answer names mode) f.is ∙ law.2 in
    subst (AnswersCut names u mode f) (sym read) law.3

-- and the value of a document, in every mode.
pub answer_in-of : (names : Bool) (t : List ℕ) (mode : PartialMode) (n : Node) → IsDocument names t n
    → answer_in names mode t ≡ done (value_of t n) (end n)
answer_in-of names t mode n d =
    if_case (λ x. x ≡ done (value_of t n) (end n)) (is_active mode) _ _ (λ e. partial_answer-of names t mode n d)
    (λ e. answer-of names t n d)
