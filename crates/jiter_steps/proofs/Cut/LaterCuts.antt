-- A later cut of a document goes on where an earlier one stopped.
use Rattle.jiter_steps.proofs.Words.{◌≡◌, ◌⊎◌, inl, inr, ℕ, zero, suc, ◌+◌, ◌<◌, ◌≤◌, Bool, Option, Some, None, List}
use Rattle.jiter_steps.proofs.Words.{[], ◌∷◌, ◌++◌, ◌==◌, ◌||◌, true, refl, sym, ap, ap₂, ◌∙◌, subst, arith, nat_le}
use Rattle.jiter_steps.proofs.Words.{map, min, slice_range, append-nil, cons_option, list_any, option_map}
use Rattle.jiter_steps.proofs.Words.{encode_utf8_all, cases_lt, le-leb, allows_trailing_strings, PartialMode, if_case}
use Rattle.jiter_steps.proofs.Words.{if-true, number_text-decides, slice_range-split, literal_tree, Piece, characters}
use Rattle.jiter_steps.proofs.Words.{text_of, pieces_to, Text, Tree, items_of, members_of, Node, Nodes, no_nodes, node}
use Rattle.jiter_steps.proofs.Words.{NodeMembers, no_members, member, begin, end, Spells, nesting, has_backslash}
use Rattle.jiter_steps.proofs.Words.{text_at, value_of, cut_number, cut_string, leb-true, map-append, list_any-append}
use Rattle.jiter_steps.proofs.Words.{encodes-append, Items, Members, Extends, ExtendsItems, ExtendsMembers}
use Rattle.jiter_steps.proofs.Words.{CutsNoNumber, CutsNoNumberOf, CutsNoNumberOfMembers}
use Rattle.jiter_steps.specs.Tree as tree
use Rattle.jiter_steps.specs.Node as grammar
use Rattle.jiter_steps.specs.Cut.{cut}
use Rattle.jiter_steps.proofs.Cut.CutNodes.{values-listed, member_values-listed, begun, item_seen, member_seen}
use Rattle.jiter_steps.proofs.Cut.CutNodes.{part_left, parts_left, literal-left, cut_string_if, string-left, array-left}
use Rattle.jiter_steps.proofs.Cut.CutNodes.{object-left, node-late, parts-late}
use Rattle.jiter_steps.proofs.Grammar.SpelledParts.{nodes_list, members_list, InOrder, items-order, members-order}
use Rattle.jiter_steps.proofs.Grammar.SpelledParts.{node-ahead, order-ahead}

-- A tree goes on from itself.
items-more : (v : Tree) (vs : Items) → Extends v v → ExtendsItems vs vs → ExtendsItems (tree.item v vs) (tree.item v vs)
items-more v tree.no_items h more = h
items-more v (tree.item x vs) h more = (refl, more)

members-more : (k : Text) (v : Tree) (ms : Members) → Extends v v → ExtendsMembers ms ms
    → ExtendsMembers (tree.member k v ms) (tree.member k v ms)
members-more k v tree.no_members h more = (refl, h)
members-more k v (tree.member l x ms) h more = (refl, refl, more)

mutual
  pub extends-same : (v : Tree) → Extends v v
  extends-same tree.null = refl
  extends-same (tree.boolean b) = refl
  extends-same (tree.int z) = refl
  extends-same (tree.big w) = refl
  extends-same (tree.float w) = refl
  extends-same (tree.string w) = ([], sym (append-nil w.bytes), λ own. own)
  extends-same (tree.array vs) = items-same vs
  extends-same (tree.object ms) = members-same ms

  items-same : (vs : Items) → ExtendsItems vs vs
  items-same tree.no_items = tt
  items-same (tree.item v vs) = items-more v vs (extends-same v) (items-same vs)

  members-same : (ms : Members) → ExtendsMembers ms ms
  members-same tree.no_members = tt
  members-same (tree.member k v ms) = members-more k v ms (extends-same v) (members-same ms)

-- The pieces before a place begin those before a later one, and all.
pieces-prefix : (k l : ℕ) → k ≤ l → (ps : List Piece) → (rest : List Piece) × (pieces_to l ps ≡ pieces_to k ps ++ rest)
pieces-prefix k l h [] = ([], refl)
pieces-prefix k l h (p ∷ ps) =
    if_case (λ x. (rest : List Piece) × (pieces_to l (p ∷ ps) ≡ x ++ rest)) (nat_le p.end k) (p ∷ pieces_to k ps) []
    (λ e. let r = pieces-prefix k l h ps in let within = leb-true p.end k e in
    (r.0, if-true (nat_le p.end l) (p ∷ pieces_to l ps) [] (le-leb p.end l (omega arith)) ∙ ap (λ x. p ∷ x) r.1))
    (λ e. (pieces_to l (p ∷ ps), refl))

pieces-all : (k : ℕ) (ps : List Piece) → (rest : List Piece) × (ps ≡ pieces_to k ps ++ rest)
pieces-all k [] = ([], refl)
pieces-all k (p ∷ ps) =
    if_case (λ x. (rest : List Piece) × (p ∷ ps ≡ x ++ rest)) (nat_le p.end k) (p ∷ pieces_to k ps) []
    (λ e. let r = pieces-all k ps in (r.0, ap (λ x. p ∷ x) r.1))
    (λ e. (p ∷ ps, refl))

text-prefix : (ps qs : List Piece) (rest : List Piece) → qs ≡ ps ++ rest → text_of qs ≡ text_of ps ++ text_of rest
text-prefix ps qs rest e =
    ap text_of e ∙ ap encode_utf8_all (map-append (λ (p : Piece). p.character) ps rest)
    ∙ encodes-append (characters ps) (characters rest)

-- a backslash before a place is before a later one
backslash-stays : (t : List ℕ) (i k l : ℕ) → i ≤ k → k ≤ l → has_backslash t i k ≡ true → has_backslash t i l ≡ true
backslash-stays t i k l ahead later h =
    ap (list_any (λ c. c == 92)) (slice_range-split t i k ahead l later)
    ∙ list_any-append (λ c. c == 92) (slice_range t i k) (slice_range t k l)
    ∙ ap (λ b. b || has_backslash t k l) h

-- What there is goes on; and so does a list, where its last one may and others come after it.
abbrev Grows : {A : Type 0} → (A → A → Type 0) → Option A → Option A → Type 0
Grows More None y = Unit {0}
Grows More (Some v) None = ⊥
Grows More (Some v) (Some w) = More v w

abbrev ListGrows : {A : Type 0} → (A → A → Type 0) → List A → List A → Type 0
ListGrows More [] ys = Unit {0}
ListGrows More (x ∷ xs) [] = ⊥
ListGrows More (x ∷ []) (y ∷ ys) = More x y
ListGrows More (x ∷ (z ∷ xs)) (y ∷ ys) = (x ≡ y) × ListGrows More (z ∷ xs) ys

-- a part that goes on is the last one
last-grows : {A : Type 0} (More : A → A → Type 0) (o p : Option A) (ys : List A) → Grows More o p
    → ListGrows More (cons_option o []) (cons_option p ys)
last-grows More None p ys h = tt
last-grows More (Some v) None ys h = absurd h
last-grows More (Some v) (Some w) ys h = h

-- one that stays is before others
rest-grows : {A : Type 0} (More : A → A → Type 0) (o : Option A) (xs ys : List A) → Grows More o o
    → ListGrows More xs ys → ListGrows More (cons_option o xs) (cons_option o ys)
rest-grows More None xs ys h more = more
rest-grows More (Some v) [] ys h more = h
rest-grows More (Some v) (x ∷ xs) ys h more = (refl, more)

-- items, and members, whose keys stay
items-grow : (vs ws : List Tree) → ListGrows Extends vs ws → ExtendsItems (items_of vs) (items_of ws)
items-grow [] ws h = tt
items-grow (v ∷ vs) [] h = absurd h
items-grow (v ∷ []) (w ∷ ws) h = h
items-grow (v ∷ (x ∷ vs)) (w ∷ ws) h = (h.0, items-grow (x ∷ vs) ws h.1)

abbrev ExtendsMember : Text × Tree → Text × Tree → Type 0
ExtendsMember m n = (m.0 ≡ n.0) × Extends m.1 n.1

members-grow : (ms ns : List (Text × Tree)) → ListGrows ExtendsMember ms ns
    → ExtendsMembers (members_of ms) (members_of ns)
members-grow [] ns h = tt
members-grow (m ∷ ms) [] h = absurd h
members-grow (m ∷ []) (n ∷ ns) h = h
members-grow (m ∷ (l ∷ ms)) (n ∷ ns) h = (ap (λ x. x.0) h.0, ap (λ x. x.1) h.0, members-grow (l ∷ ms) ns h.1)

module _ (names : Bool) (t : List ℕ) (mode : PartialMode) where
  -- What ends by k is whole.
  module _ (k : ℕ) where
    abbrev WholeBelow : ℕ → Type 0
    WholeBelow levels =
        (n : Node) → Spells names t n → nesting n < levels → end n ≤ k → cut names t n k mode ≡ Some (value_of t n)

    parts-whole : {P Q : Type 0} (value : P → Node) (seen : P → Tree → Q) (levels i : ℕ) (ps : List P) (e : ℕ)
        → WholeBelow levels → InOrder names t levels value i ps e → e ≤ k
        → parts_left names t k mode value seen ps ≡ map (λ p. seen p (value_of t (value p))) ps
    parts-whole value seen levels i [] e all h le = refl
    parts-whole value seen levels i (p ∷ ps) e all h le =
        let rest = order-ahead names t levels value ps (end (value p)) e h.3 in
        ap₂ cons_option (ap (option_map (seen p)) (all (value p) h.1 h.2 (omega arith)))
        (parts-whole value seen levels (end (value p)) ps e all h.3 le)

    whole-below : (levels : ℕ) → WholeBelow levels
    whole-below zero n h d le = absurd (omega arith)
    whole-below (suc levels) (grammar.literal l b e) h d le =
        let order = node-ahead names t (grammar.literal l b e) h in
        begun b k _ (omega arith) ∙ if-true (nat_le e k) (Some (literal_tree l)) None (le-leb e k le)
    whole-below (suc levels) (grammar.number b e) h d le =
        let order = node-ahead names t (grammar.number b e) h in
        let all : min k e ≡ e = omega arith in
        begun b k _ (omega arith) ∙ ap (λ m. cut_number names (slice_range t b m)) all
        ∙ if-true _ _ None ((number_text-decides names (slice_range t b e)).1 h.text)
    whole-below (suc levels) (grammar.string ps b e) h d le =
        let order = node-ahead names t (grammar.string ps b e) h in
        begun b k _ (omega arith) ∙ if-true (nat_le e k) (Some (tree.string (text_at t ps b e))) _ (le-leb e k le)
    whole-below (suc levels) (grammar.array b e ns) h d le =
        let order = items-order names t levels ns (b + 1) e h.1 (omega arith) in
        let same = parts-whole (λ n. n) item_seen levels (b + 1) (nodes_list ns) e (whole-below levels) order le in
        array-left names t k mode b e ns (omega (arith, node-ahead names t (grammar.array b e ns) h))
        ∙ ap (λ x. Some (tree.array x)) (ap items_of same ∙ values-listed t ns)
    whole-below (suc levels) (grammar.object b e ms) h d le =
        let order = members-order names t levels ms (b + 1) e h.1 (omega arith) in
        let inner = whole-below levels in
        let same = parts-whole (λ m. m.1) (member_seen t) levels (b + 1) (members_list ms) e inner order le in
        object-left names t k mode b e ms (omega (arith, node-ahead names t (grammar.object b e ms) h))
        ∙ ap (λ x. Some (tree.object x)) (ap members_of same ∙ member_values-listed t ms)

    pub node-whole : (n : Node) → Spells names t n → end n ≤ k → cut names t n k mode ≡ Some (value_of t n)
    node-whole n h le = whole-below (suc (nesting n)) n h (omega arith) le

  -- What there is at k goes on at l.
  module _ (k l : ℕ) (later : k ≤ l) where
    abbrev NodeExtends : Node → Type 0
    NodeExtends n = Grows Extends (cut names t n k mode) (cut names t n l mode)

    abbrev ExtendsBelow : ℕ → Type 0
    ExtendsBelow levels = (n : Node) → Spells names t n → nesting n < levels → CutsNoNumber k n → NodeExtends n

    along : (n : Node) (o p : Option Tree) → cut names t n k mode ≡ o → cut names t n l mode ≡ p → Grows Extends o p
        → NodeExtends n
    along n o p at_k at_l h = rw at_k (rw at_l h)

    none-grows : (n : Node) → cut names t n k mode ≡ None → NodeExtends n
    none-grows n e = along n None (cut names t n l mode) e refl tt

    whole-grows : (n : Node) → Spells names t n → end n ≤ k → NodeExtends n
    whole-grows n h all =
        along n _ _ (node-whole k n h all) (node-whole l n h (omega arith)) (extends-same (value_of t n))

    begun-grows : (n : Node) → (begin n < k → NodeExtends n) → NodeExtends n
    begun-grows n grows = by (cases_lt (begin n) k) where
      by : (begin n < k) ⊎ (k ≤ begin n) → NodeExtends n
      by (inl lt) = grows lt
      by (inr unread) = none-grows n (node-late names t k mode n unread)

    -- no number is cut by k
    abbrev CutsNone : {P : Type 0} → (P → Node) → List P → Type 0
    CutsNone value [] = Unit {0}
    CutsNone value (p ∷ ps) = CutsNoNumber k (value p) × CutsNone value ps

    cuts-items : (ns : Nodes) → CutsNoNumberOf k ns → CutsNone (λ n. n) (nodes_list ns)
    cuts-items no_nodes c = tt
    cuts-items (node n ns) c = (c.0, cuts-items ns c.1)

    cuts-members : (ms : NodeMembers) → CutsNoNumberOfMembers k ms → CutsNone (λ m. m.1) (members_list ms)
    cuts-members no_members c = tt
    cuts-members (member key n ms) c = (c.0, cuts-members ms c.1)

    -- Parts that are seen by their values, where what goes on is seen to go on.
    module _ {P Q : Type 0} (More : Q → Q → Type 0) (value : P → Node) (seen : P → Tree → Q)
        (seen_more : (p : P) (v w : Tree) → Extends v w → More (seen p v) (seen p w)) (levels : ℕ)
        (all : ExtendsBelow levels) where
      abbrev one_left : ℕ → P → Option Q
      one_left j p = part_left names t j mode value seen p

      abbrev left : ℕ → List P → List Q
      left j ps = parts_left names t j mode value seen ps

      abbrev PartsGrow : List P → Type 0
      PartsGrow ps = ListGrows More (left k ps) (left l ps)

      part-grows : (p : P) (o q : Option Tree) → Grows Extends o q
          → Grows More (option_map (seen p) o) (option_map (seen p) q)
      part-grows p None q h = tt
      part-grows p (Some v) None h = absurd h
      part-grows p (Some v) (Some w) h = seen_more p v w h

      -- a part that k cuts is the last one; one that ends by k stays as it is
      first-grows : (p : P) (ps : List P) (e : ℕ) → Spells names t (value p)
          → InOrder names t levels value (end (value p)) ps e
          → Grows More (one_left k p) (one_left l p) → PartsGrow ps → PartsGrow (p ∷ ps)
      first-grows p ps e h order here rest = by (cases_lt k (end (value p))) where
        by : (k < end (value p)) ⊎ (end (value p) ≤ k) → PartsGrow (p ∷ ps)
        by (inl unended) =
            subst (λ xs. ListGrows More (cons_option (one_left k p) xs) (left l (p ∷ ps)))
            (sym (parts-late names t k mode value seen levels (end (value p)) ps e order (omega arith)))
            (last-grows More (one_left k p) (one_left l p) (left l ps) here)
        by (inr all) =
            let whole = node-whole k (value p) h all ∙ sym (node-whole l (value p) h (omega arith)) in
            let same = ap (option_map (seen p)) whole in
            subst (λ o. ListGrows More (left k (p ∷ ps)) (cons_option o (left l ps))) same
            (rest-grows More (one_left k p) (left k ps) (left l ps)
            (subst (Grows More (one_left k p)) (sym same) here) rest)

      parts-grow : (i e : ℕ) (ps : List P) → InOrder names t levels value i ps e → CutsNone value ps → PartsGrow ps
      parts-grow i e [] h c = tt
      parts-grow i e (p ∷ ps) h c =
          first-grows p ps e h.1 h.3 (part-grows p _ _ (all (value p) h.1 h.2 c.0))
          (parts-grow (end (value p)) e ps h.3 c.1)

      -- and a container that is built of what is left
      container-grows : (n : Node) (build : List Q → Tree) (i e : ℕ) (ps : List P)
          → ((xs ys : List Q) → ListGrows More xs ys → Extends (build xs) (build ys))
          → ((j : ℕ) → begin n < j → cut names t n j mode ≡ Some (build (left j ps)))
          → InOrder names t levels value i ps e → CutsNone value ps → NodeExtends n
      container-grows n build i e ps grow is order c =
          begun-grows n (λ lt.
          along n _ _ (is k lt) (is l (omega arith)) (grow (left k ps) (left l ps) (parts-grow i e ps order c)))

    -- what is kept of a string that k cuts
    kept-grows : (ps : List Piece) (b e : ℕ) → b < k → k < e
        → Grows Extends (cut_string_if names t k mode ps b (allows_trailing_strings mode))
        (cut names t (grammar.string ps b e) l mode)
    kept-grows ps b e lt cuts =
        if_case (λ x. Grows Extends x (cut names t (grammar.string ps b e) l mode)) (allows_trailing_strings mode)
        (Some (cut_string t ps b k)) None
        (λ kept. rw (begun b l _ (omega arith)) (if_case Kept (nat_le e l) (Some (tree.string (text_at t ps b e)))
        (cut_string_if names t l mode ps b (allows_trailing_strings mode))
        (λ y. let f = pieces-all k ps in
        (text_of f.0, text-prefix (pieces_to k ps) ps f.0 f.1, backslash-stays t b k e (omega arith) (omega arith)))
        (λ y. rw (if-true (allows_trailing_strings mode) (Some (cut_string t ps b l)) None kept)
        (let f = pieces-prefix k l later ps in (
          text_of f.0,
          text-prefix (pieces_to k ps) (pieces_to l ps) f.0 f.1,
          backslash-stays t b k l (omega arith) later,
        )))))
        (λ none. tt) where
          Kept : Option Tree → Type 0
          Kept y = Grows Extends (Some (cut_string t ps b k)) y

    grows-below : (levels : ℕ) → ExtendsBelow levels
    grows-below zero n h d c = absurd (omega arith)
    grows-below (suc levels) (grammar.literal x b e) h d c = by (cases_lt k e) where
      by : (k < e) ⊎ (e ≤ k) → NodeExtends (grammar.literal x b e)
      by (inl cuts) = none-grows (grammar.literal x b e) (literal-left names t k mode x b e cuts)
      by (inr all) = whole-grows (grammar.literal x b e) h all
    grows-below (suc levels) (grammar.number b e) h d (inl unread) =
        none-grows (grammar.number b e) (node-late names t k mode (grammar.number b e) unread)
    grows-below (suc levels) (grammar.number b e) h d (inr all) = whole-grows (grammar.number b e) h all
    grows-below (suc levels) (grammar.string ps b e) h d c =
        begun-grows (grammar.string ps b e) (λ lt. by lt (cases_lt k e)) where
          by : b < k → (k < e) ⊎ (e ≤ k) → NodeExtends (grammar.string ps b e)
          by lt (inr all) = whole-grows (grammar.string ps b e) h all
          by lt (inl cuts) =
              along (grammar.string ps b e) _ _ (string-left names t k mode ps b e lt cuts) refl
              (kept-grows ps b e lt cuts)
    grows-below (suc levels) (grammar.array b e ns) h d c =
        container-grows Extends (λ n. n) item_seen (λ n v w more. more) levels (grows-below levels)
        (grammar.array b e ns)
        (λ vs. tree.array (items_of vs)) (b + 1) e (nodes_list ns) items-grow
        (λ j lt. array-left names t j mode b e ns lt) (items-order names t levels ns (b + 1) e h.1 (omega arith))
        (cuts-items ns c)
    grows-below (suc levels) (grammar.object b e ms) h d c =
        container-grows ExtendsMember (λ m. m.1) (member_seen t) (λ m v w more. (refl, more)) levels
        (grows-below levels)
        (grammar.object b e ms) (λ ms. tree.object (members_of ms)) (b + 1) e (members_list ms) members-grow
        (λ j lt. object-left names t j mode b e ms lt) (members-order names t levels ms (b + 1) e h.1 (omega arith))
        (cuts-members ms c)

-- Where no number is cut at k, what a later cut leaves goes on where the cut at k stopped.
pub cut-extends : (names : Bool) (t : List ℕ) (mode : PartialMode) (n : Node) (k l : ℕ) (v w : Tree) → Spells names t n
    → CutsNoNumber k n → k ≤ l
    → cut names t n k mode ≡ Some v → cut names t n l mode ≡ Some w → Extends v w
cut-extends names t mode n k l v w h c later at_k at_l =
    subst (Grows Extends (Some v)) at_l
    (subst (λ x. Grows Extends x (cut names t n l mode)) at_k
    (grows-below names t mode k l later (suc (nesting n)) n h (omega arith) c))
