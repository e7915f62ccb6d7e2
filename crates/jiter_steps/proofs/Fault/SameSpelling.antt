-- Two texts with the same bytes before a place: what the grammar spells there in the one it spells in the other.
use Rattle.jiter_steps.proofs.Words.{◌≡◌, ℕ, zero, suc, ◌+◌, ◌<◌, ◌≤◌, Bool, List, [], ◌∷◌, length, sym, subst, arith}
use Rattle.jiter_steps.proofs.Words.{slice_get, slice_index, slice_range, Some, slice_get_within, slice_get-get_or}
use Rattle.jiter_steps.proofs.Words.{get_or_from_slice_get, IsNumberText, Stands, stands-length, stands-slice}
use Rattle.jiter_steps.proofs.Words.{slice-stands, IsBlankByte, IsBlank, word_of, Key, Node, Nodes, no_nodes, node}
use Rattle.jiter_steps.proofs.Words.{NodeMembers, no_members, member, begin, end, StandsAfter, SpellsNumber, SpellsKey}
use Rattle.jiter_steps.proofs.Words.{Spells, SpellsItems, SpellsMoreItems, SpellsMembers, SpellsMoreMembers}
use Rattle.jiter_steps.proofs.Words.{nesting_round, nesting_round_members, Piece, SpellsPieces, SpellsString}
use Rattle.jiter_steps.specs.Node as grammar
use Rattle.jiter_steps.proofs.Grammar.SpelledParts.{nodes_list, members_list, items-order, members-order, order-ahead}
use Rattle.jiter_steps.proofs.Grammar.SpelledParts.{key-ahead, node-ahead}
use Rattle.jiter_steps.proofs.Grammar.Places.{pieces-ahead}

-- each byte of t before the place k is in u too
abbrev pub SameBefore : List ℕ → List ℕ → ℕ → Type 0
SameBefore t u k = (j c : ℕ) → j < k → slice_get t j ≡ Some c → slice_get u j ≡ Some c

pub same-sooner : (t u : List ℕ) (i k : ℕ) → i ≤ k → SameBefore t u k → SameBefore t u i
same-sooner t u i k le same j c lt e = same j c (omega arith) e

module _ (t u : List ℕ) (k : ℕ) (same : SameBefore t u k) where
  pub here-too : (i : ℕ) → i < k → i < length t → slice_get u i ≡ Some (slice_index t i)
  here-too i lt h = same i (slice_index t i) lt (slice_get-get_or t i 0 h)

  pub index-same : (i : ℕ) → i < k → i < length t → slice_index u i ≡ slice_index t i
  index-same i lt h = get_or_from_slice_get u i (slice_index t i) 0 (here-too i lt h)

  pub place-too : (i : ℕ) → i ≤ k → i ≤ length t → i ≤ length u
  place-too zero le h = omega arith
  place-too (suc i) le h =
      let last = slice_get_within u i (slice_index t i) (here-too i (omega arith) (omega arith)) in omega arith

  -- bytes that are there
  pub stands-too : (i j : ℕ) (w : List ℕ) → j ≤ k → Stands t i j w → Stands u i j w
  stands-too i j [] le h = h
  stands-too i j (c ∷ w) le h =
      let later = stands-length t (i + 1) j w h.1 in
      (same i c (omega arith) h.0, stands-too (i + 1) j w le h.1)

  pub range-same : (i j : ℕ) → i ≤ j → j ≤ k → j ≤ length t → slice_range u i j ≡ slice_range t i j
  range-same i j le lk h =
      sym (slice-stands u i j (slice_range t i j) (stands-too i j (slice_range t i j) lk (stands-slice t i j le h)))

  -- whitespace, and a byte after them
  pub blanks-too : (i j : ℕ) → j ≤ k → IsBlank t i j → IsBlank u i j
  blanks-too i j le b = record {
    ordered = b.ordered;
    within = place-too j le b.within;
    each = λ m l h.
        subst IsBlankByte (sym (index-same m (omega arith) (omega (arith, b.within)))) (b.each m l h);
  }

  pub after-too : (i c e : ℕ) → e ≤ k → StandsAfter t i c e → StandsAfter u i c e
  after-too i c e le h = record {
    at = h.at;
    blanks = blanks-too i h.at (omega (arith, h.ends)) h.blanks;
    here = same h.at c (omega (arith, h.ends)) h.here;
    ends = h.ends;
  }

  pub number-too : (names : Bool) (b e : ℕ) → e ≤ k → SpellsNumber names t b e → SpellsNumber names u b e
  number-too names b e le h = record {
    ordered = h.ordered;
    within = place-too e le h.within;
    text = subst (IsNumberText names) (sym (range-same b e h.ordered le h.within)) h.text;
  }

  -- strings
  pieces-too : (ps : List Piece) (i e : ℕ) → e ≤ k → SpellsPieces t i ps e → SpellsPieces u i ps e
  pieces-too [] i e le h = h
  pieces-too (p ∷ ps) i e le h =
      let later = pieces-ahead t ps p.end e h.1 in
      let stands = stands-too i p.end h.0.bytes (omega arith) h.0.stands in
      (record { bytes = h.0.bytes; stands = stands; piece = h.0.piece }, pieces-too ps p.end e le h.1)

  pub string-too : (i e : ℕ) (ps : List Piece) → e ≤ k → SpellsString t i ps e → SpellsString u i ps e
  string-too i e ps le h =
      let later = pieces-ahead t ps (i + 1) h.close h.spelled in
      record {
        opens = same i 34 (omega (arith, h.ends)) h.opens;
        close = h.close;
        spelled = pieces-too ps (i + 1) h.close (omega (arith, h.ends)) h.spelled;
        closes = same h.close 34 (omega (arith, h.ends)) h.closes;
        ends = h.ends;
      }

  -- a key and its colon
  pub key-too : (key : Key) (j : ℕ) → j ≤ k → SpellsKey t key j → SpellsKey u key j
  key-too key j le h =
      let colon = h.blanks.ordered in
      let string_ends = h.after.blanks.ordered in
      record {
        string = string-too key.begin key.end key.pieces (omega (arith, h.after.ends)) h.string;
        colon = h.colon;
        after = after-too key.end 58 h.colon (omega arith) h.after;
        blanks = blanks-too h.colon j le h.blanks;
      }

module _ (names : Bool) (t : List ℕ) where
  -- a first part ends before the container
  items-after : (n : Node) (ns : Nodes) (i e : ℕ) → SpellsItems names t i (node n ns) e → end n < e
  items-after n ns i e h =
      let levels = nesting_round (node n ns) in
      let order = items-order names t levels (node n ns) i e h (omega arith) in
      order-ahead names t levels (λ n. n) (nodes_list ns) (end n) e order.3

  members-after : (key : Key) (n : Node) (ms : NodeMembers) (i e : ℕ) → SpellsMembers names t i (member key n ms) e
      → end n < e
  members-after key n ms i e h =
      let levels = nesting_round_members (member key n ms) in
      let order = members-order names t levels (member key n ms) i e h (omega arith) in
      order-ahead names t levels (λ m. m.1) (members_list ms) (end n) e order.3

module _ (names : Bool) (t u : List ℕ) (k : ℕ) (same : SameBefore t u k) where
  mutual
    -- A node that ends before the place.
    pub spells-too : (n : Node) → end n ≤ k → Spells names t n → Spells names u n
    spells-too (grammar.literal l b e) le h = stands-too t u k same b e (word_of l) le h
    spells-too (grammar.number b e) le h = number-too t u k same names b e le h
    spells-too (grammar.string ps b e) le h = string-too t u k same b e ps le h
    spells-too (grammar.array b e ns) le h =
        let ahead = node-ahead names t (grammar.array b e ns) h in
        (same b 91 (omega arith) h.0, items-too ns (b + 1) e le h.1)
    spells-too (grammar.object b e ms) le h =
        let ahead = node-ahead names t (grammar.object b e ms) h in
        (same b 123 (omega arith) h.0, members-too ms (b + 1) e le h.1)

    items-too : (ns : Nodes) (i e : ℕ) → e ≤ k → SpellsItems names t i ns e → SpellsItems names u i ns e
    items-too no_nodes i e le h = after-too t u k same i 93 e le h
    items-too (node n ns) i e le h =
        let later = items-after names t n ns i e h in
        let ahead = node-ahead names t n h.1 in
        let blanks = blanks-too t u k same i (begin n) (omega arith) h.0 in
        (blanks, spells-too n (omega arith) h.1, more_items-too ns (end n) e le h.2)

    more_items-too : (ns : Nodes) (i e : ℕ) → e ≤ k → SpellsMoreItems names t i ns e → SpellsMoreItems names u i ns e
    more_items-too no_nodes i e le h = after-too t u k same i 93 e le h
    more_items-too (node n ns) i e le h =
        let later = items-after names t n ns h.0 e (h.2, h.3, h.4) in
        let ahead = node-ahead names t n h.3 in
        let blanks = blanks-too t u k same h.0 (begin n) (omega arith) h.2 in
        let comma = after-too t u k same i 44 h.0 (omega (arith, h.2.ordered)) h.1 in
        (h.0, comma, blanks, spells-too n (omega arith) h.3, more_items-too ns (end n) e le h.4)

    members-too : (ms : NodeMembers) (i e : ℕ) → e ≤ k → SpellsMembers names t i ms e → SpellsMembers names u i ms e
    members-too no_members i e le h = after-too t u k same i 125 e le h
    members-too (member key n ms) i e le h =
        let later = members-after names t key n ms i e h in
        let ahead = node-ahead names t n h.2 in
        let from_key = key-ahead names t key (begin n) h.1 in
        let blanks = blanks-too t u k same i key.begin (omega arith) h.0 in
        let key = key-too t u k same key (begin n) (omega arith) h.1 in
        (blanks, key, spells-too n (omega arith) h.2, more_members-too ms (end n) e le h.3)

    more_members-too : (ms : NodeMembers) (i e : ℕ) → e ≤ k → SpellsMoreMembers names t i ms e
        → SpellsMoreMembers names u i ms e
    more_members-too no_members i e le h = after-too t u k same i 125 e le h
    more_members-too (member key n ms) i e le h =
        let later = members-after names t key n ms h.0 e (h.2, h.3, h.4, h.5) in
        let ahead = node-ahead names t n h.4 in
        let from_key = key-ahead names t key (begin n) h.3 in
        let blanks = blanks-too t u k same h.0 key.begin (omega arith) h.2 in
        let comma = after-too t u k same i 44 h.0 (omega (arith, h.2.ordered)) h.1 in
        let spelled_key = key-too t u k same key (begin n) (omega arith) h.3 in
        (h.0, comma, blanks, spelled_key, spells-too n (omega arith) h.4, more_members-too ms (end n) e le h.5)
