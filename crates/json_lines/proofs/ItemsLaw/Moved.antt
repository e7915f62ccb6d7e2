-- A value that is spelled in one text is spelled in another one that has the same bytes elsewhere.
use Rattle.std.proofs.Common.{◌≡◌, ◌≢◌, ◌⊎◌, inl, inr, ℕ, suc, ◌+◌, ◌<◌, ◌≤◌, Bool, true, List, [], ◌∷◌, length}
use Rattle.std.proofs.Common.{refl, sym, ap, ap₂, ◌∙◌, subst, arith, max, ◌==◌}
use Rattle.std.specs.Prelude.{slice_get, slice_index, slice_range, Some}
use Rattle.std.specs.List.{list_any}
use Rattle.std.specs.Str.{encode_utf8_all}
use Rattle.std.proofs.lemmas.Bool.{cases_eq}
use Rattle.std.proofs.lemmas.Bool.Decides.{nat_tests}
use Rattle.std.proofs.lemmas.Option.{get_or_from_slice_get}
use Rattle.jiter_scan.specs.Number.{IsNumberText, number_value}
use Rattle.jiter_scan.specs.Scan.{Pass}
use Rattle.jiter_scan.specs.Stands.{Stands}
use Rattle.jiter_scan.proofs.Standing.{slice-stands, stands-length, stands-slice}
use Rattle.jiter_steps.specs.Blank.{IsBlankByte, IsBlank}
use Rattle.jiter_steps.specs.Literal.{word_of}
use Rattle.jiter_steps.specs.Node as grammar
use Rattle.jiter_steps.specs.Node.{Key, Node, Nodes, no_nodes, node, NodeMembers, no_members, member, begin, end}
use Rattle.jiter_steps.specs.Node.{StandsAfter, SpellsNumber, SpellsKey, Spells, SpellsItems, SpellsMoreItems}
use Rattle.jiter_steps.specs.Node.{SpellsMembers, SpellsMoreMembers, nesting, nesting_of, nesting_of_members, nesting_round, nesting_round_members}
use Rattle.jiter_steps.specs.Node.{number_tree, text_at, value_of, values_of, members_of}
use Rattle.jiter_steps.specs.Piece.{Piece, SpellsPieces, SpellsString, characters}
use Rattle.jiter_steps.specs.Tree as tree
use Rattle.jiter_steps.specs.Tree.{Members, Text, Tree}
use Rattle.jiter_steps.proofs.Grammar.Places.{pieces-ahead}
use Rattle.jiter_steps.proofs.Grammar.SpelledParts.{key-ahead, node-ahead, node-within}
use Rattle.json_lines.specs.Items.{is_white}
use Rattle.json_lines.proofs.ItemsLaw.Values.{blanks-are, items-ahead, members-ahead}

-- the same value with each place moved
module _ (f : ℕ → ℕ) where
  abbrev pub piece_moved : Piece → Piece
  piece_moved p = record { character = p.character; end = f p.end }

  abbrev pub pieces_moved : List Piece → List Piece
  pieces_moved [] = []
  pieces_moved (p ∷ ps) = piece_moved p ∷ pieces_moved ps

  abbrev pub key_moved : Key → Key
  key_moved k = record { pieces = pieces_moved k.pieces; begin = f k.begin; end = f k.end }

  abbrev mutual
    pub moved : Node → Node
    moved (grammar.literal l b e) = grammar.literal l (f b) (f e)
    moved (grammar.number b e) = grammar.number (f b) (f e)
    moved (grammar.string ps b e) = grammar.string (pieces_moved ps) (f b) (f e)
    moved (grammar.array b e ns) = grammar.array (f b) (f e) (nodes_moved ns)
    moved (grammar.object b e ms) = grammar.object (f b) (f e) (members_moved ms)

    pub nodes_moved : Nodes → Nodes
    nodes_moved no_nodes = no_nodes
    nodes_moved (node n ns) = node (moved n) (nodes_moved ns)

    pub members_moved : NodeMembers → NodeMembers
    members_moved no_members = no_members
    members_moved (member k n ms) = member (key_moved k) (moved n) (members_moved ms)

  pub begin-moved : (n : Node) → begin (moved n) ≡ f (begin n)
  begin-moved (grammar.literal l b e) = refl
  begin-moved (grammar.number b e) = refl
  begin-moved (grammar.string ps b e) = refl
  begin-moved (grammar.array b e ns) = refl
  begin-moved (grammar.object b e ms) = refl

  pub end-moved : (n : Node) → end (moved n) ≡ f (end n)
  end-moved (grammar.literal l b e) = refl
  end-moved (grammar.number b e) = refl
  end-moved (grammar.string ps b e) = refl
  end-moved (grammar.array b e ns) = refl
  end-moved (grammar.object b e ms) = refl

  mutual
    pub nesting-moved : (n : Node) → nesting (moved n) ≡ nesting n
    nesting-moved (grammar.literal l b e) = refl
    nesting-moved (grammar.number b e) = refl
    nesting-moved (grammar.string ps b e) = refl
    nesting-moved (grammar.array b e no_nodes) = refl
    nesting-moved (grammar.array b e (node n ns)) = ap₂ (λ x y. suc (max x y)) (nesting-moved n) (nesting_of-moved ns)
    nesting-moved (grammar.object b e no_members) = refl
    nesting-moved (grammar.object b e (member k n ms)) =
        ap₂ (λ x y. suc (max x y)) (nesting-moved n) (nesting_of_members-moved ms)

    nesting_of-moved : (ns : Nodes) → nesting_of (nodes_moved ns) ≡ nesting_of ns
    nesting_of-moved no_nodes = refl
    nesting_of-moved (node n ns) = ap₂ max (nesting-moved n) (nesting_of-moved ns)

    nesting_of_members-moved : (ms : NodeMembers) → nesting_of_members (members_moved ms) ≡ nesting_of_members ms
    nesting_of_members-moved no_members = refl
    nesting_of_members-moved (member k n ms) = ap₂ max (nesting-moved n) (nesting_of_members-moved ms)

  characters-moved : (ps : List Piece) → characters (pieces_moved ps) ≡ characters ps
  characters-moved [] = refl
  characters-moved (p ∷ ps) = ap (λ l. p.character ∷ l) (characters-moved ps)

same-member : {k k' : Text} {v v' : Tree} {ms ms' : Members} → k ≡ k' → v ≡ v' → ms ≡ ms'
    → tree.member k v ms ≡ tree.member k' v' ms'
same-member {k' = k'} {v = v} {ms = ms} p q r =
    ap (λ x. tree.member x v ms) p ∙ ap₂ (λ x y. tree.member k' x y) q r

white-blank : (c : ℕ) → is_white c ≡ true → IsBlankByte c
white-blank c h = grind (arith, nat_tests, h)

-- from lo to before hi each byte of t is in u too, where f says
pub record IsMoved (t u : List ℕ) (lo hi : ℕ) (f : ℕ → ℕ) : Type 0 where
  pub same : (i c : ℕ) → lo ≤ i → i < hi → slice_get t i ≡ Some c → slice_get u (f i) ≡ Some c
  pub next : (i : ℕ) → lo ≤ i → i < hi → f (i + 1) ≡ f i + 1
  pub within : (i : ℕ) → lo ≤ i → i ≤ hi → f i ≤ length u

-- whitespace that is there
white-each : (t w : List ℕ) (i j : ℕ) → Stands t i j w → Pass is_white w
    → (k : ℕ) → i ≤ k → k < j → IsBlankByte (slice_index t k)
white-each t [] i j h white k l u = absurd (omega (arith, h))
white-each t (c ∷ w) i j h white k l u = by (cases_eq i k) (λ more. white-each t w (i + 1) j h.1 white.1 k more u) where
  by : (i ≡ k) ⊎ (i ≢ k) → (i + 1 ≤ k → IsBlankByte (slice_index t k)) → IsBlankByte (slice_index t k)
  by (inl e) others =
      subst (λ m. IsBlankByte (slice_index t m)) e
      (subst IsBlankByte (sym (get_or_from_slice_get t i c 0 h.0)) (white-blank c white.0))
  by (inr apart) others = others (omega (arith, l, apart))

pub stands-blank : (t w : List ℕ) (i j : ℕ) → j ≤ length t → Stands t i j w → Pass is_white w → IsBlank t i j
stands-blank t w i j le h white = record {
  ordered = omega (arith, stands-length t i j w h);
  within = le;
  each = white-each t w i j h white;
}

module _ (t u : List ℕ) (lo hi : ℕ) (f : ℕ → ℕ) (m : IsMoved t u lo hi f) where
  pub stands-moved : (i j : ℕ) (w : List ℕ) → lo ≤ i → j ≤ hi → Stands t i j w → Stands u (f i) (f j) w
  stands-moved i j [] l le h = ap f h
  stands-moved i j (c ∷ w) l le h =
      let long = stands-length t (i + 1) j w h.1 in (
        m.same i c l (omega arith) h.0,
        subst (λ k. Stands u k (f j) w) (m.next i l (omega arith)) (stands-moved (i + 1) j w (omega arith) le h.1),
      )

  range-moved : (i j : ℕ) → lo ≤ i → i ≤ j → j ≤ hi → j ≤ length t → slice_range t i j ≡ slice_range u (f i) (f j)
  range-moved i j l le top h =
      slice-stands u (f i) (f j) (slice_range t i j) (stands-moved i j (slice_range t i j) l top (stands-slice t i j le h))

  order-moved : (i j : ℕ) → lo ≤ i → i ≤ j → j ≤ hi → j ≤ length t → f i ≤ f j
  order-moved i j l le top h =
      omega (
        arith,
        stands-length u (f i) (f j) (slice_range t i j)
            (stands-moved i j (slice_range t i j) l top (stands-slice t i j le h)),
      )

  pub blanks-moved : (i j : ℕ) → lo ≤ i → j ≤ hi → IsBlank t i j → IsBlank u (f i) (f j)
  blanks-moved i j l le h =
      stands-blank u (slice_range t i j) (f i) (f j) (m.within j (omega (arith, h.ordered)) le)
      (stands-moved i j (slice_range t i j) l le (stands-slice t i j h.ordered h.within)) (blanks-are t i j h)

  after-moved : (i c e : ℕ) → lo ≤ i → e ≤ hi → StandsAfter t i c e → StandsAfter u (f i) c (f e)
  after-moved i c e l le h =
      let ordered = h.blanks.ordered in
      record {
        at = f h.at;
        blanks = blanks-moved i h.at l (omega (arith, h.ends)) h.blanks;
        here = m.same h.at c (omega arith) (omega (arith, h.ends)) h.here;
        ends = ap f h.ends ∙ m.next h.at (omega arith) (omega (arith, h.ends));
      }

  pieces-moved : (ps : List Piece) (i e : ℕ) → lo ≤ i → e ≤ hi → SpellsPieces t i ps e
      → SpellsPieces u (f i) (pieces_moved f ps) (f e)
  pieces-moved [] i e l le h = ap f h
  pieces-moved (p ∷ ps) i e l le h =
      let later = pieces-ahead t ps p.end e h.1 in
      let long = stands-length t i p.end h.0.bytes h.0.stands in (
        record {
          bytes = h.0.bytes;
          stands = stands-moved i p.end h.0.bytes l (omega arith) h.0.stands;
          piece = h.0.piece;
        },
        pieces-moved ps p.end e (omega arith) le h.1,
      )

  string-moved : (i e : ℕ) (ps : List Piece) → lo ≤ i → e ≤ hi → SpellsString t i ps e
      → SpellsString u (f i) (pieces_moved f ps) (f e)
  string-moved i e ps l le h =
      let later = pieces-ahead t ps (i + 1) h.close h.spelled in
      let ends = h.ends in
      record {
        opens = m.same i 34 l (omega arith) h.opens;
        close = f h.close;
        spelled = subst (λ k. SpellsPieces u k (pieces_moved f ps) (f h.close)) (m.next i l (omega arith))
            (pieces-moved ps (i + 1) h.close (omega arith) (omega arith) h.spelled);
        closes = m.same h.close 34 (omega arith) (omega arith) h.closes;
        ends = ap f ends ∙ m.next h.close (omega arith) (omega arith);
      }

  key-moves : (key : Key) (j : ℕ) → lo ≤ key.begin → j ≤ hi → SpellsKey t key j → SpellsKey u (key_moved f key) (f j)
  key-moves key j l le h =
      let ends = h.after.ends in
      let gap = h.after.blanks.ordered in
      let last = h.blanks.ordered in
      let text = h.string.ends in
      let later = pieces-ahead t key.pieces (key.begin + 1) h.string.close h.string.spelled in
      record {
        string = string-moved key.begin key.end key.pieces l (omega arith) h.string;
        colon = f h.colon;
        after = after-moved key.end 58 h.colon (omega arith) (omega arith) h.after;
        blanks = blanks-moved h.colon j (omega arith) le h.blanks;
      }

  text-moved : (ps : List Piece) (i e : ℕ) → lo ≤ i → i ≤ e → e ≤ hi → e ≤ length t
      → text_at u (pieces_moved f ps) (f i) (f e) ≡ text_at t ps i e
  text-moved ps i e l le top h =
      ap₂ (λ x cs. let text : Text = record { owned = list_any (λ c. c == 92) x; bytes = encode_utf8_all cs } in text)
      (sym (range-moved i e l le top h)) (characters-moved f ps)

  module _ (names : Bool) where
    number-moved : (b e : ℕ) → lo ≤ b → e ≤ hi → SpellsNumber names t b e → SpellsNumber names u (f b) (f e)
    number-moved b e l le h =
        let ordered = h.ordered in
        record {
          ordered = order-moved b e l ordered le h.within;
          within = m.within e (omega arith) le;
          text = subst (IsNumberText names) (range-moved b e l ordered le h.within) h.text;
        }

    -- a node that lies there
    abbrev Moves : Node → Type 0
    Moves n = Spells names u (moved f n) × (value_of u (moved f n) ≡ value_of t n)

    -- the parts of a container
    abbrev ItemsMove : ℕ → Nodes → ℕ → Type 0
    ItemsMove i ns e = SpellsItems names u (f i) (nodes_moved f ns) (f e) × (values_of u (nodes_moved f ns) ≡ values_of t ns)

    abbrev MoreItemsMove : ℕ → Nodes → ℕ → Type 0
    MoreItemsMove i ns e = SpellsMoreItems names u (f i) (nodes_moved f ns) (f e) × (values_of u (nodes_moved f ns) ≡ values_of t ns)

    abbrev MembersMove : ℕ → NodeMembers → ℕ → Type 0
    MembersMove i ms e =
        SpellsMembers names u (f i) (members_moved f ms) (f e) × (members_of u (members_moved f ms) ≡ members_of t ms)

    abbrev MoreMembersMove : ℕ → NodeMembers → ℕ → Type 0
    MoreMembersMove i ms e =
        SpellsMoreMembers names u (f i) (members_moved f ms) (f e) × (members_of u (members_moved f ms) ≡ members_of t ms)

    to-begin : (i : ℕ) (n : Node) → lo ≤ i → begin n ≤ hi → IsBlank t i (begin n) → IsBlank u (f i) (begin (moved f n))
    to-begin i n l le h = subst (IsBlank u (f i)) (sym (begin-moved f n)) (blanks-moved i (begin n) l le h)

    from-end : (n : Node) (ns : Nodes) (e : ℕ) → SpellsMoreItems names u (f (end n)) (nodes_moved f ns) (f e)
        → SpellsMoreItems names u (end (moved f n)) (nodes_moved f ns) (f e)
    from-end n ns e h = subst (λ k. SpellsMoreItems names u k (nodes_moved f ns) (f e)) (sym (end-moved f n)) h

    from-member : (n : Node) (ms : NodeMembers) (e : ℕ) → SpellsMoreMembers names u (f (end n)) (members_moved f ms) (f e)
        → SpellsMoreMembers names u (end (moved f n)) (members_moved f ms) (f e)
    from-member n ms e h = subst (λ k. SpellsMoreMembers names u k (members_moved f ms) (f e)) (sym (end-moved f n)) h

    to-value : (k : Key) (n : Node) → lo ≤ k.begin → begin n ≤ hi → SpellsKey t k (begin n)
        → SpellsKey u (key_moved f k) (begin (moved f n))
    to-value k n l le h = subst (SpellsKey u (key_moved f k)) (sym (begin-moved f n)) (key-moves k (begin n) l le h)

    same-key : (k : Key) (j : ℕ) → lo ≤ k.begin → j ≤ hi → SpellsKey t k j
        → text_at u (pieces_moved f k.pieces) (f k.begin) (f k.end) ≡ text_at t k.pieces k.begin k.end
    same-key k j l le h =
        let ends = h.after.ends in
        let gap = h.after.blanks.ordered in
        let last = h.blanks.ordered in
        let text = h.string.ends in
        let later = pieces-ahead t k.pieces (k.begin + 1) h.string.close h.string.spelled in
        text-moved k.pieces k.begin k.end l (omega arith) (omega arith)
        (omega (arith, gap, h.after.blanks.within))

    mutual
      pub node-moves : (n : Node) → lo ≤ begin n → end n ≤ hi → Spells names t n → Moves n
      node-moves (grammar.literal v b e) l le h = (stands-moved b e (word_of v) l le h, refl)
      node-moves (grammar.number b e) l le h =
          let same = range-moved b e l h.ordered le h.within in
          (number-moved b e l le h, ap (λ w. number_tree (number_value w)) (sym same))
      node-moves (grammar.string ps b e) l le h =
          let ahead = node-ahead names t (grammar.string ps b e) h in
          let within = node-within names t (grammar.string ps b e) h in
          (string-moved b e ps l le h, ap tree.string (text-moved ps b e l (omega arith) le within))
      node-moves (grammar.array b e ns) l le h =
          let ahead = node-ahead names t (grammar.array b e ns) h in
          let x = items-move ns (b + 1) e (omega arith) le h.1 in (
            (
              m.same b 91 l (omega arith) h.0,
              subst (λ k. SpellsItems names u k (nodes_moved f ns) (f e)) (m.next b l (omega arith)) x.0,
            ),
            ap tree.array x.1,
          )
      node-moves (grammar.object b e ms) l le h =
          let ahead = node-ahead names t (grammar.object b e ms) h in
          let x = members-move ms (b + 1) e (omega arith) le h.1 in (
            (
              m.same b 123 l (omega arith) h.0,
              subst (λ k. SpellsMembers names u k (members_moved f ms) (f e)) (m.next b l (omega arith)) x.0,
            ),
            ap tree.object x.1,
          )

      items-move : (ns : Nodes) (i e : ℕ) → lo ≤ i → e ≤ hi → SpellsItems names t i ns e → ItemsMove i ns e
      items-move no_nodes i e l le h = (after-moved i 93 e l le h, refl)
      items-move (node n ns) i e l le h =
          let gap = h.0.ordered in
          let ahead = node-ahead names t n h.1 in
          let later = items-ahead names t ns (end n) e h.2 in
          let x = node-moves n (omega arith) (omega arith) h.1 in
          let more = more_items-move ns (end n) e (omega arith) le h.2 in (
            (to-begin i n l (omega arith) h.0, x.0, from-end n ns e more.0),
            ap₂ tree.item x.1 more.1,
          )

      more_items-move : (ns : Nodes) (i e : ℕ) → lo ≤ i → e ≤ hi → SpellsMoreItems names t i ns e → MoreItemsMove i ns e
      more_items-move no_nodes i e l le h = (after-moved i 93 e l le h, refl)
      more_items-move (node n ns) i e l le h =
          let comma = h.1.ends in
          let before = h.1.blanks.ordered in
          let gap = h.2.ordered in
          let ahead = node-ahead names t n h.3 in
          let later = items-ahead names t ns (end n) e h.4 in
          let x = node-moves n (omega arith) (omega arith) h.3 in
          let more = more_items-move ns (end n) e (omega arith) le h.4 in (
            (
              f h.0,
              after-moved i 44 h.0 l (omega arith) h.1,
              to-begin h.0 n (omega arith) (omega arith) h.2,
              x.0,
              from-end n ns e more.0,
            ),
            ap₂ tree.item x.1 more.1,
          )

      members-move : (ms : NodeMembers) (i e : ℕ) → lo ≤ i → e ≤ hi → SpellsMembers names t i ms e → MembersMove i ms e
      members-move no_members i e l le h = (after-moved i 125 e l le h, refl)
      members-move (member k n ms) i e l le h =
          let gap = h.0.ordered in
          let from_key = key-ahead names t k (begin n) h.1 in
          let ahead = node-ahead names t n h.2 in
          let later = members-ahead names t ms (end n) e h.3 in
          let x = node-moves n (omega arith) (omega arith) h.2 in
          let more = more_members-move ms (end n) e (omega arith) le h.3 in (
            (
              blanks-moved i k.begin l (omega arith) h.0,
              to-value k n (omega arith) (omega arith) h.1,
              x.0,
              from-member n ms e more.0,
            ),
            same-member (same-key k (begin n) (omega arith) (omega arith) h.1) x.1 more.1,
          )

      more_members-move : (ms : NodeMembers) (i e : ℕ) → lo ≤ i → e ≤ hi → SpellsMoreMembers names t i ms e
          → MoreMembersMove i ms e
      more_members-move no_members i e l le h = (after-moved i 125 e l le h, refl)
      more_members-move (member k n ms) i e l le h =
          let comma = h.1.ends in
          let before = h.1.blanks.ordered in
          let gap = h.2.ordered in
          let from_key = key-ahead names t k (begin n) h.3 in
          let ahead = node-ahead names t n h.4 in
          let later = members-ahead names t ms (end n) e h.5 in
          let x = node-moves n (omega arith) (omega arith) h.4 in
          let more = more_members-move ms (end n) e (omega arith) le h.5 in (
            (
              f h.0,
              after-moved i 44 h.0 l (omega arith) h.1,
              blanks-moved h.0 k.begin (omega arith) (omega arith) h.2,
              to-value k n (omega arith) (omega arith) h.3,
              x.0,
              from-member n ms e more.0,
            ),
            same-member (same-key k (begin n) (omega arith) (omega arith) h.3) x.1 more.1,
          )
