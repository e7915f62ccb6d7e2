-- A value: from its first byte to its end no item ends, and a place outside strings stays.
use Rattle.std.proofs.Common.{◌≡◌, ℕ, ◌+◌, ◌-◌, ◌<◌, ◌≤◌, Bool, true, false, List, [], ◌∷◌, refl, sym, ap, subst, arith}
use Rattle.std.specs.Prelude.{slice_get, slice_index, slice_range, Some}
use Rattle.std.proofs.lemmas.Bool.Decides.{nat_tests}
use Rattle.std.proofs.lemmas.Option.{get_or_from_slice_get}
use Rattle.jiter_scan.specs.Scan.{Pass}
use Rattle.jiter_scan.specs.Stands.{Stands}
use Rattle.jiter_scan.proofs.Standing.{stands-length, stands-slice}
use Rattle.jiter_steps.specs.Blank.{IsBlankByte, IsBlank}
use Rattle.jiter_steps.specs.Literal.{word_of}
use Rattle.jiter_steps.specs.Node as grammar
use Rattle.jiter_steps.specs.Node.{Key, Node, Nodes, no_nodes, node, NodeMembers, no_members, member, begin, end}
use Rattle.jiter_steps.specs.Node.{StandsAfter, SpellsNumber, SpellsKey, Spells, SpellsItems, SpellsMoreItems}
use Rattle.jiter_steps.specs.Node.{SpellsMembers, SpellsMoreMembers}
use Rattle.jiter_steps.specs.declared.parse.Literal.{Literal}
use Rattle.jiter_steps.specs.declared.parse.Literal.TheVariants as literal
use Rattle.jiter_steps.proofs.Grammar.SpelledParts.{node-ahead}
use Rattle.json_lines.specs.Items.{Place, outside, place_after, ends_item, is_white}
use Rattle.json_lines.proofs.ItemsLaw.Letters.{is_letter, letter-white, letters-quiet, number-letters, word-letters}
use Rattle.json_lines.proofs.ItemsLaw.Passing.{IsQuiet, AreQuiet, Leads, Passes, byte-leads, leads-on, quiet-pass}
use Rattle.json_lines.proofs.ItemsLaw.Strings.{string-leads}

blank-white : (b : ℕ) → IsBlankByte b → is_white b ≡ true
blank-white b h = grind (arith, nat_tests, h)

white-quiet : (b : ℕ) → is_white b ≡ true → IsQuiet b
white-quiet b h = record {
  no_quote = grind (arith, nat_tests, h);
  no_comma = grind (arith, nat_tests, h);
  no_bracket = (grind (arith, nat_tests, h), grind (arith, nat_tests, h));
  no_brace = (grind (arith, nat_tests, h), grind (arith, nat_tests, h));
}

blanks-quiet : (w : List ℕ) → Pass is_white w → AreQuiet w
blanks-quiet [] h = tt
blanks-quiet (b ∷ w) h = (white-quiet b h.0, blanks-quiet w h.1)

module _ (t : List ℕ) where
  bytes-blank : (w : List ℕ) (i j : ℕ) → Stands t i j w
      → ((k : ℕ) → i ≤ k → k < j → IsBlankByte (slice_index t k)) → Pass is_white w
  bytes-blank [] i j h each = tt
  bytes-blank (c ∷ w) i j h each =
      let long = stands-length t (i + 1) j w h.1 in (
        blank-white c (subst IsBlankByte (get_or_from_slice_get t i c 0 h.0) (each i (omega arith) (omega arith))),
        bytes-blank w (i + 1) j h.1 (λ k l u. each k (omega arith) u),
      )

  pub blanks-are : (i j : ℕ) → IsBlank t i j → Pass is_white (slice_range t i j)
  blanks-are i j h = bytes-blank (slice_range t i j) i j (stands-slice t i j h.ordered h.within) h.each

  pub blanks-pass : (d i j : ℕ) → IsBlank t i j → Passes (outside d) (slice_range t i j) (outside d)
  blanks-pass d i j h = quiet-pass d (slice_range t i j) (blanks-quiet (slice_range t i j) (blanks-are i j h))

  pub blanks-lead : (d i j : ℕ) → IsBlank t i j → Leads t i (outside d) j (outside d)
  blanks-lead d i j h = record {
    bytes = slice_range t i j;
    stands = stands-slice t i j h.ordered h.within;
    passes = blanks-pass d i j h;
  }

-- before e there is a byte that is no whitespace
pub record EndsSolid (t : List ℕ) (e : ℕ) : Type 0 where
  pub at : ℕ
  pub last : ℕ
  pub here : slice_get t at ≡ Some last
  pub ends : e ≡ at + 1
  pub no_white : is_white last ≡ false

-- in a bracket no item ends, and a comma or a colon changes nothing
within-ends : (d b : ℕ) → ends_item (outside (d + 1)) b ≡ false
within-ends d b = grind (arith, nat_tests)

closed : (d : ℕ) → outside (d + 1 - 1) ≡ outside d
closed d = let same : d + 1 - 1 ≡ d = omega arith in ap outside same

module _ (names : Bool) (t : List ℕ) where
  abbrev Inner : ℕ → ℕ → ℕ → Type 0
  Inner d i j = Leads t i (outside d) j (outside d)

  -- a byte after whitespace, within a bracket
  after-leads : (d i c e : ℕ) (q : Place) → place_after (outside (d + 1)) c ≡ q → StandsAfter t i c e
      → Leads t i (outside (d + 1)) e q
  after-leads d i c e q to h =
      leads-on t i h.at e (outside (d + 1)) (outside (d + 1)) q (blanks-lead t (d + 1) i h.at h.blanks)
      (byte-leads t h.at c e (outside (d + 1)) q h.here h.ends (within-ends d c) to)

  key-leads : (d : ℕ) (k : Key) (j : ℕ) → SpellsKey t k j → Inner (d + 1) k.begin j
  key-leads d k j h =
      let o = outside (d + 1) in
      leads-on t k.begin k.end j o o o (string-leads (d + 1) t k.begin k.end k.pieces h.string)
      (leads-on t k.end h.colon j o o o (after-leads d k.end 58 h.colon o refl h.after) (blanks-lead t (d + 1) h.colon j h.blanks))

  -- an item and what follows it; a member
  item-leads : (d : ℕ) (n : Node) (i e : ℕ) → IsBlank t i (begin n) → Inner (d + 1) (begin n) (end n)
      → Leads t (end n) (outside (d + 1)) e (outside d) → Leads t i (outside (d + 1)) e (outside d)
  item-leads d n i e blanks value more =
      let o = outside (d + 1) in
      leads-on t i (begin n) e o o (outside d) (blanks-lead t (d + 1) i (begin n) blanks)
      (leads-on t (begin n) (end n) e o o (outside d) value more)

  member-leads : (d : ℕ) (k : Key) (n : Node) (i e : ℕ) → IsBlank t i k.begin → SpellsKey t k (begin n)
      → Inner (d + 1) (begin n) (end n) → Leads t (end n) (outside (d + 1)) e (outside d)
      → Leads t i (outside (d + 1)) e (outside d)
  member-leads d k n i e blanks key value more =
      let o = outside (d + 1) in
      leads-on t i k.begin e o o (outside d) (blanks-lead t (d + 1) i k.begin blanks)
      (leads-on t k.begin (begin n) e o o (outside d) (key-leads d k (begin n) key)
      (leads-on t (begin n) (end n) e o o (outside d) value more))

  mutual
    pub node-leads : (n : Node) (d : ℕ) → Spells names t n → Inner d (begin n) (end n)
    node-leads (grammar.literal l b e) d h = record {
      bytes = word_of l;
      stands = h;
      passes = quiet-pass d (word_of l) (letters-quiet (word_of l) (word-letters l));
    }
    node-leads (grammar.number b e) d h = record {
      bytes = slice_range t b e;
      stands = stands-slice t b e h.ordered h.within;
      passes = quiet-pass d (slice_range t b e) (letters-quiet (slice_range t b e) (number-letters names (slice_range t b e) h.text));
    }
    node-leads (grammar.string ps b e) d h = string-leads d t b e ps h
    node-leads (grammar.array b e ns) d h =
        leads-on t b (b + 1) e (outside d) (outside (d + 1)) (outside d)
        (byte-leads t b 91 (b + 1) (outside d) (outside (d + 1)) h.0 refl (grind (arith, nat_tests)) refl)
        (items-lead ns d (b + 1) e h.1)
    node-leads (grammar.object b e ms) d h =
        leads-on t b (b + 1) e (outside d) (outside (d + 1)) (outside d)
        (byte-leads t b 123 (b + 1) (outside d) (outside (d + 1)) h.0 refl (grind (arith, nat_tests)) refl)
        (members-lead ms d (b + 1) e h.1)

    items-lead : (ns : Nodes) (d i e : ℕ) → SpellsItems names t i ns e → Leads t i (outside (d + 1)) e (outside d)
    items-lead no_nodes d i e h = after-leads d i 93 e (outside d) (closed d) h
    items-lead (node n ns) d i e h = item-leads d n i e h.0 (node-leads n (d + 1) h.1) (more_items-lead ns d (end n) e h.2)

    more_items-lead : (ns : Nodes) (d i e : ℕ) → SpellsMoreItems names t i ns e → Leads t i (outside (d + 1)) e (outside d)
    more_items-lead no_nodes d i e h = after-leads d i 93 e (outside d) (closed d) h
    more_items-lead (node n ns) d i e h =
        let o = outside (d + 1) in
        leads-on t i h.0 e o o (outside d) (after-leads d i 44 h.0 o refl h.1)
        (item-leads d n h.0 e h.2 (node-leads n (d + 1) h.3) (more_items-lead ns d (end n) e h.4))

    members-lead : (ms : NodeMembers) (d i e : ℕ) → SpellsMembers names t i ms e → Leads t i (outside (d + 1)) e (outside d)
    members-lead no_members d i e h = after-leads d i 125 e (outside d) (closed d) h
    members-lead (member k n ms) d i e h =
        member-leads d k n i e h.0 h.1 (node-leads n (d + 1) h.2) (more_members-lead ms d (end n) e h.3)

    more_members-lead : (ms : NodeMembers) (d i e : ℕ) → SpellsMoreMembers names t i ms e
        → Leads t i (outside (d + 1)) e (outside d)
    more_members-lead no_members d i e h = after-leads d i 125 e (outside d) (closed d) h
    more_members-lead (member k n ms) d i e h =
        let o = outside (d + 1) in
        leads-on t i h.0 e o o (outside d) (after-leads d i 44 h.0 o refl h.1)
        (member-leads d k n h.0 e h.2 h.3 (node-leads n (d + 1) h.4) (more_members-lead ms d (end n) e h.5))

  -- what follows an item or a member lies ahead
  pub items-ahead : (ns : Nodes) (i e : ℕ) → SpellsMoreItems names t i ns e → i ≤ e
  items-ahead ns i e h =
      let x = more_items-lead ns 0 i e h in omega (arith, stands-length t i e x.bytes x.stands)

  pub members-ahead : (ms : NodeMembers) (i e : ℕ) → SpellsMoreMembers names t i ms e → i ≤ e
  members-ahead ms i e h =
      let x = more_members-lead ms 0 i e h in omega (arith, stands-length t i e x.bytes x.stands)

  -- ---- the last byte of a value
  literal-ends : (l : Literal) (b e : ℕ) → Stands t b e (word_of l) → EndsSolid t e
  literal-ends literal.Null b e h = record { at = b + 1 + 1 + 1; last = 108; here = h.1.1.1.0; ends = sym h.1.1.1.1; no_white = refl }
  literal-ends literal.True b e h = record { at = b + 1 + 1 + 1; last = 101; here = h.1.1.1.0; ends = sym h.1.1.1.1; no_white = refl }
  literal-ends literal.False b e h =
      record { at = b + 1 + 1 + 1 + 1; last = 101; here = h.1.1.1.1.0; ends = sym h.1.1.1.1.1; no_white = refl }

  letter-ends : (w : List ℕ) (b e : ℕ) → Stands t b e w → Pass is_letter w → b < e → EndsSolid t e
  letter-ends [] b e h letters some = absurd (omega (arith, h))
  letter-ends (c ∷ []) b e h letters some =
      record { at = b; last = c; here = h.0; ends = sym h.1; no_white = letter-white c letters.0 }
  letter-ends (c ∷ d ∷ w) b e h letters some =
      letter-ends (d ∷ w) (b + 1) e h.1 letters.1 (omega (arith, stands-length t (b + 1) e (d ∷ w) h.1))

  after-ends : (i c e : ℕ) → is_white c ≡ false → StandsAfter t i c e → EndsSolid t e
  after-ends i c e other h = record { at = h.at; last = c; here = h.here; ends = h.ends; no_white = other }

  items-end : (ns : Nodes) (i e : ℕ) → SpellsMoreItems names t i ns e → EndsSolid t e
  items-end no_nodes i e h = after-ends i 93 e refl h
  items-end (node n ns) i e h = items-end ns (end n) e h.4

  members-end : (ms : NodeMembers) (i e : ℕ) → SpellsMoreMembers names t i ms e → EndsSolid t e
  members-end no_members i e h = after-ends i 125 e refl h
  members-end (member k n ms) i e h = members-end ms (end n) e h.5

  pub node-end : (n : Node) → Spells names t n → EndsSolid t (end n)
  node-end (grammar.literal l b e) h = literal-ends l b e h
  node-end (grammar.number b e) h =
      letter-ends (slice_range t b e) b e (stands-slice t b e h.ordered h.within)
      (number-letters names (slice_range t b e) h.text) (node-ahead names t (grammar.number b e) h)
  node-end (grammar.string ps b e) h = record { at = h.close; last = 34; here = h.closes; ends = h.ends; no_white = refl }
  node-end (grammar.array b e no_nodes) h = after-ends (b + 1) 93 e refl h.1
  node-end (grammar.array b e (node n ns)) h = items-end ns (end n) e h.1.2
  node-end (grammar.object b e no_members) h = after-ends (b + 1) 125 e refl h.1
  node-end (grammar.object b e (member k n ms)) h = members-end ms (end n) e h.1.3
