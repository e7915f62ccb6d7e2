-- What is printed of a value that was read is a document of the same value.
use Rattle.std.proofs.Common.{◌≡◌, inl, inr, ℕ, zero, suc, ◌+◌, ◌-◌, ◌≤◌, Bool, true, false, List, [], ◌∷◌, ◌++◌}
use Rattle.std.proofs.Common.{length, map, refl, sym, ap, ap₂, ◌∙◌, subst, arith, append_assoc}
use Rattle.std.specs.List.{join_with_byte}
use Rattle.std.specs.Str.{IsUtf8}
use Rattle.std.proofs.lemmas.List.{length-append, take_at, get_or_push}
use Rattle.std.proofs.lemmas.Option.{slice_get_within}
use Rattle.jiter_scan.specs.Number.{IsNumberText, number_value}
use Rattle.jiter_scan.specs.Stands.{Stands}
use Rattle.jiter_scan.proofs.Standing.{stands-length, stands-within, stands-split, stands-slice, slice-stands}
use Rattle.jiter_steps.specs.Blank.{IsBlank}
use Rattle.jiter_steps.specs.Literal.{word_of, literal_tree}
use Rattle.jiter_steps.specs.Node as grammar
use Rattle.jiter_steps.specs.Node.{Key, Node, literal, number, string, array, object, begin, end, Spells, nesting}
use Rattle.jiter_steps.specs.Node.{number_tree, value_of, values_of, nesting_limit}
use Rattle.jiter_steps.specs.Read.{Reading, done, fault}
use Rattle.jiter_scan.specs.declared.partial_mode.PartialMode.{PartialMode}
use Rattle.jiter_steps.specs.Answer.{answer_in}
use Rattle.jiter_steps.specs.Piece.{text_of}
use Rattle.jiter_steps.specs.Tree as tree
use Rattle.jiter_steps.specs.Tree.{Text, Tree, items_of, members_of}
use Rattle.jiter_steps.specs.declared.parse.Literal.{Literal}
use Rattle.jiter_steps.specs.declared.parse.Literal.TheVariants as name
use Rattle.jiter_steps.proofs.Grammar.NodeRules.{nodes_of, node_members_of}
use Rattle.jiter_steps.proofs.Grammar.Sound.{IsNodeAt, IsItemAt, IsMemberAt, items-grammar, members-grammar}
use Rattle.jiter_value.specs.Owned.{owned_tree, owned_items, owned_members, HoldSame}
use Rattle.jiter_value.specs.Parses.{reading_as}
use Rattle.jiter_print.specs.Layout.{Layout, compact, deeper, line_break, space, last_break, laid_out, items_laid_out}
use Rattle.jiter_print.specs.Layout.{members_laid_out}
use Rattle.jiter_print.specs.Print.{print_text, with_line_feed, print_of}
use Rattle.jiter_print.specs.Printed.{IsLineOf, PrintsAgain}
use Rattle.jiter_print.proofs.PrintLawNumbers.{number-again}
use Rattle.jiter_print.proofs.Laying.{line_break-blank, space-blank, last_break-blank, compact-is, same-laid}
use Rattle.jiter_print.proofs.Laying.{holds-owned}
use Rattle.jiter_print.proofs.PrintLawParts.{no_blank, stands_here, stands-blank, Wherever, Again, Anywhere, parts-again}
use Rattle.jiter_print.proofs.PrintLawStrings.{string-again}
use Rattle.jiter_print.proofs.GivenValues.{Gives}
use Rattle.jiter_print.proofs.Printable.{IsNumber, FitsWith, FitsInside, Fits, answer_in-printable}

abbrev print_item : Layout → Tree → List ℕ
print_item layout v = line_break layout ++ laid_out layout v

items-laid : (layout : Layout) (vs : List Tree) → items_laid_out layout (items_of vs) ≡ map (print_item layout) vs
items-laid layout [] = refl
items-laid layout (v ∷ vs) = ap (λ ws. print_item layout v ∷ ws) (items-laid layout vs)

abbrev print_member : Layout → Text × Tree → List ℕ
print_member layout p = print_text p.0.bytes ++ 58 ∷ (space layout ++ laid_out layout p.1)

members-laid : (layout : Layout) (ps : List (Text × Tree))
    → members_laid_out layout (members_of ps) ≡ map (λ p. line_break layout ++ print_member layout p) ps
members-laid layout [] = refl
members-laid layout (p ∷ ps) = ap (λ ws. (line_break layout ++ print_member layout p) ∷ ws) (members-laid layout ps)

-- the parts, the last line break and the closer, as the parts' lemma has them
parts-stand : (u : List ℕ) (i j closer n : ℕ) (layout : Layout) (ps qs : List (List ℕ)) → ps ≡ qs
    → Stands u i j ((join_with_byte 44 ps ++ last_break layout n) ++ closer ∷ [])
    → Stands u i j (join_with_byte 44 qs ++ (last_break layout n ++ closer ∷ []))
parts-stand u i j closer n layout ps qs same h =
    subst (Stands u i j) (append_assoc (join_with_byte 44 qs) (last_break layout n) (closer ∷ []))
    (subst (λ rs. Stands u i j ((join_with_byte 44 rs ++ last_break layout n) ++ closer ∷ [])) same h)

module _ (names : Bool) (u : List ℕ) where
  -- the same value, wherever its texts lie
  abbrev Same : Tree → Node → Type 0
  Same v n = HoldSame (value_of u n) v

  abbrev SameMember : Text × Tree → Key × Node → Type 0
  SameMember p m = (text_of m.0.pieces ≡ p.0.bytes) × Same p.1 m.1

  abbrev SameItems : List Tree → List Node → Type 0
  SameItems vs ns = owned_items (values_of u (nodes_of ns)) ≡ owned_items (items_of vs)

  abbrev SameMembers : List (Text × Tree) → List (Key × Node) → Type 0
  SameMembers ps ms = owned_members (grammar.members_of u (node_members_of ms)) ≡ owned_members (members_of ps)

  -- with so many levels left a node of the same value, and inside a container that has it
  abbrev AgainTree : ℕ → Tree → ℕ → ℕ → Type 0
  AgainTree levels v = Again (λ i n j. IsNodeAt names u i n j × (nesting n ≤ levels)) Same v

  abbrev AgainInside : ℕ → Tree → ℕ → ℕ → Type 0
  AgainInside levels v = Again (IsItemAt names u levels) Same v

  abbrev IsMember : ℕ → ℕ → Key × Node → ℕ → Type 0
  IsMember levels i m j = IsMemberAt names u levels i m.0 m.1 j

  -- a node that begins right here
  node-again : (levels : ℕ) (v : Tree) (n : Node) (w : List ℕ) → begin n ≤ length u → Stands u (begin n) (end n) w
      → Spells names u n → nesting n ≤ levels → Same v n → AgainTree levels v (begin n) (end n)
  node-again levels v n w l h spelled depth same = record {
    again = n;
    spelled = (record { spelled = spelled; begins = refl; ends = refl; within = stands-within u _ _ w l h }, depth);
    like = same;
  }

  literal-again : (levels : ℕ) (l : Literal) → Wherever u (word_of l) (AgainTree levels (literal_tree l))
  literal-again levels word i j l h = node-again levels (literal_tree word) (literal word i j) _ l h h (omega arith)
      refl

  -- a number's print is a number's text, of the same number
  number-node : (levels : ℕ) (v : Tree) → IsNumber names v → Wherever u (print_of v) (AgainTree levels v)
  number-node levels v n i j l h =
      let again = number-again names n.text n.is_text in
      let text = subst (λ x. IsNumberText names (print_of x)) n.is again.0 in
      let value = subst (λ x. number_value (print_of x) ≡ number_value n.text) n.is again.1 in
      let is = slice-stands u i j _ h in
      let long = stands-length u i j _ h in
      let within = stands-within u i j _ l h in
      node-again levels v (number i j) _ l h
      (record { ordered = omega arith; within = within; text = subst (IsNumberText names) is text })
      (omega arith) (ap owned_tree (ap number_tree (ap number_value (sym is) ∙ value) ∙ n.is))

  -- What is printed of a member is spelled by a key of the same text, a colon and what spells the value.
  member-again : (layout : Layout) (levels : ℕ) (p : Text × Tree) → IsUtf8 p.0.bytes
      → Wherever u (laid_out layout p.1) (AgainInside levels p.1)
      → Wherever u (print_member layout p) (Again (IsMember levels) SameMember p)
  member-again layout levels p s value i j l h =
      let parts = stands-split u i j (print_text p.0.bytes) (58 ∷ (space layout ++ laid_out layout p.1)) h in
      let r = string-again u i parts.0 p.0.bytes s parts.1 in
      let lt = slice_get_within u parts.0 58 parts.2.0 in
      let spaced = stands-split u (parts.0 + 1) j (space layout) (laid_out layout p.1) parts.2.1 in
      let within = stands-within u (parts.0 + 1) spaced.0 (space layout) (omega arith) spaced.1 in
      let a = value spaced.0 j within spaced.2 in
      let blanks = stands-blank u (space layout) (parts.0 + 1) spaced.0 (omega arith) (space-blank layout) spaced.1 in
      let begins = sym a.spelled.0.begins in
      record {
        again = (record { pieces = r.0; begin = i; end = parts.0 }, a.again);
        spelled = record {
          begins = refl;
          key = record {
            string = r.1;
            colon = parts.0 + 1;
            after = stands_here u parts.0 58 (parts.0 + 1) parts.2.0 refl;
            blanks = subst (IsBlank u (parts.0 + 1)) begins blanks;
          };
          value = subst (λ b. IsNodeAt names u b a.again j) begins a.spelled.0;
          limit = a.spelled.1;
        };
        like = (r.2, a.like);
      }

  -- What is printed of a value is spelled by a node of the same value, if that is so of each value inside.
  tree-again : (layout : Layout) (levels : ℕ) (Inside : Tree → Type 0)
      → ((v : Tree) → Inside v → Wherever u (laid_out (deeper layout) v) (AgainInside levels v)) → (v : Tree)
      → FitsWith names Inside v → Wherever u (laid_out layout v) (AgainTree levels v)
  tree-again layout levels Inside inside tree.null s = literal-again levels name.Null
  tree-again layout levels Inside inside (tree.boolean true) s = literal-again levels name.True
  tree-again layout levels Inside inside (tree.boolean false) s = literal-again levels name.False
  tree-again layout levels Inside inside (tree.int z) s = number-node levels (tree.int z) s
  tree-again layout levels Inside inside (tree.big x) s = number-node levels (tree.big x) s
  tree-again layout levels Inside inside (tree.float x) s = number-node levels (tree.float x) s
  tree-again layout levels Inside inside (tree.string x) s = λ i j l h.
      let r = string-again u i j x.bytes s h in
      node-again levels (tree.string x) (string r.0 i j) (print_of (tree.string x)) l h r.1 (omega arith)
      (ap (λ (y : List ℕ). tree.string (record { owned = true; bytes = y })) r.2)
  tree-again layout levels Inside inside (tree.array js) s = λ i j l h.
      let lt = slice_get_within u i 91 h.0 in
      let within = deeper layout in
      let n = length (items_laid_out within js) in
      let same = ap (items_laid_out within) s.1 ∙ items-laid within s.0 in
      let a =
      parts-again (items-grammar names u levels Anywhere (IsItemAt names u levels) (λ j n m at is. is))
      {Like = SameItems}
      refl (λ v n vs ns one more. ap₂ tree.item one more) (laid_out within) inside (line_break within)
      (last_break layout n) (line_break-blank within) (last_break-blank layout n) s.0 s.2 (i + 1) j (omega arith)
      (parts-stand u (i + 1) j 93 n layout _ _ same h.1) in
      node-again levels (tree.array js) (array i j (nodes_of a.again)) (laid_out layout (tree.array js)) l h
      (h.0, a.spelled.0)
      a.spelled.1 (ap tree.array (a.like ∙ ap owned_items (sym s.1)))
  tree-again layout levels Inside inside (tree.object ms) s = λ i j l h.
      let lt = slice_get_within u i 123 h.0 in
      let within = deeper layout in
      let n = length (members_laid_out within ms) in
      let same = ap (members_laid_out within) s.1 ∙ members-laid within s.0 in
      let a =
      parts-again (members-grammar names u levels Anywhere (IsMember levels) (λ j m e at is. is)) {Like = SameMembers}
      refl
      (λ p m ps ms one more.
      (λ d. tree.member (record { owned = true; bytes = one.0 d }) (one.1 d) (more d)))
      (print_member within) (λ p is. member-again within levels p is.0 (inside p.1 is.1)) (line_break within)
      (last_break layout n) (line_break-blank within) (last_break-blank layout n) s.0 s.2 (i + 1) j (omega arith)
      (parts-stand u (i + 1) j 125 n layout _ _ same h.1) in
      node-again levels (tree.object ms) (object i j (node_members_of a.again)) (laid_out layout (tree.object ms)) l h
      (h.0, a.spelled.0) a.spelled.1 (ap tree.object (a.like ∙ ap owned_members (sym s.1)))

  inside-again : (levels : ℕ) (layout : Layout) (v : Tree) → FitsInside names levels v
      → Wherever u (laid_out layout v) (AgainInside levels v)
  inside-again zero layout v s i j l h = absurd s
  inside-again (suc levels) layout v s i j l h =
      let a = tree-again layout levels (FitsInside names levels) (inside-again levels (deeper layout)) v s i j l h in
      record { again = a.again; spelled = (a.spelled.0, omega (arith, a.spelled.1)); like = a.like }

-- ---- the whole text
-- the print is before its line feed
print-stands : (w : List ℕ) → Stands (with_line_feed w) 0 (length w) w
print-stands w =
    let n = length-append w (10 ∷ []) in
    subst (Stands (with_line_feed w) 0 (length w)) (take_at w (10 ∷ []) (length w - 0) (omega arith))
    (stands-slice (with_line_feed w) 0 (length w) (omega arith) (omega arith))

-- nothing but the line feed is after it
feed-blank : (w : List ℕ) (e : ℕ) → e ≡ length w → IsBlank (with_line_feed w) e (length (with_line_feed w))
feed-blank w e is =
    let n = length-append w (10 ∷ []) in
    record {
      ordered = omega arith;
      within = omega arith;
      each = λ k l m. inr (inr (inl (get_or_push w 10 0 k (omega arith))));
    }

-- the text of a value that can be printed is a document of the same value, texts compared by their bytes
pub printed-again : (layout : Layout) (names : Bool) (v : Tree) → Fits names nesting_limit v
    → IsLineOf names v (with_line_feed (laid_out layout v))
printed-again layout names v fits =
    let w = laid_out layout v in
    let u = with_line_feed w in
    let inside = inside-again names u nesting_limit (deeper layout) in
    let a = tree-again names u layout nesting_limit _ inside v fits 0 (length w) (omega arith) (print-stands w) in
    let is = a.spelled.0 in (
      a.again,
      record {
        before = subst (IsBlank u 0) (sym is.begins) (no_blank u 0 (omega arith));
        spelled = is.spelled;
        after = feed-blank w (end a.again) is.ends;
        limit = a.spelled.1;
      },
      a.like,
    )

-- whatever is read, its text in a layout is a document of the same value
abbrev LaidAgain : Layout → Bool → Reading Tree → Type 0
LaidAgain layout names (done v e) = IsLineOf names v (with_line_feed (laid_out layout v))
LaidAgain layout names (fault kind i stop) = Unit {0}

read-again : (layout : Layout) (names : Bool) (x : Reading Tree) → Gives (Fits names nesting_limit) x
    → LaidAgain layout names x
read-again layout names (done v e) h = printed-again layout names v h
read-again layout names (fault kind i stop) h = tt

-- What is printed of what was read, in any mode and layout, is a document of the same value.
pub read_lays_again : (layout : Layout) (names : Bool) (mode : PartialMode) (t : List ℕ) (v : Tree) (end : ℕ)
    → answer_in names mode t ≡ done v end → IsLineOf names v (with_line_feed (laid_out layout v))
read_lays_again layout names mode t v end is =
    subst (LaidAgain layout names) is
    (read-again layout names (answer_in names mode t) (answer_in-printable names mode t))

-- A document of a value is one of each value that holds the same.
pub line-same : (names : Bool) (v w : Tree) (line : List ℕ) → HoldSame v w → IsLineOf names v line → IsLineOf names w line
line-same names v w line same is = (is.0, is.1, is.2 ∙ same)

-- So it is of a value that holds the same as what was read, wherever its texts lie.
pub held_lays_again : (layout : Layout) (names : Bool) (mode : PartialMode) (t : List ℕ) (v w : Tree) (end : ℕ)
    → answer_in names mode t ≡ done v end → HoldSame v w → IsLineOf names w (with_line_feed (laid_out layout w))
held_lays_again layout names mode t v w end is same =
    subst (λ line. IsLineOf names w (with_line_feed line)) (same-laid layout v w same)
    (line-same names v w _ same (read_lays_again layout names mode t v end is))

-- of the compact text
pub held_prints_again : (names : Bool) (mode : PartialMode) (t : List ℕ) (v w : Tree) (end : ℕ)
    → answer_in names mode t ≡ done v end → HoldSame v w → IsLineOf names w (with_line_feed (print_of w))
held_prints_again names mode t v w end is same =
    subst (λ line. IsLineOf names w (with_line_feed line)) (compact-is w)
    (held_lays_again compact names mode t v w end is same)

pub read_prints_again : (names : Bool) (mode : PartialMode) (t : List ℕ) (v : Tree) (end : ℕ)
    → answer_in names mode t ≡ done v end → IsLineOf names v (with_line_feed (print_of v))
read_prints_again names mode t v end is = held_prints_again names mode t v v end is refl

pub prints_again : (names : Bool) (mode : PartialMode) (t : List ℕ) → PrintsAgain names (answer_in names mode t)
prints_again names mode t = by (answer_in names mode t) refl where
  by : (x : Reading Tree) → answer_in names mode t ≡ x → PrintsAgain names x
  by (done v e) is = read_prints_again names mode t v e is
  by (fault kind i stop) is = tt

-- What a parse returns that owns each text: it holds the same as what is read. So `again` can be cited for it.
pub owned-read : (names : Bool) (mode : PartialMode) (t : List ℕ) (v : Tree) (end : ℕ)
    → reading_as owned_tree (answer_in names mode t) ≡ done v end
    → (read : Tree) × (answer_in names mode t ≡ done read end) × HoldSame read v
owned-read names mode t v end = by (answer_in names mode t) where
  by : (x : Reading Tree) → reading_as owned_tree x ≡ done v end → (read : Tree) × (x ≡ done read end) × HoldSame read v
  by (done w e) is =
      let made : owned_tree w ≡ v = cc in
      let ends : e ≡ end = cc in
      (w, ap (done w) ends, subst (HoldSame w) made (holds-owned w))
  by (fault kind i stop) is = absurd (cc)
