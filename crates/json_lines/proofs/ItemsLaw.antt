-- The parts of an array are its items.
pub mod Alone
pub mod Arrays
pub mod Growing
pub mod Letters
pub mod Moved
pub mod Passing
pub mod Strings
pub mod Trimmed
pub mod Values
use Rattle.std.proofs.Common.{◌≡◌, ℕ, ◌+◌, ◌-◌, Bool, true, false, List, [], ◌∷◌, ◌++◌, append-nil, drop, length, length-drop}
use Rattle.std.proofs.Common.{refl, sym, ap, ap₂, ◌∙◌, subst, arith}
use Rattle.std.specs.Prelude.{codes, slice_range}
use Rattle.std.proofs.lemmas.Bool.Decides.{nat_tests}
use Rattle.std.proofs.lemmas.List.{take_all}
use Rattle.jiter_scan.specs.Scan.{Pass}
use Rattle.jiter_scan.specs.Stands.{Stands}
use Rattle.jiter_scan.proofs.Standing.{slice-one, slice_range-split, stands-append, stands-length, stands-slice}
use Rattle.jiter_steps.specs.Blank.{IsBlank, is_blank}
use Rattle.jiter_steps.specs.Tree.{Items}
use Rattle.jiter_steps.specs.Tree as tree
use Rattle.jiter_steps.specs.Node.{IsDocument, Node, Nodes, no_nodes, node, begin, end, StandsAfter, Spells, SpellsItems, SpellsMoreItems, value_of}
use Rattle.jiter_steps.proofs.Grammar.SpelledParts.{begins-value, node-ahead, node-within}
use Rattle.json_lines.specs.Items.{Part, Pieces, after_array, after_blanks, blanks, bracket, comma, is_white, item, item_or, last_of, outside}
use Rattle.json_lines.specs.Items.{parts, parts_at, parts_of, pieces, trim_end, with_byte, wrong}
use Rattle.json_lines.specs.ItemsLaw.{AreDocuments, AreItems, IsItems, IsItemwise, IsOfArraysOnly, sources_of}
use Rattle.json_lines.proofs.ItemsLaw.Alone.{items-alone}
use Rattle.json_lines.proofs.ItemsLaw.Arrays.{only-arrays}
use Rattle.json_lines.proofs.ItemsLaw.Passing.{Passes, leads-range, next-drop, passes-append, rest-cut, stands-drop, with_bytes}
use Rattle.json_lines.proofs.ItemsLaw.Trimmed.{after-all, after-before, blanks-before, trim-after}
use Rattle.json_lines.proofs.ItemsLaw.Values.{blanks-are, blanks-pass, node-end, node-leads}

with-comma : (w bs : List ℕ) (more : Pieces) → with_bytes w (comma bs more) ≡ comma (w ++ bs) more
with-comma [] bs more = refl
with-comma (b ∷ w) bs more = ap (with_byte b) (with-comma w bs more)

with-bracket : (w bs rest : List ℕ) → with_bytes w (bracket bs rest) ≡ bracket (w ++ bs) rest
with-bracket [] bs rest = refl
with-bracket (b ∷ w) bs rest = ap (with_byte b) (with-bracket w bs rest)

-- a text that begins and ends with a byte that is no whitespace
record IsSolid (w : List ℕ) : Type 0 where
  first : ℕ
  others : List ℕ
  front : List ℕ
  last : ℕ
  begins : w ≡ first ∷ others
  ends : w ≡ front ++ (last ∷ [])
  first_solid : is_white first ≡ false
  last_solid : is_white last ≡ false

-- whitespace, such a text, and whitespace: the text is the item
module _ (ws w vs : List ℕ) (before : Pass is_white ws) (solid : IsSolid w) (after : Pass is_white vs) where
  piece-begins : ws ++ (w ++ vs) ≡ ws ++ (solid.first ∷ (solid.others ++ vs))
  piece-begins = ap (λ x. ws ++ (x ++ vs)) solid.begins

  piece-blanks : blanks (ws ++ (w ++ vs)) ≡ length ws
  piece-blanks =
      ap blanks piece-begins ∙ blanks-before ws solid.first (solid.others ++ vs) before solid.first_solid

  piece-left : after_blanks (ws ++ (w ++ vs)) ≡ solid.first ∷ (solid.others ++ vs)
  piece-left =
      ap after_blanks piece-begins ∙ after-before ws solid.first (solid.others ++ vs) before solid.first_solid

  piece-trimmed : trim_end (solid.first ∷ (solid.others ++ vs)) ≡ w
  piece-trimmed =
      ap (λ x. trim_end (x ++ vs)) (sym solid.begins ∙ solid.ends)
      ∙ trim-after solid.front solid.last vs solid.last_solid after ∙ sym solid.ends

  module _ (i b end : ℕ) (at : i + length ws ≡ b) where
    index-is : i + blanks (ws ++ (w ++ vs)) ≡ b
    index-is = ap (λ n. i + n) piece-blanks ∙ at

    piece-item : (cause : List ℕ)
        → item_or (i + blanks (ws ++ (w ++ vs))) (after_blanks (ws ++ (w ++ vs))) cause end ≡ item b w
    piece-item cause =
        ap₂ (λ j x. item_or j x cause end) index-is piece-left ∙ ap (item b) piece-trimmed

    piece-last : (first : Bool)
        → last_of first (i + blanks (ws ++ (w ++ vs))) (after_blanks (ws ++ (w ++ vs))) end ≡ item b w ∷ []
    piece-last first =
        ap₂ (λ j x. last_of first j x end) index-is piece-left ∙ ap (λ x. item b x ∷ []) piece-trimmed

no_blank-white : (c : ℕ) → is_blank c ≡ false → is_white c ≡ false
no_blank-white c h = grind (arith, nat_tests, h)

module _ (names : Bool) (t : List ℕ) where
  node-solid : (n : Node) → Spells names t n → IsSolid (slice_range t (begin n) (end n))
  node-solid n h =
      let first = begins-value names t n h in
      let last = node-end names t n h in
      let ahead = node-ahead names t n h in
      record {
        first = first.byte;
        others = slice_range t (begin n + 1) (end n);
        front = slice_range t (begin n) last.at;
        last = last.last;
        begins = slice_range-split t (begin n) (begin n + 1) (omega arith) (end n) (omega (arith, ahead))
            ∙ ap (λ x. x ++ slice_range t (begin n + 1) (end n)) (slice-one t (begin n) first.byte first.here);
        ends = ap (slice_range t (begin n)) last.ends
            ∙ slice_range-split t (begin n) last.at (omega (arith, ahead, last.ends)) (last.at + 1) (omega arith)
            ∙ ap (λ x. slice_range t (begin n) last.at ++ x) (slice-one t last.at last.last last.here);
        first_solid = no_blank-white first.byte first.no_blank;
        last_solid = last.no_white;
      }

  -- the bytes of an item with the whitespace around it
  abbrev around : ℕ → Node → ℕ → List ℕ
  around i n k = slice_range t i (begin n) ++ (slice_range t (begin n) (end n) ++ slice_range t (end n) k)

  module _ (i : ℕ) (n : Node) (k : ℕ) (before : IsBlank t i (begin n)) (h : Spells names t n) (after : IsBlank t (end n) k)
    where
      around-stands : Stands t i k (around i n k)
      around-stands =
          let b = begin n in
          let e = end n in
          let inside = node-within names t n h in
          let source = stands-slice t b e (omega (arith, node-ahead names t n h)) inside in
          stands-append t i b k _ _ (stands-slice t i b before.ordered before.within)
          (stands-append t b e k _ _ source (stands-slice t e k after.ordered after.within))

      around-passes : Passes (outside 0) (around i n k) (outside 0)
      around-passes =
          let o = outside 0 in
          let value = leads-range t (begin n) (end n) o o (node-leads names t n 0 h) in
          passes-append o o o _ _ (blanks-pass t 0 i (begin n) before)
          (passes-append o o o _ _ value (blanks-pass t 0 (end n) k after))

      around-long : k ≡ i + length (around i n k)
      around-long = stands-length t i k (around i n k) around-stands

      around-cut : pieces (outside 0) (drop i t) ≡ with_bytes (around i n k) (pieces (outside 0) (drop k t))
      around-cut = rest-cut t i k (outside 0) (outside 0) (around i n k) around-stands around-passes

      around-at : i + length (slice_range t i (begin n)) ≡ begin n
      around-at = sym (stands-length t i (begin n) (slice_range t i (begin n)) (stands-slice t i (begin n) before.ordered before.within))

      around-item : (cause : List ℕ)
          → item_or (i + blanks (around i n k)) (after_blanks (around i n k)) cause (i + length (around i n k))
          ≡ item (begin n) (slice_range t (begin n) (end n))
      around-item =
          piece-item (slice_range t i (begin n)) (slice_range t (begin n) (end n)) (slice_range t (end n) k)
          (blanks-are t i (begin n) before) (node-solid n h) (blanks-are t (end n) k after) i (begin n)
          (i + length (around i n k)) around-at

      around-last : (first : Bool)
          → last_of first (i + blanks (around i n k)) (after_blanks (around i n k)) (i + length (around i n k))
          ≡ item (begin n) (slice_range t (begin n) (end n)) ∷ []
      around-last =
          piece-last (slice_range t i (begin n)) (slice_range t (begin n) (end n)) (slice_range t (end n) k)
          (blanks-are t i (begin n) before) (node-solid n h) (blanks-are t (end n) k after) i (begin n)
          (i + length (around i n k)) around-at

  -- what follows the array
  abbrev rest : ℕ → List Part
  rest e = after_array (e + blanks (drop e t)) (after_blanks (drop e t))

  items-cut : (ns : Nodes) (n : Node) (first : Bool) (i e : ℕ) → IsBlank t i (begin n) → Spells names t n
      → SpellsMoreItems names t (end n) ns e
      → parts_of i first (pieces (outside 0) (drop i t)) ≡ sources_of t (node n ns) ++ rest e
  items-cut no_nodes n first i e before h more =
      let w = around i n more.at in
      let long = around-long i n more.at before h more.blanks in
      let is : pieces (outside 0) (drop i t) ≡ bracket w (drop e t) =
      around-cut i n more.at before h more.blanks
      ∙ ap (λ x. with_bytes w (pieces (outside 0) x)) (next-drop t more.at 93 more.here)
      ∙ with-bracket w [] (drop (more.at + 1) t) ∙ ap₂ bracket (append-nil w) (ap (λ k. drop k t) (sym more.ends)) in
      let place : i + length w + 1 ≡ e = omega (arith, long, more.ends) in
      ap (parts_of i first) is
      ∙ ap₂ (λ x y. x ++ y) (around-last i n more.at before h more.blanks first)
      (ap (λ k. after_array (k + blanks (drop e t)) (after_blanks (drop e t))) place)
  items-cut (node m ns) n first i e before h more =
      let w = around i n more.1.at in
      let c = more.0 in
      let long = around-long i n more.1.at before h more.1.blanks in
      let is : pieces (outside 0) (drop i t) ≡ comma w (pieces (outside 0) (drop c t)) =
      around-cut i n more.1.at before h more.1.blanks
      ∙ ap (λ x. with_bytes w (pieces (outside 0) x)) (next-drop t more.1.at 44 more.1.here)
      ∙ with-comma w [] (pieces (outside 0) (drop (more.1.at + 1) t))
      ∙ ap₂ comma (append-nil w) (ap (λ k. pieces (outside 0) (drop k t)) (sym more.1.ends)) in
      let place : i + length w + 1 ≡ c = omega (arith, long, more.1.ends) in
      ap (parts_of i first) is
      ∙ ap₂ (λ x y. x ∷ y) (around-item i n more.1.at before h more.1.blanks (codes "expected value"))
      (ap (λ k. parts_of k false (pieces (outside 0) (drop c t))) place ∙ items-cut ns m false c e more.2 more.3 more.4)

  -- whitespace alone leads to the bracket
  none-cut : (i e : ℕ) → StandsAfter t i 93 e → parts_of i true (pieces (outside 0) (drop i t)) ≡ rest e
  none-cut i e h =
      let w = slice_range t i h.at in
      let white = blanks-are t i h.at h.blanks in
      let stands = stands-slice t i h.at h.blanks.ordered h.blanks.within in
      let long = stands-length t i h.at w stands in
      let is : pieces (outside 0) (drop i t) ≡ bracket w (drop e t) =
      rest-cut t i h.at (outside 0) (outside 0) w stands (blanks-pass t 0 i h.at h.blanks)
      ∙ ap (λ x. with_bytes w (pieces (outside 0) x)) (next-drop t h.at 93 h.here)
      ∙ with-bracket w [] (drop (h.at + 1) t) ∙ ap₂ bracket (append-nil w) (ap (λ k. drop k t) (sym h.ends)) in
      let place : i + length w + 1 ≡ e = omega (arith, long, h.ends) in
      ap (parts_of i true) is
      ∙ ap₂ (λ x y. x ++ y) (ap (λ x. last_of true (i + blanks w) x (i + length w)) (after-all w white))
      (ap (λ k. after_array (k + blanks (drop e t)) (after_blanks (drop e t))) place)

  array-cut : (ns : Nodes) (i e : ℕ) → SpellsItems names t i ns e
      → parts_of i true (pieces (outside 0) (drop i t)) ≡ sources_of t ns ++ rest e
  array-cut no_nodes i e h = none-cut i e h
  array-cut (node n ns) i e h = items-cut ns n true i e h.0 h.1 h.2

  -- nothing follows it
  rest-none : (e : ℕ) → IsBlank t e (length t) → rest e ≡ []
  rest-none e h =
      let all : slice_range t e (length t) ≡ drop e t = take_all (length t - e) (drop e t) (omega (arith, length-drop e t)) in
      ap (after_array (e + blanks (drop e t)))
      (ap after_blanks (sym all) ∙ after-all (slice_range t e (length t)) (blanks-are t e (length t) h))

-- however deep they nest
pub array-parts : (names : Bool) (t : List ℕ) (b e : ℕ) (ns : Nodes) → IsBlank t 0 b → Spells names t (Node.array b e ns)
    → IsBlank t e (length t) → parts t ≡ sources_of t ns
array-parts names t b e ns before h after =
    let ws = slice_range t 0 b in
    let white = blanks-are t 0 b before in
    let stands = stands-slice t 0 b before.ordered before.within in
    let long = stands-length t 0 b ws stands in
    let tail = drop (b + 1) t in
    let is : t ≡ ws ++ (91 ∷ tail) = stands-drop t 0 b ws stands ∙ ap (λ x. ws ++ x) (next-drop t b 91 h.0) in
    let count : blanks t ≡ b = ap blanks is ∙ blanks-before ws 91 tail white refl ∙ omega (arith, long) in
    let left : after_blanks t ≡ 91 ∷ tail = ap after_blanks is ∙ after-before ws 91 tail white refl in
    ap₂ parts_at count left ∙ array-cut names t ns (b + 1) e h.1
    ∙ ap (λ x. sources_of t ns ++ x) (rest-none names t e after) ∙ append-nil (sources_of t ns)

pub items-law : IsItems
items-law names t b e ns h = array-parts names t b e ns h.before h.spelled h.after

-- and of nothing else there are only items that are documents
pub itemwise : IsItemwise
itemwise names t values = (
  λ x. subst (λ ps. AreDocuments names ps values) (sym (array-parts names t x.begin x.end x.nodes x.before x.spelled x.after))
      (subst (AreDocuments names (sources_of t x.nodes)) x.are (items-alone names t x.nodes (x.begin + 1) x.end x.spelled.1 x.limit)),
  only-arrays names t values,
)

module _ (Such : List ℕ → Type 0) (names : Bool)
    (documents : (bytes : List ℕ) → Such bytes → (n : Node) × IsDocument names bytes n) where
  -- the values of such items
  all-documents : (ps : List Part) → AreItems Such ps → (values : Items) × AreDocuments names ps values
  all-documents [] h = (tree.no_items, tt)
  all-documents (item i bytes ∷ ps) h =
      let n = documents bytes h.0 in
      let more = all-documents ps h.1 in
      (tree.item (value_of bytes n.0) more.0, ((n.0, n.1, refl), more.1))
  all-documents (wrong i cause kept ∷ ps) h = absurd h

pub of-arrays-only : IsOfArraysOnly
of-arrays-only Such names t documents h =
    let x = all-documents Such names documents (parts t) h in (x.0, only-arrays names t x.0 x.1)
