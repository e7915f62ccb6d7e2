-- An item that is read alone is a document with the value that it has in its array.
use Rattle.std.proofs.Common.{◌≡◌, ℕ, zero, suc, ◌+◌, ◌-◌, ◌<◌, ◌≤◌, Bool, List, [], ◌∷◌, length}
use Rattle.std.proofs.Common.{sym, ap, ◌∙◌, arith}
use Rattle.std.specs.Prelude.{slice_get, slice_range}
use Rattle.jiter_scan.specs.Stands.{Stands}
use Rattle.jiter_scan.proofs.Standing.{stands-length, stands-slice}
use Rattle.jiter_steps.specs.Blank.{IsBlank}
use Rattle.jiter_steps.specs.Node.{IsDocument, Node, Nodes, no_nodes, node, begin, end, Spells, SpellsItems, SpellsMoreItems}
use Rattle.jiter_steps.specs.Node.{nesting, nesting_limit, nesting_of, value_of, values_of}
use Rattle.jiter_steps.proofs.Grammar.SpelledParts.{node-ahead, node-within}
use Rattle.json_lines.specs.ItemsLaw.{AreDocuments, sources_of}
use Rattle.json_lines.proofs.ItemsLaw.Moved.{IsMoved, begin-moved, end-moved, moved, nesting-moved, node-moves}

-- a byte of bytes that are there
pub stands-get : (t w : List ℕ) (b e k : ℕ) → Stands t b e w → k < length w → slice_get t (b + k) ≡ slice_get w k
stands-get t [] b e k h lt = absurd (omega arith)
stands-get t (c ∷ w) b e zero h lt = let same : b + 0 ≡ b = omega arith in ap (slice_get t) same ∙ h.0
stands-get t (c ∷ w) b e (suc k) h lt =
    let same : b + suc k ≡ b + 1 + k = omega arith in
    ap (slice_get t) same ∙ stands-get t w (b + 1) e k h.1 (omega arith)

no_blanks : (t : List ℕ) (i j : ℕ) → i ≡ j → j ≤ length t → IsBlank t i j
no_blanks t i j same h = record { ordered = omega arith; within = h; each = λ k l u. absurd (omega arith) }

module _ (names : Bool) (t : List ℕ) (n : Node) (h : Spells names t n) where
  abbrev source : List ℕ
  source = slice_range t (begin n) (end n)

  abbrev back : ℕ → ℕ
  back i = i - begin n

  source-long : end n ≡ begin n + length source
  source-long =
      stands-length t (begin n) (end n) source
      (stands-slice t (begin n) (end n) (omega (arith, node-ahead names t n h)) (node-within names t n h))

  moved-back : IsMoved t source (begin n) (end n) back
  moved-back =
      let stands = stands-slice t (begin n) (end n) (omega (arith, node-ahead names t n h)) (node-within names t n h) in
      let long = source-long in
      record {
        same = λ i c l lt here.
            let place : begin n + (i - begin n) ≡ i = omega arith in
            sym (stands-get t source (begin n) (end n) (i - begin n) stands (omega arith))
            ∙ ap (slice_get t) place ∙ here;
        next = λ i l lt. omega arith;
        within = λ i l le. omega arith;
      }

  pub alone : nesting n ≤ nesting_limit → (m : Node) × IsDocument names source m × (value_of source m ≡ value_of t n)
  alone limit =
      let x = node-moves t source (begin n) (end n) back moved-back names n (omega arith) (omega arith) h in
      let long = source-long in
      let first : 0 ≡ begin (moved back n) = omega (arith, begin-moved back n) in
      let last : end (moved back n) ≡ length source = omega (arith, end-moved back n) in (
        moved back n,
        record {
          before = no_blanks source 0 (begin (moved back n)) first (omega arith);
          spelled = x.0;
          after = no_blanks source (end (moved back n)) (length source) last (omega arith);
          limit = omega (arith, nesting-moved back n);
        },
        x.1,
      )

module _ (names : Bool) (t : List ℕ) where
  more_items-alone : (ns : Nodes) (i e : ℕ) → SpellsMoreItems names t i ns e → nesting_of ns ≤ nesting_limit
      → AreDocuments names (sources_of t ns) (values_of t ns)
  more_items-alone no_nodes i e h limit = tt
  more_items-alone (node n ns) i e h limit =
      (alone names t n h.3 (omega arith), more_items-alone ns (end n) e h.4 (omega arith))

  pub items-alone : (ns : Nodes) (i e : ℕ) → SpellsItems names t i ns e → nesting_of ns ≤ nesting_limit
      → AreDocuments names (sources_of t ns) (values_of t ns)
  items-alone no_nodes i e h limit = tt
  items-alone (node n ns) i e h limit =
      (alone names t n h.1 (omega arith), more_items-alone ns (end n) e h.2 (omega arith))
