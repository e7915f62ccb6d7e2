-- An array as a container of items, of which the first byte is told.
use Rattle.std.proofs.Common.{◌≡◌, ◌∙◌, ◌⊎◌, inl, inr, ℕ, ◌+◌, ◌≤◌, List, length, refl, sym, ap, subst, arith}
use Rattle.std.proofs.lemmas.Option.{get_or_from_slice_get, none-some, slice_get_within}
use Rattle.std.specs.Prelude.{Option, Some, None, slice_get, slice_index}
use Rattle.jiter_steps.specs.Answer.{only_ends}
use Rattle.jiter_steps.specs.Blank.{past_blanks}
use Rattle.jiter_steps.specs.Literal.{start_of}
use Rattle.jiter_steps.specs.Node.{Nodes, nesting_limit}
use Rattle.jiter_steps.specs.Read.{inside_at, value_at}
use Rattle.jiter_steps.specs.Step.{array_first, array_step, step}
use Rattle.jiter_steps.specs.declared.parse.ContainerKind.TheVariants as shape
use Rattle.jiter_steps.specs.declared.parse.Start.{Start}
use Rattle.jiter_steps.specs.declared.parse.Start.TheVariants as start
use Rattle.jiter_steps.proofs.Grammar.SpelledParts.{items-parts, nodes_list}
use Rattle.jiter_steps.proofs.Reading.Instances.{only_ends-advances}
use Rattle.jiter_steps.proofs.Reading.Values.{array_of-goes, inside_at-within, value-starts}
use Rattle.jiter.specs.Caller.{Node, ReaderState, Reply, ValueType, array_read, begin, gave, item_step, next}
use Rattle.jiter.specs.Caller.{tree_type, value_of, value_place, wrong_type}
use Rattle.jiter.specs.Reader.{if_byte, part_reply}
use Rattle.jiter.proofs.Telling.{array-refused}
use Rattle.jiter.proofs.Walking.{AnItem, IsNoArray, first_byte, gave-is, gave-refused, item-meets, next-reads}
use Rattle.jiter_walk.specs.Walk.{Comes, Outcome, array_walked, items_walked, of_reader}
use Rattle.jiter_walk.proofs.Coming.{comes-next}
use Rattle.jiter_walk.proofs.Outcomes.{same-then}
use Rattle.jiter_walk.proofs.PartWalk.{Form, IsOther, Splits, parts_walked, skipped}

module _ {C S : Type 0} (after : List ℕ → Node → S → Outcome C S) (s0 : ReaderState) where
  abbrev t : List ℕ
  t = s0.text

  abbrev pub items : Form s0 Node ℕ (Unit {0}) C S
  items = record {
    kind = shape.Array;
    IsPart = AnItem;
    key = first_byte t;
    value = λ n. n;
    told = λ j. gave (Some (slice_index t j)) j;
    meets = item-meets s0;
    some = λ j p is. none-some _ (sym (gave-is (Some (slice_index t j)) None j p is).0);
    after = λ u k n s. after u n s;
    piece = λ inner j. inner j;
    is = tt;
    goes = λ levels.
        array_of-goes (only_ends s0.names) t (only_ends-advances t s0.names) (inside_at (only_ends s0.names) t levels)
        (inside_at-within (only_ends s0.names) t (only_ends-advances t s0.names) levels) (value_place s0);
    passed = λ inner j p e k unblank told inside is.
        ap inner (sym unblank ∙ ap (past_blanks t) (gave-is (Some (slice_index t j)) (Some k) j p told).1) ∙ is;
  }

  abbrev pub opened : Reply (Option ℕ)
  opened = next s0 (array_read s0)

  -- the call for the next item, from the same bytes
  pub next-item : (s : ReaderState) (r : Reply (Option ℕ)) → s.text ≡ t → item_step s ≡ r
      → part_reply (λ j. gave (Some (slice_index t j)) j) (step t (array_step t) s.position) ≡ r
  next-item s r text h =
      subst (λ u. part_reply (λ j. gave (Some (slice_index u j)) j) (step u (array_step u) s.position) ≡ r) text h

  all-items : (start : S) (ns : Nodes) → items_walked after t start ns ≡ parts_walked items start (nodes_list ns)
  all-items start Nodes.no_nodes = refl
  all-items start (Nodes.node n ns) = same-then (after t n start) (λ r. all-items r ns)

  no-array : (start : S) (n : Node) → Comes s0 n → IsNoArray n
      → array_walked after start t n ≡ Outcome.fails (of_reader (wrong_type ValueType.array (tree_type (value_of t n)))) (begin n)
      → IsOther items (array_walked after start t n) opened
  no-array start n comes other is = record {
    cause = wrong_type ValueType.array (tree_type (value_of t n));
    index = begin n;
    stop = begin n;
    refuses = array-refused s0 n (comes-next s0 n comes) other;
    fails = is;
  }

  pub array-cases : (start : S) (n : Node) → Comes s0 n
      → Splits items (array_walked after start t n) n opened start ⊎ IsOther items (array_walked after start t n) opened
  array-cases start (Node.array b e ns) comes =
      let stands = (comes-next s0 (Node.array b e ns) comes).stands in
      inl (record {
        first = b;
        last = e;
        all = nodes_list ns;
        parts = items-parts s0.names t nesting_limit ns (b + 1) e comes.spelled.1 comes.limit;
        opens = next-reads s0 (Node.array b e ns) stands (array_read s0);
        means = all-items start ns;
        ends = refl;
      })
  array-cases start (Node.literal l b e) comes = inr (no-array start (Node.literal l b e) comes tt refl)
  array-cases start (Node.number b e) comes = inr (no-array start (Node.number b e) comes tt refl)
  array-cases start (Node.string ps b e) comes = inr (no-array start (Node.string ps b e) comes tt refl)
  array-cases start (Node.object b e ms) comes = inr (no-array start (Node.object b e ms) comes tt refl)

  -- what opens as an array begins as one
  pub record Opens (o : Option ℕ) (p : ℕ) : Type 0 where
    pub starts : start_of (slice_index t (value_place s0)) ≡ start.Array
    pub within : value_place s0 + 1 ≤ length t
    pub opens : opened ≡ part_reply (λ j. gave (Some (slice_index t j)) j) (step t array_first (value_place s0 + 1))

  pub array-opens : (o : Option ℕ) (p : ℕ) → opened ≡ gave o p → Opens o p
  array-opens o p is = by (slice_get t (value_place s0)) refl is where
    start-is : (c : ℕ) → slice_get t (value_place s0) ≡ Some c → (b : Start) → start_of c ≡ b
        → array_read s0 (value_place s0) b ≡ gave o p → Opens o p
    start-is c there start.Array begins is = record {
      starts = ap start_of (get_or_from_slice_get t (value_place s0) c 0 there) ∙ begins;
      within = omega (arith, slice_get_within t (value_place s0) c there);
      opens =
          ap (λ o. if_byte (value_place s0) o (λ c. array_read s0 (value_place s0) (start_of c))) there
          ∙ ap (array_read s0 (value_place s0)) begins;
    }
    start-is c there b begins is = absurd (gave-refused (sym is))

    by : (x : Option ℕ) → slice_get t (value_place s0) ≡ x
        → if_byte (value_place s0) x (λ c. array_read s0 (value_place s0) (start_of c)) ≡ gave o p → Opens o p
    by None there is = absurd (gave-refused (sym is))
    by (Some c) there is = start-is c there (start_of c) refl is

  pub array-skipped : (levels : ℕ) → start_of (slice_index t (value_place s0)) ≡ start.Array
      → value_at (only_ends s0.names) t levels (value_place s0) ≡ skipped items levels
  array-skipped levels starts = value-starts (only_ends s0.names) t levels (value_place s0) start.Array starts
