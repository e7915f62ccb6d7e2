-- A complete text, by the grammar and by reading.
use Rattle.jiter_steps.proofs.Words.{◌≡◌, ℕ, ◌+◌, Bool, List, [], ◌∷◌, length, map, refl, sym, ap, ◌∙◌, subst, arith}
use Rattle.jiter_steps.proofs.Words.{◌≤◌, slice_get, Option, Some, None, chars, slice_get_within, slice_get_past}
use Rattle.jiter_steps.proofs.Words.{number_at, Scanned, taken, failed, seen_as, whole_trees, answer, past_blanks}
use Rattle.jiter_steps.proofs.Words.{IsBlank, literal_at, literal_tree, Key, Node, begin, end, text_at, number_tree}
use Rattle.jiter_steps.proofs.Words.{value_of, values_of, nesting_limit, IsDocument, Spells, nesting, Reading, done}
use Rattle.jiter_steps.proofs.Words.{fault, value_at, if_last, to_end, if_begun, prefix_answer, whole_answer, whole}
use Rattle.jiter_steps.proofs.Words.{string_at, Text, Tree, items_of, number_at-sound}
use Rattle.jiter_steps.specs.Node as grammar
use Rattle.jiter_steps.specs.Tree as tree
use Rattle.jiter_steps.proofs.Grammar.Blanks.{past_blanks-bound, blank-passed, blank-to_end, passed-blank, at_length}
use Rattle.jiter_steps.proofs.Grammar.SpelledParts.{begins-value, ends-end}
use Rattle.jiter_steps.proofs.Reading.Fused.{mapped, scanned_as, pairs, AllTold, Leads, whole_answer-mapped}
use Rattle.jiter_steps.proofs.Grammar.NodeRules.{nodes, nodes_of, node_members_of, key_of, pieces_from}
use Rattle.jiter_steps.proofs.Grammar.StringLaws.{string_at-sound}
use Rattle.jiter_steps.proofs.Grammar.ScalarLaws.{EndsNumber}
use Rattle.jiter_steps.proofs.Grammar.Sound.{Sound, value_at-sound}
use Rattle.jiter_steps.proofs.Cut.PrefixNodes.{node-read}
use Rattle.jiter_steps.proofs.Cut.ReadPrefixes.{node-quiet}

-- What is spelled so is read.
pub value_at-complete : (names : Bool) (t : List ℕ) (n : Node) (levels : ℕ) → Spells names t n → nesting n ≤ levels
    → EndsNumber t (end n)
    → value_at (nodes names) t levels (begin n) ≡ done n (end n)
value_at-complete names t n levels h d q = node-read names t n levels h d (node-quiet t n q)

-- a key's string
abbrev pub key_text : List ℕ → Key → Text
key_text t k = text_at t k.pieces k.begin k.end

pub values-of : (t : List ℕ) (ns : List Node) → values_of t (nodes_of ns) ≡ items_of (map (value_of t) ns)
values-of t [] = refl
values-of t (n ∷ ns) = ap (tree.item (value_of t n)) (values-of t ns)

pub members-of : (t : List ℕ) (ms : List (Key × Node))
    → grammar.members_of t (node_members_of ms) ≡ tree.members_of (pairs (key_text t) (value_of t) ms)
members-of t [] = refl
members-of t (m ∷ ms) = ap (tree.member (key_text t m.0) (value_of t m.1)) (members-of t ms)

module _ (names : Bool) (t : List ℕ) where
  -- the node read fits the text
  abbrev pub Fits : Reading Node → Type 0
  Fits (done n e) = IsDocument names t n × (end n ≡ e)
  Fits (fault k i stop) = Unit {0}

  -- a value where some node fits, and then the value of that node alone; an error where none fits
  abbrev pub IsRead : Reading Tree → Type 0
  IsRead (done v e) =
      (n : Node) × IsDocument names t n × (value_of t n ≡ v) × ((m : Node) → IsDocument names t m → m ≡ n)
  IsRead (fault k i stop) = (n : Node) → IsDocument names t n → ⊥

module _ (names : Bool) (t : List ℕ) where
  -- the value of the node read is the value read
  scalar-leads : {X : Type 0} (f : X → ℕ → Node) (g : X → ℕ → Tree) (x : Scanned X)
      → ((s : X) (e : ℕ) → x ≡ taken s e → value_of t (f s e) ≡ g s e)
      → scanned_as (value_of t) (seen_as f x) ≡ seen_as g x
  scalar-leads f g (taken s e) all = ap (λ v. taken v e) (all s e refl)
  scalar-leads f g (failed k j) all = refl

  key-leads : (i : ℕ) → slice_get t i ≡ Some 34 → (x : Scanned Text) → string_at whole t i ≡ x
      → scanned_as (key_text t) (seen_as (key_of t i) x) ≡ x
  key-leads i quote (taken s e) is = ap (λ m. taken m e) (sym (string_at-sound t i e s quote is).1)
  key-leads i quote (failed k j) is = refl

  pub nodes-lead : Leads AllTold (nodes names) (whole_trees names) (key_text t) (value_of t) t
  nodes-lead = record {
    forgives = λ k. refl;
    told = λ k h. tt;
    literal = λ l i h s told.
        scalar-leads (λ u e. grammar.literal l i e) (λ u e. literal_tree l) (literal_at t l i) (λ u e is. refl);
    number = λ i h s told.
        scalar-leads (λ n e. grammar.number i e) (λ n e. number_tree n) (number_at names t i)
        (λ n e is. ap number_tree (sym (number_at-sound names t i n e is).1));
    text = λ i quote told.
        scalar-leads (λ s e. grammar.string (pieces_from t (i + 1) (chars s.bytes)) i e) (λ s e. tree.string s)
        (string_at whole t i) (λ s e is. ap tree.string (sym (string_at-sound t i e s quote is).1));
    key = λ i quote told. key-leads i quote (string_at whole t i) refl;
    refuses = λ members i quote. refl;
    array = λ b e items. ap tree.array (values-of t items);
    object = λ b e members. ap tree.object (members-of t members);
  }

  pub answer-value : mapped (value_of t) (whole_answer (nodes names) t) ≡ answer names t
  answer-value = whole_answer-mapped (nodes names) (whole_trees names) (key_text t) (value_of t) t nodes-lead

  if_last-fits : (i : ℕ) → IsBlank t 0 i → (n : Node) (e : ℕ) → Sound names t nesting_limit i (done n e)
      → (o : Option ℕ)
      → slice_get t (past_blanks t e) ≡ o → Fits names t (if_last n e (past_blanks t e) o)
  if_last-fits i before n e is None at =
      let last = at_length t (past_blanks t e) (past_blanks-bound t e is.0.within) at in
      let after = subst (IsBlank t e) last (passed-blank t e is.0.within) in (
        record {
          before = subst (IsBlank t 0) (sym is.0.begins) before;
          spelled = is.0.spelled;
          after = subst (λ k. IsBlank t k (length t)) (sym is.0.ends) after;
          limit = is.1;
        },
        is.0.ends,
      )
  if_last-fits i before n e is (Some c) at = tt

  to_end-fits : (i : ℕ) → IsBlank t 0 i → (x : Reading Node) → Sound names t nesting_limit i x
      → Fits names t (to_end t x)
  to_end-fits i before (done n e) is = if_last-fits i before n e is (slice_get t (past_blanks t e)) refl
  to_end-fits i before (fault k x stop) is = tt

  if_begun-fits : (i : ℕ) → IsBlank t 0 i → (o : Option ℕ) → slice_get t i ≡ o
      → Fits names t (to_end t (if_begun (nodes names) t i o))
  if_begun-fits i before None e = tt
  if_begun-fits i before (Some c) e =
      to_end-fits i before _ (value_at-sound names t nesting_limit i (slice_get_within t i c e))

  -- What is read is a document.
  pub answer-sound : Fits names t (whole_answer (nodes names) t)
  unfolding whole_answer prefix_answer
  answer-sound = if_begun-fits (past_blanks t 0) (passed-blank t 0 (omega arith)) (slice_get t (past_blanks t 0)) refl

  -- the value of a document, whatever follows it
  pub prefix-complete : (n : Node) → IsDocument names t n → prefix_answer (nodes names) t ≡ done n (end n)
  unfolding prefix_answer
  prefix-complete n d =
      let first = begins-value names t n d.spelled in
      let start = blank-passed t 0 (begin n) first.byte d.before first.here first.no_blank in
      rw (start, first.here) (value_at-complete names t n nesting_limit d.spelled d.limit (ends-end t (end n) d.after))

  -- A document is read.
  pub answer-complete : (n : Node) → IsDocument names t n → whole_answer (nodes names) t ≡ done n (end n)
  unfolding whole_answer
  answer-complete n d =
      rw (prefix-complete n d, blank-to_end t (end n) d.after, slice_get_past t (length t) (omega arith))

  -- At most one node fits a text.
  pub one_node : (n m : Node) → IsDocument names t n → IsDocument names t m → n ≡ m
  one_node n m d e = let same = sym (answer-complete n d) ∙ answer-complete m e in cc

  read-mapped : (x : Reading Node) → Fits names t x → whole_answer (nodes names) t ≡ x
      → IsRead names t (mapped (value_of t) x)
  read-mapped (done n e) d is = (n, d.0, refl, λ m other. one_node m n other d.0)
  read-mapped (fault k i stop) d is = λ n doc. let clash = sym is ∙ answer-complete n doc in cc

  -- A value is returned exactly where some node fits.
  pub answer-is : IsRead names t (answer names t)
  answer-is = subst (IsRead names t) answer-value (read-mapped (whole_answer (nodes names) t) answer-sound refl)

  -- A document's value is returned, with its end.
  pub answer-of : (n : Node) → IsDocument names t n → answer names t ≡ done (value_of t n) (end n)
  answer-of n d = sym answer-value ∙ ap (mapped (value_of t)) (answer-complete n d)
