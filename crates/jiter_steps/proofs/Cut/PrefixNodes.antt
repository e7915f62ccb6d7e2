-- A node that a text spells is read as it is: it ends in the prefix that is the whole text.
use Rattle.jiter_steps.proofs.Words.{◌≡◌, ℕ, ◌+◌, ◌≤◌, Bool, List, length, take, take_all, refl, ap, ◌∙◌, subst, arith}
use Rattle.jiter_steps.proofs.Words.{chars, Number, Scanned, Span, seen_as, word_of, Node, begin, end, Spells, nesting}
use Rattle.jiter_steps.proofs.Words.{Reading, done, scalar_at, value_at, Text, Literal, word_at-complete}
use Rattle.std.proofs.lemmas.List.{map-id}
use Rattle.jiter_steps.specs.Node as grammar
use Rattle.jiter_steps.proofs.Grammar.SpelledParts.{begin-within, node-within, nodes_list, members_list, nodes-listed}
use Rattle.jiter_steps.proofs.Grammar.SpelledParts.{members-listed, key-taken}
use Rattle.jiter_steps.proofs.Cut.DocumentPrefixes.{prefix-stands}
use Rattle.jiter_steps.proofs.Reading.Instances.{nodes-advances}
use Rattle.jiter_steps.proofs.Grammar.NodeRules.{nodes, nodes_of, node_members_of, key_of, pieces_from}
use Rattle.jiter_steps.proofs.Cut.NumberCutLaws.{number_at-before}
use Rattle.jiter_steps.proofs.Cut.ReadPrefixes.{CutRules, IsQuiet, value_at-prefix}
use Rattle.jiter_steps.proofs.Grammar.StringLaws.{string_at-complete, pieces-again}
use Rattle.jiter_steps.proofs.Cut.StringCut.{string-still, whole-cut}

module _ (names : Bool) (t : List ℕ) where
  abbrev k : ℕ
  k = length t

  abbrev within : k ≤ length t
  within = omega arith

  abbrev prefix : List ℕ
  prefix = take k t

  -- nothing is cut
  abbrev IsCut : Node → Reading Node → Type 0
  IsCut n x = Unit {0}

  abbrev LiteralOf : Literal → ℕ → Span → Reading Node
  LiteralOf l b x = scalar_at b (seen_as (λ v e. grammar.literal l b e) x)

  abbrev NumberOf : ℕ → Scanned Number → Reading Node
  NumberOf b x = scalar_at b (seen_as (λ n e. grammar.number b e) x)

  abbrev StringOf : ℕ → Scanned Text → Reading Node
  StringOf b x = scalar_at b (seen_as (λ s e. grammar.string (pieces_from prefix (b + 1) (chars s.bytes)) b e) x)

  nodes-whole : CutRules (nodes names) names t k within (λ key. key) (λ n. n) IsCut
  nodes-whole = record {
    literal = λ l b e h lt. (
      λ le.
          ap (LiteralOf l b)
          (word_at-complete prefix (word_of l) b e (prefix-stands t k within b e (word_of l) h le)),
      λ gt. tt,
    );
    number = λ b e h q lt. (λ le. ap (NumberOf b) (number_at-before names t k within b e h q le), λ gt. tt);
    text = λ ps b e h lt. (
      λ le. let g = string-still t k within b e ps h le in
          ap (StringOf b) (string_at-complete prefix b e ps g)
          ∙ ap (λ x. done (grammar.string x b e) e) (pieces-again prefix b e ps g),
      λ gt. tt,
    );
    key = λ key h le. key-taken names prefix key (string-still t k within key.begin key.end key.pieces h le);
    key-cut = λ key h lt gt.
        ap (seen_as (key_of prefix key.begin)) (whole-cut t k within key.begin key.end key.pieces h lt gt).0;
    free = λ members i. refl;
    array = λ b e ns.
        ap (λ l. grammar.array b e (nodes_of l)) (map-id (nodes_list ns)) ∙ ap (grammar.array b e) (nodes-listed ns);
    object = λ b e ms.
        ap (λ l. grammar.object b e (node_members_of l)) (map-id (members_list ms))
        ∙ ap (grammar.object b e) (members-listed ms);
    array-cut = λ inner b e ns h lt goes parts. tt;
    object-cut = λ inner b e ms h lt goes parts. tt;
  }

  pub node-read : (n : Node) (levels : ℕ) → Spells names t n → nesting n ≤ levels → IsQuiet t n
      → value_at (nodes names) t levels (begin n) ≡ done n (end n)
  node-read n levels h d q =
      let read = value_at-prefix (nodes names) names t k within (λ key. key) (λ n. n) IsCut (nodes-advances prefix names)
      nodes-whole n levels h d q (begin-within names t n h) in
      subst (λ u. value_at (nodes names) u levels (begin n) ≡ done n (end n)) (take_all (length t) t (omega arith))
      (read.0 (node-within names t n h))
