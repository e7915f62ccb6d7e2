-- With partial reading off, the reading that refuses repeated keys answers exactly the documents in which no object has
-- two keys of the same characters.
use Rattle.jiter_steps.proofs.Words.{◌≡◌, inl, inr, ℕ, Bool, List, [], ◌∷◌, map, refl, sym, ap, ◌∙◌, subst, slice_get}
use Rattle.jiter_steps.proofs.Words.{Option, Some, None, if◌then◌else◌, Scanned, taken, failed, seen_as, whole_trees}
use Rattle.jiter_steps.proofs.Words.{past_blanks, Key, Node, end, value_of, nesting_limit, Reading, done, fault}
use Rattle.jiter_steps.proofs.Words.{if_last, to_end, if_begun, prefix_answer, whole_answer, step, colon, whole}
use Rattle.jiter_steps.proofs.Words.{string_at, Text, Tree, HasUniqueKeys, IsUniqueDocument, is_among, after_its_colon}
use Rattle.jiter_steps.proofs.Words.{repeated_key, without_repeats, own_bytes, unique_answer}
use Rattle.jiter_steps.proofs.Grammar.Documents.{key_text, Fits, nodes-lead, answer-sound, prefix-complete}
use Rattle.jiter_steps.proofs.Grammar.Documents.{answer-complete}
use Rattle.jiter_steps.proofs.Grammar.NodeRules.{nodes, key_of}
use Rattle.jiter_steps.proofs.Grammar.StringLaws.{string_at-sound}
use Rattle.jiter_steps.proofs.Reading.Fused.{mapped, pairs, AllTold, Leads, refuses-same, whole_answer-mapped}
use Rattle.jiter_steps.proofs.Unique.Agreeing.{IsRepeat, Agrees, prefix_answer-agrees}
use Rattle.jiter_steps.proofs.Unique.BorrowingUnique.{Tells}
use Rattle.jiter_steps.proofs.Unique.Keys.{characters, all_characters}
use Rattle.jiter_steps.proofs.Unique.Nodes.{strictest, value_at-tells}

module _ (names : Bool) (t : List ℕ) where
  abbrev TellsOf : Reading Node → Reading Node → Type 0
  TellsOf = Tells HasUniqueKeys

  if_begun-tells : (i : ℕ) (o : Option ℕ)
      → TellsOf (if_begun (strictest names t) t i o) (if_begun (nodes names) t i o)
  if_begun-tells i None = tt
  if_begun-tells i (Some c) = value_at-tells names t nesting_limit i

  prefix-tells : TellsOf (prefix_answer (strictest names t) t) (prefix_answer (nodes names) t)
  unfolding prefix_answer
  prefix-tells = if_begun-tells (past_blanks t 0) (slice_get t (past_blanks t 0))

  prefix-agrees : Agrees (prefix_answer (strictest names t) t) (prefix_answer (nodes names) t)
  prefix-agrees = prefix_answer-agrees characters (nodes names) (λ ms u j. refl) (λ k h. refl) t

  -- a value that nothing follows was read
  last-is : (m n : Node) (d e j : ℕ) (o : Option ℕ) → if_last m d j o ≡ done n e → done m d ≡ done n e
  last-is m n d e j None is = is
  last-is m n d e j (Some c) is = absurd (cc)

  prefix-is : (x : Reading Node) (n : Node) (e : ℕ) → to_end t x ≡ done n e → x ≡ done n e
  prefix-is (done m d) n e is = last-is m n d e (past_blanks t d) (slice_get t (past_blanks t d)) is
  prefix-is (fault k i stop) n e is = absurd (cc)

  -- A document with unique keys is read.
  nodes-complete : (n : Node) → IsUniqueDocument names t n
      → whole_answer (strictest names t) t ≡ done n (end n)
  unfolding whole_answer
  nodes-complete n d =
      ap (to_end t) (elim prefix-agrees [
        | inl same ↦ same
        | inr repeat ↦
            absurd ((subst (TellsOf (prefix_answer (strictest names t) t)) (prefix-complete names t n d.document)
            prefix-tells).1 repeat d.unique)
      ]) ∙ answer-complete names t n d.document

  -- What is read is a document with unique keys.
  nodes-sound : (n : Node) (e : ℕ) → whole_answer (strictest names t) t ≡ done n e → IsUniqueDocument names t n
  unfolding whole_answer
  nodes-sound n e is =
      let prefix = prefix-is (prefix_answer (strictest names t) t) n e is in
      elim prefix-agrees [
        | inl same ↦
            let read = sym same ∙ prefix in
            let whole = ap (to_end t) read ∙ sym (ap (to_end t) prefix) ∙ is in
            record {
              document = (subst (Fits names t) whole (answer-sound names t)).0;
              unique = (subst (TellsOf (prefix_answer (strictest names t) t)) read prefix-tells).0 prefix;
            }
        | inr repeat ↦ absurd (subst IsRepeat prefix repeat)
      ]

  -- The same of the values. Seen as a node's key or as its text, a key has the same characters.
  key-fault : (ms : List (Key × Node)) (i : ℕ) → slice_get t i ≡ Some 34 → (x : Scanned Text) → string_at whole t i ≡ x
      → repeated_key characters (all_characters ms) t (seen_as (key_of t i) x)
      ≡ repeated_key own_bytes (all_characters ms) t x
  key-fault ms i quote (taken s e) is =
      let same = ap (λ s. s.bytes) (string_at-sound t i e s quote is).1 in
      ap (λ k. if is_among k (all_characters ms) then after_its_colon k (step t colon e) else None) (sym same)
  key-fault ms i quote (failed k j) is = refl

  keys-same : (ms : List (Key × Node))
      → all_characters ms ≡ map (λ m. own_bytes m.0) (pairs (key_text t) (value_of t) ms)
  keys-same [] = refl
  keys-same (m ∷ ms) = ap (λ ks. characters m.0 ∷ ks) (keys-same ms)

  strictest-leads : Leads AllTold (strictest names t) (without_repeats own_bytes (whole_trees names)) (key_text t)
      (value_of t) t
  strictest-leads =
      let plain = nodes-lead names t in
      record {
        forgives = plain.forgives;
        told = plain.told;
        literal = plain.literal;
        number = plain.number;
        text = plain.text;
        key = plain.key;
        refuses = λ ms i quote.
            refuses-same AllTold _ _
            (key-fault ms i quote (string_at whole t i) refl
            ∙ ap (λ ks. repeated_key own_bytes ks t (string_at whole t i)) (keys-same ms));
        array = plain.array;
        object = plain.object;
      }

  answer-mapped : mapped (value_of t) (whole_answer (strictest names t) t) ≡ unique_answer names t
  answer-mapped = whole_answer-mapped (strictest names t) _ (key_text t) (value_of t) t strictest-leads

  -- A document with unique keys is answered with its value.
  pub unique-complete : (n : Node) → IsUniqueDocument names t n → unique_answer names t ≡ done (value_of t n) (end n)
  unique-complete n d = sym answer-mapped ∙ ap (mapped (value_of t)) (nodes-complete n d)

  -- What is answered is the value of a document with unique keys.
  unmapped : (x : Reading Node) (v : Tree) (e : ℕ) → mapped (value_of t) x ≡ done v e
      → (n : Node) × (x ≡ done n e) × (value_of t n ≡ v)
  unmapped (done n d) v e is = (n, ap (λ e. done n e) (cc), cc)
  unmapped (fault k i stop) v e is = absurd (cc)

  pub unique-sound : (v : Tree) (e : ℕ) → unique_answer names t ≡ done v e
      → (n : Node) × IsUniqueDocument names t n × (value_of t n ≡ v)
  unique-sound v e is =
      let read = unmapped (whole_answer (strictest names t) t) v e (answer-mapped ∙ is) in
      (read.0, nodes-sound read.0 e read.1, read.2)
