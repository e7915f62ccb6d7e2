-- A prefix of an array or an object that lacks its last bracket fails: the input ends too early.
use Rattle.jiter_steps.proofs.Words.{◌≡◌, ℕ, ◌+◌, ◌<◌, ◌≤◌, Bool, true, false, List, length, take, sym, ◌∙◌, subst}
use Rattle.jiter_steps.proofs.Words.{arith, is_end_kind, answer, Node, begin, end, nesting_limit, IsContainer}
use Rattle.jiter_steps.proofs.Words.{IsDocument, Reading, done, fault, Tree, past_blanks, IsBlank}
use Rattle.jiter_steps.proofs.Words.{Spells, start_of, slice_index, value_at, ap, refl}
use Rattle.jiter_steps.specs.Node as grammar
use Rattle.jiter_steps.proofs.Cut.DocumentPrefixes.{prefix-length, prefix-too}
use Rattle.jiter_steps.proofs.Cut.PrefixNodes.{node-read}
use Rattle.jiter_steps.proofs.Cut.ReadPrefixes.{IsQuiet, node-quiet}
use Rattle.jiter_steps.proofs.Fault.Dead.{answer-stays}
use Rattle.jiter_steps.proofs.Fault.SameReadings.{IsFault, ShownFault}
use Rattle.jiter_steps.proofs.Fault.SameSpelling.{SameBefore, blanks-too, spells-too}
use Rattle.jiter_steps.proofs.Grammar.Blanks.{blank-passed}
use Rattle.jiter_steps.proofs.Grammar.Documents.{IsRead, answer-is, answer-of}
use Rattle.jiter_steps.proofs.Grammar.SpelledParts.{start_is, node-starts, begins-value, ends-end, node-within}
use Rattle.jiter_steps.proofs.Grammar.SpelledParts.{begin-within}
use Rattle.jiter_steps.proofs.Grammar.NodeRules.{nodes}
use Rattle.jiter_steps.proofs.Reading.Bounds.{Within}
use Rattle.jiter_steps.proofs.Reading.Instances.{answer-within}

-- the input ends too early
abbrev pub EndsEarly : {A : Type 0} → Reading A → Type 0
EndsEarly (done a e) = ⊥
EndsEarly (fault kind i stop) = is_end_kind kind ≡ true

-- a node that begins as a container is no number
container-quiet : (t : List ℕ) (m n : Node) → IsContainer n → start_is m ≡ start_is n → IsQuiet t m
container-quiet t (grammar.number b e) (grammar.array c f ns) is same = absurd (cc)
container-quiet t (grammar.number b e) (grammar.object c f ms) is same = absurd (cc)
container-quiet t (grammar.number b e) n is same = absurd is
container-quiet t m n is same = tt

module _ (names : Bool) (t : List ℕ) (k : ℕ) (within : k ≤ length t) where
  abbrev prefix : List ℕ
  prefix = take k t

  -- all bytes of the prefix, and its end, are before k + 1
  abbrev same : SameBefore prefix t (k + 1)
  same = prefix-too t k within (k + 1)

  -- a document of the text and one of the prefix begin with the same byte, so the one is no longer
  module _ (n m : Node) (d : IsDocument names t n) (is : IsContainer n) (other : IsDocument names prefix m) where
    spelled : Spells names t m
    spelled =
        let last = node-within names prefix m other.spelled in
        spells-too names prefix t (k + 1) same m (omega (arith, prefix-length t k within)) other.spelled

    begins : (n : Node) → Spells names t n → IsBlank t 0 (begin n) → past_blanks t 0 ≡ begin n
    begins n h blanks =
        let first = begins-value names t n h in blank-passed t 0 (begin n) first.byte blanks first.here first.no_blank

    same-begin : begin m ≡ begin n
    same-begin =
        let inside = begin-within names prefix m other.spelled in
        let blanks = blanks-too prefix t (k + 1) same 0 (begin m) (omega (arith, prefix-length t k within))
        other.before in
        sym (begins m spelled blanks) ∙ begins n d.spelled d.before

    pub no-longer : end n ≤ k
    no-longer =
        let starts = sym (node-starts names t m spelled) ∙ ap (λ i. start_of (slice_index t i)) same-begin
        ∙ node-starts names t n d.spelled in
        let long = node-read names t n nesting_limit d.spelled d.limit (node-quiet t n (ends-end t (end n) d.after)) in
        let short = node-read names t m nesting_limit spelled other.limit (container-quiet t m n is starts) in
        let one = sym short ∙ ap (value_at (nodes names) t nesting_limit) same-begin ∙ long in
        let same : end m ≡ end n = cc in
        omega (arith, same, node-within names prefix m other.spelled, prefix-length t k within)

  -- an error of a byte of the prefix is one in the text
  refused : (n : Node) → IsDocument names t n → IsContainer n → k < end n → (x : Reading Tree) → answer names prefix ≡ x
      → EndsEarly x
  refused n d is gt (done v e) found =
      let read = subst (IsRead names prefix) found (answer-is names prefix) in
      absurd (omega (arith, gt, no-longer n read.0 d is read.1))
  refused n d is gt (fault kind i stop) found = by (is_end_kind kind) refl where
    by : (b : Bool) → is_end_kind kind ≡ b → b ≡ true
    by true e = refl
    by false e =
        let size = prefix-length t k within in
        let at = subst (Within prefix 0) found (answer-within prefix names) in
        let place = at.2.within in
        let shown = subst (ShownFault prefix (k + 1)) (sym found) (omega arith, (e, λ utf8. omega arith)) in
        absurd (subst IsFault (answer-of names t n d) (answer-stays names prefix t (k + 1) same shown))

-- Of a document that is an array or an object, each prefix that lacks the last bracket fails: the input ends too
-- early.
pub prefix-refused : (names : Bool) (t : List ℕ) (n : Node) (k : ℕ) → IsDocument names t n → IsContainer n → k < end n
    → EndsEarly (answer names (take k t))
prefix-refused names t n k d is gt =
    refused names t k (omega (arith, d.after.ordered, d.after.within)) n d is gt (answer names (take k t)) refl
