-- The prefixes of a document with unique keys: no repeated key is met in them, so that what a cut leaves of the document
-- is returned, and with partial reading off that the input ends too early.
use Rattle.jiter_steps.proofs.Words.{◌≡◌, inl, inr, ℕ, ◌+◌, ◌<◌, ◌≤◌, Bool, true, false, List, length, take, refl, sym}
use Rattle.jiter_steps.proofs.Words.{ap, subst, arith, Kind, is_end_kind, is_forgiven, duplicate_key, PartialMode}
use Rattle.jiter_steps.proofs.Words.{whole_trees, partial_trees, partial_answer, Node, end, IsContainer, Reading, done}
use Rattle.jiter_steps.proofs.Words.{fault, to_end, prefix_answer, whole_answer, Tree, IsUniqueDocument, own_bytes}
use Rattle.jiter_steps.proofs.Words.{unique_answer}
use Rattle.jiter_steps.proofs.Cut.DocumentPrefixes.{prefix-length, prefix-too}
use Rattle.jiter_steps.proofs.Cut.Prefixes.{EndsEarly, prefix-refused}
use Rattle.jiter_steps.proofs.Fault.SameReadings.{IsFault, ShownFault}
use Rattle.jiter_steps.proofs.Reading.Bounds.{Within}
use Rattle.jiter_steps.proofs.Unique.Documents.{unique-complete}
use Rattle.jiter_steps.proofs.Unique.Within.{unique_answer-within}
use Rattle.jiter_steps.proofs.Unique.Agreeing.{IsOfRepeat, IsRepeat, prefix_answer-agrees, whole_answer-agrees}
use Rattle.jiter_steps.proofs.Unique.Dead.{unique-stays}
use Rattle.jiter_steps.proofs.Unique.Tracking.{Stops, Tracks, strict, partial, prefix_answer-tracks}

stopped : {A : Type 0} (t : List ℕ) (x : Reading A) → Stops t x → IsRepeat x → ⊥
stopped t (done a e) h repeat = repeat
stopped t (fault k i stop) h repeat = h.1 repeat

module _ (names : Bool) (t : List ℕ) (n : Node) (k : ℕ) (d : IsUniqueDocument names t n) (is : IsContainer n)
    (within : k ≤ length t) where
  abbrev u : List ℕ
  u = take k t

  -- an error of the prefix is one of the input's end, since one of a byte would be one of the text
  prefix-early : (kind : Kind) (i stop : ℕ) → unique_answer names u ≡ fault kind i stop → is_end_kind kind ≡ true
  prefix-early kind i stop found = by (is_end_kind kind) refl where
    by : (b : Bool) → is_end_kind kind ≡ b → b ≡ true
    by true e = refl
    by false e =
        let size = prefix-length t k within in
        let place = (subst (Within u 0) found (unique_answer-within u names)).2.within in
        let shown = subst (ShownFault u (k + 1)) (sym found) (omega arith, (e, λ utf8. omega arith)) in
        absurd (subst IsFault (unique-complete names t n d)
        (unique-stays names u t (k + 1) (prefix-too t k within (k + 1)) shown))

  -- With partial reading off an array or an object without its last bracket fails, since the input ends too early.
  pub unique-prefix_refused : k < end n → EndsEarly (unique_answer names u)
  unique-prefix_refused lt = by (unique_answer names u) refl where
    by : (x : Reading Tree) → unique_answer names u ≡ x → EndsEarly (unique_answer names u)
    by (fault kind i stop) found = rw found (prefix-early kind i stop found)
    by (done v e) found =
        elim (whole_answer-agrees own_bytes (whole_trees names) (λ ms v j. refl) (λ kind h. refl) u) [
          | inl same ↦ subst EndsEarly (sym same) (prefix-refused names t n k d.document is lt)
          | inr repeat ↦ absurd (subst IsRepeat found repeat)
        ]

  module _ (mode : PartialMode) where
    tracked : (y : Reading Tree) → prefix_answer (strict names mode u) u ≡ y
        → Tracks u (prefix_answer (partial names mode u) u) y → IsRepeat (prefix_answer (partial names mode u) u) → ⊥
    unfolding whole_answer
    tracked (done v e) found tracks repeat = subst IsRepeat tracks repeat
    tracked (fault kind i stop) found tracks repeat =
        let early = prefix-early kind i stop (ap (to_end u) found) in
        stopped u (prefix_answer (partial names mode u) u) (tracks early) repeat

    -- In a partial mode the prefix is read as without the rule on repeated keys.
    pub unique-cut : prefix_answer (partial names mode u) u ≡ partial_answer names mode u
    unique-cut =
        elim (prefix_answer-agrees own_bytes (partial_trees names mode) (λ ms v j. refl) kept u) [
          | inl same ↦ same
          | inr repeat ↦
              absurd (tracked (prefix_answer (strict names mode u) u) refl (prefix_answer-tracks names mode u) repeat)
        ] where
          kept : (kind : Kind) → IsOfRepeat kind → is_forgiven kind ≡ false
          kept (duplicate_key key) h = refl
          kept kind h = absurd h
