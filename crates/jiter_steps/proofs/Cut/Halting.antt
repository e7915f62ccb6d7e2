-- Where a partial reading halts in a container that the text leaves open: no container round it takes a byte there.
use Rattle.jiter_steps.proofs.Words.{◌≡◌, ◌≢◌, ℕ, ◌<◌, ◌≤◌, ◌==◌, Bool, true, false, List, length, take, refl, ap, ◌∙◌}
use Rattle.jiter_steps.proofs.Words.{subst, sym, arith, IfSome, slice_get, Option, Some, None, ne_eqb, nat_tests}
use Rattle.jiter_steps.proofs.Words.{slice_get_within, Kind, is_end_kind, is_forgiven, if-false, get-none, is_blank}
use Rattle.jiter_steps.proofs.Words.{start_of, Node, begin, Spells, Step, stuck, step, closer_of, end_kind_of}
use Rattle.jiter_steps.proofs.Words.{comma_kind_of, container_step, ContainerKind, expected_list_comma_or_end}
use Rattle.jiter_steps.proofs.Words.{expected_object_comma_or_end}
use Rattle.jiter_steps.specs.Node as grammar
use Rattle.jiter_steps.specs.declared.parse.Start.TheVariants as start
use Rattle.jiter_steps.proofs.Grammar.Blanks.{past_blanks-end}
use Rattle.jiter_steps.proofs.Reading.BothShapes.{end_kind-early, comma_kind-forgiven, closer-begins_none}
use Rattle.jiter_steps.proofs.Fault.Completions.{no-blanks}
use Rattle.jiter_steps.proofs.Cut.DocumentPrefixes.{prefix-get, prefix-past}
use Rattle.jiter_steps.proofs.Grammar.RowSteps.{row-at}
use Rattle.jiter_steps.proofs.Grammar.SpelledParts.{start_is, begins-value}

-- at the end of the text, or at a byte that begins a value: it is not whitespace, comma or closer
abbrev pub Halts : List ℕ → ℕ → Type 0
Halts t p = IfSome (slice_get t p) (λ c. start_of c ≢ start.Nothing)

-- an error at p that a partial mode forgives
abbrev pub StuckAt : ℕ → Step → Type 0
StuckAt p s = (kind : Kind) × (s ≡ stuck kind p) × (is_forgiven kind ≡ true)

-- The end of input is forgiven.
pub end-forgiven : (kind : Kind) → is_end_kind kind ≡ true → is_forgiven kind ≡ true
end-forgiven expected_list_comma_or_end h = refl
end-forgiven expected_object_comma_or_end h = refl
end-forgiven kind h = h

-- a byte that begins no value is another
other : (c d : ℕ) → start_of d ≡ start.Nothing → start_of c ≢ start.Nothing → (c == d) ≡ false
other c d none h = ne_eqb c d (λ e. h (ap start_of e ∙ none))

begins-no_blank : (c : ℕ) → start_of c ≢ start.Nothing → is_blank c ≡ false
begins-no_blank c h =
    grind (arith, nat_tests, other c 32 refl h, other c 9 refl h, other c 10 refl h, other c 13 refl h)

-- a node begins a value
node-begins : (n : Node) → start_is n ≢ start.Nothing
node-begins (grammar.number b e) h = cc
node-begins n h = cc

pub byte-halts : (t : List ℕ) (p c : ℕ) → slice_get t p ≡ Some c → start_of c ≢ start.Nothing → Halts t p
byte-halts t p c here h = subst (λ o. IfSome o (λ c. start_of c ≢ start.Nothing)) (sym here) h

-- A reading of the prefix halts at the cut, and at a value's first byte.
module _ (t : List ℕ) (k : ℕ) (within : k ≤ length t) where
  pub cut-halts : Halts (take k t) k
  cut-halts = subst (λ o. IfSome o (λ c. start_of c ≢ start.Nothing)) (sym (prefix-past t k within k (omega arith))) tt

pub begin-halts : (names : Bool) (t : List ℕ) (k : ℕ) (within : k ≤ length t) (n : Node) → Spells names t n
    → begin n < k → Halts (take k t) (begin n)
begin-halts names t k within n h lt =
    let first = begins-value names t n h in
    byte-halts (take k t) (begin n) first.byte (prefix-get t k within (begin n) first.byte lt first.here)
    (λ e. node-begins n (sym first.starts ∙ e))

-- There a step between parts is stuck.
module _ (t : List ℕ) where
  row-halts : (row : ℕ → Option ℕ → Step) → ((p : ℕ) → StuckAt p (row p None))
      → ((p c : ℕ) → start_of c ≢ start.Nothing → StuckAt p (row p (Some c)))
      → (p : ℕ) → Halts t p → StuckAt p (step t row p)
  row-halts row none some p = by (slice_get t p) refl where
    by : (o : Option ℕ) → slice_get t p ≡ o → IfSome o (λ c. start_of c ≢ start.Nothing) → StuckAt p (step t row p)
    by None e h =
        let last = past_blanks-end t p (get-none t p e) in
        subst (StuckAt p) (sym (ap (λ m. row m (slice_get t m)) last ∙ ap (row p) e)) (none p)
    by (Some c) e h =
        let inside = slice_get_within t p c e in
        let here = no-blanks t p p refl (omega arith) in
        subst (StuckAt p) (sym (row-at t row p p c here e (begins-no_blank c h))) (some p c h)

  -- after a part
  pub container-halts : (b : ContainerKind) (p : ℕ) → Halts t p → StuckAt p (step t (container_step b t) p)
  container-halts b =
      row-halts (container_step b t) (λ p. (end_kind_of b, refl, end-forgiven _ (end_kind-early b)))
      (λ p c h. (
        comma_kind_of b,
        if-false (c == closer_of b) _ _ (other c (closer_of b) (closer-begins_none b) h)
            ∙ if-false (c == 44) _ _ (other c 44 refl h),
        comma_kind-forgiven b,
      ))
