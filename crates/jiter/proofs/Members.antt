-- What a reader meets where a part of a container is spelled: an item, or a key, its colon and its value.
use Rattle.jiter.proofs.Words.{◌≡◌, ◌∙◌, ℕ, ◌≤◌, Bool, List, refl, sym, ap, subst, arith, taken, read_at, skip_at}
use Rattle.jiter.proofs.Words.{whole_trees, IsBlank, past_blanks, Key, Node, begin, end, Spells, SpellsKey, nesting}
use Rattle.jiter.proofs.Words.{nesting_limit, value_of, done, step, colon, EndsNumber, skip_at-law, EndsAlike}
use Rattle.jiter.proofs.Words.{begins-value}
use Rattle.jiter_steps.proofs.Grammar.Blanks.{blank-passed}
use Rattle.jiter_steps.proofs.Grammar.Documents.{value_at-complete}
use Rattle.jiter_steps.proofs.Grammar.Documents.{key_text, nodes-lead}
use Rattle.jiter_steps.proofs.Reading.Fused.{mapped, value_at-mapped}
use Rattle.jiter_steps.proofs.Grammar.NodeRules.{nodes}
use Rattle.jiter_steps.proofs.Grammar.RowSteps.{row-at}
use Rattle.jiter_steps.proofs.Grammar.SpelledParts.{begin-within}

module _ (names : Bool) (t : List ℕ) where
  -- A value that is spelled is read.
  pub read-spelled : (n : Node) → Spells names t n → nesting n ≤ nesting_limit → EndsNumber t (end n)
      → read_at names t (begin n) ≡ done (value_of t n) (end n)
  read-spelled n s limit quiet =
      sym (value_at-mapped (nodes names) (whole_trees names) (key_text t) (value_of t) t (nodes-lead names t)
      nesting_limit (begin n))
      ∙ ap (mapped (value_of t)) (value_at-complete names t n nesting_limit s limit quiet)

  -- It is skipped.
  pub skip-spelled : (n : Node) → Spells names t n → nesting n ≤ nesting_limit → EndsNumber t (end n)
      → skip_at names t (begin n) ≡ done tt (end n)
  skip-spelled n s limit quiet =
      let law = subst (λ r. EndsAlike r (skip_at names t (begin n))) (read-spelled n s limit quiet)
      (skip_at-law names t (begin n)) in
      law.1

  -- It begins after whitespace.
  pub place-after : (n : Node) → Spells names t n → (i : ℕ) → IsBlank t i (begin n) → past_blanks t i ≡ begin n
  place-after n h i blanks =
      let first = begins-value names t n h in
      blank-passed t i (begin n) first.byte blanks first.here first.no_blank

  pub place-there : (n : Node) → Spells names t n → (i : ℕ) → begin n ≡ i → past_blanks t i ≡ begin n
  place-there n h i is =
      place-after n h i (record {
        ordered = omega (arith, is);
        within = omega (arith, begin-within names t n h);
        each = λ k le lt. absurd (omega (arith, is));
      })

-- The colon after a key.
pub colon-taken : (t : List ℕ) (k : Key) (j : ℕ) (h : SpellsKey t k j) → step t colon k.end ≡ taken tt h.colon
colon-taken t k j h =
    row-at t colon k.end h.after.at 58 h.after.blanks h.after.here refl ∙ ap (taken tt) (sym h.after.ends)
