-- What a parser of a document that comes in chunks answers.
use Rattle.jiter_incremental.proofs.Words.{◌≡◌, ℕ, List, inr, refl, sym, ap, ap₂, ◌∙◌, Option, Some, None, Ok, Err}
use Rattle.jiter_incremental.proofs.Words.{same_Some, fault_kind, Fault, JsonError, done, fault, Tree, owned, AnswersSo}
use Rattle.jiter_incremental.proofs.Words.{owned_tree, Parses, answer_as, view, Settings, JsonValue, parses}
use Rattle.jiter_scan.specs.Kind.{kind_of}
use Rattle.jiter_value.specs.Parses.{keeping_repeats, reading_as}
use Rattle.jiter_value.specs.Settings.{answer_by}
use Rattle.jiter_value.proofs.MadeTexts.{answer_as-is}
use Rattle.jiter_value.proofs.ParsedBy as parsed
use Rattle.jiter_value.proofs.ParsedDocuments.{laws}

-- What every parse promises, once the answer is told: the value,
module _ (p : Settings) (t : List ℕ) where
  read-by : answer_as owned p t ≡ reading_as owned_tree (answer_by p t)
  read-by = answer_as-is owned refl p t

  pub value-promised : (v : JsonValue) → AnswersSo p t None (Some (view v))
      → Parses owned_tree ⊥ p.allow_inf_nan p.mode t (Ok v)
  value-promised v h =
      let same = same_Some _ _ h.1 in
      parses p.allow_inf_nan t p.mode owned_tree ⊥ (Ok v)
      (h.2.0, sym read-by ∙ h.2.1 ∙ ap (λ w. done w h.2.0) (sym same)) tt

  -- or the first error.
  pub fault-promised : (f : Fault) (v : Option Tree) (e : JsonError) → AnswersSo p t (Some f) v
      → (kind_of e.error_type ≡ fault_kind f.kind) × (e.index ≡ f.index)
      → Parses owned_tree ⊥ p.allow_inf_nan p.mode t (Err e)
  fault-promised f v e h is =
      let names = p.allow_inf_nan in
      let read : reading_as owned_tree (answer_by p t) ≡ fault (kind_of e.error_type) e.index h.0 =
      sym read-by ∙ h.1 ∙ ap₂ (λ k i. fault k i h.0) (sym is.0) (sym is.1) in
      let at = parsed.fault-at (keeping_repeats names) names (laws names) owned_tree t p.mode e h.0 read in
      parses names t p.mode owned_tree ⊥ (Err e) (inr (h.0, read)) (λ memory. absurd (at.bytes (ap kind_of memory)))
