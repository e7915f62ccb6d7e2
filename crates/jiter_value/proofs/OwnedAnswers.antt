-- What a parse promises, it promises once its value owns its texts.
use Rattle.jiter_value.proofs.Words.{inl, inr, ℕ, Bool, List, length, refl, sym, ap, ◌∙◌, subst, arith, Result, Ok, Err}
use Rattle.jiter_value.proofs.Words.{IfErr, JsonError, PartialMode, answer_in, Reading, Tree, owned_tree, Parses}
use Rattle.jiter_value.proofs.Words.{as_read, reading_as, Answers, MayGrow, JsonValue}
use Rattle.jiter_steps.proofs.Grammar.Blanks.{past_blanks-bound}
use Rattle.jiter_value.specs.Owned.{IsOwnedAnswer, ReadHolds, OwnedMayGrow}
use Rattle.jiter_value.proofs.ParsedDocuments.{as_read-is, IsWanted, parses}

owned-answers : (r s : Result JsonValue JsonError) (i : ℕ) (x : Reading Tree) → IsOwnedAnswer r i s → Answers r x
    → Answers s (reading_as owned_tree x)
owned-answers (Ok v) (Ok w) i x is h = rw (h.1, is) (h.0, refl)
owned-answers (Ok v) (Err e) i x is h = inl (ap (λ e. e.error_type) is.0)
owned-answers (Err f) (Ok w) i x is h = absurd is
owned-answers (Err f) (Err e) i x is (inl m) = inl (ap (λ e. e.error_type) is ∙ m)
owned-answers (Err f) (Err e) i x is (inr h) = rw (is, h.1) (inr (h.0, refl))

module _ (names : Bool) (mode : PartialMode) (t : List ℕ) where
  abbrev Wanted : JsonError → Type 0
  Wanted = IsWanted names t mode owned_tree (OwnedMayGrow names mode t)

  owned-wanted : (r s : Result JsonValue JsonError) → IsOwnedAnswer r (length t) s
      → Parses as_read (MayGrow t) names mode t r → Answers r (answer_in names mode t) → IfErr s Wanted
  owned-wanted r (Ok w) is h read = tt
  owned-wanted (Ok v) (Err e) is h read = λ m.
      rw (ap (λ e. e.index) is.0)
      (inr (subst ReadHolds (sym read.1) is.1), past_blanks-bound t 0 (omega arith), omega arith)
  owned-wanted (Err f) (Err e) is h read = λ m.
      let was = sym (ap (λ e. e.error_type) is) ∙ m in
      rw (ap (λ e. e.index) is) (inl (h.memory was), h.place was, h.index)

  pub owned-parses : (r s : Result JsonValue JsonError) → IsOwnedAnswer r (length t) s
      → Parses as_read (MayGrow t) names mode t r → Parses owned_tree (OwnedMayGrow names mode t) names mode t s
  owned-parses r s is h =
      let read = subst (Answers r) (as_read-is (answer_in names mode t)) h.answer in
      parses names t mode owned_tree (OwnedMayGrow names mode t) s
      (owned-answers r s (length t) (answer_in names mode t) is read) (owned-wanted r s is h read)
