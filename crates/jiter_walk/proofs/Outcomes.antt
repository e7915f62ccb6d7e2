-- What comes of an outcome.
use Rattle.std.proofs.Common.{◌≡◌, ◌∙◌, ℕ, true, false, List, sym, ap, refl}
use Rattle.std.specs.Prelude.{None, Option, Some}
use Rattle.jiter.specs.Caller.{Node, Tree, begin, end, is_null_tree, null_told, value_of}
use Rattle.jiter_walk.specs.Walk.{Outcome, Reason, and_then, custom, fails, gives}
use Rattle.jiter_walk.specs.Shown.{given, nothing-some}
use Rattle.jiter_walk.specs.Values.{if_bounded, null_in, nullable}
use Rattle.jiter_walk.specs.Values.{or_null_in, replied}

pub same-then : {C A B : Type 0} (o : Outcome C A) {f g : A → Outcome C B} → ((a : A) → f a ≡ g a)
    → and_then o f ≡ and_then o g
same-then (gives a) h = h a
same-then (fails r i) h = refl

module _ {C A B : Type 0} (fit : B → Option A) (cause : C) (i : ℕ) (read : Outcome C B) (z : B) where
  -- What was read does not fit.
  pub fits-not : read ≡ gives z → fit z ≡ None → and_then read (λ x. if_bounded cause i (fit x)) ≡ fails (custom cause) i
  fits-not is none = ap (λ o. and_then o (λ x. if_bounded cause i (fit x))) is ∙ ap (if_bounded cause i) none

  -- It fits.
  pub fits : (a : A) → read ≡ gives z → fit z ≡ Some a → and_then read (λ x. if_bounded cause i (fit x)) ≡ gives a
  fits a is some = ap (λ o. and_then o (λ x. if_bounded cause i (fit x))) is ∙ ap (if_bounded cause i) some

-- A value that is `null`.
pub null-given : {C : Type 0} (t : List ℕ) (n : Node) → is_null_tree (value_of t n) ≡ true → null_in {C = C} t n ≡ gives tt
null-given {C = C} t n h = by (value_of t n) h where
  by : (v : Tree) → is_null_tree v ≡ true → replied {C = C} (null_told v (begin n) (end n)) ≡ gives tt
  by Tree.null h = refl
  by v h = absurd (cc)

pub null-not_failed : {C : Type 0} (t : List ℕ) (n : Node) (r : Reason C) (i : ℕ) → is_null_tree (value_of t n) ≡ true
    → null_in t n ≡ fails r i → ⊥
null-not_failed t n r i null is = nothing-some tt (ap given (sym is ∙ null-given t n null))

module _ {C A : Type 0} (of : List ℕ → Node → Outcome C A) (t : List ℕ) (n : Node) where
  pub null-is_none : is_null_tree (value_of t n) ≡ true → or_null_in of t n ≡ gives None
  null-is_none h = ap (λ b. nullable b (of t n)) h

  -- And one that is not.
  pub other-given : is_null_tree (value_of t n) ≡ false → (a : A) → of t n ≡ gives a → or_null_in of t n ≡ gives (Some a)
  other-given h a is = ap (λ b. nullable b (of t n)) h ∙ ap (λ o. and_then o (λ x. gives (Some x))) is

  pub other-fails : is_null_tree (value_of t n) ≡ false → (r : Reason C) (i : ℕ) → of t n ≡ fails r i
      → or_null_in of t n ≡ fails r i
  other-fails h r i is = ap (λ b. nullable b (of t n)) h ∙ ap (λ o. and_then o (λ x. gives (Some x))) is
