-- An error that a walk passes on.
use Rattle.std.proofs.Common.{◌≡◌, ◌≤◌, ℕ, List, length, sym, ap, subst}
use Rattle.std.specs.Prelude.{Result, Ok, Err, IfOk, IfErr, IsErrAnd}
use Rattle.jiter.specs.Caller.{IsMemory, MovesOn, Node, ReaderState, cause_of}
use Rattle.jiter.specs.declared.errors.JiterError.{JiterError}
use Rattle.jiter_walk.specs.declared.walk_error.WalkError.{WalkError}
use Rattle.jiter_walk.specs.declared.walk_error.WalkError.TheVariants as variant
use Rattle.jiter_walk.specs.Walk.{Comes, IsOutOfMemory, NeverOutOfMemory, Outcome, Returns, Walks, fails, index_of}
use Rattle.jiter_walk.specs.Walk.{of_reader, reason}

module _ {C X A : Type 0} (view : X → A) where
  pub error-returned : (x : Result X (WalkError C)) (e : WalkError C) (o : Outcome C A) → IsErrAnd x (λ d. d ≡ e)
      → ((IsOutOfMemory e → ⊥) → o ≡ fails (reason e) (index_of e)) → Returns view x o
  error-returned (Ok a) e o is h = absurd is
  error-returned (Err d) e o is h = subst (λ c. (IsOutOfMemory c → ⊥) → o ≡ fails (reason c) (index_of c)) (sym is) h

  no-value : (x : Result X (WalkError C)) (e : WalkError C) (P : X → Type 0) → IsErrAnd x (λ d. d ≡ e) → IfOk x P
  no-value (Ok a) e P is = absurd is
  no-value (Err d) e P is = tt

  of-error : (x : Result X (WalkError C)) (e : WalkError C) (P : WalkError C → Type 0) → IsErrAnd x (λ d. d ≡ e) → P e
      → IfErr x P
  of-error (Ok a) e P is h = tt
  of-error (Err d) e P is h = subst P (sym is) h

  module _ (meaning : List ℕ → Node → Outcome C A) (x : Result X (WalkError C)) (s0 s : ReaderState) (moves : MovesOn s0 s)
    where
      -- one of a walk
      pub walk-fails : (e : WalkError C) → IsErrAnd x (λ d. d ≡ e)
          → ((n : Node) → Comes s0 n → (IsOutOfMemory e → ⊥) → meaning s0.text n ≡ fails (reason e) (index_of e))
          → index_of e ≤ length s0.text → (IsOutOfMemory e → index_of e ≡ s.position) → Walks view meaning x s0 s
      walk-fails e is h index memory = record {
        moves = moves;
        value = λ n comes. error-returned x e (meaning s0.text n) is (h n comes);
        place = λ n comes. no-value x e _ is;
        reads = λ strict. no-value x e _ is;
        index = of-error x e (λ d. index_of d ≤ length s0.text) is index;
        memory = of-error x e (λ d. IsOutOfMemory d → index_of d ≡ s.position) is memory;
      }

      -- one of the reader
      pub reader-fails : (e : JiterError) → IsErrAnd x (λ d. d ≡ variant.Reader e)
          → ((n : Node) → Comes s0 n → (IsMemory e → ⊥) → meaning s0.text n ≡ fails (of_reader (cause_of e.error_type)) e.index)
          → e.index ≤ length s0.text → (IsMemory e → s.position ≡ e.index) → Walks view meaning x s0 s
      reader-fails e is h index memory =
          walk-fails (variant.Reader e) is (λ n comes bytes. h n comes (λ m. bytes (ap of_reader m))) index
          (λ m. sym (memory (cc)))

-- An error of the reader that isn't out of memory.
pub never-fails : {C X : Type 0} (x : Result X (WalkError C)) (e : JiterError) → IsErrAnd x (λ d. d ≡ variant.Reader e)
    → (IsMemory e → ⊥) → NeverOutOfMemory x
never-fails (Ok a) e is h = absurd is
never-fails (Err d) e is h = λ m. h (memory-of e (subst IsOutOfMemory is m)) where
  memory-of : {C : Type 0} (e : JiterError) → IsOutOfMemory {C = C} (variant.Reader e) → IsMemory e
  memory-of e m = cc
