-- What the next byte is to a document that arrives, where no token is unfinished.
use Rattle.jiter_incremental.proofs.Words.{◌≡◌, ◌+◌, ◌≤◌, ◌∷◌, ◌++◌, ℕ, List, [], ap, get_or, length, None}
use Rattle.jiter_incremental.proofs.Words.{nesting_limit, Tree, Arrived, IsLeft, OpenValue, TakesByte, Document}
use Rattle.jiter_incremental.proofs.Words.{Follows, HasTakenIn, IsReadAs, IsScalarWithin, any_bytes, between_tokens}
use Rattle.jiter_incremental.proofs.Words.{slice_range, with_byte}
use Rattle.jiter_incremental.specs.declared.reader.Token.TheVariants as token
use Rattle.jiter_incremental.proofs.Documents.{known-any, taken-between, takes-byte}
use Rattle.jiter_incremental.proofs.Documents.Tokens.{range-first}

-- A scalar that ends within a chunk: it is followed by what comes then,
module _ (chunk : List ℕ) (at : ℕ) (v : Tree) (e : ℕ) (h : IsScalarWithin chunk at v e) where
  abbrev first : ℕ
  first = get_or chunk at 0

  abbrev bytes : List ℕ
  bytes = slice_range chunk at e

  scalar-bytes : bytes ≡ first ∷ slice_range chunk (at + 1) e
  scalar-bytes = range-first chunk at e h.begins h.within

  pub scalar-follows : Follows (with_byte first) bytes any_bytes
  scalar-follows u comes = (slice_range chunk (at + 1) e ++ u, ap (λ w. w ++ u) scalar-bytes)

  pub scalar-reads : (d : Document) (t : List ℕ) (depth : ℕ) → depth ≤ nesting_limit
      → IsReadAs d any_bytes (t ++ bytes) depth (length t) v
  scalar-reads d t depth few = λ p u reading comes. h.reads p t u depth few

-- A byte that the value passes is taken.
pub takes-here : (c : ℕ) (d : Document) (v : OpenValue) (t : List ℕ) → HasTakenIn any_bytes d t → d.fault ≡ None
    → d.token ≡ token.Nothing → ((s : Arrived) → IsLeft d.value s → TakesByte v s c)
    → HasTakenIn any_bytes (record d { value = v }) (t ++ c ∷ [])
takes-here c d v t h unset none passes =
    let b = taken-between any_bytes d t h unset none in
    takes-byte d v c t b.state (known-any (with_byte c) d t (between_tokens b.state) b.known) none (passes b.state b.left)
