-- Where a number ends.
use Rattle.jiter_steps.proofs.Words.{ℕ, List, false, ◌≡◌, IfSome, slice_get, continues_number}

-- the byte at i, if there is one, does not go on a number
abbrev pub EndsNumber : List ℕ → ℕ → Type 0
EndsNumber t i = IfSome (slice_get t i) (λ c. continues_number c ≡ false)
