-- A number that a prefix of the text cuts: it is read up to the cut, or the input ends too early.
use Rattle.jiter_steps.proofs.Words.{◌≡◌, inl, inr, ℕ, ◌+◌, ◌<◌, ◌≤◌, Bool, true, false, List, length, take, refl, sym}
use Rattle.jiter_steps.proofs.Words.{◌∙◌, arith, cases_lt, slice_get_within, Kind, is_end_kind, Number, number_at}
use Rattle.jiter_steps.proofs.Words.{Scanned, taken, failed, failed-taken, same_taken, number_at-within, ScalarWithin}
use Rattle.jiter_steps.proofs.Cut.DocumentPrefixes.{prefix-length, prefix-same}
use Rattle.jiter_steps.proofs.Fault.SameNumbers.{Same, number-same}
use Rattle.jiter_steps.proofs.Fault.SameSpelling.{SameBefore}

-- it is taken up to k, or the input ends too early
abbrev pub CutAt : {A : Type 0} → ℕ → Scanned A → Type 0
CutAt k (taken a e) = e ≡ k
CutAt k (failed kind j) = is_end_kind kind ≡ true

-- an error before the end of input
abbrev IsLate : Kind → Type 0
IsLate kind = is_end_kind kind ≡ false

module _ (t : List ℕ) (k : ℕ) (within : k ≤ length t) where
  abbrev u : List ℕ
  u = take k t

  -- each byte of the prefix is in the text
  bytes-too : SameBefore u t (k + 1)
  bytes-too j c lt e =
      let inside = slice_get_within u j c e in
      sym (prefix-same t k within j (omega (arith, prefix-length t k within))) ∙ e

  abbrev SameAs : ℕ → Scanned Number → Scanned Number → Type 0
  SameAs i x y = Same IsLate (λ kind h. h) u t (k + 1) bytes-too i x y

  -- What is read before the cut, or refused there for a byte, would be so in the whole text.
  reading-cut : (i e : ℕ) (n : Number) (y x : Scanned Number) → k < e → y ≡ taken n e → ScalarWithin u i x
      → SameAs i x y → CutAt k x
  reading-cut i e n y (taken m d) gt is inside same = elim (cases_lt d k) [
    | inl lt ↦
        let long = prefix-length t k within in
        let end = (same_taken m n d e (sym (same (omega arith, omega arith)).2 ∙ is)).1 in
        absurd (omega arith)
    | inr ge ↦ omega (arith, inside.1, prefix-length t k within)
  ]
  reading-cut i e n y (failed kind j) gt is inside same = by (is_end_kind kind) refl where
    by : (b : Bool) → is_end_kind kind ≡ b → is_end_kind kind ≡ true
    by true early = early
    by false late =
        let r = same (omega (arith, inside.1.within, prefix-length t k within), late) in
        absurd (failed-taken kind j n e (sym r.2 ∙ is))

  -- A number that ends after k is read in the prefix up to k, or the input ends too early.
  pub number_at-cut : (names : Bool) (i e : ℕ) (n : Number) → i < k → k < e → number_at names t i ≡ taken n e
      → CutAt k (number_at names u i)
  number_at-cut names i e n lt gt h =
      let inside : i < length u = omega (arith, prefix-length t k within) in
      reading-cut i e n (number_at names t i) (number_at names u i) gt h (number_at-within names u i inside)
      (number-same IsLate (λ kind h. h) u t (k + 1) bytes-too names i inside)
