-- One more byte of a slice, and the line feeds before it.
use Rattle.std.proofs.Common.{◌≡◌, ◌+◌, ◌==◌, ◌≤◌, ◌<◌, ℕ, Bool, true, false, List, ap, arith, count_by, length, refl, slice_index_or, sym, take, ◌∙◌}
use Rattle.std.specs.Prelude.{cond}
use Rattle.std.proofs.lemmas.List.Sums.{sum_by_more}
use mir.Val.{bool_byte}

-- what is added for a byte
small : (bit : ℕ) (b : Bool) → bit ≡ bool_byte b → bit ≤ 1
small bit true is = omega (arith, is)
small bit false is = omega (arith, is)

same : (b : Bool) → bool_byte b ≡ cond b 1 0
same true = refl
same false = refl

-- the sum stays at most the index, and is the number of line feeds before it
pub feeds-more : (bytes : List ℕ) (feeds i bit : ℕ) → i < length bytes → bit ≡ bool_byte (slice_index_or bytes i 0 == 10)
    → (feeds ≤ i) × (feeds ≡ count_by (λ byte. byte == 10) (take i bytes))
    → (feeds + bit ≤ i + 1) × (feeds + bit ≡ count_by (λ byte. byte == 10) (take (i + 1) bytes))
feeds-more bytes feeds i bit inside is before =
    let step = sum_by_more (λ byte. cond (byte == 10) 1 0) bytes i 0 inside in
    let added = is ∙ same (slice_index_or bytes i 0 == 10) in (
      omega (arith, before.0, small bit _ is),
      ap (λ n. n + bit) before.1 ∙ ap (λ n. count_by (λ byte. byte == 10) (take i bytes) + n) added ∙ sym step,
    )
