-- The bytes of a chunk that are taken one part after the other.
use Rattle.jiter_incremental.proofs.Words.{◌≡◌, ℕ, ◌+◌, ◌≤◌, List, ◌++◌, length, take, drop, sym, ap, ◌∙◌, arith}
use Rattle.jiter_incremental.proofs.Words.{length-append, take-append-drop, length-take-le, slice_range}
use Rattle.std.proofs.Math.Seq.{take-append-add}
use Rattle.jiter_scan.proofs.Magnitudes.{slice_range-count}

pub take-on : (t : List ℕ) (i n : ℕ) → i ≤ length t → take i t ++ slice_range t i (i + n) ≡ take (i + n) t
take-on t i n le =
    ap (λ w. take i t ++ w) (slice_range-count t i n) ∙ sym (take-append-add (take i t) (drop i t) n)
    ∙ ap (λ m. take (m + n) (take i t ++ drop i t)) (length-take-le i t le)
    ∙ ap (take (i + n)) (take-append-drop i t)

pub range-long : (t : List ℕ) (i n : ℕ) → i + n ≤ length t → length (slice_range t i (i + n)) ≡ n
range-long t i n le =
    let below : i ≤ length t = omega (arith, le) in
    omega (
      arith,
      length-append (take i t) (slice_range t i (i + n)),
      ap length (take-on t i n below),
      length-take-le i t below,
      length-take-le (i + n) t le,
    )
