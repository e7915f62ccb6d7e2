-- A string with a backslash, by what was decoded of it.
use Rattle.jiter_steps.proofs.Words.{◌≡◌, ℕ, ◌≤◌, List, length, take, arith, length-take, take-take}

-- fewer bytes of the prefix are those of the whole
pub prefix-prefix : (items : List ℕ) (count n : ℕ) → n ≤ length (take count items)
    → take n (take count items) ≡ take n items
prefix-prefix items count n h = take-take n count items (omega (arith, length-take count items))
