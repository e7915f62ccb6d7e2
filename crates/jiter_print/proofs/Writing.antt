-- What a writer of known bytes holds after one call more.
use Rattle.std.proofs.Common.{◌≡◌, ℕ, ◌+◌, ◌-◌, ◌≤◌, List, Option, sym, ap, subst, arith}
use Rattle.std.proofs.Common.{length, take, drop}
use Rattle.std.proofs.Math.Seq.{take-add}
use Rattle.std.proofs.lemmas.List.{take_all, length-drop}
use Rattle.std.proofs.KnownBytes.{Appends-trans}
use Rattle.std.specs.Io.KnownBytes.{Appends}

-- what is left of a line, as it is handed over
rest-is : (line : List ℕ) (written : ℕ) → take (length line - written) (drop written line) ≡ drop written line
rest-is line written = take_all (length line - written) (drop written line) (omega (arith, length-drop written line))

-- no more of it is taken than there is
pub prefix-within : (line : List ℕ) (written n : ℕ) → written ≤ length line
    → n ≤ length (take (length line - written) (drop written line)) → written + n ≤ length line
prefix-within line written n h bound = omega (arith, ap length (rest-is line written), length-drop written line)

-- the prefix of a line grows by a prefix of its rest
pub prefix-more : (a b c : Option (List ℕ)) (line : List ℕ) (written n : ℕ) → Appends a b (take written line)
    → Appends b c (take n (take (length line - written) (drop written line))) → Appends a c (take (written + n) line)
prefix-more a b c line written n h more =
    let taken = ap (take n) (rest-is line written) in
    subst (Appends a c) (sym (take-add written n line)) (Appends-trans a b c _ _ h (subst (Appends b c) taken more))
