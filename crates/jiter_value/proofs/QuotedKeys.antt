-- A key's printed form, piece by piece.
use Rattle.jiter_value.proofs.Words.{◌≡◌, ◌∙◌, sym, ap, ℕ, ◌+◌, ◌<◌, ◌≤◌, List, [], ◌∷◌, ◌++◌, length, arith}
use Rattle.jiter_value.proofs.Words.{append_assoc, flat_map, slice_index, slice_range, at_drop_more, quoted_byte}
use Rattle.jiter_value.proofs.Words.{quoted_from}
use Rattle.std.proofs.lemmas.List.Edits.{between_more, between_none}

-- what a byte prints, and what follows it
pub piece-more : (t w : List ℕ) (i : ℕ) → i < length t → w ≡ quoted_byte (slice_index t i)
    → w ++ quoted_from t (i + 1) ≡ quoted_from t i
piece-more t w i lt is =
    ap (λ v. v ++ quoted_from t (i + 1)) is ∙ sym (at_drop_more (flat_map quoted_byte) t i 0 lt)

-- a byte that prints as it is lengthens the run
pub run-more : (t : List ℕ) (begin i : ℕ) (all : List ℕ) → begin ≤ i → i < length t
    → quoted_byte (slice_index t i) ≡ slice_index t i ∷ [] → slice_range t begin i ++ quoted_from t i ≡ all
    → slice_range t begin (i + 1) ++ quoted_from t (i + 1) ≡ all
run-more t begin i all le lt plain same =
    let b = slice_index t i in
    ap (λ w. w ++ quoted_from t (i + 1)) (between_more t begin i 0 le lt)
    ∙ append_assoc (slice_range t begin i) (b ∷ []) (quoted_from t (i + 1))
    ∙ ap (λ w. slice_range t begin i ++ w) (piece-more t (b ∷ []) i lt (sym plain)) ∙ same

pub run-begins : (t : List ℕ) (begin : ℕ) → begin < length t
    → quoted_byte (slice_index t begin) ≡ slice_index t begin ∷ []
    → slice_range t begin (begin + 1) ++ quoted_from t (begin + 1) ≡ quoted_from t begin
run-begins t begin lt plain =
    run-more t begin begin (quoted_from t begin) (omega arith) lt plain
    (ap (λ w. w ++ quoted_from t begin) (between_none t begin))

-- What was printed so far, one piece more.
pub printed-more : (done piece rest old all : List ℕ) → done ++ old ≡ all → piece ++ rest ≡ old
    → (done ++ piece) ++ rest ≡ all
printed-more done piece rest old all same next =
    append_assoc done piece rest ∙ ap (λ w. done ++ w) next ∙ same
