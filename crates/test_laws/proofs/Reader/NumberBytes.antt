-- The bytes of numbers whose digits come in runs of some lengths, by computation.
use Rattle.jiter.proofs.Words.{ℕ, List, [], ◌∷◌, ◌++◌, length, map, refl, codes, replicate, flat_map, gave, next}
use Rattle.jiter.proofs.Words.{number_bytes_read}
use Rattle.test_laws.proofs.Reader.Tables.{Row, RepliesOn, computed_replies, at}

-- numbers of the digits d: alone, after a minus, of a fraction, of a power, and all at once
abbrev numbers_of : List ℕ → List (List ℕ)
numbers_of d =
    d ∷
    (codes "-" ++ d) ∷
    (codes "1." ++ d) ∷
    (codes "1.5e" ++ d) ∷
    (d ++ (codes "." ++ (d ++ (codes "e-" ++ d)))) ∷
    []

-- what may follow a number: nothing, a comma, a closer or whitespace
abbrev followers : List (List ℕ)
followers = [] ∷ codes "," ∷ codes "]" ∷ codes " " ∷ []

-- each number is read as its own bytes, whatever follows it
abbrev rows_of : List ℕ → List (Row (List ℕ))
rows_of w = map (λ f. (at (w ++ f) 0, gave w (length w))) followers

-- the numbers of runs of n digits are read so
abbrev RunsOf : ℕ → Type 0
RunsOf n = RepliesOn (λ s. next s (number_bytes_read s)) (flat_map rows_of (numbers_of (replicate n 55)))

short_runs : RunsOf 1 × RunsOf 7 × RunsOf 8 × RunsOf 9 × RunsOf 15
unfolding computed_replies
short_runs = (refl, refl, refl, refl, refl)

long_runs : RunsOf 16 × RunsOf 17 × RunsOf 23 × RunsOf 24 × RunsOf 25 × RunsOf 40
unfolding computed_replies
long_runs = (refl, refl, refl, refl, refl, refl)
