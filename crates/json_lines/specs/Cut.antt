-- What is written of a log that is cut between two lines: what is written of its parts, one after the other.
use Rattle.std.specs.Prelude.{◌≡◌, ℕ, ◌+◌, ◌⊎◌, List, [], ◌∷◌, ◌++◌, Option, Some, length}
use Rattle.json_lines.specs.Line.{Seen}
use Rattle.json_lines.specs.Log.{WritesAll, raw_lines}
use Rattle.json_lines.specs.declared.log.Counts.{Counts}

-- A log may be cut after these bytes: there are none, or the last one is a line feed.
abbrev pub IsWholeLines : List ℕ → Type 0
IsWholeLines a = (a ≡ []) ⊎ ((front : List ℕ) × (a ≡ front ++ 10 ∷ []))

-- the number of the first line after these lines
abbrev pub line_after : ℕ → List ℕ → ℕ
line_after first a = first + length (raw_lines a)

-- the counts of two parts make these of the whole
abbrev pub IsSum : Counts → Counts → Counts → Type 0
IsSum a b counts = (counts.texts ≡ a.texts + b.texts) × (counts.refused ≡ a.refused + b.refused)

abbrev pub IsSame : Counts → Counts → Type 0
IsSame a b = (a.texts ≡ b.texts) × (a.refused ≡ b.refused)

-- a line becomes one thing, or nothing
abbrev pub IsDecided : (List ℕ → Seen → Type 0) → Type 0
IsDecided becomes = (line : List ℕ) (o o' : Seen) → becomes line o → becomes line o' → o ≡ o'

-- Converting a log and then another one writes what converting both as one does, if the first ends with a line feed and the
-- second one's lines are numbered after those of the first.
abbrev pub IsJoined : Type 1
IsJoined = (becomes : List ℕ → Seen → Type 0) (name : List ℕ) (first : ℕ) (a b : List ℕ) (of_a of_b counts : Counts)
    (out out' out'' err err' err'' bad bad' bad'' : Option (List ℕ)) → IsWholeLines a
    → WritesAll becomes name first a of_a out out' err err' bad bad'
    → WritesAll becomes name (line_after first a) b of_b out' out'' err' err'' bad' bad''
    → IsSum of_a of_b counts → WritesAll becomes name first (a ++ b) counts out out'' err err'' bad bad''

-- A log is converted in one way only, over known bytes, if what its lines become is decided.
abbrev pub IsOne : Type 1
IsOne = (becomes : List ℕ → Seen → Type 0) (name : List ℕ) (first : ℕ) (t : List ℕ) (counts counts' : Counts)
    (out err bad : List ℕ) (x x' y y' z z' : Option (List ℕ)) → IsDecided becomes
    → WritesAll becomes name first t counts (Some out) x (Some err) y (Some bad) z
    → WritesAll becomes name first t counts' (Some out) x' (Some err) y' (Some bad) z'
    → (x ≡ x') × (y ≡ y') × (z ≡ z') × IsSame counts counts'

-- So a log that was cut between two lines is converted as the whole one is.
abbrev pub IsCutAnywhere : Type 1
IsCutAnywhere = (becomes : List ℕ → Seen → Type 0) (name : List ℕ) (first : ℕ) (a b : List ℕ) (of_a of_b counts : Counts)
    (out err bad : List ℕ) (out' out'' err' err'' bad' bad'' x y z : Option (List ℕ)) → IsDecided becomes → IsWholeLines a
    → WritesAll becomes name first a of_a (Some out) out' (Some err) err' (Some bad) bad'
    → WritesAll becomes name (line_after first a) b of_b out' out'' err' err'' bad' bad''
    → WritesAll becomes name first (a ++ b) counts (Some out) x (Some err) y (Some bad) z
    → (out'' ≡ x) × (err'' ≡ y) × (bad'' ≡ z) × IsSum of_a of_b counts
