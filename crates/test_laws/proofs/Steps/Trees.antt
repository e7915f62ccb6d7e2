-- How the rows write trees and long texts, and what a table of rows says.
use Prim.Native.String.{String}
use Rattle.std.proofs.Common.{◌≡◌, ℕ, zero, suc, pos, true, false, List, [], ◌∷◌, ◌++◌, codes, map}
use Rattle.jiter_steps.specs.Tree.{Text, Tree, items_of, members_of}
use Rattle.jiter_steps.specs.Tree as tree

-- a text that lies in the input
abbrev pub borrowed : List ℕ → Text
borrowed w = record { owned = false; bytes = w }

-- a text with memory of its own
abbrev pub owned : List ℕ → Text
owned w = record { owned = true; bytes = w }

-- a text of ASCII that lies in the input
abbrev pub ascii : String → Text
ascii s = borrowed (codes s)

-- an integer that is not negative
abbrev pub number : ℕ → Tree
number n = tree.int (pos n)

abbrev pub text : List ℕ → Tree
text w = tree.string (borrowed w)

abbrev pub word : String → Tree
word s = tree.string (ascii s)

abbrev pub own_text : List ℕ → Tree
own_text w = tree.string (owned w)

abbrev pub listed : List Tree → Tree
listed vs = tree.array (items_of vs)

abbrev pub paired : List (Text × Tree) → Tree
paired ms = tree.object (members_of ms)

-- so many arrays of one item, round an empty one
abbrev pub nested : ℕ → Tree
nested zero = listed []
nested (suc n) = listed (nested n ∷ [])

-- the bytes so many times
abbrev pub times : ℕ → List ℕ → List ℕ
times zero w = []
times (suc n) w = w ++ times n w

-- A table of texts, each with what every one of the functions gives for it; and of texts with a place in them.
abbrev pub Give : {A : Type 0} → List (List ℕ → A) → List (List ℕ × A) → Type 0
Give fs rows = map (λ f. map (λ r. f r.0) rows) fs ≡ map (λ f. map (λ r. r.1) rows) fs

abbrev pub GiveAt : {A : Type 0} → List (List ℕ → ℕ → A) → List (List ℕ × ℕ × A) → Type 0
GiveAt fs rows = map (λ f. map (λ r. f r.0 r.1) rows) fs ≡ map (λ f. map (λ r. r.2) rows) fs
