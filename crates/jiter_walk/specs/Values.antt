-- What values mean that are read at once, and lists of them.
use Rattle.std.specs.Prelude.{◌++◌, ◌&&◌, ℕ, pos, Bool, if◌then◌else◌, List, [], ◌∷◌, Option, Some, None, nat_le, slice_range}
use Rattle.jiter.specs.Caller.{Node, Number, Reply, Tree, begin, bool_told, end, gave, int_told, null_told}
use Rattle.jiter.specs.Caller.{is_null_tree, number_bytes_told, number_told, refused, reply_seen, str_told, text_bytes}
use Rattle.jiter.specs.Caller.{value_of}
use Rattle.jiter_walk.specs.Walk.{Outcome, and_then, array_walked, custom, fails, gives, of_reader}

-- what a call replied
abbrev pub replied : {C A : Type 0} → Reply A → Outcome C A
replied (gave a e) = gives a
replied (refused c x stop) = fails (of_reader c) x

-- the string that a value is; or another type
abbrev pub text_in : {C : Type 0} → List ℕ → Node → Outcome C (List ℕ)
text_in t n = replied (reply_seen text_bytes (str_told (value_of t n) (begin n) (end n)))

-- `true` or `false`
abbrev pub flag_in : {C : Type 0} → List ℕ → Node → Outcome C Bool
flag_in t n = replied (bool_told (value_of t n) (begin n) (end n))

-- an integer
abbrev pub integer_in : {C : Type 0} → List ℕ → Node → Outcome C Number
integer_in t n = replied (int_told (value_of t n) (begin n) (end n))

-- a number
abbrev pub number_in : {C : Type 0} → List ℕ → Node → Outcome C Number
number_in t n = replied (number_told (value_of t n) (begin n) (end n))

-- the source of a number
abbrev pub number_source_in : {C : Type 0} → List ℕ → Node → Outcome C (List ℕ)
number_source_in t n = replied (number_bytes_told t (value_of t n) (begin n) (end n))

-- the source of any value
abbrev pub source_in : {C : Type 0} → List ℕ → Node → Outcome C (List ℕ)
source_in t n = gives (slice_range t (begin n) (end n))

-- `null`
abbrev pub null_in : {C : Type 0} → List ℕ → Node → Outcome C (Unit {0})
null_in t n = replied (null_told (value_of t n) (begin n) (end n))

-- any value, as a tree
abbrev pub tree_in : {C : Type 0} → List ℕ → Node → Outcome C Tree
tree_in t n = gives (value_of t n)

-- a value that is skipped
abbrev pub passed_in : {C : Type 0} → List ℕ → Node → Outcome C (Unit {0})
passed_in t n = gives tt

-- a number, if it is an integer from low to high
abbrev pub bounded : ℕ → ℕ → Number → Option ℕ
bounded low high (Number.integer (pos p)) = if nat_le low p && nat_le p high then Some p else None
bounded low high z = None

abbrev pub if_bounded : {C A : Type 0} → C → ℕ → Option A → Outcome C A
if_bounded cause b (Some p) = gives p
if_bounded cause b None = fails (custom cause) b

-- the integer that a value is, if it fits; another integer is this error
abbrev pub fitting : {C A : Type 0} → (Number → Option A) → C → List ℕ → Node → Outcome C A
fitting fit cause t n = and_then (integer_in t n) (λ z. if_bounded cause (begin n) (fit z))

-- the integer from low to high that a value is; another integer is this error
abbrev pub integer_between : {C : Type 0} → ℕ → ℕ → C → List ℕ → Node → Outcome C ℕ
integer_between low high cause t n = fitting (bounded low high) cause t n

-- one item more, at the end of a list
abbrev pub listed : {C A : Type 0} → (List ℕ → Node → Outcome C A) → List ℕ → Node → List A → Outcome C (List A)
listed meaning t n xs = and_then (meaning t n) (λ x. gives (xs ++ x ∷ []))

-- the items of an array, each by its meaning
abbrev pub list_meaning : {C A : Type 0} → (List ℕ → Node → Outcome C A) → List ℕ → Node → Outcome C (List A)
list_meaning meaning t n = array_walked (listed meaning) [] t n

-- nothing for `null`, else this
abbrev pub nullable : {C A : Type 0} → Bool → Outcome C A → Outcome C (Option A)
nullable b o = if b then gives None else and_then o (λ a. gives (Some a))

-- nothing for `null`, else the value by its meaning
abbrev pub or_null_in : {C A : Type 0} → (List ℕ → Node → Outcome C A) → List ℕ → Node → Outcome C (Option A)
or_null_in meaning t n = nullable (is_null_tree (value_of t n)) (meaning t n)
