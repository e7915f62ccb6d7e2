-- How deep containers may be one inside another, by computation. A key costs far more to compute than a bracket, so
-- most levels are arrays; two rows alone have objects on every level.
use Rattle.std.proofs.Common.{◌≡◌, ℕ, zero, suc, false, List, [], ◌∷◌, ◌++◌, refl, codes, map}
use Rattle.jiter_scan.specs.Kind.{eof_list, eof_value, is_forgiven, recursion_limit}
use Rattle.jiter_scan.specs.declared.partial_mode.PartialMode.{PartialMode}
use Rattle.jiter_scan.specs.declared.partial_mode.PartialMode.TheVariants.{Off, On, TrailingStrings}
use Rattle.jiter_steps.specs.Tree.{Tree}
use Rattle.jiter_steps.specs.Read.{Reading, done, fault, prefix_answer}
use Rattle.jiter_steps.specs.Answer.{answer, answer_in, partial_answer, skip_at, trees}
use Rattle.jiter_steps.specs.StringReading.{Form, kept, whole}
use Rattle.test_laws.proofs.Steps.Trees.{borrowed, listed, paired, nested, times, Give}
use Rattle.jiter_steps.proofs.Computed.{computed_readings}

-- so many arrays, one inside another
abbrev arrays : ℕ → List ℕ
arrays n = times n (codes "[") ++ times n (codes "]")

-- 200 containers, each the first value of the one before it: an object and 99 arrays, twice
abbrev mixed : List ℕ
mixed = times 2 (codes "{\"\":" ++ times 99 (codes "["))

-- A text, and the index at which it is refused.
abbrev Row : Type 0
Row = List ℕ × ℕ

abbrev too_deep : List Row
too_deep =
    (arrays 202, 201) ∷
    (times 202 (codes "["), 201) ∷
    -- an object is counted where its first value begins
    (times 200 (codes "[") ++ codes "{\"\":1", 204) ∷
    (mixed ++ codes "[1", 207) ∷
    []

-- every text is refused at its index
abbrev AllRefused : {A : Type 0} → (List ℕ → Reading A) → List Row → Type 0
AllRefused f rows = map (λ r. f r.0) rows ≡ map (λ r. fault recursion_limit r.1 r.1) rows

too_deep_off : AllRefused (answer false) too_deep
too_deep_off = unfold computed_readings in refl

-- The partial modes differ in the form of strings alone, and no string is reached.
too_deep_partial : (form : Form) → AllRefused (prefix_answer (trees is_forgiven form false)) too_deep
too_deep_partial form = unfold computed_readings in refl

too_deep_answer : (mode : PartialMode) → AllRefused (answer_in false mode) too_deep
too_deep_answer Off = too_deep_off
too_deep_answer On = too_deep_partial whole
too_deep_answer TrailingStrings = too_deep_partial kept

too_deep_skip : AllRefused (λ t. skip_at false t 0) too_deep
too_deep_skip = unfold computed_readings in refl

objects_too_deep : AllRefused (answer false) ((times 201 (codes "{\"\":") ++ codes "1", 804) ∷ [])
objects_too_deep = unfold computed_readings in refl

-- so many arrays, round a value
abbrev arrays_round : ℕ → Tree → Tree
arrays_round zero v = v
arrays_round (suc n) v = listed (arrays_round n v ∷ [])

-- so many objects of one member with an empty key, round an empty one
abbrev nested_objects : ℕ → Tree
nested_objects zero = paired []
nested_objects (suc n) = paired ((borrowed [], nested_objects n) ∷ [])

-- so many such objects with 99 arrays inside each, round an empty array
abbrev nested_mixed : ℕ → Tree
nested_mixed zero = listed []
nested_mixed (suc n) = paired ((borrowed [], arrays_round 99 (nested_mixed n)) ∷ [])

-- As deep as may be: an empty container is not counted, and neither is an object whose first value is not reached.
deep : Give (answer false ∷ []) (
    (arrays 201, done (nested 200) 402) ∷
    (times 201 (codes "["), fault eof_list 201 201) ∷
    (times 200 (codes "[") ++ codes "{\"\":", fault eof_value 204 204) ∷
    (mixed ++ codes "[", fault eof_list 207 207) ∷
    [])
deep = unfold computed_readings in refl

deep_and_open : Give (partial_answer false On ∷ []) (
    (times 201 (codes "["), done (nested 200) 201) ∷
    (times 200 (codes "[") ++ codes "{\"\":", done (arrays_round 200 (paired [])) 204) ∷
    (times 201 (codes "{\"\":"), done (nested_objects 200) 804) ∷
    (mixed ++ codes "[", done (nested_mixed 2) 207) ∷
    [])
deep_and_open = unfold computed_readings in refl

arrays_skip : skip_at false (arrays 201) 0 ≡ done tt 402
arrays_skip = unfold computed_readings in refl
