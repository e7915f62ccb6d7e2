-- Each step between the parts of a container, and the way from a key to its value, by computation.
use Rattle.std.proofs.Common.{[], ◌∷◌, ◌++◌, refl, codes}
use Rattle.jiter_scan.specs.Kind.{eof_list, eof_object, eof_value, expected_list_comma_or_end, expected_colon}
use Rattle.jiter_scan.specs.Kind.{expected_object_comma_or_end, key_must_be_a_string, trailing_comma}
use Rattle.jiter_scan.specs.Scanned.{taken, failed}
use Rattle.jiter_steps.specs.Step.{more, closed, stuck, step, container_comma, colon, value_first, object_colon}
use Rattle.jiter_steps.specs.Step.{array_first, array_step, object_first, object_step}
use Rattle.jiter_steps.specs.declared.parse.ContainerKind.TheVariants as shape
use Rattle.test_laws.proofs.Steps.Trees.{GiveAt}
use Rattle.jiter_steps.proofs.Computed.{computed_steps}

-- after an opening bracket
array_begins : GiveAt ((λ t. step t array_first) ∷ []) (
    (codes "[ ", 1, stuck eof_list 2) ∷
    (codes "[ ]", 1, closed 3) ∷
    (codes "[ 1]", 1, more 2) ∷
    (codes "[,", 1, more 1) ∷
    (codes "[ \t\n\r]", 1, closed 6) ∷  -- whitespace is passed
    (codes "[" ++ 12 ∷ codes "]", 1, more 1) ∷  -- a form feed is not whitespace
    [])
array_begins = unfold computed_steps in refl

-- after an item
item_ends : GiveAt ((λ t. step t (array_step t)) ∷ []) (
    (codes "[1 ", 2, stuck eof_list 3) ∷
    (codes "[1 ]", 2, closed 4) ∷
    (codes "[1 , 2]", 2, more 5) ∷
    (codes "[1 }", 2, stuck expected_list_comma_or_end 3) ∷
    (codes "[1,", 2, stuck eof_value 3) ∷
    (codes "[1,]", 2, stuck trailing_comma 3) ∷
    [])
item_ends = unfold computed_steps in refl

-- after a comma in an array
array_goes_on : GiveAt ((λ t. step t (container_comma shape.Array)) ∷ []) (
    (codes "[1, ", 3, stuck eof_value 4) ∷
    (codes "[1, ]", 3, stuck trailing_comma 4) ∷
    (codes "[1, x", 3, more 4) ∷
    (codes "[1,,", 3, more 3) ∷
    [])
array_goes_on = unfold computed_steps in refl

-- after an opening brace
object_begins : GiveAt ((λ t. step t object_first) ∷ []) (
    (codes "{ ", 1, stuck eof_object 2) ∷
    (codes "{ }", 1, closed 3) ∷
    (codes "{ \"a\"", 1, more 2) ∷
    (codes "{1:2}", 1, stuck key_must_be_a_string 1) ∷
    [])
object_begins = unfold computed_steps in refl

-- after a member
member_ends : GiveAt ((λ t. step t (object_step t)) ∷ []) (
    (codes "{\"a\":1 ", 6, stuck eof_object 7) ∷
    (codes "{\"a\":1 }", 6, closed 8) ∷
    (codes "{\"a\":1 , \"b\"", 6, more 9) ∷
    (codes "{\"a\":1 \"b\"}", 6, stuck expected_object_comma_or_end 7) ∷
    [])
member_ends = unfold computed_steps in refl

-- after a comma in an object
object_goes_on : GiveAt ((λ t. step t (container_comma shape.Object)) ∷ []) (
    (codes "{\"a\":1, ", 7, stuck eof_value 8) ∷
    (codes "{\"a\":1,}", 7, stuck trailing_comma 7) ∷
    (codes "{\"a\":1, \"b\"", 7, more 8) ∷
    (codes "{\"a\":1,2", 7, stuck key_must_be_a_string 7) ∷
    [])
object_goes_on = unfold computed_steps in refl

-- after a key
key_ends : GiveAt ((λ t. step t colon) ∷ []) (
    (codes "{\"a\" ", 4, failed eof_object 5) ∷
    (codes "{\"a\" :1", 4, taken tt 6) ∷
    (codes "{\"a\" 1}", 4, failed expected_colon 5) ∷
    [])
key_ends = unfold computed_steps in refl

-- after a colon
colon_ends : GiveAt ((λ t. step t value_first) ∷ []) (
    (codes "{\"a\": ", 5, failed eof_value 6) ∷
    (codes "{\"a\": }", 5, taken tt 6) ∷
    [])
colon_ends = unfold computed_steps in refl

-- after a key, to where its value begins
key_leads_on : GiveAt (object_colon ∷ []) (
    (codes "{\"a\" : 1", 4, taken tt 7) ∷
    (codes "{\"a\":", 4, failed eof_value 5) ∷
    (codes "{\"a\"", 4, failed eof_object 4) ∷
    (codes "{\"a\" 1", 4, failed expected_colon 5) ∷
    [])
key_leads_on = unfold computed_steps in refl
