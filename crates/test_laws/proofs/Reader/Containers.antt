-- What the steps through arrays and objects reply, and where the reader is then, by computation.
use Rattle.jiter.proofs.Words.{[], ◌∷◌, ◌++◌, refl, codes, Some, None, eof_string, eof_value, invalid_number}
use Rattle.jiter.proofs.Words.{invalid_code_point, trailing_comma, whole, raw, json_error, wrong_type, int, array}
use Rattle.jiter.proofs.Words.{object, gave, refused, peek, next, array_read, item_step, object_read, key_step, finish}
use Rattle.jiter_scan.specs.Kind.{eof_list, eof_object}
use Rattle.jiter_scan.specs.Kind.{expected_colon, expected_list_comma_or_end, expected_object_comma_or_end}
use Rattle.jiter_scan.specs.Kind.{key_must_be_a_string, trailing_characters}
use Rattle.test_laws.proofs.Reader.Tables.{RepliesOn, computed_replies, at, partly, borrowed, owned}

arrays : RepliesOn (λ s. next s (array_read s)) (
    (at (codes " [ 1]") 0, gave (Some 49) 3) ∷
    (at (codes "[ ] ") 0, gave None 3) ∷
    (at (codes "[") 0, refused (json_error eof_list) 1 1) ∷
    (at (codes "[x") 0, gave (Some 120) 1) ∷
    (at (codes " {") 0, refused (wrong_type array object) 1 1) ∷
    (at (codes "-x") 0, refused (json_error invalid_number) 1 0) ∷
    [])
unfolding computed_replies
arrays = refl

-- After an item; in the last row the comma was consumed.
items : RepliesOn (item_step) (
    (at (codes "[1 , 2]") 2, gave (Some 50) 5) ∷
    (at (codes "[1 ]") 2, gave None 4) ∷
    (at (codes "[1 ") 2, refused (json_error eof_list) 3 3) ∷
    (at (codes "[1,") 2, refused (json_error eof_value) 3 3) ∷
    (at (codes "[1 2]") 2, refused (json_error expected_list_comma_or_end) 3 3) ∷
    (at (codes "[1,]") 2, refused (json_error trailing_comma) 3 3) ∷
    (at (codes "[1,]") 3, gave None 4) ∷
    [])
unfolding computed_replies
items = refl

-- What follows the colon is not looked at.
objects : RepliesOn (λ s. next s (object_read whole s)) (
    (at (codes " { \"a\" : 1}") 0, gave (Some (borrowed (codes "a"))) 8) ∷
    (at (codes "{ }") 0, gave None 3) ∷
    (at (codes "{\"\\u0061\":1}") 0, gave (Some (owned (codes "a"))) 10) ∷
    (at (codes " 1") 0, refused (wrong_type object int) 1 1) ∷
    (at (codes "{\"a\" 1}") 0, refused (json_error expected_colon) 5 5) ∷
    (at (codes "{\"a") 0, refused (json_error eof_string) 3 1) ∷
    (partly (codes "{\"a") 0, refused (json_error eof_string) 3 1) ∷
    (at (codes "{\"a\"") 0, refused (json_error eof_object) 4 4) ∷
    (at (codes "{") 0, refused (json_error eof_object) 1 1) ∷
    (at (codes "{1:2}") 0, refused (json_error key_must_be_a_string) 1 1) ∷
    (at (codes "{\"a\":") 0, gave (Some (borrowed (codes "a"))) 5) ∷
    (at (codes "{\"" ++ (255 ∷ (codes "\":1}"))) 0, refused (json_error invalid_code_point) 2 1) ∷
    [])
unfolding computed_replies
objects = refl

objects_by_bytes : RepliesOn (λ s. next s (object_read raw s)) (
    (at (codes "{\"\\u0061\":1}") 0, gave (Some (borrowed (codes "\\u0061"))) 10) ∷
    (at (codes "[") 0, refused (wrong_type object array) 0 0) ∷
    (at (codes "{\"" ++ (255 ∷ (codes "\":1}"))) 0, gave (Some (borrowed (255 ∷ []))) 5) ∷
    [])
unfolding computed_replies
objects_by_bytes = refl

-- After a member.
keys : RepliesOn (key_step whole) (
    (at (codes "{\"a\":1 , \"b\" :2}") 6, gave (Some (borrowed (codes "b"))) 14) ∷
    (at (codes "{\"a\":1 }") 6, gave None 8) ∷
    (at (codes "{\"a\":1") 6, refused (json_error eof_object) 6 6) ∷
    (at (codes "{\"a\":1,") 6, refused (json_error eof_value) 7 7) ∷
    (at (codes "{\"a\":1,}") 6, refused (json_error trailing_comma) 7 7) ∷
    (at (codes "{\"a\":1 \"b\"") 6, refused (json_error expected_object_comma_or_end) 7 7) ∷
    (at (codes "{\"a\":1,2") 6, refused (json_error key_must_be_a_string) 7 7) ∷
    [])
unfolding computed_replies
keys = refl

bytes_of_keys : RepliesOn (key_step raw) (
    (at (codes "{\"a\":1,\"\\n\":2}") 6, gave (Some (borrowed (codes "\\n"))) 12) ∷
    [])
unfolding computed_replies
bytes_of_keys = refl

peeks : RepliesOn (peek) (
    (at (codes " x") 0, gave 120 1) ∷
    (at (32 ∷ 10 ∷ []) 0, refused (json_error eof_value) 2 2) ∷
    [])
unfolding computed_replies
peeks = refl

ends : RepliesOn (finish) (
    (at (codes "1 ") 1, gave tt 2) ∷
    (at (codes " x") 0, refused (json_error trailing_characters) 1 1) ∷
    [])
unfolding computed_replies
ends = refl
