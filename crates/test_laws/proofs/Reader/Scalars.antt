-- What reads of scalars reply, and where the reader is then, by computation.
use Rattle.jiter.proofs.Words.{pos, true, false, [], ◌∷◌, ◌++◌, refl, codes, eof_string, eof_value, expected_ident}
use Rattle.jiter.proofs.Words.{expected_value, invalid_escape, invalid_number, invalid_code_point, json_error}
use Rattle.jiter.proofs.Words.{wrong_type, null, bool, int, string, array, object, gave, refused, next, null_read}
use Rattle.jiter.proofs.Words.{bool_read, number_read, int_read, number_bytes_read, str_read, bytes_read}
use Rattle.std.proofs.Common.{negsuc}
use Rattle.jiter_scan.specs.Number as number
use Rattle.jiter.specs.Cause.{float}
use Rattle.test_laws.proofs.Reader.Tables.{RepliesOn, computed_replies, at, named, partly, borrowed, owned}

nulls : RepliesOn (λ s. next s (null_read s)) (
    (at (codes " null,") 0, gave tt 5) ∷
    (at (codes " [") 0, refused (wrong_type null array) 1 1) ∷
    (at (codes "true") 0, refused (wrong_type null bool) 0 0) ∷
    (at (codes "nulx") 0, refused (json_error expected_ident) 3 0) ∷
    (at (codes "  ") 0, refused (json_error eof_value) 2 2) ∷
    [])
unfolding computed_replies
nulls = refl

bools : RepliesOn (λ s. next s (bool_read s)) (
    (at (codes "true") 0, gave true 4) ∷
    (at (codes "[false") 1, gave false 6) ∷
    (at (codes "tru") 0, refused (json_error eof_value) 3 0) ∷
    (at (codes "x") 0, refused (json_error expected_value) 0 0) ∷
    (at (codes "nul") 0, refused (wrong_type bool null) 0 0) ∷
    (at (codes "NaN") 0, refused (json_error expected_value) 0 0) ∷
    (named (codes "NaN") 0, refused (wrong_type bool float) 0 0) ∷
    [])
unfolding computed_replies
bools = refl

integers : RepliesOn (λ s. next s (int_read s)) (
    (at (codes "12,") 0, gave (number.integer (pos 12)) 2) ∷
    (at (codes " -12 ") 0, gave (number.integer (negsuc 11)) 4) ∷
    (at (codes "9223372036854775808") 0, gave (number.big (codes "9223372036854775808")) 19) ∷
    (at (codes " 1.5") 0, refused (wrong_type int float) 1 1) ∷
    (at (codes "12ex") 0, refused (wrong_type int float) 0 0) ∷
    (at (codes "-x") 0, refused (json_error invalid_number) 1 0) ∷
    (at (codes "-I") 0, refused (wrong_type int float) 0 0) ∷
    (at (codes "-N") 0, refused (json_error invalid_number) 1 0) ∷
    (at (codes "01.5") 0, refused (json_error invalid_number) 1 0) ∷
    (at (codes "\"1\"") 0, refused (wrong_type int string) 0 0) ∷
    (at (codes "{") 0, refused (wrong_type int object) 0 0) ∷
    (at (codes "]") 0, refused (json_error expected_value) 0 0) ∷
    (at (codes "NaN") 0, refused (wrong_type int float) 0 0) ∷
    (named (codes "NaN") 0, refused (wrong_type int float) 0 0) ∷
    [])
unfolding computed_replies
integers = refl

numbers : RepliesOn (λ s. next s (number_read s)) (
    (at (codes "12.50]") 0, gave (number.float (codes "12.50")) 5) ∷
    (at (codes "[-0]") 1, gave (number.integer (pos 0)) 3) ∷
    (at (codes " 1.5") 1, gave (number.float (codes "1.5")) 4) ∷
    (at (codes "NaN") 0, refused (json_error expected_value) 0 0) ∷
    (named (codes "NaN") 0, gave (number.float (codes "NaN")) 3) ∷
    (at (codes "null") 0, refused (wrong_type int null) 0 0) ∷
    (at (codes "12.") 0, refused (json_error eof_value) 3 0) ∷
    [])
unfolding computed_replies
numbers = refl

bytes_of_numbers : RepliesOn (λ s. next s (number_bytes_read s)) (
    (at (codes "null") 0, refused (wrong_type float null) 0 0) ∷
    (at (codes " -1.50e3,") 0, gave (codes "-1.50e3") 8) ∷
    (named (codes "[NaN]") 1, gave (codes "NaN") 4) ∷
    [])
unfolding computed_replies
bytes_of_numbers = refl

-- A number where another type is wanted is read first.
texts : RepliesOn (λ s. next s (str_read s)) (
    (at (codes "-I") 0, refused (json_error invalid_number) 1 0) ∷
    (at (codes "12.") 0, refused (json_error eof_value) 3 0) ∷
    (at (codes "12") 0, refused (wrong_type string int) 0 0) ∷
    (at (codes "9223372036854775808") 0, refused (wrong_type string int) 0 0) ∷
    (at (codes " \"ab\",") 0, gave (borrowed (codes "ab")) 5) ∷
    (at (codes "\"a\\n\"") 0, gave (owned (97 ∷ 10 ∷ [])) 5) ∷
    (at (codes "\"ab") 0, refused (json_error eof_string) 3 0) ∷
    (at (codes "[\"" ++ (255 ∷ (codes "\"]"))) 1, refused (json_error invalid_code_point) 2 1) ∷
    (at (codes "[") 0, refused (wrong_type string array) 0 0) ∷
    (partly (codes "\"ab") 0, gave (borrowed (codes "ab")) 3) ∷
    (partly (codes "\"ab\\") 0, gave (owned (codes "ab")) 4) ∷
    (partly (34 ∷ 97 ∷ 226 ∷ 130 ∷ []) 0, gave (borrowed (codes "a")) 4) ∷
    (partly (codes "\"a\\q") 0, refused (json_error invalid_escape) 3 0) ∷
    [])
unfolding computed_replies
texts = refl

bytes_of_texts : RepliesOn (λ s. next s (bytes_read s)) (
    (at (codes " 1e5") 0, refused (wrong_type string float) 1 1) ∷
    (at (codes "\"\\u0061\"") 0, gave (borrowed (codes "\\u0061")) 8) ∷
    (at (codes "\"ab") 0, refused (json_error eof_string) 3 0) ∷
    (at (codes "[\"" ++ (255 ∷ (codes "\"]"))) 1, gave (borrowed (255 ∷ [])) 4) ∷
    (partly (codes "\"ab") 0, gave (borrowed (codes "ab")) 3) ∷
    (partly (codes "\"ab\\") 0, refused (json_error eof_string) 4 0) ∷
    [])
unfolding computed_replies
bytes_of_texts = refl
