-- What whole documents answer with partial reading off, by computation.
use Rattle.std.proofs.Common.{ℕ, negsuc, true, false, List, [], ◌∷◌, ◌++◌, refl, codes}
use Rattle.jiter_scan.specs.Kind.{eof_list, eof_object, eof_string, eof_value, expected_colon}
use Rattle.jiter_scan.specs.Kind.{expected_list_comma_or_end, expected_object_comma_or_end, expected_ident}
use Rattle.jiter_scan.specs.Kind.{expected_value, invalid_escape, invalid_number, invalid_code_point, control_character}
use Rattle.jiter_scan.specs.Kind.{key_must_be_a_string, lone_surrogate, trailing_comma, trailing_characters}
use Rattle.jiter_scan.specs.Kind.{end_of_hex_escape}
use Rattle.jiter_steps.specs.Tree.{Tree, null, boolean, int, big, float}
use Rattle.jiter_steps.specs.Read.{done, fault}
use Rattle.jiter_steps.specs.Answer.{answer}
use Rattle.test_laws.proofs.Steps.Trees.{owned, ascii, number, text, word, own_text, listed, paired, Give}
use Rattle.jiter_steps.proofs.Computed.{computed_readings}

literals_and_numbers : Give (answer false ∷ []) (
    -- whitespace and literals
    ([], fault eof_value 0 0) ∷
    (codes "  ", fault eof_value 2 2) ∷ (
      codes " [true, [null, []], false]",
      done (listed (boolean true ∷ listed (null ∷ listed [] ∷ []) ∷ boolean false ∷ [])) 26,
    ) ∷
    (codes " null\n", done null 5) ∷
    (239 ∷ 187 ∷ 191 ∷ codes "1", fault expected_value 0 0) ∷  -- a byte order mark
    (codes "x", fault expected_value 0 0) ∷
    (codes "]", fault expected_value 0 0) ∷
    (codes "tru", fault eof_value 3 0) ∷
    (codes "trux", fault expected_ident 3 0) ∷
    (codes "nul", fault eof_value 3 0) ∷
    (codes "[tru]", fault expected_ident 4 1) ∷
    -- after the value
    (codes "[1, 2] extra", fault trailing_characters 7 7) ∷
    (codes "[] ]", fault trailing_characters 3 3) ∷
    (codes "1 2", fault trailing_characters 2 2) ∷
    -- numbers
    (
      codes "[1.50, -0, 123456789012345678901234567890]",
      done (listed (float (ascii "1.50") ∷ number 0 ∷ big (ascii "123456789012345678901234567890") ∷ [])) 42,
    ) ∷ (
      codes "  { \"int\": 1, \"bigint\": 123456789012345678901234567890, \"float\": 1.2}  ",
      done (paired ((ascii "int", number 1) ∷ (ascii "bigint", big (ascii "123456789012345678901234567890")) ∷
          (ascii "float", float (ascii "1.2")) ∷ [])) 69,
    ) ∷ (
      codes "[9223372036854775807,-9223372036854775808,9223372036854775808]",
      done (listed (number 9223372036854775807 ∷ int (negsuc 9223372036854775807) ∷
          big (ascii "9223372036854775808") ∷ [])) 62,
    ) ∷
    (codes "[-]", fault invalid_number 2 1) ∷
    (codes "-01", fault invalid_number 2 0) ∷
    (codes "01", fault invalid_number 1 0) ∷
    (codes "1e", fault eof_value 2 0) ∷
    (codes "1e+x", fault invalid_number 3 0) ∷
    (codes "0.", fault eof_value 2 0) ∷
    (codes "[-I]", fault invalid_number 2 1) ∷
    (codes "[I]", fault expected_value 1 1) ∷
    [])
literals_and_numbers = unfold computed_readings in refl

strings : Give (answer false ∷ []) (
    (codes "\"\\ud83d\\ude00\"", done (own_text (240 ∷ 159 ∷ 152 ∷ 128 ∷ [])) 14) ∷  -- a surrogate pair
    (codes "\"\\ud83dx\"", fault end_of_hex_escape 7 0) ∷  -- a high surrogate and a letter
    (codes "\"\\ud83d\\n\"", fault end_of_hex_escape 8 0) ∷  -- a high surrogate and a short escape
    (codes "\"\\udc00\"", fault lone_surrogate 6 0) ∷  -- a low surrogate first
    (codes "\"\\ud83d\\u0041\"", fault lone_surrogate 12 0) ∷  -- a high surrogate and a letter escaped
    (codes "\"\\ud83d\"", fault end_of_hex_escape 7 0) ∷  -- a high surrogate and the quote
    (codes "\"\\ud83d\\", fault eof_string 8 0) ∷  -- a high surrogate and a backslash and the end
    (codes "\"\\u00\"", fault eof_string 6 0) ∷  -- u and three bytes
    (codes "\"\\u00\" ", fault invalid_escape 5 0) ∷  -- u and a quote among four
    (codes "\"\\uz\"", fault eof_string 5 0) ∷  -- u and two bytes and a quote
    (codes "\"\\x\"", fault invalid_escape 2 0) ∷
    (codes "\"a", fault eof_string 2 0) ∷
    (codes "[\"" ++ 255 ∷ codes "\"]", fault invalid_code_point 2 1) ∷  -- broken UTF-8 in an array
    (codes "\"\\n" ++ 255 ∷ codes "\"", fault invalid_code_point 2 0) ∷  -- broken UTF-8 after an escape
    (codes "\"" ++ 237 ∷ 160 ∷ 128 ∷ codes "\"", fault invalid_code_point 1 0) ∷  -- a surrogate in UTF-8
    (codes "\"" ++ 255 ∷ 31 ∷ codes "\"", fault control_character 2 0) ∷  -- a later error before broken UTF-8
    -- a control character far in
    (codes "\"aaaaaaaaaaaaaa" ++ 195 ∷ 169 ∷ codes "aaa" ++ 31 ∷ codes "\"", fault control_character 20 0) ∷
    (codes "\"aaaaaaaaaaaaaaa" ++ 128 ∷ codes "\"", fault invalid_code_point 16 0) ∷  -- a byte 80 far in
    (codes "[\"a" ++ 226 ∷ 130 ∷ [], fault eof_string 5 1) ∷  -- an unfinished character and the end
    (codes "\"" ++ 127 ∷ codes "\"", done (text (127 ∷ [])) 3) ∷  -- delete
    (codes "\"aaaaaaaaaaaaaaaa\"", done (word "aaaaaaaaaaaaaaaa") 18) ∷
    -- a character and thirteen letters
    (codes "\"" ++ 195 ∷ 169 ∷ codes "aaaaaaaaaaaaa\"", done (text (195 ∷ 169 ∷ codes "aaaaaaaaaaaaa")) 17) ∷
    (codes "\"aaaaaaaaaaaaaaa\\n\"", done (own_text (codes "aaaaaaaaaaaaaaa\n")) 19) ∷
    [])
strings = unfold computed_readings in refl

containers : Give (answer false ∷ []) (
    -- arrays
    (codes "[true", fault eof_list 5 5) ∷
    (codes "[true,]", fault trailing_comma 6 6) ∷
    (codes "[1,]", fault trailing_comma 3 3) ∷
    (codes "[true false]", fault expected_list_comma_or_end 6 6) ∷
    (codes "[\ntrue\nx", fault expected_list_comma_or_end 7 7) ∷
    (codes "[,]", fault expected_value 1 1) ∷
    (codes "[1,,2]", fault expected_value 3 3) ∷
    (codes "[1,", fault eof_value 3 3) ∷
    (codes "[1}", fault expected_list_comma_or_end 2 2) ∷
    (codes "[1x]", fault expected_list_comma_or_end 2 2) ∷
    (codes "[{\"a\":[1}, 2]", fault expected_list_comma_or_end 8 8) ∷
    -- objects
    (
      codes "{\"a\": [1, 2.50, \"\\n\"]}",
      done (paired ((ascii "a", listed (number 1 ∷ float (ascii "2.50") ∷ own_text (codes "\n") ∷ [])) ∷ [])) 22,
    ) ∷
    -- both members are kept in their order
    (codes "{\"a\":1,\"\\u0061\":2}", done (paired ((ascii "a", number 1) ∷ (owned (codes "a"), number 2) ∷ [])) 18) ∷ (
      codes "[[1,[2,3]],{\"a\":[4,{\"b\":5}],\"c\":[]},6]",
      done (listed (listed (number 1 ∷ listed (number 2 ∷ number 3 ∷ []) ∷ []) ∷
          paired ((ascii "a", listed (number 4 ∷ paired ((ascii "b", number 5) ∷ []) ∷ [])) ∷
          (ascii "c", listed []) ∷ []) ∷ number 6 ∷ [])) 38,
    ) ∷
    (codes "{\"a\" 1}", fault expected_colon 5 5) ∷
    (codes "{1:2}", fault key_must_be_a_string 1 1) ∷
    (codes "{\"a\":1,}", fault trailing_comma 7 7) ∷
    (codes "{\"a\":1 \"b\"}", fault expected_object_comma_or_end 7 7) ∷
    (codes "{\"a\":1,2", fault key_must_be_a_string 7 7) ∷
    (codes "{", fault eof_object 1 1) ∷
    (codes "{\"a", fault eof_string 3 1) ∷
    (codes "{\"a\"", fault eof_object 4 4) ∷
    (codes "{\"a\":", fault eof_value 5 5) ∷
    (codes "{\"a\":1", fault eof_object 6 6) ∷
    (codes "{\"a\":1,", fault eof_value 7 7) ∷
    (codes "{\"a\":}", fault expected_value 5 5) ∷
    (codes "{\"" ++ 255 ∷ codes "\":1}", fault invalid_code_point 2 1) ∷  -- broken UTF-8 in a key
    (codes "{\"a\": [1, {\"b\": \"x", fault eof_string 18 16) ∷
    [])
containers = unfold computed_readings in refl

abbrev person : Tree
person = paired ((ascii "name", word "John Doe") ∷ (ascii "age", number 43) ∷
    (ascii "phones", listed (word "+44 1234567" ∷ word "+44 2345678" ∷ [])) ∷ [])

abbrev person_over_lines : List ℕ
person_over_lines = codes "\n{\n    \"name\": \"John Doe\",\n    \"age\": 43,\n"
    ++ codes "    \"phones\": [\n        \"+44 1234567\",\n        \"+44 2345678\"\n    ]\n}"

-- where NaN and Infinity are read
with_names : Give (answer true ∷ []) (
    (codes "\n{\"name\": \"John Doe\", \"age\": 43, \"phones\": [\"+44 1234567\", \"+44 2345678\"]}", done person 74) ∷
    (person_over_lines, done person 110) ∷
    (codes "-NaN", fault invalid_number 1 0) ∷
    (codes "[Infinit]", fault expected_ident 8 1) ∷ (
      codes "[\"string\", \"\\u00a3\", true, false, null, NaN, Infinity, -Infinity]",
      done (listed (word "string" ∷ own_text (194 ∷ 163 ∷ []) ∷ boolean true ∷ boolean false ∷ null ∷
          float (ascii "NaN") ∷ float (ascii "Infinity") ∷ float (ascii "-Infinity") ∷ [])) 65,
    ) ∷
    [])
with_names = unfold computed_readings in refl
