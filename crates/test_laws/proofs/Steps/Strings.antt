-- Strings read in each of the four forms, by computation.
use Rattle.std.proofs.Common.{◌≡◌, [], ◌∷◌, ◌++◌, refl, codes}
use Rattle.jiter_scan.specs.Kind.{eof_string, invalid_escape, invalid_code_point, control_character, lone_surrogate}
use Rattle.jiter_scan.specs.Kind.{end_of_hex_escape}
use Rattle.jiter_scan.specs.Scanned.{taken, failed}
use Rattle.jiter_steps.specs.StringReading.{string_at, whole, kept, raw, raw_kept}
use Rattle.test_laws.proofs.Steps.Trees.{borrowed, owned, ascii, GiveAt}
use Rattle.jiter_steps.proofs.Computed.{computed_strings}

-- what every form answers: nothing to decode, and the errors of each
in_every_form : GiveAt (string_at whole ∷ string_at kept ∷ string_at raw ∷ string_at raw_kept ∷ []) (
    (codes "\"\"", 0, taken (borrowed []) 2) ∷
    (codes "[\"abc\"]", 1, taken (ascii "abc") 6) ∷
    (codes "\"ab\"", 0, taken (ascii "ab") 4) ∷
    (codes "\"a" ++ 31 ∷ codes "b\"", 0, failed control_character 2) ∷  -- a control character
    -- a control character far in
    (codes "\"aaaaaaaaaaaaaa" ++ 195 ∷ 169 ∷ codes "aaa" ++ 31 ∷ codes "\"", 0, failed control_character 20) ∷
    (codes "\"\n\"", 0, failed control_character 1) ∷
    (codes "\"\\x\"", 0, failed invalid_escape 2) ∷
    (codes "\"\\\n\"", 0, failed invalid_escape 2) ∷
    (codes "\"\\u00\" ", 0, failed invalid_escape 5) ∷  -- u and a quote among four
    (codes "[\"\\uz\"] ", 1, failed invalid_escape 4) ∷  -- u and a first bad digit
    (codes "\"\\u0g00\"", 0, failed invalid_escape 4) ∷  -- u and a second bad digit
    (codes "\"\\u00x0\"", 0, failed invalid_escape 5) ∷  -- u and a third bad digit
    (codes "\"\\u000x\"", 0, failed invalid_escape 6) ∷  -- u and a fourth bad digit
    (codes "[\"ab\\u00\"]", 1, failed invalid_escape 8) ∷  -- u and a late quote
    (codes "\"\\udc00\"", 0, failed lone_surrogate 6) ∷  -- a low surrogate first
    (codes "\"\\uDFFF\"", 0, failed lone_surrogate 6) ∷  -- the last low surrogate first
    (codes "\"\\ud83d\\u0041\"", 0, failed lone_surrogate 12) ∷  -- a high surrogate and a letter escaped
    (codes "\"\\ud83d\\ud83d\"", 0, failed lone_surrogate 12) ∷  -- two high surrogates
    (codes "\"\\ud83d\\u00x0\"", 0, failed invalid_escape 11) ∷  -- a high surrogate and a bad digit
    (codes "\"\\ud83d\\n\"", 0, failed end_of_hex_escape 8) ∷  -- a high surrogate and a short escape
    (codes "\"\\ud83dx\"", 0, failed end_of_hex_escape 7) ∷  -- a high surrogate and a letter
    (codes "\"\\ud83d\"", 0, failed end_of_hex_escape 7) ∷  -- a high surrogate and the quote
    (codes "\"" ++ 255 ∷ 31 ∷ codes "\"", 0, failed control_character 2) ∷  -- a later error before broken UTF-8
    [])
in_every_form = unfold computed_strings in refl

-- escapes that the end of input cuts, which kept alone forgives
cut_escapes : GiveAt (string_at whole ∷ string_at raw ∷ string_at raw_kept ∷ []) (
    (codes "\"\\u00\"", 0, failed eof_string 6) ∷  -- u and three bytes
    (codes "\"\\uz\"", 0, failed eof_string 5) ∷  -- u and two bytes and a quote
    (codes "\"\\u", 0, failed eof_string 3) ∷  -- u alone
    (codes "\"\\ud83d\\u00\"", 0, failed eof_string 12) ∷  -- a high surrogate and a cut escape
    (codes "\"\\ud83d", 0, failed eof_string 7) ∷  -- a high surrogate and the end
    (codes "\"\\ud83d\\", 0, failed eof_string 8) ∷  -- a high surrogate and a backslash and the end
    (codes "\"\\", 0, failed eof_string 2) ∷
    [])
cut_escapes = unfold computed_strings in refl

-- no closing quote, which both kept forms forgive
open_strings : GiveAt (string_at whole ∷ string_at raw ∷ []) (
    (codes "\"a", 0, failed eof_string 2) ∷
    (codes "\"", 0, failed eof_string 1) ∷
    (codes "\"a\\\"", 0, failed eof_string 4) ∷
    [])
open_strings = unfold computed_strings in refl

-- texts between two quotes
texts : GiveAt (string_at whole ∷ string_at kept ∷ []) (
    (codes "\"" ++ 195 ∷ 169 ∷ codes "\"", 0, taken (borrowed (195 ∷ 169 ∷ [])) 4) ∷  -- two bytes of one character
    -- four bytes of one character
    (codes "\"" ++ 240 ∷ 159 ∷ 152 ∷ 128 ∷ codes "\"", 0, taken (borrowed (240 ∷ 159 ∷ 152 ∷ 128 ∷ [])) 6) ∷
    (codes "\"" ++ 127 ∷ codes "\"", 0, taken (borrowed (127 ∷ [])) 3) ∷  -- delete
    (codes "\"aaaaaaaaaaaaaaaa\"", 0, taken (ascii "aaaaaaaaaaaaaaaa") 18) ∷
    -- a character and thirteen letters
    (codes "\"" ++ 195 ∷ 169 ∷ codes "aaaaaaaaaaaaa\"", 0, taken (borrowed (195 ∷ 169 ∷ codes "aaaaaaaaaaaaa")) 17) ∷
    (codes "\"\\\"\\\\\\/\\b\\f\\n\\r\\t\"", 0, taken (owned (34 ∷ 92 ∷ 47 ∷ 8 ∷ 12 ∷ 10 ∷ 13 ∷ 9 ∷ [])) 18) ∷
    (codes "\"\\u0061\"", 0, taken (owned (codes "a")) 8) ∷  -- a letter escaped
    (codes "\"\\u00a3\"", 0, taken (owned (194 ∷ 163 ∷ [])) 8) ∷  -- an escape of two bytes
    (codes "\"\\u00E9\"", 0, taken (owned (195 ∷ 169 ∷ [])) 8) ∷  -- capital hex digits
    (codes "\"\\u20aC\"", 0, taken (owned (226 ∷ 130 ∷ 172 ∷ [])) 8) ∷  -- an escape of three bytes
    (codes "\"\\u0000\"", 0, taken (owned (0 ∷ [])) 8) ∷  -- a zero escaped
    (codes "\"\\ud83d\\ude00\"", 0, taken (owned (240 ∷ 159 ∷ 152 ∷ 128 ∷ [])) 14) ∷  -- a surrogate pair
    (codes "\"\\uD800\\uDC00\"", 0, taken (owned (240 ∷ 144 ∷ 128 ∷ 128 ∷ [])) 14) ∷  -- the first surrogate pair
    (codes "\"\\udbff\\udfff\"", 0, taken (owned (244 ∷ 143 ∷ 191 ∷ 191 ∷ [])) 14) ∷  -- the last surrogate pair
    (codes "\"\\ud7ff\"", 0, taken (owned (237 ∷ 159 ∷ 191 ∷ [])) 8) ∷  -- the last below the surrogates
    (codes "\"\\ue000\"", 0, taken (owned (238 ∷ 128 ∷ 128 ∷ [])) 8) ∷  -- the first above the surrogates
    (codes "\"aaaaaaaaaaaaaaa\\n\"", 0, taken (owned (codes "aaaaaaaaaaaaaaa\n")) 19) ∷
    (codes "\"a\\n\"", 0, taken (owned (codes "a\n")) 5) ∷
    -- UTF-8 is tested at the close, over the decoded bytes
    (codes "\"" ++ 255 ∷ codes "\"", 0, failed invalid_code_point 1) ∷  -- broken UTF-8
    (codes "\"\\n" ++ 255 ∷ codes "\"", 0, failed invalid_code_point 2) ∷  -- broken UTF-8 after an escape
    (codes "\"aaaaaaaaaaaaaaa" ++ 128 ∷ codes "\"", 0, failed invalid_code_point 16) ∷  -- a byte 80 far in
    (codes "\"" ++ 192 ∷ 175 ∷ codes "\"", 0, failed invalid_code_point 1) ∷  -- overlong UTF-8
    (codes "\"" ++ 244 ∷ 144 ∷ 128 ∷ 128 ∷ codes "\"", 0, failed invalid_code_point 1) ∷  -- past the last character
    (codes "\"" ++ 237 ∷ 160 ∷ 128 ∷ codes "\"", 0, failed invalid_code_point 1) ∷  -- a surrogate in UTF-8
    (codes "[\"" ++ 255 ∷ codes "\"]", 1, failed invalid_code_point 2) ∷  -- broken UTF-8
    [])
texts = unfold computed_strings in refl

-- kept leaves the character out
an_unfinished_character_whole : string_at whole (codes "[\"a" ++ 226 ∷ 130 ∷ codes "\"]") 1
    ≡ failed invalid_code_point 3
an_unfinished_character_whole = unfold computed_strings in refl

-- what there is of a text where the input ends, without an unfinished character
kept_texts : GiveAt (string_at kept ∷ []) (
    (codes "\"a", 0, taken (ascii "a") 2) ∷
    (codes "[\"", 1, taken (borrowed []) 2) ∷
    (codes "\"ab\\", 0, taken (owned (codes "ab")) 4) ∷
    (codes "\"ab\\u", 0, taken (owned (codes "ab")) 5) ∷  -- u alone
    (codes "[\"ab\\u00", 1, taken (owned (codes "ab")) 8) ∷  -- u and two digits
    (codes "[\"ab\\u0\"]", 1, taken (owned (codes "ab")) 9) ∷  -- u and a quote
    (codes "\"ab\\ud83d", 0, taken (owned (codes "ab")) 9) ∷  -- a high surrogate and the end
    (codes "\"ab\\ud83d\\", 0, taken (owned (codes "ab")) 10) ∷  -- a high surrogate and a backslash and the end
    (codes "[\"a\\ud83d\\ud", 1, taken (owned (codes "a")) 12) ∷  -- a high surrogate and a cut escape
    (codes "\"a\\n", 0, taken (owned (codes "a\n")) 4) ∷
    (codes "[\"a" ++ 226 ∷ 130 ∷ [], 1, taken (ascii "a") 5) ∷  -- an unfinished character
    (codes "\"a" ++ 226 ∷ 130 ∷ codes "\"", 0, taken (ascii "a") 5) ∷  -- an unfinished character before the quote
    (codes "\"a" ++ 226 ∷ codes "\"", 0, taken (ascii "a") 4) ∷  -- a first byte before the quote
    (codes "\"a" ++ 240 ∷ 159 ∷ 152 ∷ [], 0, taken (ascii "a") 5) ∷  -- three bytes of four
    (codes "\"a" ++ 255 ∷ [], 0, failed invalid_code_point 2) ∷  -- broken UTF-8 and the end
    (codes "\"" ++ 226 ∷ codes "(", 0, failed invalid_code_point 1) ∷  -- a first byte and a letter
    (codes "\"a" ++ 255 ∷ codes "\\", 0, failed invalid_code_point 2) ∷  -- broken UTF-8 and a backslash and the end
    [])
kept_texts = unfold computed_strings in refl

-- the bytes between the quotes as they are
bytes : GiveAt (string_at raw ∷ string_at raw_kept ∷ []) (
    (codes "\"a\\n\"", 0, taken (ascii "a\\n") 5) ∷
    (codes "\"\\u0061\"", 0, taken (ascii "\\u0061") 8) ∷  -- a letter escaped
    (codes "\"\\ud83d\\ude00\"", 0, taken (ascii "\\ud83d\\ude00") 14) ∷  -- a surrogate pair
    (codes "\"" ++ 255 ∷ codes "\"", 0, taken (borrowed (255 ∷ [])) 3) ∷  -- broken UTF-8
    (codes "\"\\n" ++ 255 ∷ codes "\"", 0, taken (borrowed (92 ∷ 110 ∷ 255 ∷ [])) 5) ∷  -- broken UTF-8 after an escape
    [])
bytes = unfold computed_strings in refl

-- the bytes to the end of input
bytes_to_the_end : GiveAt (string_at raw_kept ∷ []) (
    (codes "\"ab", 0, taken (ascii "ab") 3) ∷
    (codes "\"", 0, taken (borrowed []) 1) ∷
    (codes "\"a\\n", 0, taken (ascii "a\\n") 4) ∷
    (codes "\"a" ++ 255 ∷ [], 0, taken (borrowed (97 ∷ 255 ∷ [])) 3) ∷  -- broken UTF-8 and the end
    (codes "\"a\\\"", 0, taken (ascii "a\\\"") 4) ∷
    [])
bytes_to_the_end = unfold computed_strings in refl
