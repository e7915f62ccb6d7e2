-- The lines that runs write, by computation.
use Rattle.std.proofs.Common.{◌≡◌, ◌∷◌, [], List, Bool, true, false, refl, codes, map}
use Prim.Native.String.{String}
use Rattle.jiter_print.specs.Print.{with_line_feed}
use Rattle.jiter_scan.specs.declared.partial_mode.PartialMode.TheVariants.{Off, On, TrailingStrings}
use Rattle.look.specs.Run.{Line, value_line, fault_line, line_of}
use Rattle.look.proofs.Rows.Computed.{computed_answers}

-- whether names are numbers, a text, and its line with partial reading off
abbrev Row : Type 0
Row = Bool × String × Line

abbrev value : String → Line
value w = value_line (with_line_feed (codes w))

abbrev fault : String → Line
fault w = fault_line (with_line_feed (codes w))

abbrev no_value : Line
no_value = fault "EOF while parsing a value at line 1 column 0"

abbrev rows : List Row
rows =
    -- no whitespace stays
    (false, " [true, [null, []], false]", value "[true,[null,[]],false]") ∷
    -- a float and a long integer by their source text, an integer in decimal
    (false, "[1.50, -0, 123456789012345678901234567890]", value "[1.50,0,123456789012345678901234567890]") ∷
    -- a line feed in a string by four hexadecimal digits
    (false, "{\"a\": [1, 2.50, \"\\n\"]}", value "{\"a\":[1,2.50,\"\\u000a\"]}") ∷
    -- only a quote and a backslash stay after a backslash
    (false, "\"\\u00e9\\\"\\\\\"", value_line (with_line_feed (34 ∷ 195 ∷ 169 ∷ codes "\\\"\\\\\""))) ∷
    -- a name, where names are numbers
    (true, "[NaN]", value "[NaN]") ∷
    -- and where they are not
    (false, "[NaN]", fault "expected value at line 1 column 2") ∷
    -- errors by their line and column
    (false, "", no_value) ∷
    (false, "[tru]", fault "expected ident at line 1 column 5") ∷
    (false, "[true", fault "EOF while parsing a list at line 1 column 5") ∷
    (false, "[true,]", fault "trailing comma at line 1 column 7") ∷
    (false, "[\ntrue\nx", fault "expected `,` or `]` at line 3 column 1") ∷
    (false, "[1,", fault "EOF while parsing a value at line 1 column 3") ∷
    (false, "[1, 2] extra", fault "trailing characters at line 1 column 8") ∷
    []

lines : map (λ r. line_of r.0 false Off (codes r.1)) rows ≡ map (λ r. r.2) rows
unfolding computed_answers
lines = refl

-- a text, and its line with partial reading off and repeated keys refused
abbrev unique_rows : List (String × Line)
unique_rows =
    -- a key twice
    ("{\"a\":1,\"a\":2}", fault "Detected duplicate key \"a\" at line 1 column 12") ∷
    -- once plain and once by an escape
    ("{\"a\":1,\n\"\\u0061\" : 2}", fault "Detected duplicate key \"a\" at line 2 column 11") ∷
    -- a key that only another object has
    ("{\"a\": {\"a\": 1}, \"b\": [{\"a\": 2}]}", value "{\"a\":{\"a\":1},\"b\":[{\"a\":2}]}") ∷
    -- an error before the key is again, and one of what is after its colon
    ("{\"a\":,\"a\":2}", fault "expected value at line 1 column 6") ∷
    ("{\"a\":1,\"a\":?}", fault "Detected duplicate key \"a\" at line 1 column 12") ∷
    []

unique_lines : map (λ r. line_of false true Off (codes r.0)) unique_rows ≡ map (λ r. r.1) unique_rows
unfolding computed_answers
unique_lines = refl

-- a text, and its lines in the three modes: off, on and with trailing strings
abbrev ModeRow : Type 0
ModeRow = String × Line × Line × Line

abbrev mode_rows : List ModeRow
mode_rows =
    -- an array that ends too early
    ("[1, 2", fault "EOF while parsing a list at line 1 column 5", value "[1,2]", value "[1,2]") ∷
    -- a string that does is kept in one mode alone, its escapes decoded
    (
      "{\"a\": [true, \"b\\nc",
      fault "EOF while parsing a string at line 1 column 18",
      value "{\"a\":[true]}",
      value "{\"a\":[true,\"b\\u000ac\"]}",
    ) ∷
    -- a key that does is left out
    ("{\"a\": 1, \"b", fault "EOF while parsing a string at line 1 column 11", value "{\"a\":1}", value "{\"a\":1}") ∷
    -- what is where a comma should
    ("[1 x", fault "expected `,` or `]` at line 1 column 4", value "[1]", value "[1]") ∷
    -- what follows the value
    ("null x", fault "trailing characters at line 1 column 6", value "null", value "null") ∷
    -- no value at all
    ("", no_value, no_value, no_value) ∷
    []

abbrev in_modes : ModeRow → ModeRow
in_modes r =
    let t = codes r.0 in
    (r.0, line_of false false Off t, line_of false false On t, line_of false false TrailingStrings t)

lines_in_modes : map in_modes mode_rows ≡ mode_rows
unfolding computed_answers
lines_in_modes = refl
