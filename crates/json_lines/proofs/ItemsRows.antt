-- What is read of some inputs, by computation.
use Rattle.std.proofs.Common.{◌≡◌, refl, [], ◌∷◌, codes}
use Rattle.json_lines.specs.Items.{item, parts, wrong}

two_items : parts (codes "[1, 2]") ≡ item 1 (codes "1") ∷ item 4 (codes "2") ∷ []
two_items = refl

-- whitespace around everything; none belongs to an item
with_whitespace : parts (codes " [\n  1 ,\ttrue\r\n] \n") ≡ item 5 (codes "1") ∷ item 9 (codes "true") ∷ []
with_whitespace = refl

no_item : parts (codes "[]") ≡ []
no_item = refl

only_whitespace : parts (codes " [ ] ") ≡ []
only_whitespace = refl

-- commas and brackets in strings and in items; a quote and a backslash that are escaped
in_strings : parts (codes "[\"a,]\",\"\\\",[\",\"\\\\\",2]")
    ≡ item 1 (codes "\"a,]\"") ∷ item 7 (codes "\"\\\",[\"") ∷ item 14 (codes "\"\\\\\"") ∷ item 19 (codes "2") ∷ []
in_strings = refl

in_brackets : parts (codes "[[1,[2]],{\"a\":[3,{}]}]") ≡ item 1 (codes "[1,[2]]") ∷ item 9 (codes "{\"a\":[3,{}]}") ∷ []
in_brackets = refl

-- what is no document is an item all the same: its conversion reports it
no_document : parts (codes "[1 2,}]") ≡ item 1 (codes "1 2") ∷ item 5 (codes "}") ∷ []
no_document = refl

-- errors of the array
missing_item : parts (codes "[1,,2]")
    ≡ item 1 (codes "1") ∷ wrong 3 (codes "expected value") [] ∷ item 4 (codes "2") ∷ []
missing_item = refl

trailing_comma : parts (codes "[1, ]") ≡ item 1 (codes "1") ∷ wrong 4 (codes "trailing comma") [] ∷ []
trailing_comma = refl

-- an item that the input cuts is kept, and not converted
cut_item : parts (codes "[1, {\"a\"") ≡ item 1 (codes "1") ∷ wrong 8 (codes "EOF while parsing a list") (codes "{\"a\"") ∷ []
cut_item = refl

another_text : parts (codes "[1] [2]") ≡ item 1 (codes "1") ∷ wrong 4 (codes "trailing characters") [] ∷ []
another_text = refl

no_array : parts (codes " {}") ≡ wrong 1 (codes "not an array") [] ∷ []
no_array = refl

nothing : parts (codes " \n") ≡ wrong 2 (codes "EOF while parsing a value") [] ∷ []
nothing = refl

byte_order_mark : parts (239 ∷ 187 ∷ 191 ∷ codes "[1]") ≡ wrong 0 (codes "byte order mark") [] ∷ []
byte_order_mark = refl
