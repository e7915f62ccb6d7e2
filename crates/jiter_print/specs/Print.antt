-- The compact text of a value.
use Rattle.std.specs.Prelude.{ℕ, zero, suc, Bool, true, false, ◌/◌, ◌%◌, ◌||◌, nat_eq, nat_lt, List, [], ◌∷◌, ◌++◌}
use Rattle.std.specs.Prelude.{◌≡◌, ◌<◌, codes, flat_map, if◌then◌else◌, length, take}
use Rattle.std.specs.List.{join_with_byte}
use Rattle.std.specs.Fmt.{signed_decimal}
pub use Rattle.jiter_scan.specs.Quoted.{hex_digit}
use Rattle.jiter_steps.specs.Tree.{Tree, null, boolean, int, big, float, string, array, object, Items, no_items, item}
use Rattle.jiter_steps.specs.Tree.{Members, no_members, member}

-- a quote, a backslash or a control character: it can't be in a text as it is
abbrev pub needs_escape : ℕ → Bool
needs_escape b = nat_eq b 34 || nat_eq b 92 || nat_lt b 32

-- a quote or a backslash after a backslash, a control character as `\u00` and two digits
abbrev pub escape_of : ℕ → List ℕ
escape_of b =
    if nat_eq b 34 then codes "\\\""
    else (if nat_eq b 92 then codes "\\\\"
    else (codes "\\u00" ++ (hex_digit (b / 16) ∷ (hex_digit (b % 16) ∷ []))))

-- a byte within a text
abbrev pub print_byte : ℕ → List ℕ
print_byte b = if needs_escape b then escape_of b else (b ∷ [])

-- a text between quotes
abbrev pub print_text : List ℕ → List ℕ
print_text bs = 34 ∷ flat_map print_byte bs ++ 34 ∷ []

-- a comma, where something is before
abbrev pub comma : ℕ → List ℕ
comma zero = []
comma (suc n) = 44 ∷ []

abbrev pub print_boolean : Bool → List ℕ
print_boolean true = codes "true"
print_boolean false = codes "false"

abbrev mutual
  pub print_of : Tree → List ℕ
  print_of null = codes "null"
  print_of (boolean b) = print_boolean b
  print_of (int z) = signed_decimal z
  print_of (big s) = s.bytes
  print_of (float s) = s.bytes
  print_of (string s) = print_text s.bytes
  print_of (array js) = 91 ∷ join_with_byte 44 (item_prints js) ++ 93 ∷ []
  print_of (object ms) = 123 ∷ join_with_byte 44 (member_prints ms) ++ 125 ∷ []

  pub item_prints : Items → List (List ℕ)
  item_prints no_items = []
  item_prints (item j js) = print_of j ∷ item_prints js

  -- of each member its key, a colon and its value
  pub member_prints : Members → List (List ℕ)
  member_prints no_members = []
  member_prints (member k j ms) = (print_text k.bytes ++ 58 ∷ print_of j) ∷ member_prints ms

-- with a line feed after
abbrev pub with_line_feed : List ℕ → List ℕ
with_line_feed bs = bs ++ 10 ∷ []

-- the first bytes of a tape, of which count many are, are followed by these, and room for one more
abbrev pub Appends : List ℕ → List ℕ → ℕ → List ℕ → ℕ → Type 0
Appends old new count text end = (take end new ≡ take count old ++ text) × (end < length new)
