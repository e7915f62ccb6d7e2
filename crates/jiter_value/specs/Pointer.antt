-- What a JSON Pointer leads to (RFC 6901): each of its tokens names a member or an item.
use Rattle.std.specs.Prelude.{ℕ, ◌+◌, ◌==◌, Bool, if◌then◌else◌, List, [], ◌∷◌, codes, flat_map, Option, Some, None}
use Rattle.std.specs.Prelude.{option_and_then}
use Rattle.std.specs.Fmt.{decimal}
use Rattle.std.specs.List.{slice_split}
use Rattle.std.specs.Str.{bytes_eq}
use Rattle.jiter_steps.specs.Tree.{Tree, array, object, Items, no_items, item}
use Rattle.jiter_value.specs.Access.{last_such}

-- a name as a token spells it (RFC 6901, 3): `~0` for `~`, `~1` for `/`
abbrev pub token_byte : ℕ → List ℕ
token_byte b = if b == 126 then codes "~0" else (if b == 47 then codes "~1" else (b ∷ []))

abbrev pub token_of : List ℕ → List ℕ
token_of name = flat_map token_byte name

-- the item whose index the token spells in decimal (RFC 6901, 4), where the first of these has the index i
abbrev pub item_spelled : List ℕ → ℕ → Items → Option Tree
item_spelled token i no_items = None
item_spelled token i (item v is) = if bytes_eq (decimal i) token then Some v else item_spelled token (i + 1) is

-- the part that a token names: an item, or the last member of the name
abbrev pub part_spelled : List ℕ → Tree → Option Tree
part_spelled token (array is) = item_spelled token 0 is
part_spelled token (object ms) = last_such (λ name. bytes_eq (token_of name) token) None ms
part_spelled token v = None

-- one token after the other
abbrev pub pointed : List (List ℕ) → Tree → Option Tree
pointed [] v = Some v
pointed (token ∷ tokens) v = option_and_then (pointed tokens) (part_spelled token v)

abbrev pub is_slash : ℕ → Bool
is_slash c = c == 47

-- what the pointer leads to: each token is after a slash, and an empty pointer is the value itself
abbrev pub pointed_by : List ℕ → Tree → Option Tree
pointed_by [] v = Some v
pointed_by (c ∷ cs) v = if is_slash c then pointed (slice_split is_slash cs) v else None
