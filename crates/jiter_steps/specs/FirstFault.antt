-- Where a text goes wrong, by the grammar alone: no document begins so, or some document begins so and has little more.
use Rattle.std.specs.Prelude.{◌≡◌, ◌≢◌, ◌⊎◌, ℕ, Bool, true, false, List, [], ◌∷◌, ◌++◌, codes}
use Rattle.jiter_scan.specs.Ascii as ascii
use Rattle.jiter_scan.specs.Kind.{Kind, is_end_kind, invalid_code_point, out_of_memory}
use Rattle.jiter_scan.specs.Kind.{eof_list, expected_list_comma_or_end, expected_object_comma_or_end, expected_value}
use Rattle.jiter_scan.specs.Kind.{invalid_number, key_must_be_a_string, trailing_comma, trailing_characters}
use Rattle.jiter_steps.specs.Node.{Node, IsDocument}

-- no document begins with these bytes
abbrev pub BeginsNoDocument : Bool → List ℕ → Type 0
BeginsNoDocument names prefix = (rest : List ℕ) (n : Node) → IsDocument names (prefix ++ rest) n → ⊥

-- a kind of error of the bytes, and neither one of their end nor that of UTF-8
abbrev pub IsDeadEnd : Kind → Type 0
IsDeadEnd k = (is_end_kind k ≡ false) × (k ≢ invalid_code_point) × (k ≢ out_of_memory)

-- bytes `]` and `}` alone
abbrev pub AreClosers : List ℕ → Type 0
AreClosers [] = Unit {0}
AreClosers (c ∷ cs) = ((c ≡ ascii.right_bracket) ⊎ (c ≡ ascii.right_brace)) × AreClosers cs

-- nothing, `0` or `"":0`
abbrev pub IsFiller : List ℕ → Type 0
IsFiller w = (w ≡ []) ⊎ ((w ≡ codes "0") ⊎ (w ≡ codes "\"\":0"))

-- some document is these bytes, then nothing, `0` or `"":0`, then closers
pub record CanBeCompleted (names : Bool) (prefix : List ℕ) : Type 0 where
  pub filler : List ℕ
  pub closers : List ℕ
  pub node : Node
  pub is_filler : IsFiller filler
  pub are_closers : AreClosers closers
  pub document : IsDocument names (prefix ++ (filler ++ closers)) node

-- the kinds of error up to whose index the text can be completed
abbrev pub can_go_on : Kind → Bool
can_go_on expected_list_comma_or_end = true
can_go_on expected_object_comma_or_end = true
can_go_on expected_value = true
can_go_on key_must_be_a_string = true
can_go_on trailing_comma = true
can_go_on trailing_characters = true
can_go_on eof_list = true
can_go_on invalid_number = true
can_go_on k = false
