-- What is a JSON Pointer (RFC 6901, 3).
use Rattle.std.specs.Prelude.{ℕ, ◌==◌, ◌&&◌, ◌||◌, Bool, true, false, List, [], ◌∷◌, if◌then◌else◌}
use Rattle.jiter_value.specs.Pointer.{is_slash}

-- what is after a tilde begins with `0` or `1`
abbrev pub is_escape : List ℕ → Bool
is_escape [] = false
is_escape (c ∷ cs) = c == 48 || c == 49

-- each tilde begins an escape
abbrev pub has_escapes : List ℕ → Bool
has_escapes [] = true
has_escapes (c ∷ cs) = (if c == 126 then is_escape cs else true) && has_escapes cs

-- it is empty, or after a slash
abbrev pub is_pointer : List ℕ → Bool
is_pointer [] = true
is_pointer (c ∷ cs) = is_slash c && has_escapes cs
