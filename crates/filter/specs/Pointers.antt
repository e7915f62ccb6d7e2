-- A member's key, as it is written, and the member that a JSON Pointer names (RFC 6901).
use Rattle.std.specs.Prelude.{ℕ, ◌==◌, ◌&&◌, Bool, true, false, not, if◌then◌else◌, List, [], ◌∷◌, ◌++◌, Option, Some, None}
use Rattle.std.specs.Prelude.{chars, codes, encode_utf8_all, option_and_then, option_map}
use Rattle.std.specs.List.{list_any, slice_split}
use Rattle.jiter_value.specs.Pointer.{is_slash}
use Rattle.jiter_print.specs.Print.{print_of}
use Rattle.jiter_print.specs.Printed.{string_from}

-- a brace before the first one and a comma before others, the name as a JSON string, and a colon
abbrev pub key_text : Bool → List ℕ → List ℕ
key_text is_first name = (if is_first then codes "{" else codes ",") ++ (print_of (string_from name) ++ codes ":")

-- what a character after a tilde stands for (RFC 6901, 3)
abbrev pub escaped : ℕ → Option ℕ
escaped c = if c == 48 then Some 126 else (if c == 49 then Some 47 else None)

-- what a character stands for, after a tilde or not
abbrev pub meant : Bool → ℕ → Option ℕ
meant is_escape c = if is_escape then escaped c else Some c

-- These characters with their escapes read, after a tilde or not; none where a tilde escapes nothing.
abbrev pub unescaped : Bool → List ℕ → Option (List ℕ)
unescaped is_escape [] = if is_escape then None else Some []
unescaped is_escape (c ∷ cs) = if c == 126 && not is_escape then unescaped true cs
    else option_and_then (λ d. option_map (λ rest. d ∷ rest) (unescaped false cs)) (meant is_escape c)

-- the bytes of steps with their escapes read
abbrev pub decoded : List ℕ → Option (List ℕ)
decoded steps = option_map encode_utf8_all (unescaped false (chars steps))

-- the first of some steps
abbrev pub head_of : List (List ℕ) → List ℕ
head_of [] = []
head_of (step ∷ steps) = step

-- the first step's name, where all steps can be read
abbrev pub name_of : Option (List ℕ) → Option (List ℕ) → Option (List ℕ)
name_of (Some name) (Some all) = Some name
name_of name all = None

-- The name of the member that a pointer leads to or into. A pointer begins with a slash, and slashes are between its steps.
abbrev pub name_in : List ℕ → Option (List ℕ)
name_in [] = None
name_in (c ∷ steps) =
    if is_slash c then name_of (decoded (head_of (slice_split is_slash steps))) (decoded steps) else None

-- whether a pointer has more steps than one
abbrev pub is_deep : List ℕ → Bool
is_deep [] = false
is_deep (c ∷ steps) = list_any is_slash steps
