-- The words after the program's name.
use Rattle.std.specs.Prelude.{ℕ, Bool, true, false, List, [], ◌∷◌, codes, bytes_eq, Option, Some, None, if◌then◌else◌}
use Rattle.std.specs.Prelude.{option_map}
use Rattle.jiter_scan.specs.declared.partial_mode.PartialMode.{PartialMode}
use Rattle.jiter_scan.specs.declared.partial_mode.PartialMode.TheVariants.{Off, On, TrailingStrings}
use Rattle.look.specs.declared.words.Words.{Words}

-- the mode that a word names
abbrev pub mode_of : List ℕ → Option PartialMode
mode_of w =
    if bytes_eq w (codes "off") then Some Off
    else (if bytes_eq w (codes "on") then Some On
    else (if bytes_eq w (codes "trailing-strings") then Some TrailingStrings else None))

abbrev pub with_settings : Bool → Bool → PartialMode → Words
with_settings inf_nan unique mode = record { mode = mode; inf_nan = inf_nan; unique = unique }

-- what a word that names a mode asks for, with these settings
abbrev pub asked_of : Bool → Bool → List ℕ → Option Words
asked_of inf_nan unique mode = option_map (with_settings inf_nan unique) (mode_of mode)

-- a mode, perhaps `inf-nan`, and perhaps `unique` as the last
abbrev pub words_of : List (List ℕ) → Option Words
words_of [] = None
words_of (mode ∷ []) = asked_of false false mode
words_of (mode ∷ word ∷ []) =
    if bytes_eq word (codes "inf-nan") then asked_of true false mode
    else (if bytes_eq word (codes "unique") then asked_of false true mode else None)
words_of (mode ∷ name ∷ last ∷ []) =
    if bytes_eq name (codes "inf-nan") then
    (if bytes_eq last (codes "unique") then asked_of true true mode else None)
    else None
words_of (mode ∷ name ∷ last ∷ more ∷ rest) = None
