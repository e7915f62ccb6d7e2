-- What each mode of partial reading asks for.
use Rattle.std.specs.Prelude.{Bool, true, false}
use Rattle.jiter_scan.specs.declared.partial_mode.PartialMode.{PartialMode}
use Rattle.jiter_scan.specs.declared.partial_mode.PartialMode.TheVariants.{Off, On, TrailingStrings}

-- a cut document is read up to its end
abbrev pub is_active : PartialMode → Bool
is_active Off = false
is_active On = true
is_active TrailingStrings = true

-- a cut string value is kept
abbrev pub allows_trailing_strings : PartialMode → Bool
allows_trailing_strings Off = false
allows_trailing_strings On = false
allows_trailing_strings TrailingStrings = true

-- on or off
abbrev pub mode_from : Bool → PartialMode
mode_from true = On
mode_from false = Off
