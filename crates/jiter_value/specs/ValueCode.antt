-- How the logic stores the values that a machine and a scratch show.
use Rattle.std.specs.Prelude.{[]}
use Rattle.std.specs.Coded as library
use Rattle.std.specs.Coded.{Coded}
use Rattle.jiter_value.specs.contracts.value.JsonValue as value
use Rattle.jiter_value.specs.declared.value.JsonValue.{JsonValue}
use mir.Syntax.{named}

abbrev pub value_code : Coded JsonValue
value_code = (value.the_row (record { mir = named 1; lft = [] })).coded

-- the library's codes, and that of a value
pub ruleset codes = (value_code, library.codes)
