-- What the errors of a parse that refuses repeated keys stand for.
use Rattle.std.specs.Prelude.{◌≡◌, string_bytes}
use Rattle.jiter_scan.specs.Kind.{Kind, kind_of, duplicate_key}
use Rattle.jiter_scan.specs.declared.errors.JsonErrorType.TheVariants.{OutOfMemory}
use Rattle.jiter_value.specs.declared.parse.unique_error.UniqueErrorType.{UniqueErrorType}
use Rattle.jiter_value.specs.declared.parse.unique_error.UniqueErrorType.TheVariants as error

-- the kind that the code's variant stands for
abbrev pub unique_kind : UniqueErrorType → Kind
unique_kind (error.JsonError kind) = kind_of kind
unique_kind (error.DuplicateKey key) = duplicate_key (string_bytes key)

-- a repeated key
abbrev pub IsDuplicateKey : UniqueErrorType → Type 0
IsDuplicateKey (error.JsonError kind) = ⊥
IsDuplicateKey (error.DuplicateKey key) = Unit {0}

-- an allocation failed
abbrev pub IsMemoryRefused : UniqueErrorType → Type 0
IsMemoryRefused cause = cause ≡ error.JsonError OutOfMemory
