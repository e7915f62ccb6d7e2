-- The type and the cause that the code's variants stand for.
use Rattle.jiter_scan.specs.Kind.{kind_of}
use Rattle.jiter.specs.Cause.{ValueType, null, bool, int, float, string, array, object}
use Rattle.jiter.specs.Cause.{Cause, json_error, wrong_type}
use Rattle.jiter.specs.declared.errors.JsonType.{JsonType}
use Rattle.jiter.specs.declared.errors.JsonType.TheVariants as type
use Rattle.jiter.specs.declared.errors.JiterErrorType.{JiterErrorType}
use Rattle.jiter.specs.declared.errors.JiterErrorType.TheVariants as error

-- the type that the code's variant stands for
abbrev pub type_of : JsonType → ValueType
type_of type.Null = null
type_of type.Bool = bool
type_of type.Int = int
type_of type.Float = float
type_of type.String = string
type_of type.Array = array
type_of type.Object = object

-- the cause that the code's variant stands for
abbrev pub cause_of : JiterErrorType → Cause
cause_of (error.JsonError kind) = json_error (kind_of kind)
cause_of (error.WrongType wanted actual) = wrong_type (type_of wanted) (type_of actual)
