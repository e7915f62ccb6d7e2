-- Why a call of the pull reader refuses, and its texts.
use Rattle.std.specs.Prelude.{ℕ, Bool, false, ◌++◌, List, codes}
use Rattle.jiter_scan.specs.Kind.{Kind, kind_text, is_memory}
use Rattle.jiter_scan.specs.Position.{at_index, position_of, position_text}

-- the types of values
pub data ValueType : Type 0 where
  null : ValueType
  bool : ValueType
  int : ValueType
  float : ValueType
  string : ValueType
  array : ValueType
  object : ValueType

-- what a type prints
abbrev pub type_text : ValueType → List ℕ
type_text null = codes "null"
type_text bool = codes "bool"
type_text int = codes "int"
type_text float = codes "float"
type_text string = codes "string"
type_text array = codes "array"
type_text object = codes "object"

-- an error of the bytes or a failed allocation; or the type that was wanted, and that of the value that is there
pub data Cause : Type 0 where
  json_error : Kind → Cause
  wrong_type : ValueType → ValueType → Cause

-- an allocation failed
abbrev pub is_memory_cause : Cause → Bool
is_memory_cause (json_error k) = is_memory k
is_memory_cause (wrong_type wanted actual) = false

-- what a cause prints
abbrev pub cause_text : Cause → List ℕ
cause_text (json_error k) = kind_text k
cause_text (wrong_type wanted actual) =
    codes "expected " ++ (type_text wanted ++ (codes " but found " ++ type_text actual))

-- `CAUSE at index N`
abbrev pub error_text : Cause → ℕ → List ℕ
error_text c index = at_index (cause_text c) index

-- `CAUSE at line L column C`, of an index in a text
abbrev pub error_description : Cause → ℕ → List ℕ → List ℕ
error_description c index t = cause_text c ++ (codes " at " ++ position_text (position_of t index))
