-- The kinds of error and their texts.
use Rattle.std.specs.Prelude.{ℕ, Bool, true, false, List, ◌++◌, codes}
use Rattle.jiter_scan.specs.Quoted.{quoted}
use Rattle.jiter_scan.specs.declared.errors.JsonErrorType.{JsonErrorType}
use Rattle.jiter_scan.specs.declared.errors.JsonErrorType.TheVariants as code
use Rattle.jiter_scan.specs.declared.errors.FaultKind.{FaultKind}
use Rattle.jiter_scan.specs.declared.errors.FaultKind.TheVariants as fault

-- why bytes are refused, and a failed allocation
pub data Kind : Type 0 where
  float_expecting_int : Kind
  eof_list : Kind
  eof_object : Kind
  eof_string : Kind
  eof_value : Kind
  expected_colon : Kind
  expected_list_comma_or_end : Kind
  expected_object_comma_or_end : Kind
  expected_ident : Kind
  expected_value : Kind
  invalid_escape : Kind
  invalid_number : Kind
  number_out_of_range : Kind
  invalid_code_point : Kind
  control_character : Kind
  key_must_be_a_string : Kind
  lone_surrogate : Kind
  trailing_comma : Kind
  trailing_characters : Kind
  end_of_hex_escape : Kind
  recursion_limit : Kind
  out_of_memory : Kind
  -- of a key that its object has already, with its bytes
  duplicate_key : List ℕ → Kind

-- what a kind prints
abbrev pub kind_text : Kind → List ℕ
kind_text float_expecting_int = codes "float value was found where an int was expected"
kind_text eof_list = codes "EOF while parsing a list"
kind_text eof_object = codes "EOF while parsing an object"
kind_text eof_string = codes "EOF while parsing a string"
kind_text eof_value = codes "EOF while parsing a value"
kind_text expected_colon = codes "expected `:`"
kind_text expected_list_comma_or_end = codes "expected `,` or `]`"
kind_text expected_object_comma_or_end = codes "expected `,` or `}`"
kind_text expected_ident = codes "expected ident"
kind_text expected_value = codes "expected value"
kind_text invalid_escape = codes "invalid escape"
kind_text invalid_number = codes "invalid number"
kind_text number_out_of_range = codes "number out of range"
kind_text invalid_code_point = codes "invalid unicode code point"
kind_text control_character = codes "control character (\\u0000-\\u001F) found while parsing a string"
kind_text key_must_be_a_string = codes "key must be a string"
kind_text lone_surrogate = codes "lone leading surrogate in hex escape"
kind_text trailing_comma = codes "trailing comma"
kind_text trailing_characters = codes "trailing characters"
kind_text end_of_hex_escape = codes "unexpected end of hex escape"
kind_text recursion_limit = codes "recursion limit exceeded"
kind_text out_of_memory = codes "out of memory"
kind_text (duplicate_key key) = codes "Detected duplicate key " ++ quoted key

-- the kind that the code's variant stands for
abbrev pub kind_of : JsonErrorType → Kind
kind_of code.FloatExpectingInt = float_expecting_int
kind_of code.EofWhileParsingList = eof_list
kind_of code.EofWhileParsingObject = eof_object
kind_of code.EofWhileParsingString = eof_string
kind_of code.EofWhileParsingValue = eof_value
kind_of code.ExpectedColon = expected_colon
kind_of code.ExpectedListCommaOrEnd = expected_list_comma_or_end
kind_of code.ExpectedObjectCommaOrEnd = expected_object_comma_or_end
kind_of code.ExpectedSomeIdent = expected_ident
kind_of code.ExpectedSomeValue = expected_value
kind_of code.InvalidEscape = invalid_escape
kind_of code.InvalidNumber = invalid_number
kind_of code.NumberOutOfRange = number_out_of_range
kind_of code.InvalidUnicodeCodePoint = invalid_code_point
kind_of code.ControlCharacterWhileParsingString = control_character
kind_of code.KeyMustBeAString = key_must_be_a_string
kind_of code.LoneLeadingSurrogateInHexEscape = lone_surrogate
kind_of code.TrailingComma = trailing_comma
kind_of code.TrailingCharacters = trailing_characters
kind_of code.UnexpectedEndOfHexEscape = end_of_hex_escape
kind_of code.RecursionLimitExceeded = recursion_limit
kind_of code.OutOfMemory = out_of_memory

-- the kind that the code's variant of an error of the bytes stands for
abbrev pub fault_kind : FaultKind → Kind
fault_kind fault.EofWhileParsingList = eof_list
fault_kind fault.EofWhileParsingObject = eof_object
fault_kind fault.EofWhileParsingString = eof_string
fault_kind fault.EofWhileParsingValue = eof_value
fault_kind fault.ExpectedColon = expected_colon
fault_kind fault.ExpectedListCommaOrEnd = expected_list_comma_or_end
fault_kind fault.ExpectedObjectCommaOrEnd = expected_object_comma_or_end
fault_kind fault.ExpectedSomeIdent = expected_ident
fault_kind fault.ExpectedSomeValue = expected_value
fault_kind fault.InvalidEscape = invalid_escape
fault_kind fault.InvalidNumber = invalid_number
fault_kind fault.NumberOutOfRange = number_out_of_range
fault_kind fault.InvalidUnicodeCodePoint = invalid_code_point
fault_kind fault.ControlCharacterWhileParsingString = control_character
fault_kind fault.KeyMustBeAString = key_must_be_a_string
fault_kind fault.LoneLeadingSurrogateInHexEscape = lone_surrogate
fault_kind fault.TrailingComma = trailing_comma
fault_kind fault.TrailingCharacters = trailing_characters
fault_kind fault.UnexpectedEndOfHexEscape = end_of_hex_escape
fault_kind fault.RecursionLimitExceeded = recursion_limit

-- the input ended too early
abbrev pub is_end_kind : Kind → Bool
is_end_kind eof_list = true
is_end_kind eof_object = true
is_end_kind eof_string = true
is_end_kind eof_value = true
is_end_kind k = false

-- what a partial mode forgives inside a container
abbrev pub is_forgiven : Kind → Bool
is_forgiven expected_list_comma_or_end = true
is_forgiven expected_object_comma_or_end = true
is_forgiven k = is_end_kind k

-- an allocation failed: it says nothing of the bytes
abbrev pub is_memory : Kind → Bool
is_memory out_of_memory = true
is_memory k = false
