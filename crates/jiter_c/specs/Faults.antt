-- The numbers by which C knows the kinds of errors and types, as jiter_c.h lists them.
use Rattle.std.specs.Prelude.{◌≡◌, ◌-◌, ◌||◌, ◌&&◌, ℕ, Bool, List, count_by, drop, length, nat_eq, nat_le, nat_lt}
use Rattle.jiter_scan.specs.Position.{bytes_through, position_of}
use Rattle.jiter_scan.specs.declared.errors.LinePosition.{LinePosition}
use Rattle.jiter.specs.Cause.{Cause, ValueType, error_description}
use Rattle.jiter_scan.specs.Kind.{Kind}
use Rattle.jiter_c.specs.declared.faults.JiterFault.{JiterFault}
use Rattle.jiter_c.specs.declared.faults.JiterPosition.{JiterPosition}

-- the number of a kind
abbrev pub kind_number : Kind → ℕ
kind_number Kind.float_expecting_int = 1
kind_number Kind.eof_list = 2
kind_number Kind.eof_object = 3
kind_number Kind.eof_string = 4
kind_number Kind.eof_value = 5
kind_number Kind.expected_colon = 6
kind_number Kind.expected_list_comma_or_end = 7
kind_number Kind.expected_object_comma_or_end = 8
kind_number Kind.expected_ident = 9
kind_number Kind.expected_value = 10
kind_number Kind.invalid_escape = 11
kind_number Kind.invalid_number = 12
kind_number Kind.number_out_of_range = 13
kind_number Kind.invalid_code_point = 14
kind_number Kind.control_character = 15
kind_number Kind.key_must_be_a_string = 16
kind_number Kind.lone_surrogate = 17
kind_number Kind.trailing_comma = 18
kind_number Kind.trailing_characters = 19
kind_number Kind.end_of_hex_escape = 20
kind_number Kind.recursion_limit = 21
kind_number Kind.out_of_memory = 22
kind_number (Kind.duplicate_key key) = 23

-- of out of memory, and of a value of another type
abbrev pub memory_number : ℕ
memory_number = kind_number Kind.out_of_memory

abbrev pub wrong_type_number : ℕ
wrong_type_number = 100

-- of a call that is itself wrong
abbrev pub misuse_number : ℕ
misuse_number = 101

abbrev pub misuse : JiterFault
misuse = record { kind = misuse_number; expected = 0; actual = 0; index = 0 }

-- the number of a type
abbrev pub type_number : ValueType → ℕ
type_number ValueType.null = 1
type_number ValueType.bool = 2
type_number ValueType.int = 3
type_number ValueType.float = 4
type_number ValueType.string = 5
type_number ValueType.array = 6
type_number ValueType.object = 7

-- the numbers that an error in words may have
abbrev pub is_kind_number : ℕ → Bool
is_kind_number n = nat_le 1 n && nat_le n memory_number

abbrev pub is_type_number : ℕ → Bool
is_type_number n = nat_le 1 n && nat_le n 7

-- a cause at an index, as it is reported
abbrev pub fault_of : Cause → ℕ → JiterFault
fault_of (Cause.json_error k) i = record { kind = kind_number k; expected = 0; actual = 0; index = i }
fault_of (Cause.wrong_type wanted actual) i = record {
  kind = wrong_type_number;
  expected = type_number wanted;
  actual = type_number actual;
  index = i;
}

-- an error has a cause that can be said in words: a kind from 1 to 22, or a wrong type with two types
abbrev pub has_cause : JiterFault → Bool
has_cause f =
    is_kind_number f.kind
    || (nat_eq f.kind wrong_type_number && (is_type_number f.expected && is_type_number f.actual))

-- it has this cause
abbrev pub HasCause : JiterFault → Cause → Type 0
HasCause f (Cause.json_error k) = f.kind ≡ kind_number k
HasCause f (Cause.wrong_type wanted actual) =
    (f.kind ≡ wrong_type_number) × (f.expected ≡ type_number wanted) × (f.actual ≡ type_number actual)

-- `CAUSE at line L column C` of an error of the bytes t
abbrev pub Describes : List ℕ → JiterFault → List ℕ → Type 0
Describes t f text = (c : Cause) × HasCause f c × (text ≡ error_description c f.index t)

abbrev pub position_view : LinePosition → JiterPosition
position_view p = record { line = p.line; column = p.column }

-- the byte begins a character of UTF-8, or is none
abbrev pub begins_character : ℕ → Bool
begins_character b = nat_lt b 128 || nat_le 192 b

-- the characters of the line up to an index, itself included
abbrev pub character_column : List ℕ → ℕ → ℕ
character_column t index =
    let through = bytes_through t index in
    count_by begins_character (drop (length through - (position_of t index).column) through)
