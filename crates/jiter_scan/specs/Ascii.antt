-- Bytes by their names.
use Rattle.std.specs.Prelude.{ℕ}

-- `\b`
abbrev pub backspace : ℕ
backspace = 8

-- `\t`
abbrev pub tab : ℕ
tab = 9

-- `\n`
abbrev pub line_feed : ℕ
line_feed = 10

-- `\f`
abbrev pub form_feed : ℕ
form_feed = 12

-- `\r`
abbrev pub carriage_return : ℕ
carriage_return = 13

-- ` `
abbrev pub space : ℕ
space = 32

-- `"`
abbrev pub quote : ℕ
quote = 34

-- `+`
abbrev pub plus : ℕ
plus = 43

-- `,`
abbrev pub comma : ℕ
comma = 44

-- `-`
abbrev pub minus : ℕ
minus = 45

-- `.`
abbrev pub point : ℕ
point = 46

-- `/`
abbrev pub slash : ℕ
slash = 47

-- `0`
abbrev pub digit_zero : ℕ
digit_zero = 48

-- `9`
abbrev pub digit_nine : ℕ
digit_nine = 57

-- `:`
abbrev pub colon : ℕ
colon = 58

-- `E`
abbrev pub capital_e : ℕ
capital_e = 69

-- `I`
abbrev pub capital_i : ℕ
capital_i = 73

-- `N`
abbrev pub capital_n : ℕ
capital_n = 78

-- `[`
abbrev pub left_bracket : ℕ
left_bracket = 91

-- `\`
abbrev pub backslash : ℕ
backslash = 92

-- `]`
abbrev pub right_bracket : ℕ
right_bracket = 93

-- `b`
abbrev pub small_b : ℕ
small_b = 98

-- `e`
abbrev pub small_e : ℕ
small_e = 101

-- `f`
abbrev pub small_f : ℕ
small_f = 102

-- `n`
abbrev pub small_n : ℕ
small_n = 110

-- `r`
abbrev pub small_r : ℕ
small_r = 114

-- `t`
abbrev pub small_t : ℕ
small_t = 116

-- `u`
abbrev pub small_u : ℕ
small_u = 117

-- `{`
abbrev pub left_brace : ℕ
left_brace = 123

-- `}`
abbrev pub right_brace : ℕ
right_brace = 125
