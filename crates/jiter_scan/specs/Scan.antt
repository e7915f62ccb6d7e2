-- Runs of bytes, and where they end.
use Rattle.std.specs.Prelude.{◌≡◌, ℕ, ◌+◌, ◌<◌, ◌==◌, ◌||◌, ◌&&◌, Bool, true, not, List, [], ◌∷◌, drop, nat_lt}
use Rattle.std.specs.Prelude.{slice_get, slice_range, IsTrue, Option, Some, None}
use Rattle.std.specs.List.{prefix_len, AllPass}
use Rattle.jiter_scan.specs.Ascii as ascii
use Rattle.jiter_scan.specs.declared.errors.FaultKind.{FaultKind}
use Rattle.jiter_scan.specs.declared.errors.FaultKind.TheVariants as fault
use Rattle.jiter_scan.specs.declared.bytes.short_scan.Look.{Look}
use Rattle.jiter_scan.specs.declared.bytes.short_scan.Look.TheVariants as look

-- where the run of bytes that pass this test ends, if it begins at i
abbrev pub run_end : (ℕ → Bool) → List ℕ → ℕ → ℕ
run_end test t i = i + prefix_len test (drop i t)

-- each byte passes this test
abbrev pub Pass : (ℕ → Bool) → List ℕ → Type 0
Pass test [] = Unit {0}
Pass test (c ∷ cs) = (test c ≡ true) × Pass test cs

-- what ends a string's plain bytes (RFC 8259, 7): a quote, a backslash or a control character
abbrev pub is_stop : ℕ → Bool
is_stop c = (c == ascii.quote) || (c == ascii.backslash) || nat_lt c ascii.space

-- a byte that a string may hold as it is
abbrev pub is_plain : ℕ → Bool
is_plain c = not (is_stop c)

-- the first stop from i on, or the length
abbrev pub scan_stop : List ℕ → ℕ → ℕ
scan_stop t i = run_end is_plain t i

-- a byte of ASCII
abbrev pub is_ascii : ℕ → Bool
is_ascii c = nat_lt c 128

-- a byte of ASCII that a string may hold as it is
abbrev pub is_plain_ascii : ℕ → Bool
is_plain_ascii c = is_plain c && is_ascii c

-- every byte from i to before j is below 80 hex
abbrev pub IsAsciiTo : List ℕ → ℕ → ℕ → Type 0
IsAsciiTo t i j = AllPass is_ascii (slice_range t i j)

-- the error of a string that goes on with this byte, which is no plain one, or ends with the input
abbrev pub IsFaultOf : Option ℕ → FaultKind → Type 0
IsFaultOf None k = k ≡ fault.EofWhileParsingString
IsFaultOf (Some b) k = (b < ascii.space) × (k ≡ fault.ControlCharacterWhileParsingString)

-- what a string from i on has at j, after its plain bytes
abbrev pub IsLook : List ℕ → ℕ → ℕ → Look → Type 0
IsLook t i j look.Plain = (slice_get t j ≡ Some ascii.quote) × IsAsciiTo t i j
IsLook t i j look.Utf8 = slice_get t j ≡ Some ascii.quote
IsLook t i j (look.Escaped a) = (slice_get t j ≡ Some ascii.backslash) × (IsTrue a → IsAsciiTo t i j)
IsLook t i j (look.Fault k) = IsFaultOf (slice_get t j) k
