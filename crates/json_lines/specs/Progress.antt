-- How far a log is read, as a terminal shows it.
use Rattle.std.specs.Prelude.{ℕ, ◌+◌, ◌-◌, ◌*◌, ◌/◌, ◌%◌, ◌<◌, ◌==◌, ◌^◌, List, [], ◌++◌, Option, Some, None, codes, count_by, decimal, if◌then◌else◌, length, max, min, nat_eq, nat_lt}
use Rattle.json_lines.specs.declared.progress.Tally.{Tally}

-- the same count, if 64 bits hold it
abbrev pub saturated : ℕ → ℕ
saturated n = min n (2 ^ 64 - 1)

-- the bytes in this unit, cut to a tenth: `12.3 MB`
abbrev pub in_unit : ℕ → ℕ → List ℕ → List ℕ
in_unit bytes unit name = decimal (bytes / unit) ++ (codes "." ++ (decimal (bytes % unit * 10 / unit) ++ name))

-- a number of bytes, in the largest unit that it reaches
abbrev pub size_text : ℕ → List ℕ
size_text bytes =
    if nat_lt bytes 1_000 then decimal bytes ++ codes " B"
    else (if nat_lt bytes 1_000_000 then in_unit bytes 1_000 (codes " KB")
    else (if nat_lt bytes 1_000_000_000 then in_unit bytes 1_000_000 (codes " MB")
    else (if nat_lt bytes 1_000_000_000_000 then in_unit bytes 1_000_000_000 (codes " GB")
    else in_unit bytes 1_000_000_000_000 (codes " TB"))))

-- how much of an input of this size is read: ` (45%)`. A file that grew while it was read isn't read beyond 100%.
abbrev pub percent_text : ℕ → Option ℕ → List ℕ
percent_text bytes None = []
percent_text bytes (Some size) = if nat_eq size 0 then [] else codes " (" ++ (decimal (min (bytes * 100 / size) 100) ++ codes "%)")

-- the bytes a second, over so many nanoseconds
abbrev pub rate : ℕ → ℕ → ℕ
rate bytes nanoseconds = bytes * 1_000_000_000 / max nanoseconds 1

-- `12.3 MB (45%), 51000 lines, 3 errors, 120.5 MB/s`
abbrev pub progress_text : Tally → Option ℕ → ℕ → List ℕ
progress_text tally size nanoseconds =
    size_text tally.bytes ++ (percent_text tally.bytes size ++ (codes ", " ++ (decimal tally.lines ++ (codes " lines, "
    ++ (decimal tally.errors ++ (codes " errors, " ++ (size_text (rate tally.bytes nanoseconds) ++ codes "/s")))))))

-- what is read after these bytes too
abbrev pub with_read : Tally → List ℕ → Tally
with_read tally read = record {
  bytes = saturated (tally.bytes + length read);
  lines = saturated (tally.lines + count_by (λ byte. byte == 10) read);
  errors = tally.errors;
}

-- with one more line with an error
abbrev pub with_error : Tally → Tally
with_error tally = record { bytes = tally.bytes; lines = tally.lines; errors = saturated (tally.errors + 1) }

-- all numbers are below 10^15, which is a petabyte and a petabyte a second
abbrev pub IsUsual : Tally → ℕ → Type 0
IsUsual tally nanoseconds =
    (tally.bytes < 10 ^ 15) × (tally.lines < 10 ^ 15) × (tally.errors < 10 ^ 15) × (rate tally.bytes nanoseconds < 10 ^ 15)
