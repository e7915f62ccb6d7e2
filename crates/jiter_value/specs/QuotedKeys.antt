-- What a key prints from a place on.
use Rattle.std.specs.Prelude.{◌<◌, ◌≤◌, ℕ, List, drop, flat_map, length, slice_index}
use Rattle.jiter_scan.specs.Quoted.{quoted_byte}

abbrev pub quoted_from : List ℕ → ℕ → List ℕ
quoted_from key i = flat_map quoted_byte (drop i key)

-- a place within the bytes, at the end or before a byte below 80 hex
abbrev pub EndsAtAscii : List ℕ → ℕ → Type 0
EndsAtAscii t i = (i ≤ length t) × (i < length t → slice_index t i < 128)
