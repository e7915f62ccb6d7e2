-- Whitespace (RFC 8259, 2).
use Rattle.std.specs.Prelude.{◌≡◌, ◌⊎◌, ℕ, ◌≤◌, ◌<◌, ◌==◌, ◌||◌, Bool, List, length, slice_index}
use Rattle.jiter_scan.specs.Ascii as ascii
use Rattle.jiter_scan.specs.Scan.{run_end}

-- space, tab, line feed, carriage return
abbrev pub is_blank : ℕ → Bool
is_blank b = (b == ascii.space) || (b == ascii.tab) || (b == ascii.line_feed) || (b == ascii.carriage_return)

-- the first place from i on that has no whitespace, or the length
unfoldable pub past_blanks : List ℕ → ℕ → ℕ
past_blanks t i = run_end is_blank t i

-- the same, as a statement
abbrev pub IsBlankByte : ℕ → Type 0
IsBlankByte c = (c ≡ ascii.space) ⊎ ((c ≡ ascii.tab) ⊎ ((c ≡ ascii.line_feed) ⊎ (c ≡ ascii.carriage_return)))

-- every byte from i to before j is whitespace
pub record IsBlank (t : List ℕ) (i j : ℕ) : Type 0 where
  pub ordered : i ≤ j
  pub within : j ≤ length t
  pub each : (k : ℕ) → i ≤ k → k < j → IsBlankByte (slice_index t k)
