-- A word that is read byte by byte.
use Rattle.std.specs.Prelude.{ℕ, ◌+◌, List, drop}
use Rattle.jiter_scan.specs.Kind.{expected_ident}
use Rattle.jiter_scan.specs.Scanned.{taken, failed}
use Rattle.jiter_scan.specs.Word.{Span, word_at}
use Rattle.jiter_scan.specs.declared.partial_word.WordStep.{WordStep}
use Rattle.jiter_scan.specs.declared.partial_word.WordStep.TheVariants as seen

-- where a word ends of which so many bytes are before j
abbrev pub word_from : List ℕ → ℕ → List ℕ → ℕ → Span
word_from w count t j = word_at t (drop count w) j

-- where it ends by what is said of the byte at j
abbrev pub word_by : List ℕ → ℕ → List ℕ → ℕ → WordStep → Span
word_by w count t j seen.Part = word_from w count t (j + 1)
word_by w count t j seen.Last = taken tt (j + 1)
word_by w count t j seen.Other = failed expected_ident j
