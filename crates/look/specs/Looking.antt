-- What the whole program writes, and its exit status.
use Rattle.std.specs.Prelude.{◌≡◌, ◌⊎◌, ℕ, List, codes, Option, Some, None, IfSome}
use Rattle.std.specs.Io.KnownBytes.{Keeps, Appends}
use Rattle.jiter_print.specs.Print.{with_line_feed}
use Rattle.jiter_print.specs.Written.{AppendsPrefix}
use Rattle.look.specs.Run.{Wrote, line_of, status_of}
use Rattle.look.specs.declared.running.End.{End}
use Rattle.look.specs.declared.words.Words.{Words}

-- what words that ask for nothing are answered with
abbrev pub usage_line : List ℕ
usage_line = with_line_feed (codes "usage: look off|on|trailing-strings [inf-nan] [unique]")

-- the usage line: all of it and status 2, or a prefix of it and status 3
abbrev pub WroteUsage : ℕ → Option (List ℕ) → Option (List ℕ) → Type 0
WroteUsage status err err' =
    ((status ≡ 2) × Appends err err' usage_line) ⊎ ((status ≡ 3) × AppendsPrefix err err' usage_line)

-- a run over these bytes, and its status
abbrev pub Ran : Words → List ℕ → ℕ → Option (List ℕ) → Option (List ℕ) → Option (List ℕ) → Option (List ℕ) → Type 0
Ran asked text status out out' err err' =
    (end : End) × (status ≡ status_of end) × Wrote (line_of asked.inf_nan asked.unique asked.mode text) end out out' err err'

-- what both writers hold after the program, and its status: the usage line where the words ask for nothing
abbrev pub Looks : Option Words → Option (List ℕ) → ℕ → Option (List ℕ) → Option (List ℕ) → Option (List ℕ)
    → Option (List ℕ) → Type 0
Looks None known status out out' err err' = Keeps out out' × WroteUsage status err err'
Looks (Some asked) known status out out' err err' = IfSome known (λ text. Ran asked text status out out' err err')
