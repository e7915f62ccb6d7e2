use Rattle.jiter_value.proofs.Words.{◌≡◌, ◌++◌, ◌-◌, List, ℕ, length, flat_map, IsCharBoundary, quoted_byte}
use Rattle.jiter_value.proofs.Words.{quoted_from}
use Rattle.std.specs.Fmt.{HasWritten, IsPlainFormatter}
use Rattle.jiter_value.proofs.value.quoted.write_quoted.Given as goal

abbrev pub invariant-loop-at : goal.invariant-loop-at
invariant-loop-at g l =
    IsCharBoundary l.key l.at × (done : List ℕ)
    × (done ++ quoted_from l.key l.at ≡ flat_map quoted_byte l.key)
    × (IsPlainFormatter l.initial.f → HasWritten g.W.Write.write_str_gives l.initial.f done l.f)

abbrev pub decreases-loop-at : goal.decreases-loop-at
decreases-loop-at g l = length l.key - l.at
