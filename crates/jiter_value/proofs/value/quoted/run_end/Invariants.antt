use Rattle.jiter_value.proofs.Words.{◌≡◌, ◌++◌, slice_range, quoted_from}
use Rattle.jiter_value.proofs.value.quoted.run_end.Given as goal

abbrev pub invariant-loop-i : goal.invariant-loop-i
invariant-loop-i l = slice_range l.bytes l.begin l.i ++ quoted_from l.bytes l.i ≡ quoted_from l.bytes l.begin
