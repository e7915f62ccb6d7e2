-- What a row computes: the reading of a literal text, and the print of an integer.
use Rattle.std.specs.Prelude.{⊤}
use Rattle.std.specs.Fmt.{digits}
use Rattle.jiter_steps.proofs.Computed.{computed_readings}

unfoldable pub computed_answers : ⊤
unfolding computed_readings digits
computed_answers = tt
