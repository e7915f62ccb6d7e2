use Rattle.filter.proofs.Steps.{Reads}
use Rattle.std.specs.Prelude.{string_bytes}
use Rattle.filter.proofs.pointers.decoded.Given as goal

abbrev pub invariant-loop-character : goal.invariant-loop-character
invariant-loop-character l = Reads l.steps l.yielded l.is_escape (string_bytes l.name)
