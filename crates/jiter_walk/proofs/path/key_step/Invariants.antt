use Rattle.std.proofs.Common.{◌≡◌, ◌∷◌}
use Rattle.std.specs.Prelude.{encode_utf8_all, string_bytes}
use Rattle.jiter_value.specs.Pointer.{token_of}
use Rattle.jiter_walk.proofs.path.key_step.Given as goal

abbrev pub invariant-loop-c : goal.invariant-loop-c
invariant-loop-c l = string_bytes l.step ≡ 47 ∷ token_of (encode_utf8_all l.yielded)
