use Rattle.std.proofs.Common.{inr, refl}
use Rattle.std.proofs.KnownBytes.{Keeps-refl}
use Rattle.look.proofs.looking.look.Goals as goal

pub returns-in-Err : goal.returns-in-Err
returns-in-Err g c =
    rw (← c.in-None.ensures) (Keeps-refl _, inr (refl, rw c.as_bytes.ensures.value at c.in-Err.ensures.prefix))
