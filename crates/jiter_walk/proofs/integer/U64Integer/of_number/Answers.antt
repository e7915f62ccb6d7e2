use Rattle.std.proofs.Common.{◌∙◌, ap, sym}
use Rattle.jiter.specs.Caller.{int_view}
use Rattle.jiter_walk.specs.Integers.{unsigned}
use Rattle.jiter_walk.proofs.Numerals.{small-parsed}
use Rattle.jiter_walk.proofs.integer.U64Integer.of_number.Goals as goal

pub returns-in-BigInt : goal.returns-in-BigInt
returns-in-BigInt c =
    c.ok.ensures.value ∙ small-parsed c.in-BigInt.text.now _ c.parse.ensures.value.0 ∙ sym (ap (λ x. unsigned (int_view x)) c.in-BigInt.is)
