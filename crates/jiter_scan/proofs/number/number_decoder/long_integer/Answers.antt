use Rattle.jiter_scan.proofs.Words.{◌∙◌, arith}
use Rattle.jiter_scan.proofs.NumberSpans.{magnitude_of-zero, byte-got}
use Rattle.jiter_scan.proofs.number.number_decoder.long_integer.Goals as goal
use Rattle.jiter_scan.proofs.number.number_decoder.long_integer.Goals.{then-bytes-at-eq48, else-bytes-at-eq48}

pub integer_of-requires-clause-magnitude : goal.integer_of-requires-clause-magnitude
integer_of-requires-clause-magnitude c =
    let t = c.args.bytes.now in
    let at = c.args.at in
    elim c.if-bytes-at-eq48.branch [
      | then-bytes-at-eq48 w ↦ w.magnitude-is
          ∙ magnitude_of-zero t at c.args.end
          (byte-got t at 48 (omega (arith, c.requires.place)) w.if-bytes-at-eq48.true) c.requires.int_part
      | else-bytes-at-eq48 w ↦ w.magnitude-is ∙ w.digits_magnitude-magnitude.ensures
    ]
