use Rattle.jiter_scan.proofs.Words.{◌≡◌, ◌∙◌, ap, arith, refl, subst, sym, integer, taken, false, to_z, of_z, w64, to_z-of_z, number_view}
use Rattle.jiter_scan.specs.NumberWithin.{EndsNumber}
use Rattle.jiter_scan.proofs.FastNumberValues.{short-signed}
use Rattle.jiter_scan.proofs.NumberBytes.{IsMinusTo-le}
use Rattle.jiter_scan.proofs.NumberEnds.{ends-within}
use Rattle.jiter_scan.proofs.number.number_within.number_within.Goals as goal

pub returns-in-Ok : goal.returns-in-Ok
returns-in-Ok c =
    ends-within c.args.chunk.now c.args.at (number_view c.in-Ok.number) c.in-Ok.end c.in-Ok.ensures.value
    c.in-Ok.ensures.advances.0 (c.if-ends_number.ensures refl)

pub returns-then-chunk-digits-lt-BLOCK_SIZE : goal.returns-then-chunk-digits-lt-BLOCK_SIZE
returns-then-chunk-digits-lt-BLOCK_SIZE c =
    let t = c.args.chunk.now in
    let at = c.args.at in
    let found = c.last_integer_at-magnitude in
    let end = found.result.1 in
    let same : c.digit_run_end-end.result ≡ end = omega (arith, c.if-after-end.false) in
    let plain = found.ensures (omega (arith, c.if-after-eq0.false)) in
    let kept : to_z w64 (of_z w64 c.signed-number.result) ≡ c.signed-number.result = grind (arith, to_z-of_z) in
    let read = short-signed t false at end c.skip_minus-digits.result found.result.0 c.skip_minus-digits.ensures.minus plain in
    ends-within t at _ end (read ∙ ap (λ x. taken (integer x) end) (sym (kept ∙ c.signed-number.ensures)))
    (omega (arith, plain.some, IsMinusTo-le t at c.skip_minus-digits.result c.skip_minus-digits.ensures.minus))
    (subst (EndsNumber t) same (c.ends_number.ensures c.if-not-ends_number.false))
