use Rattle.jiter_scan.proofs.Words.{◌+◌, ◌<◌, inl, inr, get_or, length, subst, sym, ap, ◌∙◌, arith, slice_get-get_or}
use Rattle.jiter_scan.proofs.Words.{false≢true, decimal_of, is_digit, is_float_sign}
use Rattle.jiter_scan.proofs.Runs.{run_end-passes}
use Rattle.jiter_scan.proofs.NumberSpans.{decimal_at-tail}
use Rattle.jiter_scan.proofs.NumberValues.{number_value-tail}
use Rattle.jiter_scan.proofs.FastNumbers.{digits-counted, digits-of_block, int_part_at-counted, some-counted}
use Rattle.jiter_scan.proofs.FastNumbers.{first-alone, integer-run, tail-past}
use Rattle.jiter_scan.proofs.NumberSound.{IsPast}
use Rattle.jiter_scan.proofs.number.fast_number.padded_number_at.Goals as goal

pub returns-then-not-goes_on : goal.returns-then-not-goes_on
returns-then-not-goes_on c =
    let t = c.args.bytes.now in
    let i = c.args.at in
    let block = c.full_block_at-block in
    let n = c.in-Some.count in
    let few : n < 16 = c.in-Some.ensures.some.1 in
    let run = digits-counted t block.result i n c.in-Some.ensures.some.0 (omega arith) (omega arith) block.ensures in
    let some = some-counted t block.result i n c.in-Some.ensures.some.0 (omega arith) (omega arith) block.ensures
    (c.may_lead.ensures.digit c.if-not-may_lead.false) in
    integer-run t i c.digit_word.result (i + n) run (omega (arith, some)) (omega arith) (omega arith)
    (first-alone t i n (c.may_lead.ensures.zero c.if-not-may_lead.false))
    (λ _. sym c.goes_on.ensures ∙ c.if-not-goes_on.true)
    (c.digit_word.ensures ∙ ap decimal_of (block.ensures n (omega arith) (omega arith)))

pub returns-in-Some-fast_float_end : goal.returns-in-Some-fast_float_end
returns-in-Some-fast_float_end c =
    let t = c.args.bytes.now in
    let i = c.args.at in
    let block = c.full_block_at-block in
    let n = c.in-Some.count in
    let few : n < 16 = c.in-Some.ensures.some.1 in
    let some = some-counted t block.result i n c.in-Some.ensures.some.0 (omega arith) (omega arith) block.ensures
    (c.may_lead.ensures.digit c.if-not-may_lead.false) in
    let int_part =
    int_part_at-counted t block.result i n c.in-Some.ensures.some.0 (omega arith) (omega arith) block.ensures some
    (c.may_lead.ensures.zero c.if-not-may_lead.false) in
    let end = c.in-Some-fast_float_end.after in
    let place = subst (IsPast (i + n + 1) (length t)) c.in-Some-fast_float_end.ensures
    (tail-past t (i + n) (get_or t (i + n) 0) (slice_get-get_or t (i + n) 0 (omega arith))
    (sym c.goes_on.ensures ∙ c.if-not-goes_on.false)) in
    record {
      decimal = decimal_at-tail t i (i + n) end int_part c.in-Some-fast_float_end.ensures;
      value = λ j le.
          number_value-tail t j (i + n) end (omega arith) (omega (arith, place.0)) (omega arith) c.in-Some-fast_float_end.ensures;
      some = omega (arith, place.0, some);
      within = place.1;
    }

pub returns-then-not-may_lead : goal.returns-then-not-may_lead
returns-then-not-may_lead c h =
    let i = c.args.at in
    elim (c.may_lead.ensures.other c.if-not-may_lead.true) [
      | inl none ↦ absurd (false≢true (sym none ∙ run_end-passes is_digit c.args.bytes.now i i (omega arith) h.some))
      | inr zero ↦ h.first zero
    ]

pub returns-in-None : goal.returns-in-None
returns-in-None c h =
    let t = c.args.bytes.now in
    let i = c.args.at in
    let block = c.full_block_at-block in
    let few : c.in-Some.count < 16 = c.in-Some.ensures.some.1 in
    let run = digits-counted t block.result i c.in-Some.count c.in-Some.ensures.some.0 (omega arith)
    (omega arith) block.ensures in
    let alone = ap (λ k. is_float_sign (get_or t k 0)) (sym run) ∙ h.alone in
    absurd (false≢true (sym alone ∙ sym c.goes_on.ensures ∙ c.if-not-goes_on.false))

pub two_blocks_at-requires-clause-digits : goal.two_blocks_at-requires-clause-digits
two_blocks_at-requires-clause-digits c =
    let block = c.full_block_at-block in
    digits-of_block c.args.bytes.now block.result c.args.at 16 (omega (arith, c.in_default.ensures.none))
    (block.ensures 16 (omega arith) (omega arith))
