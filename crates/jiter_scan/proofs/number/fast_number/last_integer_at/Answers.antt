use Rattle.jiter_scan.proofs.Words.{◌≡◌, ◌⊎◌, inl, inr, ◌+◌, ◌∙◌, sym, arith, get_or, ◌≢◌, digit_run_end, is_digit}
use Rattle.jiter_scan.proofs.Runs.{run_end-ahead, run_end-passing, run_end-past, run_end-stopping}
use Rattle.jiter_scan.proofs.Magnitudes.{decimal_of-few, decimal_of-next}
use Rattle.jiter_scan.proofs.FastNumbers.{integer-run}
use Rattle.jiter_scan.proofs.number.fast_number.last_integer_at.Goals as goal
use Rattle.jiter_scan.proofs.number.fast_number.last_integer_at.Goals.{then-digits-test+else-is_digit, else-digits-test}
use Rattle.jiter_scan.proofs.number.fast_number.last_integer_at.Goals.{else-end-bytes-via-then-end-bytes+else-goes_on, else-end-bytes-via-else-end-bytes}

pub overflow_mul-magnitude : goal.overflow_mul-magnitude
overflow_mul-magnitude c =
    let t = c.args.bytes.now in
    let e = c.digits.end in
    omega (
      arith,
      c.digits.invariant.value,
      decimal_of-few t c.args.at e c.digits.invariant.above
          (omega (arith, run_end-ahead is_digit t e)) c.digits.invariant.within 15 (omega arith),
    )

pub overflow_add-magnitude : goal.overflow_add-magnitude
overflow_add-magnitude c =
    let t = c.args.bytes.now in
    let e = c.digits.end in
    omega (
      arith,
      c.digits.invariant.value,
      c.type_inv.bytes e,
      decimal_of-few t c.args.at e c.digits.invariant.above
          (omega (arith, run_end-ahead is_digit t e)) c.digits.invariant.within 15 (omega arith),
    )

pub digits-preserved : goal.digits-preserved
digits-preserved c =
    let t = c.args.bytes.now in
    let e = c.digits.end in
    let here = run_end-passing is_digit t e c.digits-test.true (sym c.is_digit.ensures ∙ c.if-is_digit.true) in
    record {
      above = omega arith;
      within = omega arith;
      run = omega arith;
      value = decimal_of-next t c.args.at e c.digits.magnitude c.digits.invariant.above c.digits-test.true
          c.digits.invariant.value;
    }

pub returns : goal.returns
returns c = λ _.
    let t = c.args.bytes.now in
    let i = c.args.at in
    let e = c.digits.end in
    let stop : digit_run_end t e ≡ e = elim c.digits-test.branch [
      | then-digits-test+else-is_digit w ↦
          omega (arith, run_end-stopping is_digit t e w.digits-test.true (sym w.is_digit.ensures ∙ w.if-is_digit.false))
      | else-digits-test w ↦ omega (arith, run_end-past is_digit t e w.digits-test.false)
    ] in
    let first : (e ≡ i + 1) ⊎ (get_or t i 0 ≢ 48) =
    elim (c.may_lead.ensures.zero c.if-not-may_lead.false) [
      | inl one ↦ inl (omega (arith, one.1))
      | inr other ↦ inr other
    ] in
    integer-run t i c.digits.magnitude e (c.digits.invariant.run ∙ stop) (omega arith) c.digits.invariant.within
    (omega arith) first
    (λ inside. elim c.else-end-bytes.branch [
      | else-end-bytes-via-then-end-bytes+else-goes_on w ↦ sym w.goes_on.ensures ∙ w.if-goes_on.false
      | else-end-bytes-via-else-end-bytes w ↦ absurd (omega (arith, w.if-end-bytes))
    ])
    c.digits.invariant.value
