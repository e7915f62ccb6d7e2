use Rattle.jiter_scan.proofs.Words.{◌∙◌, ap, arith, int_seen, refl, sym, taken}
use Rattle.jiter_scan.proofs.NumberStarts.{begins-decimal, found_alone, found_int, int_at-fault, int_at-float}
use Rattle.jiter_scan.proofs.number.number_decoder.slow_int_at.Goals as goal

pub long_integer-number-requires : goal.long_integer-number-requires
long_integer-number-requires c =
    let m = c.skip_minus-digits in
    let s = c.stages_end-stage in
    let r = found_int c.args.bytes.now c.args.at m.result s.result.0 s.result.1 m.ensures.minus s.ensures.goes
    (rw c.in-Ok.is at s.ensures.ends) (sym c.is_int_stage.ensures ∙ c.if-is_int_stage.true) in
    record { minus = r.0; int_part = r.1; place = (r.2, r.3) }

pub returns-in-Ok : goal.returns-in-Ok
returns-in-Ok c =
    let m = c.skip_minus-digits in
    let s = c.stages_end-stage in
    let r = found_alone c.args.bytes.now c.args.at m.result s.result.0 s.result.1 m.ensures.minus s.ensures.goes
    (rw c.in-Ok.is at s.ensures.ends) c.requires m.ensures.end (sym c.is_int_stage.ensures ∙ c.if-is_int_stage.true) in
    record {
      value = r.0 ∙ ap (λ n. taken (int_seen n) s.result.1) (sym c.long_integer-number.ensures);
      advances = (omega (arith, m.ensures.place.0, r.1.2), r.1.3);
    }

pub returns-in-Ok-2 : goal.returns-in-Ok-2
returns-in-Ok-2 c =
    let s = c.stages_end-stage in
    let begins = begins-decimal c.non_finite_from.result _ _ _ c.non_finite_from.ensures.decimal (sym c.is_some.ensures ∙ c.if-is_some.false) in
    let r = int_at-float c.args.bytes.now c.args.at c.skip_minus-digits.result begins s.result.0 s.result.1 s.ensures.goes
    (taken tt s.result.1) (rw c.in-Ok-2.is at s.ensures.ends) (refl, sym c.is_int_stage.ensures ∙ c.if-is_int_stage.false)
    c.skip_minus-digits.ensures.place.0 _ c.digit_run_end.ensures.value in
    record { value = r.0; advances = (r.1, r.2) }

pub returns-then-fault-float-clause-value : goal.returns-then-fault-float-clause-value
returns-then-fault-float-clause-value c =
    let s = c.stages_end-stage in
    let begins = begins-decimal c.non_finite_from.result _ _ _ c.non_finite_from.ensures.decimal (sym c.is_some.ensures ∙ c.if-is_some.false) in
    int_at-fault c.args.bytes.now c.args.at c.skip_minus-digits.result begins s.result.0 s.result.1 s.ensures.goes _ _
    (rw c.in-Err.is at s.ensures.ends) (omega (arith, c.if-fault-float.true, c.digit_run_end-float.ensures.value))

pub returns-else-fault-float : goal.returns-else-fault-float
returns-else-fault-float c =
    let s = c.stages_end-stage in
    let begins = begins-decimal c.non_finite_from.result _ _ _ c.non_finite_from.ensures.decimal (sym c.is_some.ensures ∙ c.if-is_some.false) in
    let r = int_at-float c.args.bytes.now c.args.at c.skip_minus-digits.result begins s.result.0 s.result.1 s.ensures.goes _
    (rw c.in-Err.is at s.ensures.ends) (omega (arith, c.if-fault-float.false, c.digit_run_end-float.ensures.value))
    c.skip_minus-digits.ensures.place.0 _ c.digit_run_end-float.ensures.value in
    record { value = r.0; advances = (r.1, r.2) }
