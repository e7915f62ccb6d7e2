use Rattle.jiter_scan.proofs.Words.{◌+◌, ◌-◌, ◌≤◌, arith, sym, subst, GoesTo}
use Rattle.jiter_scan.specs.declared.number.partial_number.Stage.TheVariants as stage
use Rattle.jiter_scan.proofs.NumberParts.{goes-room, goes-run}
use Rattle.jiter_scan.proofs.number.partial_number.run_end.Goals as goal

pub returns-in-Fraction : goal.returns-in-Fraction
returns-in-Fraction c =
    goes-run c.args.stage c.args.bytes.now c.args.at c.digit_run_end.result c.digit_run_end.ensures.place.0
    c.digit_run_end.ensures.place.1 c.digit_run_end.ensures.value c.in-Fraction.is

pub returns-in-Digits : goal.returns-in-Digits
returns-in-Digits c =
    let t = c.args.bytes.now in
    let at = c.args.at in
    let n = c.min-count.result in
    let room = c.in-Digits.room in
    let run = c.digit_run_end-in-Digits.ensures in
    let few : n ≤ c.digit_run_end-in-Digits.result - at = grind arith in
    subst (λ s. GoesTo s t at (stage.Digits (room - n)) (at + n)) (sym c.in-Digits.is)
    (goes-room room n t at (grind arith) (omega (arith, few, run.place)) (omega (arith, few, run.value, run.place)))
