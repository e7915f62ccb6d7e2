use Rattle.jiter_scan.proofs.Words.{◌≡◌, ◌<◌, ◌∙◌, arith, refl, sym, subst, Some, slice_get, nat_tests, IsFaultOf}
use Rattle.jiter_scan.proofs.Words.{is_plain}
use Rattle.jiter_scan.specs.declared.errors.FaultKind.TheVariants as fault
use Rattle.jiter_scan.proofs.Runs.{run_end-stops}
use Rattle.jiter_scan.proofs.bytes.short_scan.look_there.Goals as goal

-- the byte where a string's plain bytes stop, neither a quote nor a backslash, is below 20 hex
pub returns-in-Some : goal.returns-in-Some
returns-in-Some c = λ from stop ascii.
    let t = c.args.bytes.now in
    let b = c.in-Some.field-0 in
    let here = sym c.byte_at.ensures.value ∙ c.in-Some.is in
    let stops = run_end-stops is_plain t from b (subst (λ j. slice_get t j ≡ Some b) stop here) in
    let low : b < 32 = grind (arith, nat_tests, stops, c.in-Some.field-0-test.0.1, c.in-Some.field-0-test.1) in
    subst (λ o. IsFaultOf o fault.ControlCharacterWhileParsingString) (sym here) (low, refl)
