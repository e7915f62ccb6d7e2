use Rattle.jiter_steps.proofs.Words.{◌≡◌, ap, arith, nat_tests, slice_index, start_of}
use Rattle.jiter_steps.specs.declared.parse.ContainerKind.TheVariants as shape
use Rattle.jiter_steps.specs.declared.parse.Start.TheVariants as start
use Rattle.jiter_steps.proofs.Calls.FastSkips.{some-as, empty-ends, number-ends}
use Rattle.jiter_steps.proofs.fast_skip.fast_value_end.Goals.{in-45-1, in_default+else-this-lt48+then-this-lt58}
use Rattle.jiter_steps.proofs.fast_skip.fast_value_end.Goals as goal

pub returns-in-48-to-57-clause-value : goal.returns-in-48-to-57-clause-value
returns-in-48-to-57-clause-value c =
    let begins : start_of (slice_index c.args.bytes.now c.args.at) ≡ start.Number =
    elim c.in-48-to-57-1.branch [
      | in-45-1 w ↦ grind (arith, nat_tests)
      | in_default+else-this-lt48+then-this-lt58 w ↦ grind (arith, nat_tests)
    ] in
    some-as _ (λ e is. number-ends c.args.bytes.now c.args.at e begins is) c.padded_number_end.ensures.end

pub returns-in-91-clause-value : goal.returns-in-91-clause-value
returns-in-91-clause-value c =
    empty-ends c.args.bytes.now c.args.at shape.Array (ap start_of c.in-91.is) (omega (arith, c.requires)) c.if-bytes-at-eq93.true

pub returns-in-123-clause-value : goal.returns-in-123-clause-value
returns-in-123-clause-value c =
    empty-ends c.args.bytes.now c.args.at shape.Object (ap start_of c.in-123.is) (omega (arith, c.requires)) c.if-bytes-at-eq125.true
