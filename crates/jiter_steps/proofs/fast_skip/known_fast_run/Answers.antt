use Rattle.jiter_steps.proofs.Words.{◌∷◌, ◌∙◌, refl, arith, frame_of}
use Rattle.jiter_steps.proofs.Calls.FastSkips.{plain-next, plain-passed}
use Rattle.jiter_steps.proofs.fast_skip.known_fast_run.Goals as goal

pub parts-init : goal.parts-init
parts-init c = record { place = (omega arith, c.requires.within); same = λ names fs few. refl }

pub parts-preserved : goal.parts-preserved
parts-preserved c =
    let l = c.parts in
    let t = c.args.bytes.now in
    let b = c.args.shape in
    let at = c.in-Some.at in
    let e = c.in-Some-fast_value_end.after in
    let next = c.in-Some.ensures in
    let plain = c.in-Some-fast_value_end.ensures in
    record {
      place = (omega arith, plain.within.1);
      same = λ names fs few. l.invariant.same names fs few
          ∙ plain-next names t b fs l.end at l.invariant.place.1 next.value
          ∙ plain-passed names t (frame_of b ∷ fs) at e (omega arith) plain.value;
    }

pub returns-in-None-clause-leads : goal.returns-in-None-clause-leads
returns-in-None-clause-leads c = λ names fs few. c.parts.invariant.same names fs few

pub returns-in-None-fast_value_end-clause-leads : goal.returns-in-None-fast_value_end-clause-leads
returns-in-None-fast_value_end-clause-leads c = λ names fs few.
    let l = c.parts in
    let at = c.in-Some.at in (
      l.invariant.same names fs few
          ∙ plain-next names c.args.bytes.now c.args.shape fs l.end at l.invariant.place.1 c.in-Some.ensures.value,
      omega (arith, c.in-Some.ensures.within.1),
    )

pub returns-clause-leads : goal.returns-clause-leads
returns-clause-leads c = λ names fs few. c.parts.invariant.same names fs few
