use Rattle.jiter_steps.proofs.Words.{◌<◌, ◌∙◌, sym, ap, subst, arith, inside, length, only_ends, value_from, done}
use Rattle.jiter_steps.proofs.Calls.Skipping.{innermost-led, open_frames-innermost}
use Rattle.jiter_steps.proofs.skip.end_value.Goals as goal

pub returns-in-Ok-true-clause-value : goal.returns-in-Ok-true-clause-value
returns-in-Ok-true-clause-value c = λ names.
    let t = c.args.parser.now.bytes.now in
    let l = c.closing in
    let p = l.parser in
    let i = c.in-Ok-true in
    let m = c.inside.new.parser.index in
    let same = ap (λ bytes. bytes.now) l.invariant.moves.same in
    let some : 0 < l.nest.depth = omega arith in (
      l.invariant.same names
          ∙ innermost-led names t p.bytes.now l.nest.kinds l.nest.depth p.index _ some same p.within
          (ap (inside _ p.bytes.now) c.next.ensures.is ∙ i.ensures.value ∙ ap (λ more. done more m) i.field-0-test)
          ∙ ap (λ fs. value_from (only_ends names) t fs m) (sym (open_frames-innermost l.nest.kinds l.nest.depth some)),
      subst (λ u. m < length u) same (i.ensures.inside i.field-0-test),
    )

pub closing-preserved : goal.closing-preserved
closing-preserved c =
    let l = c.closing in
    let p = l.parser in
    let i = c.in-Ok-false in
    let some : 0 < l.nest.depth = omega arith in
    record {
      moves = record { same = i.ensures.moves.same ∙ l.invariant.moves.same; forward = omega arith };
      same = λ names. l.invariant.same names
          ∙ innermost-led names c.args.parser.now.bytes.now p.bytes.now l.nest.kinds l.nest.depth p.index _ some
          (ap (λ bytes. bytes.now) l.invariant.moves.same) p.within
          (ap (inside _ p.bytes.now) c.next.ensures.is ∙ i.ensures.value ∙ ap (λ more. done more c.inside.new.parser.index) i.field-0-test);
    }

pub returns-in-Err-clause-value : goal.returns-in-Err-clause-value
returns-in-Err-clause-value c = λ names.
    let l = c.closing in
    let p = l.parser in
    let some : 0 < l.nest.depth = omega arith in
    l.invariant.same names
    ∙ innermost-led names c.args.parser.now.bytes.now p.bytes.now l.nest.kinds l.nest.depth p.index _ some
    (ap (λ bytes. bytes.now) l.invariant.moves.same) p.within (ap (inside _ p.bytes.now) c.next.ensures.is ∙ c.in-Err.ensures.value)
