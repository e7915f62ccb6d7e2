use Rattle.jiter_steps.proofs.Words.{◌∙◌, ap, sym, arith, inside, only_ends, value_from, done}
use Rattle.jiter_steps.proofs.Calls.Skipping.{first_inside-is, value_from-limit, length-open_frames, open_frames-opens}
use Rattle.jiter_steps.proofs.skip.begin.Goals as goal

pub returns-then-nest-eq-NESTING_LIMIT-clause-value : goal.returns-then-nest-eq-NESTING_LIMIT-clause-value
returns-then-nest-eq-NESTING_LIMIT-clause-value c = λ names.
    let p = c.args.parser.now in
    let n = c.args.nest.now in
    let m = c.inside.new.parser.index in
    rw c.fault_at.ensures
    (first_inside-is names p.bytes.now c.args.shape n.kinds n.depth p.index _ (omega arith) c.requires.within
    c.requires.bracket (ap (inside c.args.shape p.bytes.now) c.first.ensures.is ∙ c.in-Ok-true.ensures.value ∙ ap (λ more. done more m) c.in-Ok-true.field-0-test)
    ∙ value_from-limit names p.bytes.now _ _ m (length-open_frames n.kinds n.depth ∙ c.if-nest-eq-NESTING_LIMIT.true))

pub returns-else-nest-eq-NESTING_LIMIT-clause-value : goal.returns-else-nest-eq-NESTING_LIMIT-clause-value
returns-else-nest-eq-NESTING_LIMIT-clause-value c = λ names.
    let p = c.args.parser.now in
    let n = c.args.nest.now in
    let m = c.inside.new.parser.index in
    let within = c.in-Ok-true.ensures.inside c.in-Ok-true.field-0-test in (
      first_inside-is names p.bytes.now c.args.shape n.kinds n.depth p.index _ (omega arith) c.requires.within
          c.requires.bracket (ap (inside c.args.shape p.bytes.now) c.first.ensures.is ∙ c.in-Ok-true.ensures.value ∙ ap (λ more. done more m) c.in-Ok-true.field-0-test)
          ∙ ap (λ fs. value_from (only_ends names) p.bytes.now fs m)
          (sym (open_frames-opens n.kinds n.depth c.args.shape (omega (arith, n.within)))),
      within,
    )

pub returns-in-Ok-false-clause-value : goal.returns-in-Ok-false-clause-value
returns-in-Ok-false-clause-value c = λ names.
    let p = c.args.parser.now in
    let n = c.args.nest.now in
    first_inside-is names p.bytes.now c.args.shape n.kinds n.depth p.index _ (omega arith) c.requires.within
    c.requires.bracket
    (ap (inside c.args.shape p.bytes.now) c.first.ensures.is ∙ c.in-Ok-false.ensures.value ∙ ap (λ more. done more c.inside.new.parser.index) c.in-Ok-false.field-0-test)

pub returns-in-Err-clause-value : goal.returns-in-Err-clause-value
returns-in-Err-clause-value c = λ names.
    let p = c.args.parser.now in
    let n = c.args.nest.now in
    first_inside-is names p.bytes.now c.args.shape n.kinds n.depth p.index _ (omega arith) c.requires.within
    c.requires.bracket (ap (inside c.args.shape p.bytes.now) c.first.ensures.is ∙ c.in-Err.ensures.value)
