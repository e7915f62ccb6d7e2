use Rattle.jiter_value.proofs.Words.{refl, ap, ◌∙◌, sym, arith, slice_get, value_first, borrowed, rules_as}
use Rattle.std.proofs.lemmas.Option.{slice_get_past}
use Rattle.jiter_scan.specs.Kind.{eof_value}
use Rattle.jiter_value.proofs.Ended.{come-first}
use Rattle.jiter_value.proofs.WholeTextAnswers.{answer-none}
use Rattle.jiter_value.proofs.parse.machine.begin.Goals as goal

pub returns-then-reading-bytes-clause-begun : goal.returns-then-reading-bytes-clause-begun
returns-then-reading-bytes-clause-begun c = λ _.
    let r = c.args.reading.now in
    let cleared = c.requires.cleared in
    let blanks = c.past_blanks-reading in
    rw (c.requires.state, sym blanks.ensures.value)
    (come-first borrowed ⊥ r.settings c.args.bytes.now r.stacks blanks.result cleared.holds c.if-reading-bytes.true, tt, cleared.root)

pub returns-clause-over : goal.returns-clause-over
returns-clause-over c = λ _.
    let r = c.args.reading.now in
    let t = c.args.bytes.now in
    let i = c.past_blanks-reading.result in
    let none = slice_get_past t i (omega (arith, c.if-reading-bytes.false)) in
    let ended = ap (λ j. value_first j (slice_get t j)) (sym c.past_blanks-reading.ensures.value)
    ∙ ap (value_first i) none in (
      rw c.fault_at-fault.ensures (answer-none (rules_as borrowed r.settings) r.settings.mode t eof_value i i (ended, refl)),
      c.past_blanks-reading.ensures.bound,
      tt,
      tt,
    )
