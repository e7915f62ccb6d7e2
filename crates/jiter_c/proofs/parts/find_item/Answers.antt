use Rattle.std.proofs.Common.{suc, ◌≡◌, ◌∙◌, ◌-◌, sym, ap, option_map, arith}
use Rattle.std.specs.Prelude.{not}
use Rattle.std.proofs.lemmas.Bool.{false≢true}
use Rattle.jiter.specs.Errors.{cause_of}
use Rattle.jiter.specs.Jiter.{byte_of}
use Rattle.jiter.specs.Parts.{RefusedAfter, Refuses}
use Rattle.jiter.proofs.Walking.{moves-on}
use Rattle.jiter_c.proofs.Passing.{item-missing, item-passed, item-reached, items-passed}
use Rattle.jiter_c.proofs.Walks.{has-item, item-found, item-not_refused, items-begin, items-end, items-go_on, items-not_refused}
use Rattle.jiter_c.proofs.Walks.{passed-on, place-not_refused, refused-after, stays, step-not_refused}
use Rattle.jiter_c.proofs.parts.find_item.Goals as goal
use Rattle.jiter_c.proofs.parts.find_item.Goals.{else-loop-item-test, then-loop-item-test+else-before-gt0}

pub returns-in_err-item-clause-led : goal.returns-in_err-item-clause-led
returns-in_err-item-clause-led c = λ b e ns h.
    absurd (items-not_refused c.args.jiter.now b e ns h _ _ _ c.in_err-item.ensures.reads.value)

pub returns-in_err-item-clause-refusal : goal.returns-in_err-item-clause-refusal
returns-in_err-item-clause-refusal c =
    let s = c.args.jiter.now in
    let m = c.in_err-item.ensures.reads.moves in
    passed-on (λ e. RefusedAfter s (cause_of e.error_type) e.index c.next_array.new.self.position) _ _
    c.from_residual.ensures.1
    (refused-after s s c.next_array.new.self _ _ (stays s _ m) m (Refuses.at_array c.in_err-item.ensures.reads.value))

pub loop-item-init : goal.loop-item-init
loop-item-init c =
    let s = c.args.jiter.now in
    let read = c.in_ok-item.ensures.reads in
    let item = option_map byte_of c.in_ok-item.item in (
      items-begin s c.next_array.new.self item c.args.number read.moves read.value,
      items-passed s c.next_array.new.self item c.args.number read.value,
    )

pub returns-in_err-next_skip-clause-moves : goal.returns-in_err-next_skip-clause-moves
returns-in_err-next_skip-clause-moves c =
    moves-on c.args.jiter.now _ _ c.loop-item.invariant.0.moves c.in_err-next_skip.ensures.reads.moves

pub returns-in_err-next_skip-clause-led : goal.returns-in_err-next_skip-clause-led
returns-in_err-next_skip-clause-led c = λ b e ns h.
    let some = has-item byte_of c.loop-item.item _ c.is_some.ensures ∙ c.loop-item-test.true in
    let inv = (rw some at c.loop-item.invariant).0 in
    absurd (item-not_refused c.args.jiter.now c.loop-item.jiter c.args.number c.loop-item.before inv b e ns h _ _ _
    c.in_err-next_skip.ensures.reads.value)

pub returns-in_err-next_skip-clause-refusal : goal.returns-in_err-next_skip-clause-refusal
returns-in_err-next_skip-clause-refusal c =
    let s = c.args.jiter.now in
    passed-on (λ e. RefusedAfter s (cause_of e.error_type) e.index c.next_skip.new.self.position) _ _
    c.from_residual-in_err-next_skip.ensures.1
    (refused-after s c.loop-item.jiter c.next_skip.new.self _ _ c.loop-item.invariant.0.moves
    c.in_err-next_skip.ensures.reads.moves (Refuses.at_skip c.in_err-next_skip.ensures.reads.value))

pub returns-in_err-item-2-clause-moves : goal.returns-in_err-item-2-clause-moves
returns-in_err-item-2-clause-moves c =
    moves-on c.args.jiter.now _ _ c.loop-item.invariant.0.moves
    (moves-on c.loop-item.jiter _ _ c.in_ok-next_skip.ensures.reads.moves c.in_err-item-2.ensures.reads.moves)

pub returns-in_err-item-2-clause-led : goal.returns-in_err-item-2-clause-led
returns-in_err-item-2-clause-led c = λ b e ns h.
    let some = has-item byte_of c.loop-item.item _ c.is_some.ensures ∙ c.loop-item-test.true in
    let inv = (rw some at c.loop-item.invariant).0 in
    let skip = c.in_ok-next_skip.ensures.reads in
    absurd (step-not_refused c.args.jiter.now c.loop-item.jiter c.args.number c.loop-item.before inv c.next_skip.new.self
    skip.moves skip.value b e ns h _ _ _ c.in_err-item-2.ensures.reads.value)

pub returns-in_err-item-2-clause-refusal : goal.returns-in_err-item-2-clause-refusal
returns-in_err-item-2-clause-refusal c =
    let s = c.args.jiter.now in
    passed-on (λ e. RefusedAfter s (cause_of e.error_type) e.index c.array_step.new.self.position) _ _
    c.from_residual-in_err-item-2.ensures.1
    (refused-after s c.next_skip.new.self c.array_step.new.self _ _
    (moves-on s _ _ c.loop-item.invariant.0.moves c.in_ok-next_skip.ensures.reads.moves)
    c.in_err-item-2.ensures.reads.moves (Refuses.at_item c.in_err-item-2.ensures.reads.value))

pub loop-item-preserved : goal.loop-item-preserved
loop-item-preserved c =
    let s = c.args.jiter.now in
    let some = has-item byte_of c.loop-item.item _ c.is_some.ensures ∙ c.loop-item-test.true in
    let both = rw some at c.loop-item.invariant in
    let skip = c.in_ok-next_skip.ensures.reads in
    let step = c.in_ok-item-2.ensures.reads in
    let item = option_map byte_of c.in_ok-item-2.item in
    let fewer : c.loop-item.before ≡ suc (c.loop-item.before - 1) = omega (arith, c.if-before-gt0.true) in (
      items-go_on s c.loop-item.jiter c.args.number c.loop-item.before both.0 c.next_skip.new.self skip.moves skip.value
          c.array_step.new.self item _ step.moves step.value fewer,
      item-passed s c.loop-item.jiter c.next_skip.new.self c.array_step.new.self item c.args.number c.loop-item.before _
          both.0.moves skip.moves skip.value both.1 step.value fewer,
    )

pub returns-then-is_none-clause-walked : goal.returns-then-is_none-clause-walked
returns-then-is_none-clause-walked c =
    let none = has-item byte_of c.loop-item.item _ (sym c.is_none.ensures) ∙ ap not c.if-is_none.true in
    item-missing c.args.jiter.now c.loop-item.jiter c.args.number c.loop-item.before
    (rw none at c.loop-item.invariant).1

pub returns-then-is_none-clause-moves : goal.returns-then-is_none-clause-moves
returns-then-is_none-clause-moves c = c.loop-item.invariant.0.moves

pub returns-then-is_none-clause-led : goal.returns-then-is_none-clause-led
returns-then-is_none-clause-led c =
    let none = has-item byte_of c.loop-item.item _ (sym c.is_none.ensures) ∙ ap not c.if-is_none.true in
    let inv = (rw none at c.loop-item.invariant).0 in
    items-end c.args.jiter.now c.loop-item.jiter c.args.number c.loop-item.before inv

pub returns-in_err-peek-clause-moves : goal.returns-in_err-peek-clause-moves
returns-in_err-peek-clause-moves c =
    moves-on c.args.jiter.now _ _ c.loop-item.invariant.0.moves c.in_err-peek.ensures.reads.moves

pub returns-in_err-peek-clause-led : goal.returns-in_err-peek-clause-led
returns-in_err-peek-clause-led c = λ b e ns h.
    let some = has-item byte_of c.loop-item.item _ (sym c.is_none.ensures) ∙ ap not c.if-is_none.false in
    let all : c.loop-item.before ≡ 0 = elim c.loop-item-test.branch [
      | then-loop-item-test+else-before-gt0 w ↦ omega (arith, w.if-before-gt0.false)
      | else-loop-item-test w ↦
          let none = has-item byte_of c.loop-item.item _ c.is_some.ensures ∙ w.loop-item-test.false in
          absurd (false≢true (sym none ∙ some))
    ] in
    let inv = (rw (some, all) at c.loop-item.invariant).0 in
    absurd (place-not_refused c.args.jiter.now c.loop-item.jiter c.args.number inv b e ns h _ _ _
    c.in_err-peek.ensures.reads.value)

pub returns-in_err-peek-clause-refusal : goal.returns-in_err-peek-clause-refusal
returns-in_err-peek-clause-refusal c =
    let s = c.args.jiter.now in
    passed-on (λ e. RefusedAfter s (cause_of e.error_type) e.index c.peek.new.self.position) _ _
    c.from_residual-in_err-peek.ensures.1
    (refused-after s c.loop-item.jiter c.peek.new.self _ _ c.loop-item.invariant.0.moves
    c.in_err-peek.ensures.reads.moves (Refuses.at_peek c.in_err-peek.ensures.reads.value))

pub returns-clause-moves : goal.returns-clause-moves
returns-clause-moves c = moves-on c.args.jiter.now _ _ c.loop-item.invariant.0.moves c.in_ok-peek.ensures.reads.moves

pub returns-clause-led : goal.returns-clause-led
returns-clause-led c = λ b e ns h.
    let some = has-item byte_of c.loop-item.item _ (sym c.is_none.ensures) ∙ ap not c.if-is_none.false in
    let all : c.loop-item.before ≡ 0 = elim c.loop-item-test.branch [
      | then-loop-item-test+else-before-gt0 w ↦ omega (arith, w.if-before-gt0.false)
      | else-loop-item-test w ↦
          let none = has-item byte_of c.loop-item.item _ c.is_some.ensures ∙ w.loop-item-test.false in
          absurd (false≢true (sym none ∙ some))
    ] in
    let inv = (rw (some, all) at c.loop-item.invariant).0 in
    item-found c.args.jiter.now c.loop-item.jiter c.args.number inv b e ns h _ c.in_ok-peek.ensures.place

pub returns-clause-walked : goal.returns-clause-walked
returns-clause-walked c =
    let some = has-item byte_of c.loop-item.item _ (sym c.is_none.ensures) ∙ ap not c.if-is_none.false in
    let all : c.loop-item.before ≡ 0 = elim c.loop-item-test.branch [
      | then-loop-item-test+else-before-gt0 w ↦ omega (arith, w.if-before-gt0.false)
      | else-loop-item-test w ↦
          let none = has-item byte_of c.loop-item.item _ c.is_some.ensures ∙ w.loop-item-test.false in
          absurd (false≢true (sym none ∙ some))
    ] in
    let both = rw (some, all) at c.loop-item.invariant in
    item-reached c.args.jiter.now c.loop-item.jiter c.peek.new.self _ c.args.number both.0.moves both.1
    c.in_ok-peek.ensures.reads.value
