use Rattle.std.proofs.Common.{ℕ, ◌∙◌, Ok, refl, sym}
use Rattle.jiter.specs.Errors.{cause_of}
use Rattle.jiter.specs.Jiter.{byte_of}
use Rattle.jiter.specs.Parts.{RefusedAfter}
use Rattle.jiter_c.specs.Parts.{PartsPassed, into_read}
use Rattle.jiter_c.specs.Replies.{next_reply, state_of}
use Rattle.jiter_c.proofs.Into.{into-refused, peek-gave, peek-into}
use Rattle.jiter_c.proofs.Passing.{first-again, part-passed}
use Rattle.jiter.proofs.Walking.{moves-on}
use Rattle.jiter_c.proofs.Walks.{count-begins, count-ends, count-goes_on, count-less, first-not_refused, is-bracket}
use Rattle.jiter_c.proofs.Walks.{next-not_refused, next-refuses, part-refuses, passed-on}
use Rattle.jiter_c.proofs.Walks.{refused-after, skip-not_refused}
use Rattle.jiter_c.proofs.parts.count_parts.Goals as goal

pub returns-in_err-more-clause-counts : goal.returns-in_err-more-clause-counts
returns-in_err-more-clause-counts c = λ n h w.
    let s = state_of c.args.reader.now in
    let p = rw c.jiter_at-jiter.ensures at c.in_ok-peek.ensures in
    absurd (first-not_refused s c.peek.new.self (byte_of c.in_ok-peek.field-0) p.reads.value p.reads.moves p.place
    c.eq-object.result (is-bracket _ _ c.eq-object.ensures) n h w _ _ _ c.in_err-more.ensures.reads.value)

pub returns-in_err-more-clause-refusal : goal.returns-in_err-more-clause-refusal
returns-in_err-more-clause-refusal c =
    let s = state_of c.args.reader.now in
    let p = rw c.jiter_at-jiter.ensures at c.in_ok-peek.ensures in
    passed-on (λ e. (stop : ℕ) × RefusedAfter s (cause_of e.error_type) e.index stop) _ _
    c.from_residual-in_err-more.ensures.1 (
      _,
      refused-after s c.peek.new.self c.first_part.new.jiter _ _ p.reads.moves c.in_err-more.ensures.reads.moves
          (part-refuses c.eq-object.result _ _ _ _ c.in_err-more.ensures.reads.value),
    )

pub loop-more-init : goal.loop-more-init
loop-more-init c =
    let s = state_of c.args.reader.now in
    let p = rw c.jiter_at-jiter.ensures at c.in_ok-peek.ensures in
    let is = is-bracket _ _ c.eq-object.ensures in
    let byte = byte_of c.in_ok-peek.field-0 in (
      count-begins s c.peek.new.self c.first_part.new.jiter byte c.eq-object.result c.in_ok-more.more p.reads.value
          p.reads.moves p.place is c.in_ok-more.ensures.reads.moves c.in_ok-more.ensures.reads.value,
      PartsPassed.first c.in_ok-more.more c.first_part.new.jiter.position
          (sym (first-again s c.peek.new.self byte p.reads.value p.reads.moves p.place c.eq-object.result is)
          ∙ c.in_ok-more.ensures.reads.value),
    )

pub returns-in_err-next_skip-clause-counts : goal.returns-in_err-next_skip-clause-counts
returns-in_err-next_skip-clause-counts c = λ n h w.
    let inv = (rw c.loop-more-test.true at c.loop-more.invariant).0 in
    let left = inv.counts n h w in
    absurd (skip-not_refused c.loop-more.jiter c.eq-object.result left.0 left.1 _ _ _
    c.in_err-next_skip.ensures.reads.value)

pub returns-in_err-more-2-clause-counts : goal.returns-in_err-more-2-clause-counts
returns-in_err-more-2-clause-counts c = λ n h w.
    let inv = (rw c.loop-more-test.true at c.loop-more.invariant).0 in
    let left = inv.counts n h w in
    let skip = c.in_ok-next_skip.ensures.reads in
    absurd (next-not_refused c.loop-more.jiter c.next_skip.new.self skip.moves skip.value c.eq-object.result left.0 left.1
    _ _ _ c.in_err-more-2.ensures.reads.value)

pub returns-in_err-more-2-clause-refusal : goal.returns-in_err-more-2-clause-refusal
returns-in_err-more-2-clause-refusal c =
    let s = state_of c.args.reader.now in
    passed-on (λ e. (stop : ℕ) × RefusedAfter s (cause_of e.error_type) e.index stop) _ _
    c.from_residual-in_err-more-2.ensures.1 (
      _,
      refused-after s c.next_skip.new.self c.next_part.new.jiter _ _
          (moves-on s _ _ c.loop-more.invariant.0.moves c.in_ok-next_skip.ensures.reads.moves)
          c.in_err-more-2.ensures.reads.moves
          (next-refuses c.eq-object.result _ _ _ _ c.in_err-more-2.ensures.reads.value),
    )

pub loop-more-smaller : goal.loop-more-smaller
loop-more-smaller c =
    let inv = (rw c.loop-more-test.true at c.loop-more.invariant).0 in
    let skip = c.in_ok-next_skip.ensures.reads in
    count-less (state_of c.args.reader.now) c.loop-more.jiter c.eq-object.result c.loop-more.count inv
    c.next_skip.new.self skip.moves skip.value c.next_part.new.jiter c.in_ok-more-2.ensures.reads.moves

pub loop-more-preserved : goal.loop-more-preserved
loop-more-preserved c =
    let s = state_of c.args.reader.now in
    let both = rw c.loop-more-test.true at c.loop-more.invariant in
    let skip = c.in_ok-next_skip.ensures.reads in (
      count-goes_on s c.loop-more.jiter c.eq-object.result c.loop-more.count both.0 c.next_skip.new.self skip.moves
          skip.value c.next_part.new.jiter c.in_ok-more-2.more c.in_ok-more-2.ensures.reads.moves
          c.in_ok-more-2.ensures.reads.value,
      part-passed s c.loop-more.jiter c.next_skip.new.self c.next_part.new.jiter both.0.moves skip.moves skip.value
          c.eq-object.result c.in_ok-more-2.more c.loop-more.count _ both.1 c.in_ok-more-2.ensures.reads.value refl,
    )

pub returns-clause-walked : goal.returns-clause-walked
returns-clause-walked c =
    let both = rw c.loop-more-test.false at c.loop-more.invariant in
    (c.eq-object.result, c.loop-more.jiter.position, both.1)

pub returns-clause-counts : goal.returns-clause-counts
returns-clause-counts c =
    let inv = (rw c.loop-more-test.false at c.loop-more.invariant).0 in
    count-ends (state_of c.args.reader.now) c.loop-more.jiter c.eq-object.result c.loop-more.count inv

pub returns-in_err-more-clause-into : goal.returns-in_err-more-clause-into
returns-in_err-more-clause-into c =
    let s = state_of c.args.reader.now in
    let p = rw c.jiter_at-jiter.ensures at c.in_ok-peek.ensures in
    let is = is-bracket _ _ c.eq-object.ensures in (
      _,
      into-refused (next_reply c.args.reader.now into_read) c.from_residual-in_err-more.result _ _
          (sym (peek-into s c.peek.new.self (byte_of c.in_ok-peek.field-0) c.eq-object.result p.reads.value p.reads.moves p.place is)
          ∙ c.in_err-more.ensures.reads.value)
          c.from_residual-in_err-more.ensures.1,
    )

pub returns-in_err-next_skip-clause-into : goal.returns-in_err-next_skip-clause-into
returns-in_err-next_skip-clause-into c =
    let p = rw c.jiter_at-jiter.ensures at c.in_ok-peek.ensures in
    peek-gave (state_of c.args.reader.now) c.peek.new.self c.first_part.new.jiter (byte_of c.in_ok-peek.field-0)
    c.eq-object.result c.in_ok-more.more p.reads.value p.reads.moves p.place (is-bracket _ _ c.eq-object.ensures)
    c.in_ok-more.ensures.reads.value c.from_residual-in_err-next_skip.result

pub returns-in_err-more-2-clause-into : goal.returns-in_err-more-2-clause-into
returns-in_err-more-2-clause-into c =
    let p = rw c.jiter_at-jiter.ensures at c.in_ok-peek.ensures in
    peek-gave (state_of c.args.reader.now) c.peek.new.self c.first_part.new.jiter (byte_of c.in_ok-peek.field-0)
    c.eq-object.result c.in_ok-more.more p.reads.value p.reads.moves p.place (is-bracket _ _ c.eq-object.ensures)
    c.in_ok-more.ensures.reads.value c.from_residual-in_err-more-2.result

pub returns-clause-into : goal.returns-clause-into
returns-clause-into c =
    let p = rw c.jiter_at-jiter.ensures at c.in_ok-peek.ensures in
    peek-gave (state_of c.args.reader.now) c.peek.new.self c.first_part.new.jiter (byte_of c.in_ok-peek.field-0)
    c.eq-object.result c.in_ok-more.more p.reads.value p.reads.moves p.place (is-bracket _ _ c.eq-object.ensures)
    c.in_ok-more.ensures.reads.value (Ok c.loop-more.count)
