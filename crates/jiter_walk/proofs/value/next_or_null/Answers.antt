use Rattle.std.proofs.Common.{◌∙◌, sym}
use Rattle.jiter_walk.proofs.Coming.{walks-after_peek}
use Rattle.jiter_walk.proofs.Outcomes.{null-is_none, null-not_failed, other-fails, other-given}
use Rattle.jiter_walk.proofs.Seen.{error-seen, null-peeked, walk-seen}
use Rattle.jiter_walk.proofs.value.next_or_null.Goals as goal

pub returns-in_err-next_null : goal.returns-in_err-next_null
returns-in_err-next_null g c =
    let s0 = c.args.jiter.now in
    let peeked = c.in_ok-peek.ensures in
    let w = walks-after_peek _ _ _ s0 _ _ peeked.reads.moves peeked.place c.in_err-next_null.ensures.walks in
    error-seen _ _ _ s0 _ w _ _ _ c.from_residual-in_err-next_null.ensures.1
    (λ n comes is. absurd (null-not_failed s0.text n _ _
    (null-peeked s0 n comes _ _ peeked.reads.value ∙ sym c.eq.ensures ∙ c.if-eq.true) is))

pub returns-then-eq : goal.returns-then-eq
returns-then-eq g c =
    let s0 = c.args.jiter.now in
    let peeked = c.in_ok-peek.ensures in
    let w = walks-after_peek _ _ _ s0 _ _ peeked.reads.moves peeked.place c.in_ok-next_null.ensures.walks in
    walk-seen _ _ _ s0 _ w _ _ _
    (λ n comes is. null-is_none g.V.Value.meaning.of s0.text n
    (null-peeked s0 n comes _ _ peeked.reads.value ∙ sym c.eq.ensures ∙ c.if-eq.true))

pub returns-in_err-read : goal.returns-in_err-read
returns-in_err-read g c =
    let s0 = c.args.jiter.now in
    let peeked = c.in_ok-peek.ensures in
    let w = walks-after_peek _ _ _ s0 _ _ peeked.reads.moves peeked.place c.in_err-read.ensures in
    error-seen _ _ _ s0 _ w _ _ _ c.from_residual-in_err-read.ensures.1
    (λ n comes is. other-fails g.V.Value.meaning.of s0.text n
    (null-peeked s0 n comes _ _ peeked.reads.value ∙ sym c.eq.ensures ∙ c.if-eq.false) _ _ is)

pub returns : goal.returns
returns g c =
    let s0 = c.args.jiter.now in
    let peeked = c.in_ok-peek.ensures in
    let w = walks-after_peek _ _ _ s0 _ _ peeked.reads.moves peeked.place c.in_ok-read.ensures in
    walk-seen _ _ _ s0 _ w _ _ _
    (λ n comes is. other-given g.V.Value.meaning.of s0.text n
    (null-peeked s0 n comes _ _ peeked.reads.value ∙ sym c.eq.ensures ∙ c.if-eq.false) _ is)
