use Rattle.jiter_scan.proofs.Words.{◌+◌, sym, ◌∙◌, arith}
use Rattle.jiter_scan.proofs.WordLaws.{word_at-other, word_at-same, word_at-end}
use Rattle.jiter_scan.proofs.partial_word.PartialWord.next.Goals as goal

pub returns-then-self-byte-clause-leads : goal.returns-then-self-byte-clause-leads
returns-then-self-byte-clause-leads c =
    λ t j h.
    let o = c.args.self.now in
    word_at-other t o.word.now o.seen j c.args.byte o.within h (λ same. c.if-self-byte.true (sym same))

pub returns-then-self-clause-leads : goal.returns-then-self-clause-leads
returns-then-self-clause-leads c =
    λ t j h.
    let o = c.args.self.now in
    word_at-same t o.word.now o.seen j c.args.byte o.within h (sym c.if-self-byte.false)
    ∙ word_at-end t o.word.now (o.seen + 1) (j + 1) (omega (arith, c.if-self.true))

pub returns-clause-leads : goal.returns-clause-leads
returns-clause-leads c =
    λ t j h.
    let o = c.args.self.now in
    word_at-same t o.word.now o.seen j c.args.byte o.within h (sym c.if-self-byte.false)
