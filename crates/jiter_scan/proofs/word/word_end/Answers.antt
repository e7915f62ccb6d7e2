use Rattle.jiter_scan.proofs.Words.{◌∙◌, sym, arith, slice_get_within}
use Rattle.jiter_scan.proofs.WordLaws.{word_at-cut, word_at-other, word_at-same, word_at-end}
use Rattle.jiter_scan.proofs.word.word_end.Goals as goal

pub returns-in-None-clause-value : goal.returns-in-None-clause-value
returns-in-None-clause-value c =
    let l = c.loop-expected in
    rw c.fault_at.ensures
    (l.invariant.same
    ∙ word_at-cut c.args.bytes.now c.args.word.now l.expected-index l.index c.loop-expected-test.true
    (sym c.byte_at.ensures.value ∙ c.in-None.is))

pub returns-in-Some-clause-value : goal.returns-in-Some-clause-value
returns-in-Some-clause-value c =
    let l = c.loop-expected in
    rw c.fault_at-in-Some.ensures
    (l.invariant.same
    ∙ word_at-other c.args.bytes.now c.args.word.now l.expected-index l.index c.in-Some.byte
    c.loop-expected-test.true (sym c.byte_at.ensures.value ∙ c.in-Some.is) c.if-byte-expected.true)

pub loop-expected-preserved : goal.loop-expected-preserved
loop-expected-preserved c =
    let l = c.loop-expected in
    let here = sym c.byte_at.ensures.value ∙ c.in-Some.is in
    let inside = slice_get_within c.args.bytes.now l.index c.in-Some.byte here in
    record {
      place = omega arith;
      within = omega arith;
      same =
          l.invariant.same
          ∙ word_at-same c.args.bytes.now c.args.word.now l.expected-index l.index c.in-Some.byte
          c.loop-expected-test.true here c.if-byte-expected.false;
    }

pub returns-clause-value : goal.returns-clause-value
returns-clause-value c =
    let l = c.loop-expected in
    l.invariant.same ∙ word_at-end c.args.bytes.now c.args.word.now l.expected-index l.index c.loop-expected-test.false
