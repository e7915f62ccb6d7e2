use Rattle.std.proofs.Common.{◌∙◌, subst, sym}
use Rattle.jiter_c.specs.Descriptions.{IsTypeText}
use Rattle.jiter_c.proofs.Describing.{kind-written, types-written}
use Rattle.jiter_c.proofs.descriptions.write_cause.Goals as goal

pub returns-in_ok-actual : goal.returns-in_ok-actual
returns-in_ok-actual c =
    let expected = c.in_ok-expected.ensures in
    let actual = c.in_ok-actual.ensures in
    types-written c.args.fault.now c.args.out.now c.append-count.new.out c.append-count-then-fault-eq-WRONG_TYPE.new.out
    c.append-count-then-fault-eq-WRONG_TYPE-2.new.out c.append.new.out c.as_bytes.result.now
    c.as_bytes-then-fault-eq-WRONG_TYPE.result.now c.append-count.result c.append-count-then-fault-eq-WRONG_TYPE.result
    c.append-count-then-fault-eq-WRONG_TYPE-2.result c.append.result c.if-fault-eq-WRONG_TYPE.true
    expected.0 (subst (IsTypeText c.args.fault.now.expected) (sym c.as_bytes.ensures.value) expected.1) actual.0
    (subst (IsTypeText c.args.fault.now.actual) (sym c.as_bytes-then-fault-eq-WRONG_TYPE.ensures.value) actual.1)
    c.append-count.ensures.text c.append-count.ensures.count c.append-count-then-fault-eq-WRONG_TYPE.ensures.text
    c.append-count-then-fault-eq-WRONG_TYPE.ensures.count c.append-count-then-fault-eq-WRONG_TYPE-2.ensures.text
    c.append-count-then-fault-eq-WRONG_TYPE-2.ensures.count c.append.ensures.text c.append.ensures.count

pub returns-in_ok-kind : goal.returns-in_ok-kind
returns-in_ok-kind c =
    let append = c.append-else-fault-eq-WRONG_TYPE in
    kind-written c.args.fault.now c.in_ok-kind.kind c.as_bytes-else-fault-eq-WRONG_TYPE.result.now c.args.out.now
    append.new.out append.result c.in_ok-kind.ensures.known c.in_ok-kind.ensures.kind
    (c.as_bytes-else-fault-eq-WRONG_TYPE.ensures.value ∙ c.kind_text.ensures) append.ensures.text append.ensures.count
