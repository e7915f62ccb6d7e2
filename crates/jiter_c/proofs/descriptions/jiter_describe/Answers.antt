use Rattle.jiter_c.proofs.Describing.{position-written}
use Rattle.jiter_c.proofs.descriptions.jiter_describe.Goals as goal

pub returns-clause-text : goal.returns-clause-text
returns-clause-text c = λ _.
    position-written c.args.fault.now c.args.bytes.now c.args.out.now c.write_cause.new.out c.append-count.new.out
    c.append_number-count.new.out c.append-count-2.new.out c.append_number.new.out c.in-Some.cause c.append-count.result
    c.append_number-count.result c.append-count-2.result c.append_number.result c.find-line.result c.in-Some.ensures.1
    c.find-line.ensures c.append-count.ensures.text c.append-count.ensures.count c.append_number-count.ensures.text
    c.append_number-count.ensures.count c.append-count-2.ensures.text c.append-count-2.ensures.count
    c.append_number.ensures.text c.append_number.ensures.count
