use Rattle.jiter_scan.proofs.Words.{int_alone, int_view}
use Rattle.jiter_scan.proofs.NumberBounds.{int_alone-within}
use Rattle.jiter_scan.proofs.Scanning.{AnswersAlone-fault}
use Rattle.jiter_scan.proofs.number.number_decoder.NumberInt.from_bytes.Goals as goal

pub returns-in-Err : goal.returns-in-Err
returns-in-Err c =
    record {
      value = AnswersAlone-fault int_view c.args.bytes.now (int_alone c.args.bytes.now) c.in-Err.fault c.from.result
          (int_alone-within c.args.bytes.now) c.in-Err.ensures c.from.ensures;
    }
