use Rattle.jiter_scan.proofs.Words.{number_alone, number_view}
use Rattle.jiter_scan.proofs.NumberBounds.{number_alone-within}
use Rattle.jiter_scan.proofs.Scanning.{AnswersAlone-fault}
use Rattle.jiter_scan.proofs.number.number_decoder.NumberAny.from_bytes.Goals as goal

pub returns-in-Err : goal.returns-in-Err
returns-in-Err c =
    record {
      value = AnswersAlone-fault number_view c.args.bytes.now (number_alone c.args.allow_inf_nan c.args.bytes.now)
          c.in-Err.fault c.from.result (number_alone-within c.args.allow_inf_nan c.args.bytes.now) c.in-Err.ensures
          c.from.ensures;
    }
