use Rattle.json_lines.proofs.Batch.{all-part, part-torn}
use Rattle.std.proofs.Common.{refl}
use Rattle.json_lines.proofs.Known.{if-err, known-begun, known-stopped}
use Rattle.json_lines.proofs.log.convert_log.Goals as goal

pub returns-in_err-batch-clause-part : goal.returns-in_err-batch-clause-part
returns-in_err-batch-clause-part g c =
    if-err c.from_residual.result
    (known-stopped (g.C.Convert.becomes c.args.converter.now) c.args.origin.now.name.now c.args.origin.now.first_line _ _ _ _ _ _ _ _ _ _
    (known-begun (g.C.Convert.becomes c.args.converter.now) c.args.origin.now.name.now c.args.origin.now.first_line _ _ _ _ (record { texts = 0; refused = 0 }) refl refl))

pub returns-in_err-counts-clause-part : goal.returns-in_err-counts-clause-part
returns-in_err-counts-clause-part g c =
    if-err c.from_residual-in_err-counts.result
    (part-torn (g.C.Convert.becomes c.args.converter.now) c.args.origin.now.name.now c.args.origin.now.first_line _ _ _ _ _ _ _ _ _ c.in_err-counts.ensures.part
    c.convert_lines-counts.ensures.grows c.write_batch-written.ensures.part)

pub returns-in_err-written-clause-part : goal.returns-in_err-written-clause-part
returns-in_err-written-clause-part g c =
    if-err c.from_residual-in_err-written.result
    (part-torn (g.C.Convert.becomes c.args.converter.now) c.args.origin.now.name.now c.args.origin.now.first_line _ _ _ _ _ _ _ _ _ (all-part (g.C.Convert.becomes c.args.converter.now) c.args.origin.now.name.now c.args.origin.now.first_line _ _ _ _ _ _ _ _ c.in_ok-counts.ensures.all)
    c.convert_lines-counts.ensures.grows c.write_batch-written.ensures.part)
