use Rattle.std.proofs.Common.{◌∙◌, ap}
use Rattle.std.specs.Prelude.{Err}
use Rattle.jiter_steps.specs.StringReading.{whole}
use Rattle.jiter_c.specs.Faults.{fault_of}
use Rattle.jiter_c.specs.Replies.{object_reply}
use Rattle.jiter_c.specs.declared.faults.JiterFault.{JiterFault}
use Rattle.jiter_c.proofs.Into.{refusal-told}
use Rattle.jiter_c.proofs.parts.jiter_member.Goals as goal

pub returns-clause-into : goal.returns-clause-into
returns-clause-into c = λ bytes.
    let old = c.args.reader.now in
    let into = rw c.jiter_at-jiter.ensures at c.in-Err.ensures.into in
    refusal-told (object_reply whole old) _ (Err c.in-Err.error) c.args.fault.now _ c.fault_of.ensures old _
    (ap (λ i. record old { index = i }) c.current_index-reader.ensures.value)
    (into (λ m. bytes
    (ap (λ (f : JiterFault). f.kind) c.fault_of.ensures ∙ ap (λ k. (fault_of k c.in-Err.error.index).kind) m)))
