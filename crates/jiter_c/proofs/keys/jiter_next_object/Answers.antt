use Rattle.std.proofs.Common.{◌∙◌, ap}
use Rattle.jiter_steps.specs.StringReading.{whole}
use Rattle.jiter.specs.Reader.{ReaderState}
use Rattle.jiter_c.specs.Faults.{fault_of}
use Rattle.jiter_c.specs.Replies.{object_reply}
use Rattle.jiter_c.specs.declared.faults.JiterFault.{JiterFault}
use Rattle.jiter_c.proofs.Staying.{reports-gave, reports-refused}
use Rattle.jiter_c.proofs.keys.jiter_next_object.Goals as goal
use Rattle.jiter_c.proofs.keys.jiter_next_object.Goals.{in-Err, in-Ok}

pub returns-clause-reports : goal.returns-clause-reports
returns-clause-reports c =
    let old = c.args.reader.now in
    elim c.match-next_object.branch [
      | in-Ok w ↦
          let left = rw (c.jiter_at-jiter.ensures, w.in-Ok.is) at c.next_object.follows.holds-at-none in
          reports-gave (object_reply whole old) c.match-next_object.given old _ c.args.fault.now c.match-next_object.fault _ _ left.value w.given-is
          (ap (λ i. record old { index = i })
          (c.current_index-reader.ensures.value ∙ ap (λ (v : ReaderState). v.position) w.jiter-is)) w.fault-is
      | in-Err w ↦
          let left = rw (c.jiter_at-jiter.ensures, w.in-Err.is) at c.next_object.follows.holds-at-none in
          let fault = w.fault-is ∙ w.fault_of.ensures in
          let kind = ap (λ (f : JiterFault). f.kind) fault in
          reports-refused (object_reply whole old) c.match-next_object.given old _ c.args.fault.now c.match-next_object.fault _ _ _
          (λ bytes. left.value (λ m. bytes (kind ∙ ap (λ k. (fault_of k w.in-Err.error.index).kind) m))) w.given-is
          (ap (λ i. record old { index = i })
          (c.current_index-reader.ensures.value ∙ ap (λ (v : ReaderState). v.position) w.jiter-is)) fault
    ]
