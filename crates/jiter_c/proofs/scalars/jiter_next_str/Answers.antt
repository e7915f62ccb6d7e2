use Rattle.std.proofs.Common.{◌∙◌, ap}
use Rattle.jiter.specs.Jiter.{reply_seen, text_bytes}
use Rattle.jiter.specs.Reader.{ReaderState, next, str_read, value_place}
use Rattle.jiter.proofs.Peeking.{scalars-stay}
use Rattle.jiter_c.specs.Faults.{fault_of}
use Rattle.jiter_c.specs.Replies.{state_of, str_reply}
use Rattle.jiter_c.specs.declared.faults.JiterFault.{JiterFault}
use Rattle.jiter_c.proofs.Staying.{seen-stays, stays-at, text-given, text-refused, reports-gave, reports-refused}
use Rattle.jiter_c.proofs.scalars.jiter_next_str.Goals as goal
use Rattle.jiter_c.proofs.scalars.jiter_next_str.Goals.{in-Err, in-Ok}

pub returns-clause-stays : goal.returns-clause-stays
returns-clause-stays c = elim c.match-next_str.branch [
  | in-Ok w ↦ text-given c.match-next_str.given c.match-next_str.fault _ w.given-is
  | in-Err w ↦
      let s = state_of c.args.reader.now in
      let read = next s (str_read s) in
      let left = rw (c.jiter_at-jiter.ensures, w.in-Err.is) at c.next_str.follows.holds-at-none in
      let kind = ap (λ (f : JiterFault). f.kind) (w.fault-is ∙ w.fault_of.ensures) in
      let stays = seen-stays text_bytes (value_place s) read (scalars-stay s).5 in
      text-refused c.match-next_str.given c.match-next_str.fault _ w.given-is
      (λ bytes. stays-at s (reply_seen text_bytes read) _ _ _ _ stays
      (left.value (λ m. bytes (kind ∙ ap (λ k. (fault_of k w.in-Err.error.index).kind) m)))
      (c.current_index-reader.ensures.value ∙ ap (λ (v : ReaderState). v.position) w.jiter-is))
]

pub returns-clause-reports : goal.returns-clause-reports
returns-clause-reports c =
    let old = c.args.reader.now in
    elim c.match-next_str.branch [
      | in-Ok w ↦
          let left = rw (c.jiter_at-jiter.ensures, w.in-Ok.is) at c.next_str.follows.holds-at-none in
          reports-gave (str_reply old) c.match-next_str.given old _ c.args.fault.now c.match-next_str.fault _ _ left.value w.given-is
          (ap (λ i. record old { index = i })
          (c.current_index-reader.ensures.value ∙ ap (λ (v : ReaderState). v.position) w.jiter-is)) w.fault-is
      | in-Err w ↦
          let left = rw (c.jiter_at-jiter.ensures, w.in-Err.is) at c.next_str.follows.holds-at-none in
          let fault = w.fault-is ∙ w.fault_of.ensures in
          let kind = ap (λ (f : JiterFault). f.kind) fault in
          reports-refused (str_reply old) c.match-next_str.given old _ c.args.fault.now c.match-next_str.fault _ _ _
          (λ bytes. left.value (λ m. bytes (kind ∙ ap (λ k. (fault_of k w.in-Err.error.index).kind) m))) w.given-is
          (ap (λ i. record old { index = i })
          (c.current_index-reader.ensures.value ∙ ap (λ (v : ReaderState). v.position) w.jiter-is)) fault
    ]
