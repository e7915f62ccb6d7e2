use Rattle.jiter_steps.proofs.Words.{◌+◌, ◌∙◌, true, ap, subst, take, IsUtf8, err_from_is_err_and, taken, body_at}
use Rattle.jiter_steps.proofs.Words.{text_form, rules}
use Rattle.jiter_steps.proofs.Calls.Decoded.{prefix-prefix}
use Rattle.jiter_steps.proofs.Calls.StringAnswers.{string-escaped}
use Rattle.jiter_steps.proofs.string_decoder.decode_inline.Goals as goal

pub returns-in_err-end : goal.returns-in_err-end
returns-in_err-end c =
    let t = c.args.bytes.now in
    let r = c.requires in
    let d = c.in_ok-count.ensures in
    let p = err_from_is_err_and c.from_residual-in_err-end.result c.from_residual-in_err-end.ensures.1 in
    record {
      value = rw (string-escaped t c.args.at r.within c.args.stop r.stop (text_form c.args.partial) r.escaped.0, p.1, p.2)
          (rw (← d.stop) (c.in_err-end.ensures (c.args.at + 1) (body_at t (c.args.at + 1)).bytes true));
      text = rw p.1 tt;
      prefix = rw p.1 tt;
    }

pub returns-in-Ok : goal.returns-in-Ok
returns-in-Ok c =
    let t = c.args.bytes.now in
    let i = c.args.at + 1 in
    let r = c.requires in
    let d = c.in_ok-count.ensures in
    let count = c.in_ok-count.count in
    let items = c.as_slice.ensures.value in
    let text = ap (take count) items ∙ d.text in
    let over = c.in_ok-end.ensures i (body_at t i).bytes true in
    let same = prefix-prefix _ count c.in-Ok.fit c.in-Ok.ensures.prefix ∙ ap (take c.in-Ok.fit) items in
    record {
      value = rw (string-escaped t c.args.at r.within c.args.stop r.stop (text_form c.args.partial) r.escaped.0, ← d.stop, over, ← text)
          (c.in-Ok.ensures.value i c.in_ok-end.end true
          ∙ ap (λ w. taken (record { owned = true; bytes = w }) c.in_ok-end.end) same);
      text = subst IsUtf8 same c.in-Ok.ensures.text;
      prefix = search rules;
    }

pub returns-in-Err : goal.returns-in-Err
returns-in-Err c =
    let t = c.args.bytes.now in
    let i = c.args.at + 1 in
    let r = c.requires in
    let d = c.in_ok-count.ensures in
    let text = ap (take c.in_ok-count.count) c.as_slice.ensures.value ∙ d.text in
    record {
      value = rw (
        string-escaped t c.args.at r.within c.args.stop r.stop (text_form c.args.partial) r.escaped.0,
        ← d.stop,
        c.in_ok-end.ensures i (body_at t i).bytes true,
        ← text,
        c.fault_at-fault.ensures,
      )
          (c.in-Err.ensures.value i c.in_ok-end.end true);
      text = tt;
      prefix = tt;
    }
