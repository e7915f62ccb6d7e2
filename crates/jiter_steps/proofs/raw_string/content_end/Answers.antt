use Rattle.jiter_steps.proofs.Words.{◌≡◌, ◌∙◌, sym, slice_get, Some, None, none-some, same_Some}
use Rattle.jiter_steps.proofs.Calls.RawStrings.{raw-run, raw-over_again, raw-over_run}
use Rattle.jiter_steps.proofs.raw_string.content_end.Goals as goal

pub returns-in-Some-eq92-clause-over : goal.returns-in-Some-eq92-clause-over
returns-in-Some-eq92-clause-over c =
    let s = c.string_stop-to in
    let run = raw-run c.args.bytes.now c.args.from s.result c.requires s.ensures.stop in
    raw-over_again c.args.bytes.now c.args.from s.result c.escaped_end.result run.0 c.escaped_end.ensures.over

pub returns-in-Some-clause-over : goal.returns-in-Some-clause-over
returns-in-Some-clause-over c =
    let s = c.string_stop-to in
    let here : slice_get c.args.bytes.now s.result ≡ Some c.in-Some.field-0 = cc in
    raw-over_run c.args.bytes.now c.args.from s.result c.requires s.ensures.stop
    (λ e. c.in-Some.field-0-test.1 (same_Some _ _ (sym here ∙ e)))

pub returns-in-Some-clause-stop : goal.returns-in-Some-clause-stop
returns-in-Some-clause-stop c =
    let s = c.string_stop-to in (raw-run c.args.bytes.now c.args.from s.result c.requires s.ensures.stop).3

pub returns-in-None-clause-over : goal.returns-in-None-clause-over
returns-in-None-clause-over c =
    let s = c.string_stop-to in
    let none : slice_get c.args.bytes.now s.result ≡ None = cc in
    raw-over_run c.args.bytes.now c.args.from s.result c.requires s.ensures.stop (λ e. none-some _ (sym none ∙ e))
