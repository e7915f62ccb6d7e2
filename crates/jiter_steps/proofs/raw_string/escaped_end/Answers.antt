use Rattle.jiter_steps.proofs.Words.{◌∙◌, arith}
use Rattle.jiter_steps.proofs.Calls.RawStrings.{raw-escape_ahead, raw-escape, raw-over_here}
use Rattle.jiter_steps.proofs.raw_string.escaped_end.Goals as goal

pub string_stop-at-requires : goal.string_stop-at-requires
string_stop-at-requires c =
    let ahead = raw-escape_ahead c.args.bytes.now c.loop-end.at c.in-Escape.end _ c.in-Escape.ensures in ahead.1

pub loop-end-smaller : goal.loop-end-smaller
loop-end-smaller c =
    let go = raw-escape c.args.bytes.now c.loop-end.at c.string_stop-at.result c.in-Escape.end _ c.in-Escape.ensures
    c.string_stop-at.ensures.stop in
    omega (arith, go.1, go.2)

pub loop-end-preserved : goal.loop-end-preserved
loop-end-preserved c =
    let l = c.loop-end in
    let go = raw-escape c.args.bytes.now l.at c.string_stop-at.result c.in-Escape.end _ c.in-Escape.ensures
    c.string_stop-at.ensures.stop in
    record {
      rest = l.invariant.rest ∙ go.0;
      place = (omega (arith, l.invariant.place.0, go.1), go.2);
      stop = go.3;
    }

pub returns-in-End-clause-over : goal.returns-in-End-clause-over
returns-in-End-clause-over c =
    raw-over_here c.args.bytes.now c.args.from c.loop-end.at _ c.loop-end.invariant.rest c.in-End.ensures
