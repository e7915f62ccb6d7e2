use Rattle.jiter_steps.proofs.Words.{raw_form}
use Rattle.jiter_steps.proofs.Calls.RawStrings.{raw-by, raw-no_quote, raw-cut, raw-quote}
use Rattle.jiter_steps.proofs.raw_string.fault_of.Goals as goal

pub unreachable-requires : goal.unreachable-requires
unreachable-requires c =
    let here = rw c.in-End-Closed.field-0-is at c.in-End-Closed.ensures in
    c.requires.no_quote (raw-quote c.args.bytes.now c.args.at _ here)

pub returns-in-End-Wrong : goal.returns-in-End-Wrong
returns-in-End-Wrong c =
    let here = rw c.in-End-Wrong.field-0-is at c.in-End-Wrong.ensures in
    λ i partial o h. raw-by c.args.bytes.now (raw_form partial) i c.args.at _ o here

pub returns-in-End-Unclosed : goal.returns-in-End-Unclosed
returns-in-End-Unclosed c =
    let here = rw c.in-End-Unclosed.field-0-is at c.in-End-Unclosed.ensures in
    λ i partial o h. rw c.cut_short.ensures (raw-no_quote c.args.bytes.now partial i c.args.at o here h)

pub returns-in-End-Cut : goal.returns-in-End-Cut
returns-in-End-Cut c =
    let here = rw c.in-End-Cut.field-0-is at c.in-End-Cut.ensures in
    λ i partial o h. rw c.cut_short-in-End-Cut.ensures (raw-cut c.args.bytes.now partial i c.args.at o here)
