use Rattle.std.specs.Prelude.{string_bytes}
use Rattle.std.proofs.Common.{arith, refl, subst}
use Rattle.std.proofs.KnownBytes.{Appends-nil}
use Rattle.std.specs.Io.KnownBytes.{Appends}
use Rattle.jiter_print.specs.Written.{AppendsPrefix}
use Rattle.json_lines.specs.Items.{item}
use Rattle.json_lines.specs.Line.{refused, written}
use Rattle.json_lines.proofs.ItemsWriting.{wrote-nothing, wrote-one, wrote-one-partly}
use Rattle.json_lines.proofs.Known.{if-err, no-part}
use Rattle.json_lines.proofs.Positions.{error-report}
use Rattle.json_lines.proofs.items.convert_item.Goals as goal

pub returns-in_err-text-clause-part : goal.returns-in_err-text-clause-part
returns-in_err-text-clause-part g c =
    if-err c.from_residual.result (λ i at starts. wrote-nothing (g.C.Convert.becomes c.args.converter.now) c.args.name.now at _ _ _ _)

pub returns-in_err-write_line-in-Text-clause-part : goal.returns-in_err-write_line-in-Text-clause-part
returns-in_err-write_line-in-Text-clause-part g c =
    let right = rw c.in-Text.is at c.in_ok-text.ensures in
    let prefix = rw c.as_slice.ensures.value at c.in_err-write_line-in-Text.ensures.prefix in
    if-err c.from_residual-in_err-write_line-in-Text.result (λ i at starts.
    wrote-one-partly (g.C.Convert.becomes c.args.converter.now) c.args.name.now at (item i c.args.bytes.now) (written c.in-Text.text.items) right
    _ _ _ _ _ _ prefix (no-part _ _) (no-part _ _))

pub returns-in_err-position-in-Refused-clause-part : goal.returns-in_err-position-in-Refused-clause-part
returns-in_err-position-in-Refused-clause-part g c =
    if-err c.from_residual-in_err-position-in-Refused.result
    (λ i at starts. wrote-nothing (g.C.Convert.becomes c.args.converter.now) c.args.name.now at _ _ _ _)

pub returns-in_err-kept-in-Refused-clause-part : goal.returns-in_err-kept-in-Refused-clause-part
returns-in_err-kept-in-Refused-clause-part g c =
    if-err c.from_residual-in_err-kept-in-Refused.result
    (λ i at starts. wrote-nothing (g.C.Convert.becomes c.args.converter.now) c.args.name.now at _ _ _ _)

pub returns-in_err-write_report-in-Refused-clause-part : goal.returns-in_err-write_report-in-Refused-clause-part
returns-in_err-write_report-in-Refused-clause-part g c =
    let right = rw c.in-Refused.is at c.in_ok-text.ensures in
    let part = rw c.in_ok-kept-in-Refused.ensures at (rw c.as_slice-in-Refused.ensures.value at (rw c.as_str.ensures.value at c.in_err-write_report-in-Refused.ensures.part)) in
    if-err c.from_residual-in_err-write_report-in-Refused.result (λ i at starts.
    let report = error-report at i c.args.position.now c.args.name.now c.args.bytes.now c.in-Refused.column c.min-before.result (string_bytes c.in-Refused.cause)
    c.in_ok-position-in-Refused.position starts (omega (arith, c.min-before.ensures, c.saturating_sub.ensures)) c.in_ok-position-in-Refused.ensures in
    wrote-one-partly (g.C.Convert.becomes c.args.converter.now) c.args.name.now at (item i c.args.bytes.now)
    (refused c.in-Refused.column (string_bytes c.in-Refused.cause)) right
    _ _ _ _ _ _ (no-part _ _) (subst (AppendsPrefix _ _) report part.0) part.1)

pub returns-in_ok-write_line-in-Text-clause-all : goal.returns-in_ok-write_line-in-Text-clause-all
returns-in_ok-write_line-in-Text-clause-all g c i at starts =
    let right = rw c.in-Text.is at c.in_ok-text.ensures in
    let whole = rw c.as_slice.ensures.value at c.in_ok-write_line-in-Text.ensures.whole in
    wrote-one (g.C.Convert.becomes c.args.converter.now) c.args.name.now at (item i c.args.bytes.now) (written c.in-Text.text.items) right
    _ _ _ _ _ _ _ refl refl whole (Appends-nil _) (Appends-nil _)

pub returns-in_ok-write_report-in-Refused-clause-all : goal.returns-in_ok-write_report-in-Refused-clause-all
returns-in_ok-write_report-in-Refused-clause-all g c i at starts =
    let right = rw c.in-Refused.is at c.in_ok-text.ensures in
    let whole = rw c.in_ok-kept-in-Refused.ensures at (rw c.as_slice-in-Refused.ensures.value at (rw c.as_str.ensures.value at c.in_ok-write_report-in-Refused.ensures.whole)) in
    let report = error-report at i c.args.position.now c.args.name.now c.args.bytes.now c.in-Refused.column c.min-before.result (string_bytes c.in-Refused.cause)
    c.in_ok-position-in-Refused.position starts (omega (arith, c.min-before.ensures, c.saturating_sub.ensures)) c.in_ok-position-in-Refused.ensures in
    wrote-one (g.C.Convert.becomes c.args.converter.now) c.args.name.now at (item i c.args.bytes.now)
    (refused c.in-Refused.column (string_bytes c.in-Refused.cause)) right
    _ _ _ _ _ _ _ refl refl (Appends-nil _) (subst (Appends _ _) report whole.0) whole.1
