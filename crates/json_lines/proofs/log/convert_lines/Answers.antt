use Rattle.std.proofs.Common.{◌≡◌, Some, None, ap, arith, length, refl}
use Rattle.std.specs.Prelude.{string_bytes}
use Rattle.std.proofs.KnownBytes.{Appends-nil}
use Rattle.json_lines.specs.Line.{refused, written}
use Rattle.json_lines.specs.declared.log.Counts.{Counts}
use Rattle.json_lines.proofs.Batch.{flushed, grows-by, grows-more, grows-not, held-none, known-kept, part-held, part-torn, pushed}
use Rattle.json_lines.proofs.Known.{if-err, known-begun, known-end, known-more, known-part, known-stopped, no-part, not-so}
use Rattle.json_lines.proofs.log.convert_lines.Goals as goal
use Rattle.json_lines.proofs.log.convert_lines.Goals.{in-Text+in_ok-extend_from_slice-in-Text}
use Rattle.json_lines.proofs.log.convert_lines.Goals.{in-Refused+in_ok-write_batch-in-Refused+in_ok-line-in-Refused+in_ok-write_report-in-Refused}

pub returns-in_err-buffer-clause-part : goal.returns-in_err-buffer-clause-part
returns-in_err-buffer-clause-part g c =
    if-err c.from_residual.result
    (known-stopped (g.C.Convert.becomes c.args.converter.now) c.args.origin.now.name.now c.args.origin.now.first_line _ _ _ _ _ _ _ _ _ _
    (known-kept (g.C.Convert.becomes c.args.converter.now) c.args.origin.now.name.now c.args.origin.now.first_line _ _ _ _ _ _ _ _ _ _ _
    (known-begun (g.C.Convert.becomes c.args.converter.now) c.args.origin.now.name.now c.args.origin.now.first_line _ _ _ _ (record { texts = 0; refused = 0 }) refl refl) (held-none _ _ c.requires)))

pub returns-in_err-buffer-clause-grows : goal.returns-in_err-buffer-clause-grows
returns-in_err-buffer-clause-grows g c = grows-not _

pub loop-line-init : goal.loop-line-init
loop-line-init g c =
    (omega (arith), known-kept (g.C.Convert.becomes c.args.converter.now) c.args.origin.now.name.now c.args.origin.now.first_line _ _ _ _ _ _ _ _ _ _ _ (known-begun (g.C.Convert.becomes c.args.converter.now) c.args.origin.now.name.now c.args.origin.now.first_line _ _ _ _ _ refl refl) (held-none _ _ c.requires), grows-not _)

pub returns-in_err-write_due-clause-part : goal.returns-in_err-write_due-clause-part
returns-in_err-write_due-clause-part g c =
    let part = c.in_err-write_due.ensures.part in
    if-err c.from_residual-in_err-write_due.result
    (part-held (g.C.Convert.becomes c.args.converter.now) c.args.origin.now.name.now c.args.origin.now.first_line _ _ _ _ _ _ _ _ part.1
    (part-torn (g.C.Convert.becomes c.args.converter.now) c.args.origin.now.name.now c.args.origin.now.first_line _ _ _ _ _ _ _ _ _ (known-stopped (g.C.Convert.becomes c.args.converter.now) c.args.origin.now.name.now c.args.origin.now.first_line _ _ _ _ _ _ _ _ _ _ c.loop-line.invariant.1) c.loop-line.invariant.2 part.0))

pub returns-in_err-write_due-clause-grows : goal.returns-in_err-write_due-clause-grows
returns-in_err-write_due-clause-grows g c =
    grows-more _ _ _ c.loop-line.invariant.2 c.write_due.ensures.grows

pub returns-in_err-read_line-clause-part : goal.returns-in_err-read_line-clause-part
returns-in_err-read_line-clause-part g c =
    let due = known-kept (g.C.Convert.becomes c.args.converter.now) c.args.origin.now.name.now c.args.origin.now.first_line _ _ _ _ _ _ _ _ _ _ _ c.loop-line.invariant.1 c.in_ok-write_due.ensures.kept in
    if-err c.from_residual-in_err-read_line.result (known-stopped (g.C.Convert.becomes c.args.converter.now) c.args.origin.now.name.now c.args.origin.now.first_line _ _ _ _ _ _ _ _ _ _ due)

pub returns-in_err-read_line-clause-grows : goal.returns-in_err-read_line-clause-grows
returns-in_err-read_line-clause-grows g c =
    grows-more _ _ _ c.loop-line.invariant.2 c.write_due.ensures.grows

pub returns-then-branch-eq0-clause-all : goal.returns-then-branch-eq0-clause-all
returns-then-branch-eq0-clause-all g c =
    let due = known-kept (g.C.Convert.becomes c.args.converter.now) c.args.origin.now.name.now c.args.origin.now.first_line _ _ _ _ _ _ _ _ _ _ _ c.loop-line.invariant.1 c.in_ok-write_due.ensures.kept in
    let line = c.read_line.new.line in
    let none : length line.items ≡ 0 = omega (arith, line.ok.0, c.in_ok-read_line.ensures.ok, c.clear.ensures.len, c.if-branch-eq0.true) in
    let read = rw c.clear.ensures.items at c.in_ok-read_line.ensures.bytes in
    known-end (g.C.Convert.becomes c.args.converter.now) c.args.origin.now.name.now c.args.origin.now.first_line _ _ _ _ _ _ _ _ _ _ due line.items read none

pub returns-then-branch-eq0-clause-grows : goal.returns-then-branch-eq0-clause-grows
returns-then-branch-eq0-clause-grows g c =
    grows-more _ _ _ c.loop-line.invariant.2 c.write_due.ensures.grows

pub loop-line-preserved-then-is_blank : goal.loop-line-preserved-then-is_blank
loop-line-preserved-then-is_blank g c =
    let due = known-kept (g.C.Convert.becomes c.args.converter.now) c.args.origin.now.name.now c.args.origin.now.first_line _ _ _ _ _ _ _ _ _ _ _ c.loop-line.invariant.1 c.in_ok-write_due.ensures.kept in
    let line = c.read_line.new.line in
    let some : (length line.items ≡ 0) → ⊥ = λ e. omega (arith, e, line.ok.0, c.in_ok-read_line.ensures.ok, c.clear.ensures.len, c.if-branch-eq0.false) in
    let read = rw c.clear.ensures.items at c.in_ok-read_line.ensures.bytes in
    let blank = rw c.as_slice.ensures.value at (rw c.without_end-bytes.ensures at c.is_blank.ensures) in
    let rest = c.in_ok-read_line.ensures.rest in (
      omega (arith, c.loop-line.invariant.0),
      known-more (g.C.Convert.becomes c.args.converter.now) c.args.origin.now.name.now c.args.origin.now.first_line _ _ _ _ _ _ _ _ _ _ due line.items read some None (blank.0 c.if-is_blank.true) _ rest _ _ _ _
          (Appends-nil _) (Appends-nil _) (Appends-nil _) (omega (arith)) (omega (arith)),
      grows-more _ _ _ c.loop-line.invariant.2 c.write_due.ensures.grows,
    )

pub returns-in_err-text-clause-part : goal.returns-in_err-text-clause-part
returns-in_err-text-clause-part g c =
    let due = known-kept (g.C.Convert.becomes c.args.converter.now) c.args.origin.now.name.now c.args.origin.now.first_line _ _ _ _ _ _ _ _ _ _ _ c.loop-line.invariant.1 c.in_ok-write_due.ensures.kept in
    if-err c.from_residual-in_err-text.result (known-stopped (g.C.Convert.becomes c.args.converter.now) c.args.origin.now.name.now c.args.origin.now.first_line _ _ _ _ _ _ _ _ _ _ due)

pub returns-in_err-text-clause-grows : goal.returns-in_err-text-clause-grows
returns-in_err-text-clause-grows g c =
    grows-more _ _ _ c.loop-line.invariant.2 c.write_due.ensures.grows

pub returns-in_err-extend_from_slice-in-Text-clause-part : goal.returns-in_err-extend_from_slice-in-Text-clause-part
returns-in_err-extend_from_slice-in-Text-clause-part g c =
    let due = known-kept (g.C.Convert.becomes c.args.converter.now) c.args.origin.now.name.now c.args.origin.now.first_line _ _ _ _ _ _ _ _ _ _ _ c.loop-line.invariant.1 c.in_ok-write_due.ensures.kept in
    if-err c.from_residual-in_err-extend_from_slice-in-Text.result
    (rw c.in_err-extend_from_slice-in-Text.ensures.items (known-stopped (g.C.Convert.becomes c.args.converter.now) c.args.origin.now.name.now c.args.origin.now.first_line _ _ _ _ _ _ _ _ _ _ due))

pub returns-in_err-extend_from_slice-in-Text-clause-grows : goal.returns-in_err-extend_from_slice-in-Text-clause-grows
returns-in_err-extend_from_slice-in-Text-clause-grows g c =
    grows-more _ _ _ c.loop-line.invariant.2 c.write_due.ensures.grows

pub returns-in_err-write_batch-in-Refused-clause-part : goal.returns-in_err-write_batch-in-Refused-clause-part
returns-in_err-write_batch-in-Refused-clause-part g c =
    let due = known-kept (g.C.Convert.becomes c.args.converter.now) c.args.origin.now.name.now c.args.origin.now.first_line _ _ _ _ _ _ _ _ _ _ _ c.loop-line.invariant.1 c.in_ok-write_due.ensures.kept in
    let grown = grows-more _ _ _ c.loop-line.invariant.2 c.write_due.ensures.grows in
    if-err c.from_residual-in_err-write_batch-in-Refused.result
    (part-held (g.C.Convert.becomes c.args.converter.now) c.args.origin.now.name.now c.args.origin.now.first_line _ _ _ _ _ _ _ _ c.write_batch.ensures.none
    (part-torn (g.C.Convert.becomes c.args.converter.now) c.args.origin.now.name.now c.args.origin.now.first_line _ _ _ _ _ _ _ _ _ (known-stopped (g.C.Convert.becomes c.args.converter.now) c.args.origin.now.name.now c.args.origin.now.first_line _ _ _ _ _ _ _ _ _ _ due) grown c.write_batch.ensures.part))

pub returns-in_err-write_batch-in-Refused-clause-grows : goal.returns-in_err-write_batch-in-Refused-clause-grows
returns-in_err-write_batch-in-Refused-clause-grows g c =
    let grown = grows-more _ _ _ c.loop-line.invariant.2 c.write_due.ensures.grows in
    grows-more _ _ _ grown (grows-by _ _ _ c.write_batch.ensures.part)

pub returns-in_err-line-in-Refused-clause-part : goal.returns-in_err-line-in-Refused-clause-part
returns-in_err-line-in-Refused-clause-part g c =
    let due = known-kept (g.C.Convert.becomes c.args.converter.now) c.args.origin.now.name.now c.args.origin.now.first_line _ _ _ _ _ _ _ _ _ _ _ c.loop-line.invariant.1 c.in_ok-write_due.ensures.kept in
    let flush = known-kept (g.C.Convert.becomes c.args.converter.now) c.args.origin.now.name.now c.args.origin.now.first_line _ _ _ _ _ _ _ _ _ _ _ due
    (flushed _ _ _ _ c.in_ok-write_batch-in-Refused.ensures.whole c.write_batch.ensures.none) in
    if-err c.from_residual-in_err-line-in-Refused.result (known-stopped (g.C.Convert.becomes c.args.converter.now) c.args.origin.now.name.now c.args.origin.now.first_line _ _ _ _ _ _ _ _ _ _ flush)

pub returns-in_err-line-in-Refused-clause-grows : goal.returns-in_err-line-in-Refused-clause-grows
returns-in_err-line-in-Refused-clause-grows g c =
    let grown = grows-more _ _ _ c.loop-line.invariant.2 c.write_due.ensures.grows in
    grows-more _ _ _ grown (grows-by _ _ _ c.write_batch.ensures.part)

pub returns-in_err-write_report-in-Refused-clause-part : goal.returns-in_err-write_report-in-Refused-clause-part
returns-in_err-write_report-in-Refused-clause-part g c =
    let due = known-kept (g.C.Convert.becomes c.args.converter.now) c.args.origin.now.name.now c.args.origin.now.first_line _ _ _ _ _ _ _ _ _ _ _ c.loop-line.invariant.1 c.in_ok-write_due.ensures.kept in
    let line = c.read_line.new.line in
    let some : (length line.items ≡ 0) → ⊥ = λ e. omega (arith, e, line.ok.0, c.in_ok-read_line.ensures.ok, c.clear.ensures.len, c.if-branch-eq0.false) in
    let read = rw c.clear.ensures.items at c.in_ok-read_line.ensures.bytes in
    let blank = rw c.as_slice.ensures.value at (rw c.without_end-bytes.ensures at c.is_blank.ensures) in
    let plain = not-so c.is_blank.result blank c.if-is_blank.false in
    let right = rw c.in-Refused.is at (rw c.as_slice.ensures.value at (rw c.without_end-bytes.ensures at c.in_ok-text.ensures)) in
    let part = rw c.as_slice.ensures.value at (rw c.without_end-bytes.ensures at (rw c.as_slice-in-Refused.ensures.value at (rw c.in_ok-line-in-Refused.ensures at (rw c.as_slice-kept.ensures.value at (rw c.as_str-cause.ensures.value at c.in_err-write_report-in-Refused.ensures.part))))) in
    let written = known-kept (g.C.Convert.becomes c.args.converter.now) c.args.origin.now.name.now c.args.origin.now.first_line _ _ _ _ _ _ _ _ _ _ _ due
    (flushed _ _ _ _ c.in_ok-write_batch-in-Refused.ensures.whole c.write_batch.ensures.none) in
    if-err c.from_residual-in_err-write_report-in-Refused.result
    (known-part (g.C.Convert.becomes c.args.converter.now) c.args.origin.now.name.now c.args.origin.now.first_line _ _ _ _ _ _ _ _ _ _ written
    line.items read some (Some (refused c.in-Refused.column (string_bytes c.in-Refused.cause))) (plain, right) _ _ _
    (no-part _ _) part.0 part.1)

pub returns-in_err-write_report-in-Refused-clause-grows : goal.returns-in_err-write_report-in-Refused-clause-grows
returns-in_err-write_report-in-Refused-clause-grows g c =
    let grown = grows-more _ _ _ c.loop-line.invariant.2 c.write_due.ensures.grows in
    grows-more _ _ _ grown (grows-by _ _ _ c.write_batch.ensures.part)

pub loop-line-preserved : goal.loop-line-preserved
loop-line-preserved g c =
    let due = known-kept (g.C.Convert.becomes c.args.converter.now) c.args.origin.now.name.now c.args.origin.now.first_line _ _ _ _ _ _ _ _ _ _ _ c.loop-line.invariant.1 c.in_ok-write_due.ensures.kept in
    let grown = grows-more _ _ _ c.loop-line.invariant.2 c.write_due.ensures.grows in
    let line = c.read_line.new.line in
    let some : (length line.items ≡ 0) → ⊥ = λ e. omega (arith, e, line.ok.0, c.in_ok-read_line.ensures.ok, c.clear.ensures.len, c.if-branch-eq0.false) in
    let read = rw c.clear.ensures.items at c.in_ok-read_line.ensures.bytes in
    let blank = rw c.as_slice.ensures.value at (rw c.without_end-bytes.ensures at c.is_blank.ensures) in
    let plain = not-so c.is_blank.result blank c.if-is_blank.false in
    let outcome-right = rw c.as_slice.ensures.value at (rw c.without_end-bytes.ensures at c.in_ok-text.ensures) in
    let rest = c.in_ok-read_line.ensures.rest in
    let is = c.loop-line.invariant.0 in
    elim c.match-branch-5.branch [
      | in-Text+in_ok-extend_from_slice-in-Text w ↦
          let right = rw w.in-Text.is at outcome-right in
          let more = rw w.as_slice-in-Text.ensures.value at w.in_ok-extend_from_slice-in-Text.ensures.items in
          let texts = ap (λ (x : Counts). x.texts) w.counts-is in
          let refusals = ap (λ (x : Counts). x.refused) w.counts-is in
          rw (w.batch-is, w.out-is, w.err-is, w.bad-is) (
            omega (arith, texts, refusals, is),
            known-more (g.C.Convert.becomes c.args.converter.now) c.args.origin.now.name.now c.args.origin.now.first_line _ _ _ _ _ _ _ _ _ _ due
                line.items read some (Some (written w.in-Text.text.items)) (plain, right) _ rest
                _ _ _ _ (pushed _ _ _ _ more) (Appends-nil _) (Appends-nil _) (omega (arith, texts)) (omega (arith, refusals)),
            grown,
          )
      | in-Refused+in_ok-write_batch-in-Refused+in_ok-line-in-Refused+in_ok-write_report-in-Refused w ↦
          let right = rw w.in-Refused.is at outcome-right in
          let whole = rw c.as_slice.ensures.value at (rw c.without_end-bytes.ensures at (rw w.as_slice-in-Refused.ensures.value at (rw w.in_ok-line-in-Refused.ensures at (rw w.as_slice-kept.ensures.value at (rw w.as_str-cause.ensures.value at w.in_ok-write_report-in-Refused.ensures.whole))))) in
          let flush = known-kept (g.C.Convert.becomes c.args.converter.now) c.args.origin.now.name.now c.args.origin.now.first_line _ _ _ _ _ _ _ _ _ _ _ due
          (flushed _ _ _ _ w.in_ok-write_batch-in-Refused.ensures.whole w.write_batch.ensures.none) in
          let texts = ap (λ (x : Counts). x.texts) w.counts-is in
          let refusals = ap (λ (x : Counts). x.refused) w.counts-is in
          rw (w.batch-is, w.out-is, w.err-is, w.bad-is) (
            omega (arith, texts, refusals, is),
            known-more (g.C.Convert.becomes c.args.converter.now) c.args.origin.now.name.now c.args.origin.now.first_line _ _ _ _ _ _ _ _ _ _ flush
                line.items read some (Some (refused w.in-Refused.column (string_bytes w.in-Refused.cause))) (plain, right)
                _ rest _ _ _ _ (Appends-nil _) whole.0 whole.1 (omega (arith, texts)) (omega (arith, refusals)),
            grows-more _ _ _ grown (grows-by _ _ _ w.write_batch.ensures.part),
          )
    ]

pub returns-clause-part : goal.returns-clause-part
returns-clause-part g c =
    known-stopped (g.C.Convert.becomes c.args.converter.now) c.args.origin.now.name.now c.args.origin.now.first_line _ _ _ _ _ _ _ _ _ _ c.loop-line.invariant.1
