use Rattle.std.proofs.Common.{◌+◌, arith, ne_eqb, refl}
use Rattle.json_lines.proofs.Known.{if-err}
use Rattle.json_lines.proofs.Pieces.{going-begun, going-broken, going-cut, going-done, going-failed, going-on, going-stopped, going-undone}
use Rattle.json_lines.proofs.Pieces.{never-begun}
use Rattle.json_lines.proofs.items.convert_pieces.Goals as goal

pub returns-in_err-position-clause-part : goal.returns-in_err-position-clause-part
returns-in_err-position-clause-part g c =
    if-err c.from_residual.result (never-begun (g.C.Convert.becomes c.args.converter.now) c.args.name.now _ _ _ _ _)

pub loop-index-init : goal.loop-index-init
loop-index-init g c =
    (omega (arith), going-begun (g.C.Convert.becomes c.args.converter.now) c.args.name.now _ _ _ _ _ _ _ c.in_ok-position.ensures refl refl)

pub returns-in_err-ended-clause-part : goal.returns-in_err-ended-clause-part
returns-in_err-ended-clause-part g c =
    if-err c.from_residual-in_err-ended.result
    (going-stopped (g.C.Convert.becomes c.args.converter.now) c.args.name.now _ _ _ _ _ _ _ _ _ _ _ _ c.loop-index.invariant.1)

pub returns-in_err-one-clause-part : goal.returns-in_err-one-clause-part
returns-in_err-one-clause-part g c =
    let part = rw c.as_slice-bytes.ensures.value at c.in_err-one.ensures.part in
    if-err c.from_residual-in_err-one.result
    (going-broken (g.C.Convert.becomes c.args.converter.now) c.args.name.now _ _ _ _ _ _ _ _ _ _ _ _ c.loop-index.invariant.1
    _ c.in_ok-ended.ended _ c.in_ok-ended.ensures _ _ _ part)

pub returns-in_err-past-clause-part : goal.returns-in_err-past-clause-part
returns-in_err-past-clause-part g c =
    let whole = rw c.as_slice-bytes.ensures.value at c.in_ok-one.ensures.all in
    if-err c.from_residual-in_err-past.result
    (going-failed (g.C.Convert.becomes c.args.converter.now) c.args.name.now _ _ _ _ _ _ _ _ _ _ _ _ c.loop-index.invariant.1
    _ c.in_ok-ended.ended _ c.in_ok-ended.ensures _ _ _ c.in_ok-one.one
    record { texts = c.loop-index.counts.texts + c.in_ok-one.one.texts; refused = c.loop-index.counts.refused + c.in_ok-one.one.refused }
    whole refl refl)

pub returns-in_err-position-2-clause-part : goal.returns-in_err-position-2-clause-part
returns-in_err-position-2-clause-part g c =
    let whole = rw c.as_slice-bytes.ensures.value at c.in_ok-one.ensures.all in
    if-err c.from_residual-in_err-position-2.result
    (going-failed (g.C.Convert.becomes c.args.converter.now) c.args.name.now _ _ _ _ _ _ _ _ _ _ _ _ c.loop-index.invariant.1
    _ c.in_ok-ended.ended _ c.in_ok-ended.ensures _ _ _ c.in_ok-one.one
    record { texts = c.loop-index.counts.texts + c.in_ok-one.one.texts; refused = c.loop-index.counts.refused + c.in_ok-one.one.refused }
    whole refl refl)

pub returns-in_err-counts-in-Bracket-clause-part : goal.returns-in_err-counts-in-Bracket-clause-part
returns-in_err-counts-in-Bracket-clause-part g c =
    let whole = rw c.as_slice-bytes.ensures.value at c.in_ok-one.ensures.all in
    let there = rw (rw c.as_slice-bytes.ensures.value at c.in_ok-past.ensures) at c.in_ok-position-2.ensures in
    if-err c.from_residual-in_err-counts-in-Bracket.result
    (going-undone (g.C.Convert.becomes c.args.converter.now) c.args.name.now _ _ _ _ _ _ _ _ _ _ _ _ c.loop-index.invariant.1
    _ c.in_ok-ended.ended _ c.in_ok-ended.ensures _ _ _ c.in_ok-one.one
    record { texts = c.loop-index.counts.texts + c.in_ok-one.one.texts; refused = c.loop-index.counts.refused + c.in_ok-one.one.refused }
    whole refl refl
    c.in_ok-position-2.position there c.in-Bracket.is _ c.in_err-counts-in-Bracket.ensures.part)

pub returns-in-Bracket-clause-all : goal.returns-in-Bracket-clause-all
returns-in-Bracket-clause-all g c =
    let whole = rw c.as_slice-bytes.ensures.value at c.in_ok-one.ensures.all in
    let there = rw (rw c.as_slice-bytes.ensures.value at c.in_ok-past.ensures) at c.in_ok-position-2.ensures in
    going-done (g.C.Convert.becomes c.args.converter.now) c.args.name.now _ _ _ _ _ _ _ _ _ _ _ _ c.loop-index.invariant.1
    _ c.in_ok-ended.ended _ c.in_ok-ended.ensures _ _ _ c.in_ok-one.one
    record { texts = c.loop-index.counts.texts + c.in_ok-one.one.texts; refused = c.loop-index.counts.refused + c.in_ok-one.one.refused }
    whole refl refl
    c.in_ok-position-2.position there c.in-Bracket.is _ _ _ refl refl c.in_ok-counts-in-Bracket.ensures.all

pub returns-in-Input-clause-all : goal.returns-in-Input-clause-all
returns-in-Input-clause-all g c =
    let whole = rw c.as_slice-bytes.ensures.value at c.in_ok-one.ensures.all in
    going-cut (g.C.Convert.becomes c.args.converter.now) c.args.name.now _ _ _ _ _ _ _ _ _ _ _ _ c.loop-index.invariant.1
    _ c.in_ok-ended.ended _ c.in_ok-ended.ensures _ _ _ c.in_ok-one.one _ whole refl refl c.in-Input.is

pub loop-index-preserved : goal.loop-index-preserved
loop-index-preserved g c =
    let whole = rw c.as_slice-bytes.ensures.value at c.in_ok-one.ensures.all in
    let there = rw (rw c.as_slice-bytes.ensures.value at c.in_ok-past.ensures) at c.in_ok-position-2.ensures in (
      omega (arith, c.loop-index.invariant.0, c.in_ok-one.ensures.one),
      going-on (g.C.Convert.becomes c.args.converter.now) c.args.name.now _ _ _ _ _ _ _ _ _ _ _ _ c.loop-index.invariant.1
          _ c.in_ok-ended.ended _ c.in_ok-ended.ensures _ _ _ c.in_ok-one.one _ whole refl refl
          c.in_ok-position-2.position there c.in-Comma.is _ (ne_eqb (c.loop-index.index + 1) 0 (λ e. omega (arith, e))),
    )

pub returns-clause-part : goal.returns-clause-part
returns-clause-part g c =
    going-stopped (g.C.Convert.becomes c.args.converter.now) c.args.name.now _ _ _ _ _ _ _ _ _ _ _ _ c.loop-index.invariant.1
