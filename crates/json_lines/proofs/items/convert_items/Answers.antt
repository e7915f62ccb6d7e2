use Rattle.std.proofs.Common.{◌≡◌, Some, ap, refl, subst}
use Rattle.std.specs.Io.Buffered.{reader_remaining}
use Rattle.json_lines.specs.ItemsRead.{TakesVisible}
use Rattle.json_lines.specs.ItemsWritten.{WritesPartly, WritesParts}
use Rattle.json_lines.proofs.Cases.{if-ok, on-err}
use Rattle.json_lines.proofs.Head.{head-right, head-wrong, head-wrong-partly, nothing-yet}
use Rattle.json_lines.proofs.Known.{if-err}
use Rattle.json_lines.proofs.Positions.{placed-begin}
use Rattle.json_lines.proofs.items.convert_items.Goals as goal

pub returns-in_err-first-clause-part : goal.returns-in_err-first-clause-part
returns-in_err-first-clause-part g c =
    if-err c.from_residual.result (nothing-yet (g.C.Convert.becomes c.args.converter.now) c.args.origin.now.name.now c.args.origin.now.first_line _ _ _ _)

pub returns-in_err-cause-clause-part : goal.returns-in_err-cause-clause-part
returns-in_err-cause-clause-part g c =
    if-err c.from_residual-in_err-cause.result (nothing-yet (g.C.Convert.becomes c.args.converter.now) c.args.origin.now.name.now c.args.origin.now.first_line _ _ _ _)

pub returns-in_err-write_error-clause-part : goal.returns-in_err-write_error-clause-part
returns-in_err-write_error-clause-part g c =
    let read = subst (λ p. TakesVisible (reader_remaining g.R.Read.remaining c.args.reader.now) (reader_remaining g.R.Read.remaining c.next_visible.new.reader) p c.next_visible.new.position c.in_ok-first.first) (placed-begin c.args.origin.now.first_line) c.in_ok-first.ensures in
    let is = rw c.in-Some.is at c.in_ok-cause.ensures.cause in
    if-err c.from_residual-in_err-write_error.result
    (head-wrong-partly (g.C.Convert.becomes c.args.converter.now) c.args.origin.now.name.now c.args.origin.now.first_line
    (reader_remaining g.R.Read.remaining c.args.reader.now) (reader_remaining g.R.Read.remaining c.next_visible.new.reader) c.next_visible.new.position c.in_ok-first.first read
    c.in-Some.cause.now is _ _ _ _ c.in_err-write_error.ensures.part)

pub returns-in-Some-clause-all : goal.returns-in-Some-clause-all
returns-in-Some-clause-all g c =
    let read = subst (λ p. TakesVisible (reader_remaining g.R.Read.remaining c.args.reader.now) (reader_remaining g.R.Read.remaining c.next_visible.new.reader) p c.next_visible.new.position c.in_ok-first.first) (placed-begin c.args.origin.now.first_line) c.in_ok-first.ensures in
    let is = rw c.in-Some.is at c.in_ok-cause.ensures.cause in
    head-wrong (g.C.Convert.becomes c.args.converter.now) c.args.origin.now.name.now c.args.origin.now.first_line
    (reader_remaining g.R.Read.remaining c.args.reader.now) (reader_remaining g.R.Read.remaining c.next_visible.new.reader) c.next_visible.new.position c.in_ok-first.first read
    c.in-Some.cause.now is _ _ _ _ _ refl refl c.in_ok-write_error.ensures.whole

pub returns-in_err-position-clause-part : goal.returns-in_err-position-clause-part
returns-in_err-position-clause-part g c =
    if-err c.from_residual-in_err-position.result (nothing-yet (g.C.Convert.becomes c.args.converter.now) c.args.origin.now.name.now c.args.origin.now.first_line _ _ _ _)

pub returns-clause-all : goal.returns-clause-all
returns-clause-all g c =
    let read = subst (λ p. TakesVisible (reader_remaining g.R.Read.remaining c.args.reader.now) (reader_remaining g.R.Read.remaining c.next_visible.new.reader) p c.next_visible.new.position c.in_ok-first.first) (placed-begin c.args.origin.now.first_line) c.in_ok-first.ensures in
    let is = rw c.in_default.is at c.in_ok-cause.ensures.cause in
    let same : c.in_ok-first.first ≡ Some 91 → reader_remaining g.R.Read.remaining c.not_an_array.new.reader ≡ reader_remaining g.R.Read.remaining c.next_visible.new.reader = λ e. ap (λ r. reader_remaining g.R.Read.remaining r) (c.in_ok-cause.ensures.array e) in
    if-ok c.convert_pieces.result (λ counts all.
    head-right (g.C.Convert.becomes c.args.converter.now) c.args.origin.now.name.now c.args.origin.now.first_line
    (reader_remaining g.R.Read.remaining c.args.reader.now) (reader_remaining g.R.Read.remaining c.next_visible.new.reader) c.next_visible.new.position c.in_ok-first.first read is (reader_remaining g.R.Read.remaining c.not_an_array.new.reader) same
    c.in_ok-position.position c.in_ok-position.ensures
    (λ at ps. WritesParts (g.C.Convert.becomes c.args.converter.now) c.args.origin.now.name.now at ps counts (g.O.Write.contents c.args.out.now)
    (g.O.Write.contents c.convert_pieces.new.out) (g.E.Write.contents c.args.err.now) (g.E.Write.contents c.convert_pieces.new.err)
    (g.B.Write.contents c.args.bad.now) (g.B.Write.contents c.convert_pieces.new.bad)) all)
    c.convert_pieces.ensures.all

pub returns-clause-part : goal.returns-clause-part
returns-clause-part g c =
    let read = subst (λ p. TakesVisible (reader_remaining g.R.Read.remaining c.args.reader.now) (reader_remaining g.R.Read.remaining c.next_visible.new.reader) p c.next_visible.new.position c.in_ok-first.first) (placed-begin c.args.origin.now.first_line) c.in_ok-first.ensures in
    let is = rw c.in_default.is at c.in_ok-cause.ensures.cause in
    let same : c.in_ok-first.first ≡ Some 91 → reader_remaining g.R.Read.remaining c.not_an_array.new.reader ≡ reader_remaining g.R.Read.remaining c.next_visible.new.reader = λ e. ap (λ r. reader_remaining g.R.Read.remaining r) (c.in_ok-cause.ensures.array e) in
    on-err c.convert_pieces.result (λ part.
    head-right (g.C.Convert.becomes c.args.converter.now) c.args.origin.now.name.now c.args.origin.now.first_line
    (reader_remaining g.R.Read.remaining c.args.reader.now) (reader_remaining g.R.Read.remaining c.next_visible.new.reader) c.next_visible.new.position c.in_ok-first.first read is (reader_remaining g.R.Read.remaining c.not_an_array.new.reader) same
    c.in_ok-position.position c.in_ok-position.ensures
    (λ at ps. WritesPartly (g.C.Convert.becomes c.args.converter.now) c.args.origin.now.name.now at ps (g.O.Write.contents c.args.out.now)
    (g.O.Write.contents c.convert_pieces.new.out) (g.E.Write.contents c.args.err.now) (g.E.Write.contents c.convert_pieces.new.err)
    (g.B.Write.contents c.args.bad.now) (g.B.Write.contents c.convert_pieces.new.bad)) part)
    c.convert_pieces.ensures.part
