use Rattle.std.proofs.Common.{◌∙◌, [], ◌∷◌, ◌+◌, ◌<◌, ◌++◌, Some, ap, arith, eqb-true, get_or, length, subst, sym, take}
use Rattle.std.proofs.lemmas.List.{take_more}
use Rattle.std.proofs.BufReadLemmas.{Consumes_shown}
use Rattle.std.proofs.Transfers.{drop-appended}
use Rattle.std.specs.Io.BufRead.{FillKeeps}
use Rattle.std.specs.Io.Buffered.{reader_buffer, reader_remaining}
use Rattle.std.specs.Io.KnownBytes.{Consumes}
use Rattle.json_lines.specs.ItemsRead.{place_of}
use Rattle.json_lines.proofs.Scanning.{at-end, is-bracket}
use Rattle.json_lines.proofs.array.append_piece.Goals as goal

pub returns-then-is_empty-clause-ends : goal.returns-then-is_empty-clause-ends
returns-then-is_empty-clause-ends g c =
    let rested = c.fill_buf.follows.lender-at-none in
    let filled = subst (FillKeeps _ (reader_remaining g.R.Read.remaining rested) (Some (length (reader_buffer rested)))) c.in-Ok.is c.fill_buf.follows.holds-at-none in
    at-end _ _ (length c.in-Ok.bytes.now) (eqb-true _ 0 (sym c.is_empty.ensures ∙ c.if-is_empty.true)) c.in-Ok.ensures.end filled.0

pub returns-then-is_comma-clause-bytes : goal.returns-then-is_comma-clause-bytes
returns-then-is_comma-clause-bytes g c =
    let rested = c.fill_buf.follows.lender-at-none in
    let shown = c.in-Ok.bytes.now in
    let n = c.scan-count.result in
    let within : n < length shown = omega (arith, c.scan-count.ensures.within, c.if-count-bytes.false) in
    let filled = subst (FillKeeps _ (reader_remaining g.R.Read.remaining rested) (Some (length (reader_buffer rested)))) c.in-Ok.is c.fill_buf.follows.holds-at-none in
    let moved = Consumes_shown _ _ _ (Some (length (reader_buffer rested))) shown (n + 1) (omega (arith, within)) c.in-Ok.ensures.front c.in-Ok.ensures.end filled.0 filled.1 c.consume-2.ensures.bytes in
    let appended = sym (drop-appended _ _ _ c.in_ok-extend_from_slice.ensures.items) in
    let all = take_more shown n 0 within ∙ ap (λ b. take n shown ++ b ∷ []) c.if-is_comma.true ∙ ap (λ l. l ++ 44 ∷ []) appended in
    subst (Consumes _ _) all moved.0

pub returns-else-is_comma-clause-bytes : goal.returns-else-is_comma-clause-bytes
returns-else-is_comma-clause-bytes g c =
    let rested = c.fill_buf.follows.lender-at-none in
    let shown = c.in-Ok.bytes.now in
    let n = c.scan-count.result in
    let within : n < length shown = omega (arith, c.scan-count.ensures.within, c.if-count-bytes.false) in
    let filled = subst (FillKeeps _ (reader_remaining g.R.Read.remaining rested) (Some (length (reader_buffer rested)))) c.in-Ok.is c.fill_buf.follows.holds-at-none in
    let moved = Consumes_shown _ _ _ (Some (length (reader_buffer rested))) shown (n + 1) (omega (arith, within)) c.in-Ok.ensures.front c.in-Ok.ensures.end filled.0 filled.1 c.consume-2.ensures.bytes in
    let appended = sym (drop-appended _ _ _ c.in_ok-extend_from_slice.ensures.items) in
    let bracket = is-bracket (place_of c.scan-count.new.state) (get_or shown n 0) (c.scan-count.ensures.ends within) c.if-is_comma.false in
    let all = take_more shown n 0 within ∙ ap (λ b. take n shown ++ b ∷ []) bracket ∙ ap (λ l. l ++ 93 ∷ []) appended in
    subst (Consumes _ _) all moved.0
