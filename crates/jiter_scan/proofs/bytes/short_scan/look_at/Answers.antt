use Rattle.jiter_scan.proofs.Words.{◌≡◌, ◌≢◌, ℕ, Bool, ◌+◌, ◌<◌, ◌≤◌, ◌∙◌, ap, true, false, refl, sym, arith}
use Rattle.jiter_scan.proofs.Words.{subst, get_or, length, List, IsTrue, Some, slice_get, slice_get-get_or}
use Rattle.jiter_scan.proofs.Words.{count_trailing_zeros, chunk, is_plain, is_plain_ascii, run_end}
use Rattle.jiter_scan.proofs.Words.{scan_stop, IsAsciiTo, failing, ◌↔◌}
use Rattle.jiter_scan.proofs.AsciiRuns.{ascii-again, ascii-before, ascii-stops, ascii-through, low-stops, text-through}
use Rattle.jiter_scan.proofs.Chunks.{run_end-near, run_end-stopped}
use Rattle.jiter_scan.proofs.bytes.short_scan.look_at.Goals as goal
use Rattle.jiter_scan.proofs.bytes.short_scan.look_at.Goals.{then-from-bytes, else-from-bytes+then-found-eq0}
use Rattle.jiter_scan.proofs.bytes.short_scan.look_at.Goals.{else-from-bytes+else-found-eq0+else-byte-eq34+then-byte-ge128}
use Rattle.jiter_scan.proofs.bytes.short_scan.look_at.Goals.{else-from-bytes+else-found-eq0+else-byte-eq34+else-byte-ge128}

module _ (t : List ℕ) (i : ℕ) (inside : i ≤ length t) where
  -- the first byte that is not plain, and whether those before it are known to be ASCII
  abbrev Stop : ℕ × Bool → Type 0
  Stop to = record {
    stop : to.0 ≡ scan_stop t i;
    within : (i ≤ to.0) × (to.0 ≤ length t);
    ascii : IsTrue to.1 → IsAsciiTo t i to.0;
  }

  -- what a scan from k on ensures
  abbrev Scanned : ℕ → ℕ × Bool → Type 0
  Scanned k to = record {
    stop : to.0 ≡ scan_stop t k;
    within : (k ≤ to.0) × (to.0 ≤ length t);
    ascii : IsTrue to.1 ↔ IsAsciiTo t k to.0;
  }

  scanned : {to found : ℕ × Bool} → to ≡ found → Scanned i found → Stop to
  scanned same s = subst Stop (sym same) (record { stop = s.stop; within = s.within; ascii = s.ascii.0 })

  -- by the bits of the first sixteen bytes that are no plain ASCII
  module _ (mask : ℕ) (reach : i + 16 ≤ length t) (is : mask ≡ failing is_plain_ascii (chunk i 16 t)) where
    after : {to found : ℕ × Bool} → to ≡ found → mask ≡ 0 → Scanned (i + 16) found → Stop to
    after {found} same none s =
        let clear = sym is ∙ none in
        rw same (record {
          stop = s.stop ∙ sym (text-through t i reach clear);
          within = (omega (arith, s.within.0), s.within.1);
          ascii = λ known. ascii-through t i reach clear found.0 s.stop (s.ascii.0 known);
        })

    module _ (some : mask ≢ 0) where
      abbrev first : ℕ
      first = i + count_trailing_zeros 64 mask

      run : run_end is_plain_ascii t i ≡ first
      run = run_end-stopped is_plain_ascii t i 16 mask is reach (omega arith) (omega arith)

      before : first < length t
      before = omega (arith, run, run_end-near is_plain_ascii t i 16 mask is reach (omega arith))

      here : slice_get t first ≡ Some (get_or t first 0)
      here = slice_get-get_or t first 0 before

      near : is_plain (get_or t first 0) ≡ false → Stop (first, true)
      near stops =
          record {
            stop = ascii-stops t i first _ run here stops;
            within = (omega arith, omega (arith, before));
            ascii = λ known. ascii-before t i first _ run here stops;
          }

      low : {to : ℕ × Bool} → to ≡ (first, true) → get_or t first 0 < 128 → Stop to
      low same small = subst Stop (sym same) (near (low-stops t i _ (ap (slice_get t) run ∙ here) small))

      high : {to : ℕ × Bool} (e : ℕ) → to ≡ (e, false)
          → record { stop : e ≡ scan_stop t first; within : (first ≤ e) × (e ≤ length t) } → Stop to
      high e same s =
          rw same (record {
            stop = s.stop ∙ sym (ascii-again t i first inside run);
            within = (omega (arith, s.within.0), s.within.1);
            ascii = λ (no : IsTrue false). absurd (cc);
          })

pub bounds-bytes-to : goal.bounds-bytes-to
bounds-bytes-to c =
    let found = c.ascii_stops-found in
    before c.args.bytes.now c.args.from c.requires found.result c.if-from-bytes.false found.ensures
    c.if-found-eq0.false

pub returns-then-byte-eq34 : goal.returns-then-byte-eq34
returns-then-byte-eq34 c =
    let t = c.args.bytes.now in
    let i = c.args.from in
    let found = c.ascii_stops-found in
    let long = c.if-from-bytes.false in
    let end = near t i c.requires found.result long found.ensures c.if-found-eq0.false (ap is_plain c.if-byte-eq34.true) in
    let quote = here t i c.requires found.result long found.ensures c.if-found-eq0.false ∙ ap Some c.if-byte-eq34.true in
    record { stop = end.stop; within = end.within; means = (quote, end.ascii refl) }

pub returns : goal.returns
returns c =
    let t = c.args.bytes.now in
    let i = c.args.from in
    let end : Stop t i c.requires c.if-from-bytes.to = elim c.if-from-bytes.branch [
      | then-from-bytes w ↦ scanned t i c.requires w.to-is w.scan_string.ensures
      | else-from-bytes+then-found-eq0 w ↦ after t i c.requires w.ascii_stops-found.result
          w.if-from-bytes.false w.ascii_stops-found.ensures w.to-is w.if-found-eq0.true
          w.scan_string-then-found-eq0.ensures
      | else-from-bytes+else-found-eq0+else-byte-eq34+then-byte-ge128 w ↦ high t i c.requires
          w.ascii_stops-found.result w.if-from-bytes.false w.ascii_stops-found.ensures w.if-found-eq0.false
          w.string_stop.result w.to-is w.string_stop.ensures
      | else-from-bytes+else-found-eq0+else-byte-eq34+else-byte-ge128 w ↦ low t i c.requires
          w.ascii_stops-found.result w.if-from-bytes.false w.ascii_stops-found.ensures w.if-found-eq0.false
          w.to-is w.if-byte-ge128.false
    ] in
    record { stop = end.stop; within = end.within; means = c.look_there.ensures i end.stop end.ascii }
