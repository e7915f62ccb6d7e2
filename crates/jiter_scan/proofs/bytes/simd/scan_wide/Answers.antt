use Rattle.jiter_scan.proofs.Words.{◌≡◌, ◌&&◌, ◌∙◌, ap, refl, sym, arith, inl, inr, cases_eq, eq-eqb, ne_eqb, eqb}
use Rattle.jiter_scan.proofs.Words.{ascii_from}
use Rattle.jiter_scan.proofs.PlainRuns.{no-ascii}
use Rattle.jiter_scan.proofs.bytes.simd.scan_wide.Goals as goal

pub returns : goal.returns
returns c =
    let t = c.args.bytes.now in
    let near = c.wide_end-near in
    let end = c.wide_end-end in
    let n = near.result.0 in
    let e = end.result.0 in
    let whole : ascii_from t n ≡ (eqb e n && ascii_from t e) = elim (cases_eq e n) [
      | inl same ↦ ap (ascii_from t) (sym same) ∙ ap (λ b. b && ascii_from t e) (sym (eq-eqb e n same))
      | inr other ↦
          let first = end.ensures.first (omega (arith, end.ensures.within.0)) in
          no-ascii t n 64 first.0 first.1 (near.ensures.next first.0)
          ∙ ap (λ b. b && ascii_from t e) (sym (ne_eqb e n other))
    ] in
    record {
      stop = near.ensures.stop ∙ end.ensures.stop;
      within = (omega (arith, near.ensures.within.0, end.ensures.within.0), end.ensures.within.1);
      ascii = ap (λ b. b && ascii_from t c.args.from) c.if-not-ascii.false ∙ near.ensures.ascii refl ∙ whole;
    }
