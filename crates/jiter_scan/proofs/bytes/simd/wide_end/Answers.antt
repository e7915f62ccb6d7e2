use Rattle.jiter_scan.proofs.Words.{◌+◌, ◌&&◌, ◌∙◌, ap, sym, arith, inl, inr, cases_eq, list_all, chunk, is_plain}
use Rattle.jiter_scan.proofs.Words.{ascii_from, plain_to, and_parts}
use Rattle.jiter_scan.proofs.Chunks.{prefix_len-through}
use Rattle.jiter_scan.proofs.Lanes.{list_all-both, plain-of_test}
use Rattle.jiter_scan.proofs.PlainRuns.{ascii_from-through}
use Rattle.jiter_scan.proofs.bytes.simd.wide_end.Goals as goal

pub loop-i-preserved : goal.loop-i-preserved
loop-i-preserved c =
    let t = c.args.bytes.now in
    let i = c.loop-i.i in
    let passes = sym c.is_plain_blocks-plain.ensures ∙ c.if-not-plain.false in
    let plain = plain-of_test c.args.ascii (chunk i 64 t) passes in
    let run = prefix_len-through is_plain t i 64 (omega arith) plain in
    record {
      stop = omega arith;
      above = omega arith;
      within = omega arith;
      ascii = λ e. c.loop-i.invariant.ascii e ∙ ascii_from-through t i 64 (omega arith) plain
          ∙ ap (λ b. b && ascii_from t (i + 64)) (and_parts _ _ (sym (list_all-both (chunk i 64 t))
          ∙ ap (λ b. list_all (plain_to b) (chunk i 64 t)) (sym e) ∙ passes)).1;
      first = λ h. elim (cases_eq c.args.from i) [
        | inl e ↦ (omega arith, ap (λ k. list_all (plain_to c.args.ascii) (chunk k 64 t)) e ∙ passes)
        | inr ne ↦ c.loop-i.invariant.first (omega (arith, c.loop-i.invariant.above))
      ];
    }
