use Rattle.jiter_scan.proofs.Words.{Bool, ℕ, List, ◌≡◌, ◌+◌, ◌&&◌, map, list_all, eqb, leb, ap, ap₂, sym, ◌∙◌, is_ascii}
use Rattle.jiter_scan.proofs.Words.{flipped, flips}
use Rattle.jiter_scan.proofs.Chunks.{list_all-failing}
use Rattle.jiter_scan.proofs.Lanes.{list_all-plain-four}
use Rattle.jiter_scan.proofs.bytes.simd.is_plain_blocks.Goals as goal

pub returns : goal.returns
returns c =
    let both : Bool → Bool → Bool = λ x y. x && y in
    let bits = flips c.args.ascii in
    let clear : List ℕ → Bool = λ v. list_all (leb (bits + 31)) v in
    let marked = c.greater-marked.ensures ∙ ap₂ both (c.greater.ensures ∙ ap₂ both c.marks.ensures c.marks-2.ensures)
    (c.greater-2.ensures ∙ ap₂ both c.marks-3.ensures c.marks-4.ensures) in
    let flipped-all = λ (u v : List ℕ) (e : u ≡ map (flipped c.flips-bits.result) v).
    ap clear (e ∙ ap (λ n. map (flipped n) v) c.flips-bits.ensures) in
    let least =
    c.below.ensures ∙ ap (λ n. list_all (leb (n + 31)) c.lesser-least.result) c.flips-bits.ensures
    ∙ c.lesser-least.ensures (bits + 31) ∙ ap₂ both
    (c.lesser-first.ensures (bits + 31) ∙ ap₂ both (flipped-all _ _ c.flip.ensures) (flipped-all _ _ c.flip-2.ensures))
    (c.lesser.ensures (bits + 31) ∙ ap₂ both (flipped-all _ _ c.flip-3.ensures) (flipped-all _ _ c.flip-4.ensures)) in
    ap (λ m. eqb m 0) c.highs-found.ensures ∙ sym (list_all-failing is_ascii c.greater-3.result)
    ∙ c.greater-3.ensures ∙ ap₂ both marked least
    ∙ list_all-plain-four c.args.ascii c.args.bytes.now c.args.i c.type_inv.bytes
