use Rattle.std.proofs.Common.{◌∙◌, [], ◌∷◌, ◌++◌, arith, get_or, subst, sym, take}
use Rattle.std.proofs.lemmas.List.{take_more}
use Rattle.json_lines.specs.Items.{place_after}
use Rattle.json_lines.specs.ItemsRead.{Passes, place_of}
use Rattle.json_lines.proofs.Scanning.{passes-more, passes-one}
use Rattle.json_lines.proofs.array.scan.Goals as goal

pub loop-index-preserved : goal.loop-index-preserved
loop-index-preserved c =
    let bytes = c.args.bytes.now in
    let i = c.loop-index.index in
    let from = place_of c.args.state.now in
    let here = place_of c.loop-index.state in
    let byte = get_or bytes i 0 in
    let more = take_more bytes i 0 (omega (arith, c.loop-index-test.true)) in
    let one = passes-one here byte (sym c.ends_item.ensures ∙ c.if-ends_item.false) in
    let both = passes-more from here (place_after here byte) (take i bytes) (byte ∷ []) c.loop-index.invariant.0 one in
    let there = subst (λ q. Passes from (take i bytes ++ byte ∷ []) q) (sym c.after.ensures.place) both in
    (subst (λ l. Passes from l (place_of c.after.result)) (sym more) there, omega (arith, c.after.ensures.depth, c.loop-index.invariant.1))
