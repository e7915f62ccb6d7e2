use Rattle.std.proofs.Common.{◌∙◌, sym}
use Rattle.json_lines.proofs.Blanks.{skip-more}
use Rattle.json_lines.proofs.array.next_visible.Goals as goal

pub loop-preserved : goal.loop-preserved
loop-preserved g c =
    let read = rw c.in-Some.is at c.in_ok-byte.ensures in
    skip-more _ _ _ _ c.loop.invariant _ c.in-Some.byte _ read (sym c.is_white.ensures ∙ c.if-not-is_white.false)
    c.in_ok-position.ensures
