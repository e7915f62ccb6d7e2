use Rattle.std.proofs.Common.{◌≡◌, ◌∙◌, ◌≤◌, ◌-◌, ◌++◌, ap, sym, subst, drop, length, take, arith}
use Rattle.std.specs.Prelude.{min}
use Rattle.std.proofs.lemmas.Grind.{common_steps}
use Rattle.std.proofs.lemmas.List.{length-take, take-take}
use Rattle.json_screen.specs.Terminal.{dims, IsWholeRows, undims, ups}
use Rattle.json_screen.proofs.Drawing.{clears, drawn-by, stays, wraps}
use Rattle.json_screen.proofs.screen.redraw.Goals as goal

pub returns : goal.returns
returns c = λ old-plain new-plain.
    let begin = c.changed_row-begin in
    let old = c.args.old.now in
    let new = c.args.new.now in
    let t = old.text.items in
    let u = new.text.items in
    let last = c.as_slice-last.result.now in
    let text = c.as_slice-text.result.now in
    let last-is : last ≡ t = c.as_slice-last.ensures.value in
    let text-is : text ≡ u = c.as_slice-text.ensures.value in
    let m : c.min-was_dim.result ≡ min old.mark (length t) = omega (arith, c.min-was_dim.ensures, ap length last-is) in
    let n : c.min-dim.result ≡ min new.mark (length u) = omega (arith, c.min-dim.ensures, ap length text-is) in
    let old-order : begin.result ≤ c.min-was_dim.result =
    omega (arith, begin.ensures.old, length-take c.min-was_dim.result last) in
    let new-order : begin.result ≤ c.min-dim.result = omega (arith, begin.ensures.new, length-take c.min-dim.result text) in
    let kept = take-take begin.result c.min-dim.result text new-order ∙ ap (take begin.result) text-is in
    let same : take begin.result t ≡ take begin.result u =
    sym (take-take begin.result c.min-was_dim.result last old-order ∙ ap (take begin.result) last-is) ∙ begin.ensures.same ∙ kept in
    let first : c.extend_from_slice.new.self.items ≡ stays = grind (arith, common_steps) in
    let raised : c.append_ups.new.drawn.items ≡ c.extend_from_slice.new.self.items ++ ups (drop begin.result last) =
    grind (arith, common_steps) in
    let cleared : c.extend_from_slice-2.new.self.items ≡ c.append_ups.new.drawn.items ++ clears = grind (arith, common_steps) in
    let plain : c.extend_from_slice-3.new.self.items ≡ c.extend_from_slice-2.new.self.items
    ++ take (c.min-dim.result - begin.result) (drop begin.result text) = grind (arith, common_steps) in
    let dimmed : c.extend_from_slice-4.new.self.items ≡ c.extend_from_slice-3.new.self.items ++ dims = grind (arith, common_steps) in
    let rest : c.extend_from_slice-5.new.self.items ≡ c.extend_from_slice-4.new.self.items ++ drop c.min-dim.result text =
    grind (arith, common_steps) in
    let end : c.extend_from_slice-6.new.self.items ≡ c.extend_from_slice-5.new.self.items ++ (undims ++ wraps) =
    grind (arith, common_steps) in
    let drawn = end ∙ ap (λ l. l ++ (undims ++ wraps)) (rest ∙ ap (λ l. l ++ drop c.min-dim.result text) (dimmed
    ∙ ap (λ l. l ++ dims) (plain ∙ ap (λ l. l ++ take (c.min-dim.result - begin.result) (drop begin.result text)) (cleared
    ∙ ap (λ l. l ++ clears) (raised ∙ ap (λ l. l ++ ups (drop begin.result last)) first))))) in
    drawn-by t u c.extend_from_slice-6.new.self.items old.mark new.mark begin.result (omega (arith, old-order, m)) (omega (arith, new-order, n)) same
    (subst IsWholeRows kept begin.ensures.row) (rw (← n) (rw (← text-is) (rw (← last-is) drawn))) old-plain new-plain
