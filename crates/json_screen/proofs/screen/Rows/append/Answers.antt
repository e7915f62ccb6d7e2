use Rattle.std.proofs.Common.{sym, ap, ◌∙◌, map-id}
use Rattle.std.specs.Prelude.{chars}
use Rattle.std.specs.List.{fold}
use Rattle.std.proofs.lemmas.Iterator.{YieldsList-from_chars}
use Rattle.std.proofs.lemmas.Iterator.Consumers.{YieldsList-end}
use Rattle.json_screen.specs.Rows.{filled, put_char}
use Rattle.json_screen.proofs.screen.Rows.append.Goals as goal

pub returns-clause-rows : goal.returns-clause-rows
returns-clause-rows c =
    let end = YieldsList-end (YieldsList-from_chars c.as_str.result.now c.as_str.utf8 cc) c.loop-c.yielded _ c.loop-c.yielded_by _ _ c.in-None.is c.next.ensures.steps in
    c.loop-c.invariant.0 ∙ ap (fold (put_char c.args.self.now.width) (filled c.args.self.now)) (sym (map-id c.loop-c.yielded) ∙ end.0)
    ∙ ap (λ s. fold (put_char c.args.self.now.width) (filled c.args.self.now) (chars s)) (c.as_str.ensures.value ∙ c.in_ok-text.ensures.lossy)
