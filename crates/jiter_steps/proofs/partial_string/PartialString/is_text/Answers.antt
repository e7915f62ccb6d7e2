use Rattle.jiter_steps.proofs.Words.{◌∙◌, ◌+◌, ◌||◌, length, ap, sym, is_some, checked}
use Rattle.jiter_steps.proofs.Chunks.OpenStrings.{closed-text, ended}
use Rattle.jiter_steps.proofs.partial_string.PartialString.is_text.Goals as goal

pub returns-clause-closed : goal.returns-clause-closed
returns-clause-closed c =
    λ w h none t i s quote.
    closed-text c.args.self.now w h none c.args.partial t i s quote
    ∙ c.is_text.ensures.checked h.decoded h.holds i (i + length w + 1) h.escaped

pub returns-clause-cut : goal.returns-clause-cut
returns-clause-cut c =
    λ w h partial t i s end.
    let owned = h.escaped || is_some c.args.self.now.escape in
    (ended c.args.self.now w h t i s end).0
    ∙ ap (λ k. checked k i owned h.decoded (i + length w)) (sym partial)
    ∙ c.is_text.ensures.checked h.decoded h.holds i (i + length w) owned

pub returns-clause-unclosed : goal.returns-clause-unclosed
returns-clause-unclosed c = λ w h t i s end. (ended c.args.self.now w h t i s end).1
