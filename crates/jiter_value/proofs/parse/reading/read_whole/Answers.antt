use Rattle.jiter_value.proofs.Words.{◌∙◌, refl, ap, sym, err_from_is_err_and, rules_as}
use Rattle.jiter_value.proofs.WholeTextAnswers.{answer-none, answer-refused, value-begins-at}
use Rattle.jiter_value.proofs.parse.reading.read_whole.Goals as goal

pub returns-in_err-go-clause-value : goal.returns-in_err-go-clause-value
returns-in_err-go-clause-value g c =
    let a = c.args in
    let e = err_from_is_err_and c.from_residual.result c.from_residual.ensures.1 in
    rw (e.1, e.2)
    (answer-none (rules_as g.T.StringStorage.policy a.reading.now.settings) a.reading.now.settings.mode a.parser.now.bytes.now _ _
    c.go.new.self.index
    (rw c.requires.begins at c.value_first.ensures.value ∙ c.in_err-go.ensures.value.0, c.in_err-go.ensures.value.1))

pub finish_whole-requires : goal.finish_whole-requires
finish_whole-requires g c =
    let t = c.args.parser.now.bytes.now in
    let begun = c.in_ok-go.ensures in
    let inside = rw (sym begun.place) at c.value_first.ensures.inside begun.ok in
    let first = ap (λ b. b.now) begun.moves.same in
    let second = ap (λ b. b.now) c.in_ok-value.ensures.moves.same in
    let at = value-begins-at t c.go.new.self.index
    (rw c.requires.begins at c.value_first.ensures.value ∙ begun.value) in
    rw (second ∙ first, at, c.in_ok-value.ensures.settings)
    (λ k. ((refl, tt), (inside, rw first at c.in_ok-value.ensures.value)))

pub returns-in_err-value-clause-value : goal.returns-in_err-value-clause-value
returns-in_err-value-clause-value g c =
    let t = c.args.parser.now.bytes.now in
    let begun = c.in_ok-go.ensures in
    let inside = rw (sym begun.place) at c.value_first.ensures.inside begun.ok in
    let first = ap (λ b. b.now) begun.moves.same in
    let at = value-begins-at t c.go.new.self.index
    (rw c.requires.begins at c.value_first.ensures.value ∙ begun.value) in
    let e = err_from_is_err_and c.from_residual-in_err-value.result c.from_residual-in_err-value.ensures.1 in
    rw (e.1, e.2)
    (answer-refused (rules_as g.T.StringStorage.policy c.args.reading.now.settings) c.args.reading.now.settings.mode t
    (rw at inside) _ c.run.new.parser.index
    (rw at (rw first at c.in_err-value.ensures.value)))
