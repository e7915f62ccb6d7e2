use Rattle.jiter_value.proofs.Words.{◌∙◌, refl, ap, arith, sym, Err, fault_kind, JsonValue}
use Rattle.jiter_value.proofs.Repeats.{stops-grows, whole-none, whole-stopped, whole-given}
use Rattle.jiter_value.proofs.TurnOutcomes.{refused-weaker}
use Rattle.jiter_value.proofs.WholeTextAnswers.{value-begins-at}
use Rattle.jiter_value.proofs.parse.unique.read_unique.Goals as goal

pub returns-in-Err-clause-value : goal.returns-in-Err-clause-value
returns-in-Err-clause-value c =
    let f = c.in-Err.fault in
    whole-none c.args.reading.now.settings c.args.parser.now.bytes.now (fault_kind f.kind) f.index c.go.new.self.index
    (rw c.requires.begins at c.value_first.ensures.value ∙ c.in-Err.ensures.value.0, c.in-Err.ensures.value.1)

pub finish_whole-requires : goal.finish_whole-requires
finish_whole-requires c κs =
    let t = c.args.parser.now.bytes.now in
    let begun = c.in_default.ensures in
    let first = ap (λ b. b.now) begun.moves.same in
    let second = ap (λ b. b.now) c.in-Ok.ensures.moves.same in
    let inside = rw (sym begun.place) at c.value_first.ensures.inside begun.ok in
    let at = value-begins-at t c.go.new.self.index
    (rw c.requires.begins at c.value_first.ensures.value ∙ begun.value) in
    rw (second ∙ first, at, c.in-Ok.ensures.settings) ((refl, tt), (inside, rw first at c.in-Ok.ensures.value))

pub returns-in-Err-run_unique-clause-value : goal.returns-in-Err-run_unique-clause-value
returns-in-Err-run_unique-clause-value c =
    let t = c.args.parser.now.bytes.now in
    let begun = c.in_default.ensures in
    let first = ap (λ b. b.now) begun.moves.same in
    let inside = rw (sym begun.place) at c.value_first.ensures.inside begun.ok in
    let at = value-begins-at t c.go.new.self.index
    (rw c.requires.begins at c.value_first.ensures.value ∙ begun.value) in
    whole-stopped c.args.reading.now.settings t (rw at inside) c.in-Err-run_unique.stopped c.run_unique.new.parser.index
    (rw at (rw first at c.in-Err-run_unique.ensures.value))

pub returns-in-Err-finish_whole-clause-value : goal.returns-in-Err-finish_whole-clause-value
returns-in-Err-finish_whole-clause-value c =
    let begun = c.in_default.ensures in
    let first = ap (λ b. b.now) begun.moves.same in
    let second = ap (λ b. b.now) c.in-Ok.ensures.moves.same in
    whole-given c.args.reading.now.settings c.args.parser.now.bytes.now (Err c.in-Err-finish_whole.error) _
    (rw (second ∙ first, c.in-Ok.ensures.settings) at c.in-Err-finish_whole.ensures.value)

pub returns-in-Err-run_unique-clause-place : goal.returns-in-Err-run_unique-clause-place
returns-in-Err-run_unique-clause-place c =
    let begun = c.in_default.ensures in
    let at = value-begins-at c.args.parser.now.bytes.now c.go.new.self.index
    (rw c.requires.begins at c.value_first.ensures.value ∙ begun.value) in
    stops-grows c.in-Err-run_unique.stopped _ (omega (arith, at, c.in-Err-run_unique.ensures.moves.forward))

pub returns-in-Err-finish_whole-clause-place : goal.returns-in-Err-finish_whole-clause-place
returns-in-Err-finish_whole-clause-place c =
    refused-weaker {X = JsonValue} (Err c.in-Err-finish_whole.error) ⊥ _ (λ h. absurd h)
    c.in-Err-finish_whole.ensures.memory
