use Rattle.jiter_incremental.proofs.Words.{◌≡◌, ◌∙◌, ap, arith, subst, sym, false≢true, view, ReadsAsBefore, Steps, refused}
use Rattle.jiter_scan.specs.declared.errors.FaultKind.TheVariants as fault_of
use Rattle.jiter_steps.specs.declared.parse.Start.TheVariants as start
use Rattle.jiter_incremental.proofs.Documents.Blanks.{if-refused}
use Rattle.jiter_incremental.proofs.NumberBegins.{room-there, stays-so}
use Rattle.jiter_incremental.proofs.Placing.{no-value, too-deep}
use Rattle.jiter_incremental.proofs.reader.Reader.value.Goals.{in-Nothing, in_default}
use Rattle.jiter_incremental.proofs.reader.Reader.value.Goals as goal

pub returns-then-level-gt-NESTING_LIMIT-clause-steps : goal.returns-then-level-gt-NESTING_LIMIT-clause-steps
returns-then-level-gt-NESTING_LIMIT-clause-steps c =
    let i = c.args.self.now in
    let level = c.args.level in
    let chunk = c.args.chunk.now in
    let v = view c.args.slot.now in
    let is = c.refuse.ensures ∙ ap (refused i fault_of.RecursionLimitExceeded) c.position.ensures in
    subst (λ j. Steps level chunk i v j v 1) (sym is)
    (too-deep level chunk i v c.requires.here c.requires.token c.requires.awaited c.requires.other
    c.if-level-gt-NESTING_LIMIT.true)

pub returns-then-matches-clause-steps : goal.returns-then-matches-clause-steps
returns-then-matches-clause-steps c =
    let i = c.args.self.now in
    let level = c.args.level in
    let chunk = c.args.chunk.now in
    let v = view c.args.slot.now in
    let is = c.refuse-then-matches.ensures
    ∙ ap (refused i fault_of.ExpectedSomeValue) c.position-then-matches.ensures in
    let nothing : c.start_of-start.result ≡ start.Nothing =
    elim c.match-matches.branch [
      | in-Nothing w ↦ w.in-Nothing.is
      | in_default w ↦ absurd (false≢true (sym w.matches-is ∙ c.if-matches.true))
    ] in
    subst (λ j. Steps level chunk i v j v 1) (sym is)
    (no-value level chunk i v c.requires.here c.requires.token c.requires.awaited c.requires.other
    (omega (arith, c.if-level-gt-NESTING_LIMIT.false)) (sym c.start_of-start.ensures ∙ nothing))

pub returns-in_err-reserve_in-clause-stays : goal.returns-in_err-reserve_in-clause-stays
returns-in_err-reserve_in-clause-stays c =
    let i = c.args.self.now in
    let level = c.args.level in
    let chunk = c.args.chunk.now in
    let v = view c.args.slot.now in
    if-refused c.from_residual.result
    (subst (λ w. ReadsAsBefore level chunk i v i w) (sym c.reserve_in.ensures.same)
    (stays-so level chunk i v c.requires.here c.requires.token c.requires.awaited.free i.number i.buffer))

pub text-requires-clause-space : goal.text-requires-clause-space
text-requires-clause-space c =
    room-there c.args.level c.args.chunk.now c.args.self.now (view c.args.slot.now) c.reserve_in.new.slot
    c.requires.here c.requires.awaited c.in_ok-reserve_in.ensures.room

pub number-requires-clause-space : goal.number-requires-clause-space
number-requires-clause-space c =
    room-there c.args.level c.args.chunk.now c.args.self.now (view c.args.slot.now) c.reserve_in.new.slot
    c.requires.here c.requires.awaited c.in_ok-reserve_in.ensures.room

pub literal-requires-clause-space : goal.literal-requires-clause-space
literal-requires-clause-space c =
    room-there c.args.level c.args.chunk.now c.args.self.now (view c.args.slot.now) c.reserve_in.new.slot
    c.requires.here c.requires.awaited c.in_ok-reserve_in.ensures.room

pub open-requires-clause-space : goal.open-requires-clause-space
open-requires-clause-space c =
    room-there c.args.level c.args.chunk.now c.args.self.now (view c.args.slot.now) c.reserve_in.new.slot
    c.requires.here c.requires.awaited c.in_ok-reserve_in.ensures.room

pub open-requires-in_default-start-clause-space : goal.open-requires-in_default-start-clause-space
open-requires-in_default-start-clause-space c =
    room-there c.args.level c.args.chunk.now c.args.self.now (view c.args.slot.now) c.reserve_in.new.slot
    c.requires.here c.requires.awaited c.in_ok-reserve_in.ensures.room
