use Rattle.jiter_incremental.proofs.Words.{◌≡◌, subst, sym, text_view, Tree, Steps, refused, IsPut, Reader, view}
use Rattle.jiter_scan.specs.declared.errors.FaultKind.TheVariants as fault_of
use Rattle.jiter_incremental.proofs.Showing.{container-here}
use Rattle.jiter_incremental.proofs.StringSteps.{word-last, word-part, word-wrong}
use Rattle.jiter_incremental.proofs.reader.Reader.take_word.Goals as goal

pub put-requires : goal.put-requires
put-requires c = λ some.
    c.in_ok-reserve_in-in-Last.ensures.room
    (container-here c.args.level c.args.chunk.now c.args.self.now (view c.args.slot.now) c.requires.here some)

pub returns-in-Part-clause-steps : goal.returns-in-Part-clause-steps
returns-in-Part-clause-steps c =
    word-part c.args.level c.args.chunk.now c.args.self.now (view c.args.slot.now) c.requires.here c.requires.token
    c.next.new.self c.in-Part.ensures.word c.in-Part.ensures.leads

pub returns-in_ok-value-in-Last-clause-steps : goal.returns-in_ok-value-in-Last-clause-steps
returns-in_ok-value-in-Last-clause-steps c =
    let i = c.args.self.now in
    let level = c.args.level in
    let chunk = c.args.chunk.now in
    let v = view c.args.slot.now in
    let w = view c.put.new.slot in
    let put = subst (λ (x : Tree). IsPut level v (text_view i.key) x w) c.in_ok-value-in-Last.ensures
    (subst (λ (x : Tree). IsPut level x (text_view i.key) (view c.in_ok-value-in-Last.value) w)
    c.in_ok-reserve_in-in-Last.ensures.same c.put.ensures.put) in
    subst (λ (j : Reader). Steps level chunk i v j w 1) (sym c.put.ensures.is)
    (word-last level chunk i v c.requires.here c.requires.token c.next.new.self c.put.new.self.key w
    c.in-Last.ensures.leads put)

pub returns-in-Other-clause-steps : goal.returns-in-Other-clause-steps
returns-in-Other-clause-steps c =
    let i = c.args.self.now in
    let level = c.args.level in
    let chunk = c.args.chunk.now in
    let v = view c.args.slot.now in
    subst (λ (j : Reader). Steps level chunk i v j v 1)
    (sym (subst (λ n. c.refuse.new.self ≡ refused i fault_of.ExpectedSomeIdent n) c.position.ensures c.refuse.ensures))
    (word-wrong level chunk i v c.requires.here c.requires.token c.next.new.self c.in-Other.ensures.leads)
