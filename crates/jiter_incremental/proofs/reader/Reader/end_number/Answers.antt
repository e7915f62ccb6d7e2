use Rattle.jiter_incremental.proofs.Words.{◌≡◌, ◌∙◌, ap, subst, sym, true, slice_index, Number, is_blank, number_tree}
use Rattle.jiter_incremental.proofs.Words.{text_view, Tree, owned_text, tree_as, view, IsHere, Steps, IsPut, Reader}
use Rattle.jiter_incremental.proofs.NumberSteps.{ended-blank, ended-here, ended-then}
use Rattle.jiter_incremental.proofs.reader.Reader.end_number.Goals as goal

pub returns-then-is_blank-clause-steps : goal.returns-then-is_blank-clause-steps
returns-then-is_blank-clause-steps c =
    let i = c.args.self.now in
    let level = c.args.level in
    let chunk = c.args.chunk.now in
    let v = view c.args.slot.now in
    let w = view c.put.new.slot in
    let r = c.requires in
    let tree = c.number_value-value.ensures.value
    ∙ ap (λ (x : Number). tree_as owned_text (number_tree x)) c.take_value.ensures.value in
    let put = subst (λ (x : Tree). IsPut level v (text_view i.key) x w) tree c.put.ensures.put in
    subst (λ (j : Reader). Steps level chunk i v j w 1) (sym c.put.ensures.is)
    (ended-blank level chunk i v r.here r.token r.leads c.take_value.new.self c.put.new.self.key w put
    (subst (λ (j : Reader). is_blank (slice_index chunk j.at) ≡ true) c.put.ensures.is
    (sym c.is_blank.ensures ∙ c.if-is_blank.true)))

pub after-requires-clause-here : goal.after-requires-clause-here
after-requires-clause-here c =
    let i = c.args.self.now in
    let level = c.args.level in
    let chunk = c.args.chunk.now in
    let v = view c.args.slot.now in
    let w = view c.put.new.slot in
    let r = c.requires in
    let tree = c.number_value-value.ensures.value
    ∙ ap (λ (x : Number). tree_as owned_text (number_tree x)) c.take_value.ensures.value in
    let put = subst (λ (x : Tree). IsPut level v (text_view i.key) x w) tree c.put.ensures.put in
    subst (λ (j : Reader). IsHere level chunk j w) (sym c.put.ensures.is)
    (ended-here level chunk i v r.here r.token r.leads c.take_value.new.self c.put.new.self.key w put)

pub returns-clause-steps : goal.returns-clause-steps
returns-clause-steps c =
    let i = c.args.self.now in
    let level = c.args.level in
    let chunk = c.args.chunk.now in
    let v = view c.args.slot.now in
    let w = view c.put.new.slot in
    let r = c.requires in
    let tree = c.number_value-value.ensures.value
    ∙ ap (λ (x : Number). tree_as owned_text (number_tree x)) c.take_value.ensures.value in
    let put = subst (λ (x : Tree). IsPut level v (text_view i.key) x w) tree c.put.ensures.put in
    let j = c.after.new.self in
    let n = c.after.result in
    ended-then level chunk i v r.here r.token r.leads c.take_value.new.self c.put.new.self.key w put j w n
    (subst (λ (m : Reader). Steps level chunk m w j w n) c.put.ensures.is c.after.ensures.steps)
