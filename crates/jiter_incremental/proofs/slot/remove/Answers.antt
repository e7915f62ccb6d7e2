use Rattle.jiter_incremental.proofs.Words.{◌≡◌, ◌∷◌, ◌++◌, [], ◌∙◌, ap, sym, arith, length, length-append, vec_len}
use Rattle.jiter_incremental.proofs.Words.{text_view, Tree, OpenFrame, IsOfKey, around, begun, view, Array, Object}
use Rattle.jiter_incremental.proofs.Words.{view_array, view_object}
use Rattle.jiter_incremental.proofs.Slots.{array-last, object-last, array-without, last-item, last-member, object-without}
use Rattle.jiter_incremental.proofs.Slots.{out-array, out-object}
use Rattle.jiter_incremental.proofs.slot.remove.Goals as goal

pub unreachable-requires : goal.unreachable-requires
unreachable-requires c =
    let items = c.in-Array.items in
    let last = last-item items.items c.requires.frame c.requires.part
    (sym (view_array items) ∙ ap view (sym c.in-Array.is) ∙ c.requires.is) in
    omega (
      arith,
      ap length last.items,
      length-append last.before (last.old ∷ []),
      items.ok.0,
      ap vec_len c.in-Array.items-is,
      c.in-None.ensures.cases.0,
    )

pub unreachable-requires-in-None-pop : goal.unreachable-requires-in-None-pop
unreachable-requires-in-None-pop c =
    let members = c.in-Object.members in
    let last = last-member members.items c.requires.frame c.requires.part
    (sym (view_object members) ∙ ap view (sym c.in-Object.is) ∙ c.requires.is) in
    omega (
      arith,
      ap length last.members,
      length-append last.before ((last.key, last.old) ∷ []),
      members.ok.0,
      ap vec_len c.in-Object.members-is,
      c.in-None-pop.ensures.cases.0,
    )

pub returns-in-Some-clause-rest : goal.returns-in-Some-clause-rest
returns-in-Some-clause-rest c =
    let items = c.in-Array.items in
    let key = text_view c.args.key.now in
    let value = c.in-Some.value in
    let all : items.items ≡ c.pop.new.self.items ++ value ∷ [] =
    ap (λ w. w.items) (sym c.in-Array.items-is) ∙ c.in-Some.ensures.items in
    let rest : (f : OpenFrame) → (x : Tree) → view (Array items) ≡ around f x
    → (view value ≡ x) × (view (Array c.pop.new.self) ≡ begun f) × IsOfKey key (f ∷ []) =
    λ f x h.
    let h2 = sym (view_array items) ∙ h in
    let w = array-without c.pop.new.self items.items value key f x all h2 in
    (array-last c.pop.new.self items.items value f x all h2, w.0, w.1) in
    rw (c.in-Array.is, out-array items) rest

pub returns-in-Some-pop-clause-rest : goal.returns-in-Some-pop-clause-rest
returns-in-Some-pop-clause-rest c =
    let members = c.in-Object.members in
    let name = c.in-Some-pop.name in
    let value = c.in-Some-pop.value in
    let all : members.items ≡ c.pop-in-Object.new.self.items ++ (name, value) ∷ [] =
    ap (λ w. w.items) (sym c.in-Object.members-is) ∙ c.in-Some-pop.ensures.items in
    let rest : (f : OpenFrame) → (x : Tree) → view (Object members) ≡ around f x
    → (view value ≡ x) × (view (Object c.pop-in-Object.new.self) ≡ begun f) × IsOfKey (text_view name) (f ∷ []) =
    λ f x h.
    let h2 = sym (view_object members) ∙ h in
    let w = object-without c.pop-in-Object.new.self members.items name value f x all h2 in
    (object-last c.pop-in-Object.new.self members.items name value f x all h2, w.0, w.1) in
    rw (c.in-Object.is, out-object members) rest
