use Rattle.jiter_incremental.proofs.Words.{◌≡◌, ◌∷◌, ◌++◌, [], ◌∙◌, ap, ap₂, sym, text_view, OpenFrame, around, begun}
use Rattle.jiter_incremental.proofs.Words.{IsOfKey, view, Array, Object, view_array, view_object}
use Rattle.jiter_incremental.proofs.Slots.{array-around, object-around, array-begun, object-begun, out-array, out-object}
use Rattle.jiter_incremental.proofs.slot.append.Goals as goal

pub returns-in-Array : goal.returns-in-Array
returns-in-Array c =
    let items = c.in-Array.items in
    let value = c.args.value in
    let put : (f : OpenFrame) → view (Array items) ≡ begun f → IsOfKey (text_view c.args.key.now) (f ∷ [])
    → view (Array c.push_reserved.new.self) ≡ around f (view value) =
    λ f h of.
    array-around c.push_reserved.new.self items.items value
    (c.push_reserved.ensures.items ∙ ap (λ w. w.items ++ value ∷ []) c.in-Array.items-is)
    ∙ ap (λ g. around g (view value)) (sym (array-begun items.items f (sym (view_array items) ∙ h))) in
    rw (c.in-Array.is, out-array items) (record { part = put })

pub returns-in-Object : goal.returns-in-Object
returns-in-Object c =
    let members = c.in-Object.members in
    let value = c.args.value in
    let key = c.args.key.now in
    let new = c.push_reserved-in-Object.new.self in
    let all : new.items ≡ members.items ++ (key, value) ∷ [] =
    c.push_reserved-in-Object.ensures.items
    ∙ ap₂ (λ w k. w.items ++ (k, value) ∷ []) c.in-Object.members-is c.replace-name.ensures.value in
    let put : (f : OpenFrame) → view (Object members) ≡ begun f → IsOfKey (text_view key) (f ∷ [])
    → view (Object new) ≡ around f (view value) =
    λ f h of.
    object-around new members.items key value all
    ∙ ap (λ g. around g (view value))
    (sym (object-begun members.items (text_view key) f (sym (view_object members) ∙ h) of)) in
    rw (c.in-Object.is, out-object members) (record { part = put })
