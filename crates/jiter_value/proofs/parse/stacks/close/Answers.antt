use Rattle.jiter_value.proofs.Words.{◌∙◌, sym, ap, map, reverse, array, object, items_of, members_of, frames}
use Rattle.jiter_value.proofs.Words.{member_view, view}
use Rattle.jiter_steps.specs.declared.parse.ContainerKind.TheVariants as shape
use Rattle.jiter_value.proofs.KeptKeys.{leaves-taken, leaves-then}
use Rattle.jiter_value.proofs.StackTurns.{container-closes}
use Rattle.jiter_value.proofs.Sizes.{container-size}
use Rattle.jiter_value.proofs.Views.{view_array}
use Rattle.jiter_value.proofs.parse.stacks.close.Goals as goal

pub returns-in_ok-put-in-Array-clause-value : goal.returns-in_ok-put-in-Array-clause-value
returns-in_ok-put-in-Array-clause-value c =
    let s = c.args.stacks.now in
    let o = c.in-Some.container in
    let items = c.in_ok-items-in-Array in
    let below = ap (λ ys. frames o.outer (reverse c.pop.new.self.items) ys s.members.items) items.ensures.rest in
    rw c.in-Array.is
    (λ policy p t e. container-closes policy p t shape.Array s.nest.items c.pop.new.self.items o s.items.items
    s.members.items _ _ e
    c.in-Some.ensures.items below
    (view_array items.items ∙ ap (λ xs. array (items_of (map view xs))) items.ensures.value)
    ∙ c.in_ok-put-in-Array.ensures.value policy p t e)

pub returns-in_ok-put-in-Object-clause-value : goal.returns-in_ok-put-in-Object-clause-value
returns-in_ok-put-in-Object-clause-value c =
    let s = c.args.stacks.now in
    let o = c.in-Some.container in
    let members = c.in_ok-members-in-Object in
    let below = ap (frames o.outer (reverse c.pop.new.self.items) s.items.items) members.ensures.rest in
    rw c.in-Object.is
    (λ policy p t e. container-closes policy p t shape.Object s.nest.items c.pop.new.self.items o s.items.items
    s.members.items _ _ e
    c.in-Some.ensures.items below
    (c.object_of.ensures ∙ ap (λ xs. object (members_of (map member_view xs))) members.ensures.value)
    ∙ c.in_ok-put-in-Object.ensures.value policy p t e)

pub returns-in_ok-put-in-Array-clause-held : goal.returns-in_ok-put-in-Array-clause-held
returns-in_ok-put-in-Array-clause-held c =
    let s = c.args.stacks.now in
    let o = c.in-Some.container in
    let items = c.in_ok-items-in-Array in
    let below = ap (λ ys. frames o.outer (reverse c.pop.new.self.items) ys s.members.items) items.ensures.rest in
    rw c.in-Array.is
    (c.in_ok-put-in-Array.ensures.held
    ∙ sym (container-size shape.Array s.nest.items c.pop.new.self.items o s.items.items s.members.items _ _
    c.in-Some.ensures.items below
    (view_array items.items ∙ ap (λ xs. array (items_of (map view xs))) items.ensures.value)))

pub returns-in_ok-put-in-Object-clause-held : goal.returns-in_ok-put-in-Object-clause-held
returns-in_ok-put-in-Object-clause-held c =
    let s = c.args.stacks.now in
    let o = c.in-Some.container in
    let members = c.in_ok-members-in-Object in
    let below = ap (frames o.outer (reverse c.pop.new.self.items) s.items.items) members.ensures.rest in
    rw c.in-Object.is
    (c.in_ok-put-in-Object.ensures.held
    ∙ sym (container-size shape.Object s.nest.items c.pop.new.self.items o s.items.items s.members.items _ _
    c.in-Some.ensures.items below
    (c.object_of.ensures ∙ ap (λ xs. object (members_of (map member_view xs))) members.ensures.value)))

pub returns-in_ok-put-in-Object-clause-keys : goal.returns-in_ok-put-in-Object-clause-keys
returns-in_ok-put-in-Object-clause-keys c =
    leaves-then c.args.stacks.now.members.items _ _ (leaves-taken _ _ _ c.in_ok-members-in-Object.ensures.rest)
    c.in_ok-put-in-Object.ensures.keys
