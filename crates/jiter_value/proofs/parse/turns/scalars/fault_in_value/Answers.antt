use Rattle.jiter_value.proofs.Words.{◌≡◌, ◌-◌, ◌∙◌, ap, arith, length, refl, take, reverse, sym, fault_kind, resume}
use Rattle.jiter_value.proofs.Words.{fault, rules_as, frames_size, inside_size_in, frames, container_fault_in}
use Rattle.jiter_steps.specs.declared.parse.ContainerKind.TheVariants as shape
use Rattle.jiter_value.specs.declared.parse.stacks.Slot.TheVariants as slot
use Rattle.jiter_value.proofs.KeptKeys.{leaves-taken, leaves-on}
use Rattle.jiter_value.proofs.Shapes.{not-root}
use Rattle.jiter_value.proofs.StackTurns.{fault-item, fault-root, fault-value, last-member, value-read}
use Rattle.jiter_value.proofs.Sizes.{item-size, key-size}
use Rattle.jiter_value.proofs.TurnOutcomes.{fault-grows, leads-weaker}
use Rattle.jiter_value.proofs.parse.turns.scalars.fault_in_value.Goals as goal

pub returns-in-Item : goal.returns-in-Item
returns-in-Item g c =
    let policy = g.T.StringStorage.policy in
    let a = c.args in
    let p = a.reading.now.settings in
    let t = a.bytes.now in
    let s = a.reading.now.stacks in
    let os = reverse s.nest.items in
    let es = s.items.items in
    let ms = s.members.items in
    let k = fault_kind a.kind in
    let here = c.requires.at_value in
    let stands = rw c.in-Item.is at here.0 in
    let e = c.fault_inside.ensures in
    let size = item-size os es ms stands in
    record {
      leads = leads-weaker e.leads (omega arith) (omega arith) (rw c.in-Item.is (omega (arith, size)))
          (value-read policy p t s a.slot here.0 here.1 a.at (fault k a.index a.at) c.requires.value
          ∙ (rw c.in-Item.is (fault-item policy p t os es ms (length es) (length ms) k a.index a.at stands)));
      memory = λ root. absurd (not-root shape.Array (sym c.in-Item.is ∙ root));
      keys = e.keys;
      settings = e.settings;
    }

pub returns-in-Member : goal.returns-in-Member
returns-in-Member g c =
    let policy = g.T.StringStorage.policy in
    let a = c.args in
    let p = a.reading.now.settings in
    let t = a.bytes.now in
    let s = a.reading.now.stacks in
    let k = fault_kind a.kind in
    let os = reverse s.nest.items in
    let es = s.items.items in
    let ms = s.members.items in
    let here = c.requires.at_value in
    let before = take (length ms - 1) ms in
    let last = last-member os (length es) ms (rw c.in-Member.is at here.0) in
    let popped : c.pop.new.self.items ≡ before = c.pop.ensures.rest
    ∙ ap (λ n. take (n - 1) ms) (omega (arith, s.members.ok.0)) in
    let was = ap (λ ys. frames_size (frames slot.Member os es ys)) last.1 ∙ key-size os es before last.0 last.2 in
    let outer = ap (inside_size_in shape.Object os es) popped in
    let closed = c.fault_inside-in-Member in
    record {
      leads = leads-weaker closed.ensures.leads (omega arith) (omega arith)
          (rw c.in-Member.is (omega (arith, outer, was)))
          (value-read policy p t s a.slot here.0 here.1 a.at (fault k a.index a.at) c.requires.value
          ∙ (rw c.in-Member.is (ap (λ ys. resume (rules_as policy p) t (frames slot.Member os es ys) (fault k a.index a.at))
          last.1
          ∙ fault-value policy p t os es before last.0 k a.index a.at last.2
          ∙ ap (λ ys. container_fault_in policy p t shape.Object os es ys k a.index a.at) (sym popped))));
      memory = λ root. absurd (not-root shape.Object (sym c.in-Member.is ∙ root));
      keys = leaves-on closed.new.reading.stacks closed.result.1 ms c.pop.new.self.items _
          (leaves-taken _ _ _ c.pop.ensures.rest) closed.ensures.keys;
      settings = closed.ensures.settings;
    }

pub returns-in-Root : goal.returns-in-Root
returns-in-Root g c =
    let policy = g.T.StringStorage.policy in
    let a = c.args in
    let p = a.reading.now.settings in
    let t = a.bytes.now in
    let s = a.reading.now.stacks in
    let os = reverse s.nest.items in
    let es = s.items.items in
    let ms = s.members.items in
    let k = fault_kind a.kind in
    let here = c.requires.at_value in
    let why = c.give_up.ensures.error in
    rw c.give_up.ensures.place
    (record {
      leads = record {
        within = (omega arith, omega (arith, here.2));
        reaches = rw (why, c.fault_at.ensures)
            (value-read policy p t s a.slot here.0 here.1 a.at (fault k a.index a.at) c.requires.value
            ∙ (rw c.in-Root.is (fault-root policy p t os es ms (length es) (length ms) k a.index a.at
            (rw c.in-Root.is at here.0))));
        work_left = tt;
        held = tt;
      };
      memory = λ root. fault-grows c.give_up.new.stacks.error _ _ why;
      keys = tt;
      settings = refl;
    })
