use Rattle.jiter_value.proofs.Words.{◌≡◌, ◌≢◌, ◌∙◌, refl, arith, inl, length, sym}
use Rattle.jiter_value.specs.Stacks.{base_of}
use Rattle.jiter_steps.specs.declared.parse.ContainerKind.TheVariants as shape
use Rattle.jiter_value.proofs.KeptKeys.{leaves-all}
use Rattle.jiter_value.proofs.Shapes.{begins-grows, shape-opens, array-too-deep, ready-keys, with_nest}
use Rattle.jiter_value.proofs.TurnOutcomes.{fault-grows, refused-turned}
use Rattle.jiter_value.proofs.Turning.{grows-any}
use Rattle.jiter_value.proofs.parse.turns.containers.open.Goals as goal
use Rattle.jiter_value.proofs.parse.turns.containers.open.Goals.{in-Array-2, in-Object}

pub returns-in-Array : goal.returns-in-Array
returns-in-Array g c =
    let a = c.args in
    let array = c.in-Array.is in
    let full = sym c.len.ensures.value ∙ c.if-len-eq-NESTING_LIMIT.true in
    rw c.too_deep.ensures.place
    (record {
      leads = record {
        within = (omega (arith, c.requires.within.0), omega (arith, c.requires.within.1));
        reaches = rw c.too_deep.ensures.error
            (array-too-deep g.T.StringStorage.policy a.reading.now.settings a.bytes.now a.reading.now.stacks a.slot c.requires.stands
            c.requires.levels a.at a.next
            full c.requires.within.1 (rw array at c.requires.bracket) (rw array at c.requires.part));
        work_left = tt;
        held = tt;
      };
      memory = λ root. fault-grows c.too_deep.new.stacks.error _ _ c.too_deep.ensures.error;
      keys = tt;
      settings = refl;
    })

pub returns-in-Ok : goal.returns-in-Ok
returns-in-Ok g c =
    let a = c.args in
    let s = a.reading.now.stacks in
    let mid = with_nest s c.push_small.new.items in
    let new = c.to_part.new.stacks in
    let r = c.to_part.result in
    let base : c.match-shape.base ≡ base_of a.shape s = elim c.match-shape.branch [
      | in-Array-2 w ↦ rw w.in-Array-2.is (omega (arith, w.base-is, w.len-base.ensures, s.items.ok.0))
      | in-Object w ↦ rw w.in-Object.is (omega (arith, w.base-is, w.len-base-in-Object.ensures, s.members.ok.0))
    ] in
    let few : a.shape ≡ shape.Array → length s.nest.items ≢ 200 = elim c.match-shape.branch [
      | in-Array-2 w ↦ λ array full. w.if-len-eq-NESTING_LIMIT.false (w.len.ensures.value ∙ full)
      | in-Object w ↦ λ array full. cc
    ] in
    record {
      leads = shape-opens g.T.StringStorage.policy a.reading.now.settings a.bytes.now s a.slot c.requires.stands
          c.requires.levels a.at a.shape a.next c.push_small.new.items
          (rw base at c.in-Ok.ensures.ok) c.requires.within.0 c.requires.within.1
          c.requires.bracket c.requires.part few new r c.to_part.ensures;
      memory = λ root. grows-any _ _ (inl (begins-grows a.bytes.now a.at a.shape a.next c.requires.bracket c.requires.part));
      keys = ready-keys a.shape mid new a.next r s.members.items c.to_part.ensures (leaves-all s.members.items);
      settings = refl;
    }

pub returns-in-Err : goal.returns-in-Err
returns-in-Err g c =
    let a = c.args in
    refused-turned g.T.StringStorage.policy g.T.StringStorage.wants a.bytes.now a.at a.slot a.reading.now _ a.next _
    c.in-Err.refused c.no_memory.ensures.place c.no_memory.ensures.error (omega (arith, c.requires.within.0))
    (omega (arith, c.requires.within.1))
    (inl (begins-grows a.bytes.now a.at a.shape a.next c.requires.bracket c.requires.part)) refl
