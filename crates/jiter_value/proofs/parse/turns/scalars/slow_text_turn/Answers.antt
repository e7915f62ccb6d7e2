use Rattle.jiter_value.proofs.Words.{◌∙◌, ap, arith, refl, sym, fault_kind, done, text_view, string, size}
use Rattle.jiter_steps.specs.declared.parse.Start.TheVariants as start
use Rattle.jiter_value.proofs.BorrowedTexts.{string-borrowed}
use Rattle.jiter_value.proofs.Placed.{text-failed, text-taken}
use Rattle.jiter_value.proofs.TurnOutcomes.{grows-decoded, grows-kept, refused-turned}
use Rattle.jiter_value.proofs.Views.{view_str}
use Rattle.jiter_value.proofs.parse.turns.scalars.slow_text_turn.Goals as goal

pub store-requires : goal.store-requires
store-requires g c κs =
    let a = c.args in
    let read = c.in-Ok in (
      (refl, tt),
      (
        c.requires.texts,
        string-borrowed a.bytes.now c.allow_trailing_str-keep.result a.at (text_view read.text) read.end
            c.requires.at_value.2 read.ensures.value,
      ),
    )

pub put_and_go_on-requires : goal.put_and_go_on-requires
put_and_go_on-requires g c κs =
    let policy = g.T.StringStorage.policy in
    let a = c.args in
    let read = c.in-Ok in
    let seen = view_str c.in-Ok-store.kept ∙ ap string c.in-Ok-store.ensures.value in (
      (refl, tt),
      (
        c.requires.at_value,
        (
          λ levels. text-taken policy a.reading.now.settings a.bytes.now a.at read.end levels (text_view read.text)
              c.requires.begins (rw c.allow_trailing_str-keep.ensures at read.ensures.value)
              ∙ ap (λ x. done x read.end) (sym seen),
          (ap size (view_str c.in-Ok-store.kept), read.ensures.advances),
        ),
      ),
    )

pub returns-in-Err : goal.returns-in-Err
returns-in-Err g c =
    let a = c.args in
    let read = c.in-Ok in
    refused-turned g.T.StringStorage.policy g.T.StringStorage.wants a.bytes.now a.at a.slot a.reading.now _ read.end _
    c.in-Err.refused c.no_memory.ensures.place c.no_memory.ensures.error
    (omega (arith, read.ensures.advances.0)) read.ensures.advances.1
    (grows-kept a.bytes.now a.at g.T.StringStorage.wants start.String c.requires.begins (λ h. cc) (λ h. cc)
    c.in-Err.ensures.memory)
    refl

pub fault_in_value-requires : goal.fault_in_value-requires
fault_in_value-requires g c κs =
    let a = c.args in
    let bad = c.in-Err-Fault in
    let f = bad.fault in
    let value = rw bad.field-0-is at bad.ensures.value in
    rw bad.field-0-is (
      (refl, tt),
      (
        c.requires.at_value,
        λ levels. text-failed g.T.StringStorage.policy a.reading.now.settings a.bytes.now a.at f.index levels
            (fault_kind f.kind) c.requires.begins (rw c.allow_trailing_str-keep.ensures at value),
      ),
    )

pub returns-in-Err-Memory : goal.returns-in-Err-Memory
returns-in-Err-Memory g c =
    let a = c.args in
    let bad = c.in-Err-Memory in
    refused-turned g.T.StringStorage.policy g.T.StringStorage.wants a.bytes.now a.at a.slot a.reading.now _ a.at _
    bad.refused c.no_memory-in-Err-Memory.ensures.place c.no_memory-in-Err-Memory.ensures.error
    (omega arith) (omega (arith, c.requires.at_value.2))
    (grows-decoded a.bytes.now a.at g.T.StringStorage.wants c.requires.begins (rw bad.field-0-is at bad.ensures.memory))
    refl
