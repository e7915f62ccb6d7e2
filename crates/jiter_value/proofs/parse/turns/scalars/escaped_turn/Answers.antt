use Rattle.jiter_value.proofs.Words.{◌≡◌, ◌∙◌, ap, arith, refl, subst, sym, take, true, slice_get, Some, fault_kind}
use Rattle.jiter_value.proofs.Words.{ScalarWithin, string_at-within, done, value_form, string, size}
use Rattle.jiter_value.proofs.Placed.{text-failed, text-taken}
use Rattle.jiter_value.proofs.TurnOutcomes.{grows-decoded, refused-turned}
use Rattle.jiter_value.proofs.Views.{view_str}
use Rattle.jiter_value.proofs.parse.turns.scalars.escaped_turn.Goals as goal

pub put_and_go_on-requires : goal.put_and_go_on-requires
put_and_go_on-requires g c κs =
    let policy = g.T.StringStorage.policy in
    let a = c.args in
    let t = a.bytes.now in
    let d = c.in-Ok in
    let kept = c.in-Ok-store.text in
    let form = value_form a.reading.now.settings.mode in
    let read = rw c.allow_trailing_str-keep.ensures at d.ensures.value in
    let ahead = subst (ScalarWithin t a.at) read (string_at-within form t a.at c.requires.at_value.2) in
    let bytes = c.in-Ok-copy_text.ensures ∙ c.utf8_text-decoded.ensures ∙ ap (take d.count) c.as_slice.ensures.value in
    let seen = view_str kept
    ∙ ap string (c.in-Ok-store.ensures.value ∙ ap (λ w. policy.text (record { owned = true; bytes = w })) bytes) in (
      (refl, tt),
      (
        c.requires.at_value,
        (
          λ levels. text-taken policy a.reading.now.settings t a.at d.end levels _ c.requires.begins read
              ∙ ap (λ x. done x d.end) (sym seen),
          (ap size (view_str kept), ahead),
        ),
      ),
    )

pub fault_in_value-requires : goal.fault_in_value-requires
fault_in_value-requires g c κs =
    let a = c.args in
    let bad = c.in-Err-Fault in
    let f = bad.fault in
    let value = rw bad.field-0-is at bad.ensures.value in
    rw bad.field-0-is (
      (refl, tt),
      (
        c.requires.at_value,
        λ levels. text-failed g.T.StringStorage.policy a.reading.now.settings a.bytes.now a.at f.index levels
            (fault_kind f.kind) c.requires.begins (rw c.allow_trailing_str-keep.ensures at value),
      ),
    )

pub returns-in-Err-store : goal.returns-in-Err-store
returns-in-Err-store g c =
    let a = c.args in
    let backslash = subst (λ j. slice_get a.bytes.now j ≡ Some 92) c.requires.stop c.requires.escaped.0 in
    refused-turned g.T.StringStorage.policy g.T.StringStorage.wants a.bytes.now a.at a.slot a.reading.now _ a.at _
    c.in-Err-store.refused c.no_memory.ensures.place c.no_memory.ensures.error (omega arith)
    (omega (arith, c.requires.at_value.2))
    (grows-decoded a.bytes.now a.at g.T.StringStorage.wants c.requires.begins backslash) refl

pub returns-in-Err : goal.returns-in-Err
returns-in-Err g c =
    let a = c.args in
    let backslash = subst (λ j. slice_get a.bytes.now j ≡ Some 92) c.requires.stop c.requires.escaped.0 in
    refused-turned g.T.StringStorage.policy g.T.StringStorage.wants a.bytes.now a.at a.slot a.reading.now _ a.at _
    c.in-Err.refused c.no_memory-in-Err.ensures.place c.no_memory-in-Err.ensures.error
    (omega arith) (omega (arith, c.requires.at_value.2))
    (grows-decoded a.bytes.now a.at g.T.StringStorage.wants c.requires.begins backslash) refl

pub returns-in-Err-Memory : goal.returns-in-Err-Memory
returns-in-Err-Memory g c =
    let a = c.args in
    let backslash = subst (λ j. slice_get a.bytes.now j ≡ Some 92) c.requires.stop c.requires.escaped.0 in
    refused-turned g.T.StringStorage.policy g.T.StringStorage.wants a.bytes.now a.at a.slot a.reading.now _ a.at _
    c.in-Err-Memory.refused c.no_memory-in-Err-Memory.ensures.place c.no_memory-in-Err-Memory.ensures.error
    (omega arith) (omega (arith, c.requires.at_value.2))
    (grows-decoded a.bytes.now a.at g.T.StringStorage.wants c.requires.begins backslash) refl
