use Rattle.jiter_value.proofs.Words.{◌+◌, ◌∙◌, ap, arith, false, refl, sym, slice_get_within, plain-utf8, look-plain}
use Rattle.jiter_value.proofs.Words.{done, string, size}
use Rattle.jiter_steps.specs.StringReading.{between}
use Rattle.jiter_steps.specs.declared.parse.Start.TheVariants as start
use Rattle.jiter_value.proofs.BorrowedTexts.{range-lies}
use Rattle.jiter_value.proofs.Placed.{text-read}
use Rattle.jiter_value.proofs.TurnOutcomes.{grows-kept, refused-turned}
use Rattle.jiter_value.proofs.Views.{view_str}
use Rattle.jiter_value.proofs.parse.turns.scalars.text_turn.Goals as goal

pub store_borrowed-requires : goal.store_borrowed-requires
store_borrowed-requires g c κs =
    let a = c.args in
    let to = c.look_at-to.result.0 in
    let found = rw c.in-Plain.is at c.look_at-to.ensures.means in
    let before = c.look_at-to.ensures.within.0 in
    let inside = slice_get_within a.bytes.now to 34 found.0 in (
      (refl, tt),
      (
        c.requires.texts,
        range-lies a.bytes.now (a.at + 1) to _ (omega (arith, before)) (omega (arith, inside)) c.utf8_text.ensures,
      ),
    )

pub put_and_go_on-requires : goal.put_and_go_on-requires
put_and_go_on-requires g c κs =
    let policy = g.T.StringStorage.policy in
    let a = c.args in
    let t = a.bytes.now in
    let to = c.look_at-to.result.0 in
    let found = rw c.in-Plain.is at c.look_at-to.ensures.means in
    let before = c.look_at-to.ensures.within.0 in
    let inside = slice_get_within a.bytes.now to 34 found.0 in
    let kept = c.in-Ok.text in
    let seen = view_str kept
    ∙ ap string (c.in-Ok.ensures.value ∙ ap (λ w. policy.text (record { owned = false; bytes = w })) c.utf8_text.ensures) in (
      (refl, tt),
      (
        c.requires.at_value,
        (
          λ levels. text-read policy a.reading.now.settings t a.at (to + 1) levels (between t (a.at + 1) to)
              c.requires.begins (λ keep. look-plain t a.at to c.requires.at_value.2 c.look_at-to.ensures.stop found keep)
              ∙ ap (λ x. done x (to + 1)) (sym seen),
          (ap size (view_str kept), (omega (arith, before), omega (arith, inside))),
        ),
      ),
    )

pub returns-in-Err : goal.returns-in-Err
returns-in-Err g c =
    let a = c.args in
    let to = c.look_at-to.result.0 in
    let found = rw c.in-Plain.is at c.look_at-to.ensures.means in
    let before = c.look_at-to.ensures.within.0 in
    let inside = slice_get_within a.bytes.now to 34 found.0 in
    refused-turned g.T.StringStorage.policy g.T.StringStorage.wants a.bytes.now a.at a.slot a.reading.now _ (to + 1) _
    c.in-Err.refused c.no_memory.ensures.place c.no_memory.ensures.error
    (omega (arith, before)) (omega (arith, inside))
    (grows-kept a.bytes.now a.at g.T.StringStorage.wants start.String c.requires.begins (λ h. cc) (λ h. cc)
    c.in-Err.ensures.memory)
    refl

pub utf8_text-requires : goal.utf8_text-requires
utf8_text-requires g c =
    let found = rw c.in-Plain.is at c.look_at-to.ensures.means in
    plain-utf8 _ found.1

pub escaped_turn-requires : goal.escaped_turn-requires
escaped_turn-requires g c κs =
    let found = rw c.in-Escaped.is at c.look_at-to.ensures.means in (
      (refl, tt),
      (
        c.requires.texts,
        (c.requires.at_value, (c.requires.begins, (c.look_at-to.ensures.stop, found))),
      ),
    )
