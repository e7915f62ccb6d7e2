use Rattle.jiter_value.proofs.Words.{◌+◌, ◌∙◌, arith, eqb, false, not, refl, ap, sym, slice_get_within, taken, plain-utf8}
use Rattle.jiter_value.proofs.Words.{look-plain}
use Rattle.jiter_value.proofs.BorrowedTexts.{range-lies}
use Rattle.jiter_value.proofs.Taking.{then-value}
use Rattle.jiter_value.proofs.parse.turns.key_turns.key_turn.Goals as goal

pub utf8_text-requires : goal.utf8_text-requires
utf8_text-requires g c =
    let found = rw c.in-Plain.is at c.look_at-to.ensures.means in
    plain-utf8 _ found.1

pub read_key-requires : goal.read_key-requires
read_key-requires g c κs =
    let u = c.requires in
    let t = c.args.bytes.now in
    let i = c.args.at in
    let to = c.look_at-to.result.0 in
    let found = rw c.in-Plain.is at c.look_at-to.ensures.means in
    let before = c.look_at-to.ensures.within.0 in
    let inside = slice_get_within t to 34 found.0 in (
      (refl, tt),
      (
        u.texts,
        (
          u.serves,
          (
            u.going,
            (
              u.known,
              (
                u.at_key,
                (
                  look-plain t i to u.at_key.2 c.look_at-to.ensures.stop found false
                      ∙ ap (λ w. taken (record { owned = false; bytes = w }) (to + 1)) (sym c.utf8_text.ensures),
                  (
                    λ mark. range-lies t (i + 1) to _ (omega (arith, before)) (omega (arith, inside)) c.utf8_text.ensures,
                    (omega (arith, before), omega (arith, inside)),
                  ),
                ),
              ),
            ),
          ),
        ),
      ),
    )

pub returns-in_default-Member-clause-turned : goal.returns-in_default-Member-clause-turned
returns-in_default-Member-clause-turned g c =
    let a = c.args in
    let e = c.read_key.ensures in
    then-value g.T.StringStorage.policy a.reading.now.settings g.T.StringStorage.wants a.bytes.now a.at a.reading.now.stacks
    c.read_key.new.reading c.turn_into.new.reading c.read_key.result c.turn_into.result _ _ _ (not (eqb g.row.ONCE 0)) e.turned
    c.in_default-Member.is-1 (ap (λ n. not (eqb n 0)) c.if-not-this.true) e.settings c.turn_into.ensures
