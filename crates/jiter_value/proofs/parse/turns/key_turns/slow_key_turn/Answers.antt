use Rattle.jiter_value.proofs.Words.{ap, arith, false, length, refl, reverse, fault_kind, scalar_at, text_view}
use Rattle.jiter_value.proofs.BorrowedTexts.{string-borrowed}
use Rattle.jiter_value.proofs.Repeats.{no-key}
use Rattle.jiter_value.proofs.StackTurns.{key-fails}
use Rattle.jiter_value.proofs.Taking.{left-known, taken-on}
use Rattle.jiter_value.proofs.TurnOutcomes.{leads-weaker}
use Rattle.jiter_value.proofs.parse.turns.key_turns.slow_key_turn.Goals as goal

pub read_key-requires : goal.read_key-requires
read_key-requires g c κs =
    let u = c.requires in
    let read = c.in-Ok in (
      (refl, tt),
      (
        u.texts,
        (
          u.serves,
          (
            u.going,
            (
              u.known,
              (
                u.at_key,
                (
                  read.ensures.value,
                  (
                    string-borrowed c.args.bytes.now false c.args.at (text_view read.key) read.end u.at_key.2
                        read.ensures.value,
                    read.ensures.advances,
                  ),
                ),
              ),
            ),
          ),
        ),
      ),
    )

pub returns-in-Err-Fault-clause-turned : goal.returns-in-Err-Fault-clause-turned
returns-in-Err-Fault-clause-turned g c =
    let policy = g.T.StringStorage.policy in
    let a = c.args in
    let p = a.reading.now.settings in
    let t = a.bytes.now in
    let s = a.reading.now.stacks in
    let os = reverse s.nest.items in
    let es = s.items.items in
    let ms = s.members.items in
    let f = c.in-Err-Fault.fault in
    let k = fault_kind f.kind in
    let failed = rw c.in-Err-Fault.field-0-is at c.in-Err-Fault.ensures.value in
    let e = c.fault_inside.ensures in
    let known = c.requires.known in
    let here = c.requires.at_key in
    taken-on policy p t a.at s _ _ _ _ _ c.requires.going
    (leads-weaker (rw c.in-Err-Fault.field-0-is at e.leads) (omega arith) (omega arith) (omega arith)
    (key-fails policy p t os es ms a.at k f.index a.at here.0 (no-key policy t os (length es) ms a.at here.0 k f.index failed)
    here.2 (ap (scalar_at a.at) failed)))
    (left-known known.0 ms c.fault_inside.new.reading.stacks c.fault_inside.result.1 (g.K.KeyPolicy.knows a.keys.now)
    known.1 known.2 e.keys)
