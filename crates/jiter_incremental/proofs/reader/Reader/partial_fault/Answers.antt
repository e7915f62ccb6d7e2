use Rattle.jiter_incremental.proofs.Words.{◌+◌, ◌∙◌, List, ℕ, ap, arith, length, refl, subst, sym, false≢true, IsUtf8}
use Rattle.jiter_incremental.proofs.Words.{document, view}
use Rattle.jiter_scan.specs.declared.errors.FaultKind.TheVariants as fault_of
use Rattle.jiter_incremental.proofs.Answering.{ShowsText, broken-index, broken-so, broken-told, good-so, keeps-hidden}
use Rattle.jiter_incremental.proofs.Answering.{keeps-shown, none-told, value-told}
use Rattle.jiter_incremental.proofs.reader.Reader.partial_fault.Goals.{else-not-self-via-then-not-self+else-keeps}
use Rattle.jiter_incremental.proofs.reader.Reader.partial_fault.Goals.{else-not-self-via-else-not-self}
use Rattle.jiter_incremental.proofs.reader.Reader.partial_fault.Goals as goal
use Rattle.jiter_incremental.proofs.Settling.{settled-so}

pub overflow_add-index-then-keeps : goal.overflow_add-index-then-keeps
overflow_add-index-then-keeps c =
    let d = document c.args.self.now (view c.args.root.now) in
    let a = c.requires.arrived in
    let unset = c.requires.unset in
    let is = c.keeps.ensures.only c.if-keeps.true in
    let on = sym (c.keeps.ensures.text is) ∙ c.if-keeps.true in
    let bad = broken-so d a.0 a.1.read.opened (settled-so d a.0 a.1 unset) is on c.if-not-self.true in
    omega (arith, broken-index d a.0 a.1 unset c.if-not-self.true bad, ap length c.text.ensures, c.requires.room)

pub returns-then-keeps : goal.returns-then-keeps
returns-then-keeps c = λ t h.
    let d = document c.args.self.now (view c.args.root.now) in
    let unset = c.requires.unset in
    let s = settled-so d t h unset in
    let is = c.keeps.ensures.only c.if-keeps.true in
    let on = sym (c.keeps.ensures.text is) ∙ c.if-keeps.true in
    let hidden = c.if-not-self.true in
    let utf8 = subst IsUtf8 c.text.ensures c.text.utf8 in
    broken-told d t h unset c.requires.active c.fault_at.result hidden (keeps-hidden d t h.read.opened s hidden utf8)
    (broken-so d t h.read.opened s is on hidden)
    (c.fault_at.ensures
    ∙ ap (λ (x : List ℕ). record { kind = fault_of.InvalidUnicodeCodePoint; index = d.begin + 1 + length x })
    c.text.ensures)

pub returns-then-has_value : goal.returns-then-has_value
returns-then-has_value c = λ t h.
    let v = c.args.root.now in
    let d = document c.args.self.now (view v) in
    let unset = c.requires.unset in
    let o = h.read.opened in
    let s = settled-so d t h unset in
    let shows : ShowsText d = λ is on. elim c.else-not-self.branch [
      | else-not-self-via-then-not-self+else-keeps w ↦
          absurd (false≢true (sym w.if-keeps.false ∙ w.keeps.ensures.text is ∙ on))
      | else-not-self-via-else-not-self w ↦ w.if-not-self.false
    ] in
    value-told d t h unset c.requires.active (keeps-shown d t o s v refl shows) (good-so d t o s shows)
    (sym (c.has_value.ensures (view v) t o s) ∙ c.if-has_value.true)

pub returns : goal.returns
returns c = λ t h.
    let v = c.args.root.now in
    let d = document c.args.self.now (view v) in
    let unset = c.requires.unset in
    let o = h.read.opened in
    let s = settled-so d t h unset in
    let shows : ShowsText d = λ is on. elim c.else-not-self.branch [
      | else-not-self-via-then-not-self+else-keeps w ↦
          absurd (false≢true (sym w.if-keeps.false ∙ w.keeps.ensures.text is ∙ on))
      | else-not-self-via-else-not-self w ↦ w.if-not-self.false
    ] in
    none-told d t h unset c.requires.active c.end_fault.result (keeps-shown d t o s v refl shows)
    (good-so d t o s shows)
    (sym (c.has_value.ensures (view v) t o s) ∙ c.if-has_value.false) (c.end_fault.ensures t o s)

pub end_fault-requires-clause-settled : goal.end_fault-requires-clause-settled
end_fault-requires-clause-settled c =
    let d = document c.args.self.now (view c.args.root.now) in
    let a = c.requires.arrived in
    (a.0, a.1.read.opened, settled-so d a.0 a.1 c.requires.unset)
