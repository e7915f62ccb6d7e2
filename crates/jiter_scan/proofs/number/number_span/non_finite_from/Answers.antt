use Rattle.jiter_scan.proofs.Words.{Some, ◌≡◌, ◌≢◌, sym, ap, ◌∙◌}
use Rattle.jiter_scan.proofs.NumberStarts.{name-infinity, name-nan, no-name}
use Rattle.jiter_scan.proofs.number.number_span.non_finite_from.Goals as goal
use Rattle.jiter_scan.proofs.number.number_span.non_finite_from.Goals.{else-byte-eq78-via-then-byte-eq78+else-from-at}
use Rattle.jiter_scan.proofs.number.number_span.non_finite_from.Goals.{else-byte-eq78-via-else-byte-eq78}

pub returns-in-None-clause-decimal : goal.returns-in-None-clause-decimal
returns-in-None-clause-decimal c =
    let none = sym c.byte_at.ensures.value ∙ c.in-None.is in
    no-name c.args.bytes.now c.args.at c.args.from c.requires.within c.requires.minus (λ b q. absurd (cc))

pub returns-then-byte-eq73-clause-name : goal.returns-then-byte-eq73-clause-name
returns-then-byte-eq73-clause-name c =
    name-infinity c.args.bytes.now c.args.at c.args.from c.requires.within c.requires.minus
    (sym c.byte_at.ensures.value ∙ c.in-Some.is ∙ ap (λ b. Some b) c.if-byte-eq73.true)

pub returns-then-from-at-clause-name : goal.returns-then-from-at-clause-name
returns-then-from-at-clause-name c =
    name-nan c.args.bytes.now c.args.at c.args.from c.requires.within c.requires.minus
    (sym c.byte_at.ensures.value ∙ c.in-Some.is ∙ ap (λ b. Some b) c.if-byte-eq78.true) c.if-from-at.true

pub returns-else-byte-eq78-clause-decimal : goal.returns-else-byte-eq78-clause-decimal
returns-else-byte-eq78-clause-decimal c =
    let here = sym c.byte_at.ensures.value ∙ c.in-Some.is in
    let no_nan : c.in-Some.byte ≡ 78 → c.args.from ≢ c.args.at =
    elim c.else-byte-eq78.branch [
      | else-byte-eq78-via-then-byte-eq78+else-from-at w ↦ λ q. w.if-from-at.false
      | else-byte-eq78-via-else-byte-eq78 w ↦ λ q. absurd (w.if-byte-eq78.false q)
    ] in
    no-name c.args.bytes.now c.args.at c.args.from c.requires.within c.requires.minus
    (λ b q.
    let same : b ≡ c.in-Some.byte = cc in
    (λ r. c.if-byte-eq73.false (sym same ∙ r), λ r. no_nan (sym same ∙ r)))
