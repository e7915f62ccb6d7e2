use Rattle.std.proofs.Common.{◌≡◌, ◌∙◌, ap, arith, false, sym}
use Rattle.std.specs.Prelude.{◌==◌, ◌&&◌, not, option_map, string_bytes}
use Rattle.std.proofs.lemmas.Iterator.{YieldsList-from_chars}
use Rattle.std.proofs.lemmas.Iterator.Consumers.{YieldsList-end, YieldsList-turn}
use Rattle.filter.proofs.Steps.{is-tilde, no-tilde-begun, no-tilde-other, reads-all, reads-cut, reads-more, reads-none}
use Rattle.filter.proofs.Steps.{reads-tilde}
use Rattle.filter.proofs.pointers.decoded.Goals as goal
use Rattle.filter.proofs.pointers.decoded.Goals.{else-character-eq126-via-else-character-eq126}
use Rattle.filter.proofs.pointers.decoded.Goals.{else-character-eq126-via-then-character-eq126+else-not-is_escape}
use Rattle.filter.proofs.pointers.decoded.Goals.{else-is_escape, then-is_escape}

pub loop-character-preserved-then-not-is_escape : goal.loop-character-preserved-then-not-is_escape
loop-character-preserved-then-not-is_escape c =
    let turn = YieldsList-turn (YieldsList-from_chars c.args.steps.now c.utf8.steps cc)
    c.loop-character.yielded _ c.loop-character.yielded_by _ _ c.in-Some.character c.in-Some.is c.next.ensures.steps in
    reads-tilde c.args.steps.now c.loop-character.yielded c.loop-character.is_escape _ c.loop-character.invariant c.in-Some.character turn
    (is-tilde _ _ (omega (arith, c.if-character-eq126.true)) c.if-not-is_escape.true)

pub returns-in_default : goal.returns-in_default
returns-in_default c =
    let turn = YieldsList-turn (YieldsList-from_chars c.args.steps.now c.utf8.steps cc)
    c.loop-character.yielded _ c.loop-character.yielded_by _ _ c.in-Some.character c.in-Some.is c.next.ensures.steps in
    let other : (c.in-Some.character == 126) && not c.loop-character.is_escape ≡ false =
    elim c.else-character-eq126.branch [
      | else-character-eq126-via-then-character-eq126+else-not-is_escape w ↦ no-tilde-begun _ _ w.if-not-is_escape.false
      | else-character-eq126-via-else-character-eq126 w ↦
          no-tilde-other _ _ (λ is. omega (arith, is, w.if-character-eq126.false))
    ] in
    reads-none c.args.steps.now c.loop-character.yielded c.loop-character.is_escape _ c.loop-character.invariant c.in-Some.character turn other
    (sym c.meant.ensures ∙ c.in_default.is)

pub loop-character-preserved : goal.loop-character-preserved
loop-character-preserved c =
    let turn = YieldsList-turn (YieldsList-from_chars c.args.steps.now c.utf8.steps cc)
    c.loop-character.yielded _ c.loop-character.yielded_by _ _ c.in-Some.character c.in-Some.is c.next.ensures.steps in
    let other : (c.in-Some.character == 126) && not c.loop-character.is_escape ≡ false =
    elim c.else-character-eq126.branch [
      | else-character-eq126-via-then-character-eq126+else-not-is_escape w ↦ no-tilde-begun _ _ w.if-not-is_escape.false
      | else-character-eq126-via-else-character-eq126 w ↦
          no-tilde-other _ _ (λ is. omega (arith, is, w.if-character-eq126.false))
    ] in
    reads-more c.args.steps.now c.loop-character.yielded c.loop-character.is_escape _ c.loop-character.invariant c.in-Some.character turn other
    c.in-Some-meant.character (sym c.meant.ensures ∙ c.in-Some-meant.is) _ c.in_ok-push.ensures.bytes

pub returns : goal.returns
returns c =
    let end = YieldsList-end (YieldsList-from_chars c.args.steps.now c.utf8.steps cc) c.loop-character.yielded _
    c.loop-character.yielded_by _ _ c.in-None.is c.next.ensures.steps in
    elim c.if-is_escape.branch [
      | then-is_escape w ↦
          ap (option_map string_bytes) w.result-is
          ∙ reads-cut c.args.steps.now c.loop-character.yielded c.loop-character.is_escape _ c.loop-character.invariant end.1 w.if-is_escape.true
      | else-is_escape w ↦
          ap (option_map string_bytes) w.result-is
          ∙ reads-all c.args.steps.now c.loop-character.yielded c.loop-character.is_escape _ c.loop-character.invariant end.1 w.if-is_escape.false
    ]
