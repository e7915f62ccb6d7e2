use Rattle.jiter.proofs.Words.{◌<◌, refl, sym, subst, length, arith, take, ◌≡◌, slice_get_within, ScalarWithin, text_form}
use Rattle.jiter.proofs.Words.{string_at-within}
use Rattle.jiter_steps.proofs.Calls.Looks.{look-escaped}
use Rattle.jiter.proofs.FastReplies.{decoded, undecoded}
use Rattle.jiter.proofs.jiter.Jiter.escaped_str.Goals as goal

pub invariant_of-self-inside : goal.invariant_of-self-inside
invariant_of-self-inside c =
    let p = c.self.inside.parser in
    let is = c.self.view_is in
    let inside = subst (λ s. c.args.at < length s.text) (sym is) (slice_get_within _ c.args.at 34 c.requires.quote) in
    let at = subst (ScalarWithin p.bytes.now c.args.at) c.in-Ok.ensures.value
    (string_at-within (text_form c.self.inside.allow_partial_strings) p.bytes.now c.args.at inside) in
    record { within = at.1 }

pub invariant_of-self-inside-in-Err : goal.invariant_of-self-inside-in-Err
invariant_of-self-inside-in-Err c =
    let is = c.self.view_is in
    let inside = subst (λ s. c.args.at < length s.text) (sym is) (slice_get_within _ c.args.at 34 c.requires.quote) in
    record { within = omega (arith, inside) }

pub returns-in-Some : goal.returns-in-Some
returns-in-Some c =
    let text : c.utf8_text.result.now ≡ take c.in-Ok.count c.decode-read.new.buffer.items = cc in
    let reads = decoded _ c.args.self.now c.args.at c.in-Ok.end _ c.utf8_text.result
    c.self.view_is c.requires.place c.requires.quote c.in-Ok.ensures.value text in
    ((refl, (λ _. tt), reads), record { reads = (_, reads); after = tt })

pub returns-in-Err : goal.returns-in-Err
returns-in-Err c =
    let reads = undecoded _ _ _ c.args.self.now c.args.at c.in-Err.error c.refusal_at.result
    c.self.view_is c.requires.place c.requires.quote (look-escaped _ c.args.at c.args.escape.0 (slice_get_within _ c.args.at 34 c.requires.quote) c.requires.escape.0
    c.args.escape.1 c.requires.escape.1)
    c.refusal_at.ensures
    c.in-Err.ensures.value in
    ((refl, (λ _. tt), reads), record { reads = (_, reads); after = tt })
