use Rattle.jiter_steps.proofs.Words.{◌≡◌, ◌+◌, ap, sym, subst, ◌∙◌, arith, Some, slice_get-get_or, none-some}
use Rattle.jiter_steps.proofs.Words.{short_escape, ℕ, Option, None, IfSome}
use Rattle.std.specs.Prelude.{SomeIff}
use Rattle.std.specs.Char.{IsScalar}
use Rattle.jiter_steps.proofs.Calls.DecodeSteps.{decode-unit, decode-letter}
use Rattle.jiter_steps.proofs.escape.fast_escape_at.Goals as goal

where-scalar : (o : Option ℕ) (unit : ℕ) (P : ℕ → Type 0) → SomeIff o (IsScalar unit) unit → (IsScalar unit → P unit)
    → IfSome o P
where-scalar None unit P is then = tt
where-scalar (Some x) unit P is then = subst P (sym is.1) (then is.0)

pub returns-then-sign-ne0-clause-sign : goal.returns-then-sign-ne0-clause-sign
returns-then-sign-ne0-clause-sign c = λ some.
    let t = c.args.bytes.now in
    let i = c.args.at in
    let sign = c.simple_escape_of-sign in
    let backslash = slice_get-get_or t i 0 (omega arith) ∙ ap Some c.if-bytes-at-ne92.false in
    let means = sign.ensures.some some in
    sym (decode-letter t i backslash _ sign.result (slice_get-get_or t (i + 1) 0 (omega arith))
    (λ u. absurd (none-some _ (subst (λ b. short_escape b ≡ Some sign.result) u means))) means)

pub returns-in-Number-clause-unit : goal.returns-in-Number-clause-unit
returns-in-Number-clause-unit c =
    let t = c.args.bytes.now in
    let i = c.args.at in
    let unit = c.in-Number.unit in
    let backslash = slice_get-get_or t i 0 (omega arith) ∙ ap Some c.if-bytes-at-ne92.false in
    let letter = slice_get-get_or t (i + 1) 0 (omega arith) ∙ ap Some c.if-letter-ne117.false in
    where-scalar c.from_u32.result unit _ c.from_u32.ensures.value
    (λ scalar. sym (decode-unit t i backslash unit letter (sym c.in-Number.ensures.value) scalar))
