use Rattle.std.proofs.Common.{◌∙◌, ap, arith, codes}
use Rattle.std.specs.Prelude.{encode_utf8, string_bytes}
use Rattle.jiter_value.specs.Pointer.{token_of}
use Rattle.jiter_walk.proofs.Tokens.{other-token, slash-token, tilde-token, token-more}
use Rattle.jiter_walk.proofs.path.key_step.Goals as goal

pub loop-c-preserved-in-Continue-branch-2 : goal.loop-c-preserved-in-Continue-branch-2
loop-c-preserved-in-Continue-branch-2 c =
    token-more c.loop-c.yielded c.in-Some.c (string_bytes c.loop-c.step) _ (codes "~0") c.loop-c.invariant
    (ap (λ x. token_of (encode_utf8 x)) (omega (arith, c.in-126.is)) ∙ tilde-token) c.in_ok-push_str-in-126.ensures.bytes

pub loop-c-preserved-in-Continue-branch-3 : goal.loop-c-preserved-in-Continue-branch-3
loop-c-preserved-in-Continue-branch-3 c =
    token-more c.loop-c.yielded c.in-Some.c (string_bytes c.loop-c.step) _ (codes "~1") c.loop-c.invariant
    (ap (λ x. token_of (encode_utf8 x)) (omega (arith, c.in-47.is)) ∙ slash-token) c.in_ok-push_str-in-47.ensures.bytes

pub loop-c-preserved : goal.loop-c-preserved
loop-c-preserved c =
    token-more c.loop-c.yielded c.in-Some.c (string_bytes c.loop-c.step) _ (encode_utf8 c.in-Some.c) c.loop-c.invariant
    (other-token c.in-Some.c (λ is. omega (arith, is, c.in_default)) (λ is. omega (arith, is, c.in_default)))
    c.in_ok-push-in_default.ensures.bytes
