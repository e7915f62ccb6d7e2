use Rattle.jiter_value.proofs.Words.{◌≡◌, None, option_and_then, sym, ap, ◌∙◌, arith, slice_split, pointed, is_slash}
use Rattle.jiter_value.proofs.Words.{view}
use Rattle.std.proofs.lemmas.Str.Pattern.{split_parts}
use Rattle.jiter_value.specs.Pointer.{part_spelled}
use Rattle.jiter_value.proofs.Pointing.{first_token, last_token, nothing_after}
use Rattle.jiter_value.proofs.value.pointer.+follow.Goals as goal

pub returns-in_err-part_spelled-in-Some : goal.returns-in_err-part_spelled-in-Some
returns-in_err-part_spelled-in-Some t c =
    let v = view c.args.value.now in
    let cut = rw c.in-Some.is at (split_parts 47 c.args.path.now c.split_once.result c.split_once.ensures.cases
    (omega arith)) in
    let gone : c.from_residual.result ≡ None = grind arith in
    let turn = ap (λ ts. pointed ts v) (ap (slice_split is_slash) cut.0 ∙ first_token _ _ cut.1) in
    rw gone (sym (turn ∙ ap (option_and_then (pointed (slice_split is_slash c.in-Some.more.now)))
    (sym c.in_err-part_spelled-in-Some.ensures)))

pub returns-in_ok-part_spelled-in-Some : goal.returns-in_ok-part_spelled-in-Some
returns-in_ok-part_spelled-in-Some t c =
    let v = view c.args.value.now in
    let cut = rw c.in-Some.is at (split_parts 47 c.args.path.now c.split_once.result c.split_once.ensures.cases
    (omega arith)) in
    let turn = ap (λ ts. pointed ts v) (ap (slice_split is_slash) cut.0 ∙ first_token _ _ cut.1) in
    sym (turn ∙ ap (option_and_then (pointed (slice_split is_slash c.in-Some.more.now)))
    (sym c.in_ok-part_spelled-in-Some.ensures) ∙ sym c.follow.ensures)

pub returns-in-None : goal.returns-in-None
returns-in-None t c =
    let v = view c.args.value.now in
    let path = c.args.path.now in
    let none = rw c.in-None.is at (split_parts 47 path c.split_once.result c.split_once.ensures.cases (omega arith)) in
    c.part_spelled-in-None.ensures
    ∙ sym (ap (λ ts. pointed ts v) (last_token path none) ∙ nothing_after (part_spelled path v))
