use Rattle.std.proofs.Common.{◌∙◌, ◌∷◌, ◌++◌, [], ◌+◌, ◌-◌, ap, arith, drop, length, length-drop, rules, take_all}
use Rattle.csv_of.proofs.Quotes.{doubled, quote-ends, quote-more}
use Rattle.csv_of.proofs.row.push_quoted.Goals as goal

pub loop-at-init : goal.loop-at-init
loop-at-init c = (ap (λ l. l ++ doubled c.args.text.now) c.in_ok-push.ensures.items, omega (arith))

pub overflow_add-at : goal.overflow_add-at
overflow_add-at c =
    let high = c.in-Some.ensures.0.high in
    let fits = c.loop-at.invariant.1 in
    search rules

pub loop-at-preserved : goal.loop-at-preserved
loop-at-preserved c =
    let high = c.in-Some.ensures.0.high in
    let left = length-drop (c.in-Some.at + 1) c.loop-at.rest.now in
    let all = length c.loop-at.rest.now - (c.in-Some.at + 1) in
    let rest-is = take_all all (drop (c.in-Some.at + 1) c.loop-at.rest.now) (omega (arith, left)) in (
      quote-more c.args.row.now.items _ _ c.loop-at.rest.now _ c.args.text.now c.in-Some.at c.in-Some.ensures c.loop-at.invariant.0
          (c.in_ok-push-2.ensures.items ∙ ap (λ l. l ++ 34 ∷ []) c.in_ok-extend_from_slice.ensures.items) rest-is,
      omega (arith, ap length rest-is, left, c.loop-at.invariant.1),
    )

pub returns : goal.returns
returns c =
    quote-ends c.args.row.now.items _ _ _ c.loop-at.rest.now c.args.text.now c.in_default.ensures c.loop-at.invariant.0
    c.in_ok-extend_from_slice-2.ensures.items c.in_ok-push-3.ensures.items
