use Rattle.jiter_steps.proofs.Words.{◌≡◌, ◌≢◌, ℕ, ◌+◌, ◌∙◌, ◌++◌, [], Bool, List, ap, arith, drop, false, length}
use Rattle.jiter_steps.proofs.Words.{sym, take, true, ◌≤◌, IsUtf8, eq-eqb, ne_eqb, length-drop, length-take}
use Rattle.jiter_steps.proofs.Words.{take-append-drop, take_all, invalid_code_point, Scanned, failed, taken, IsBroken}
use Rattle.jiter_steps.proofs.Words.{IsUnfinished, checked, Text}
use Rattle.jiter_steps.proofs.Calls.StringAnswers.{string-checked}
use Rattle.jiter_steps.proofs.Chunks.OpenTexts.{broken-fails, open-kept, open-whole}
use Rattle.jiter_steps.proofs.string_decoder.checked_count.Goals as goal

pub returns-then-known-clause-value : goal.returns-then-known-clause-value
returns-then-known-clause-value c = λ i e o.
    let bs = c.args.content.now in
    rw (take_all (length bs) bs (omega arith)) (string-checked i e o bs c.args.partial (c.requires c.if-known.true))

-- what the bytes are, by their first n, which are a text, and by the rest
module _ (d : List ℕ) (n : ℕ) (within : n ≤ length d) (utf8 : IsUtf8 (take n d)) (i e : ℕ) (o : Bool) where
  parts : d ≡ take n d ++ drop n d
  parts = sym (take-append-drop n d)

  index : ◌≡◌ {A = Scanned Text} (failed invalid_code_point (i + length (take n d))) (failed invalid_code_point (i + n))
  index = let count : length (take n d) ≡ n = omega (arith, length-take n d) in ap (λ k. failed invalid_code_point (i + k)) count

  broken-part : IsBroken (drop n d) → (partial : Bool) → checked partial i o d e ≡ failed invalid_code_point (i + n)
  broken-part wrong partial = broken-fails (take n d) [] d utf8 i e o (drop n d, parts, wrong) partial ∙ index

  kept-part : IsUnfinished (drop n d) → checked true i o d e ≡ taken (record { owned = o; bytes = take n d }) e
  kept-part rest = open-kept (take n d) (drop n d) d utf8 i e o (parts, rest)

  all-part : IsUnfinished (drop n d) → n ≡ length d
      → checked false i o d e ≡ taken (record { owned = o; bytes = take n d }) e
  all-part rest all =
      open-whole (take n d) (drop n d) d utf8 i e o (parts, rest) true
      (sym (eq-eqb (length (drop n d)) 0 (omega (arith, length-drop n d))))

  cut-part : IsUnfinished (drop n d) → n ≢ length d → checked false i o d e ≡ failed invalid_code_point (i + n)
  cut-part rest some =
      open-whole (take n d) (drop n d) d utf8 i e o (parts, rest) false
      (sym (ne_eqb (length (drop n d)) 0 (omega (arith, length-drop n d))))
      ∙ index

pub returns-then-wrong-clause-value : goal.returns-then-wrong-clause-value
returns-then-wrong-clause-value c = λ i e o.
    let v = c.valid_utf8_end-count in
    broken-part c.args.content.now v.result.0 v.ensures.within v.ensures.prefix i e o (v.ensures.wrong c.if-wrong.true)
    c.args.partial

pub returns-then-partial-clause-value : goal.returns-then-partial-clause-value
returns-then-partial-clause-value c = λ i e o.
    let v = c.valid_utf8_end-count in
    rw c.if-partial.true (kept-part c.args.content.now v.result.0 v.ensures.within v.ensures.prefix i e o
    (v.ensures.open c.if-wrong.false))

pub returns-then-count-content-clause-value : goal.returns-then-count-content-clause-value
returns-then-count-content-clause-value c = λ i e o.
    let v = c.valid_utf8_end-count in
    rw c.if-partial.false (all-part c.args.content.now v.result.0 v.ensures.within v.ensures.prefix i e o
    (v.ensures.open c.if-wrong.false) c.if-count-content.true)

pub returns-else-count-content-clause-value : goal.returns-else-count-content-clause-value
returns-else-count-content-clause-value c = λ i e o.
    let v = c.valid_utf8_end-count in
    rw c.if-partial.false (cut-part c.args.content.now v.result.0 v.ensures.within v.ensures.prefix i e o
    (v.ensures.open c.if-wrong.false) c.if-count-content.false)
