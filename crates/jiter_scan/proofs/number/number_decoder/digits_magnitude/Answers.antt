use Rattle.jiter_scan.proofs.Words.{◌≡◌, ◌≤◌, ◌+◌, ◌-◌, ◌∙◌, arith, is_digit}
use Rattle.jiter_scan.proofs.Chunks.{run_end-on}
use Rattle.jiter_scan.proofs.Magnitudes.{decimal_of-few, decimal_of-joined, digits-prefix, digits-value}
use Rattle.jiter_scan.proofs.Magnitudes.{magnitude_of-short, magnitude_of-long}
use Rattle.jiter_scan.proofs.number.number_decoder.digits_magnitude.Goals as goal

pub returns-then-count-gt19 : goal.returns-then-count-gt19
returns-then-count-gt19 c =
    magnitude_of-long c.args.bytes.now c.args.at c.args.end (omega arith) (omega arith) (omega arith) (omega arith)
    (omega arith)

pub digit_word-first-requires-clause-digits : goal.digit_word-first-requires-clause-digits
digit_word-first-requires-clause-digits c =
    let n = c.min.result in
    let most : n ≤ c.args.end - c.args.at = grind arith in
    digits-prefix c.args.bytes.now c.block_at.result c.args.at n
    (c.block_at.ensures n (grind arith) (omega (arith, most))) (omega (arith, most))

pub returns-then-count-le16 : goal.returns-then-count-le16
returns-then-count-le16 c =
    let t = c.args.bytes.now in
    let at = c.args.at in
    let n = c.min.result in
    let all : n ≡ c.args.end - at = grind arith in
    magnitude_of-short t at c.args.end (omega arith) (omega arith) (omega arith) c.digit_word-first.result (omega arith)
    (c.digit_word-first.ensures
    ∙ digits-value t c.block_at.result at n c.args.end
    (c.block_at.ensures n (omega (arith, all)) (omega (arith, all))) (omega (arith, all)))

pub digit_word-back-requires-clause-digits : goal.digit_word-back-requires-clause-digits
digit_word-back-requires-clause-digits c =
    let t = c.args.bytes.now in
    let at = c.args.at in
    let n = c.args.end - at - 16 in
    let run = run_end-on is_digit t at 16 (omega arith) (omega arith) in
    digits-prefix t c.block_at-2.result (at + 16) n (c.block_at-2.ensures n (omega arith) (omega arith)) (omega arith)

pub joined-requires-clause-fits : goal.joined-requires-clause-fits
joined-requires-clause-fits c =
    let t = c.args.bytes.now in
    let at = c.args.at in
    let end = c.args.end in
    let all : c.min.result ≡ 16 = grind arith in
    let n = end - at - 16 in
    let both = decimal_of-joined t at end _ _ (omega arith) (omega arith)
    (c.digit_word-first.ensures
    ∙ digits-value t c.block_at.result at c.min.result (at + 16)
    (c.block_at.ensures c.min.result (omega (arith, all)) (omega (arith, all))) (omega (arith, all)))
    (c.digit_word-back.ensures
    ∙ digits-value t c.block_at-2.result _ n end (c.block_at-2.ensures n (omega arith) (omega arith)) (omega arith)) in
    omega (arith, both, decimal_of-few t at end (omega arith) (omega arith) (omega arith) 19 (omega arith))

pub returns : goal.returns
returns c =
    let t = c.args.bytes.now in
    let at = c.args.at in
    let end = c.args.end in
    let all : c.min.result ≡ 16 = grind arith in
    let n = end - at - 16 in
    magnitude_of-short t at end (omega arith) (omega arith) (omega arith) c.joined.result (omega arith)
    (c.joined.ensures
    ∙ decimal_of-joined t at end _ _ (omega arith) (omega arith)
    (c.digit_word-first.ensures
    ∙ digits-value t c.block_at.result at c.min.result (at + 16)
    (c.block_at.ensures c.min.result (omega (arith, all)) (omega (arith, all))) (omega (arith, all)))
    (c.digit_word-back.ensures
    ∙ digits-value t c.block_at-2.result _ n end (c.block_at-2.ensures n (omega arith) (omega arith)) (omega arith)))
