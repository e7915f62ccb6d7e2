use Rattle.jiter_scan.proofs.Words.{◌≡◌, ◌≢◌, inr, ◌+◌, get_or, sym, ◌∙◌, arith, slice_get-get_or}
use Rattle.jiter_scan.proofs.Magnitudes.{decimal_of-few}
use Rattle.jiter_scan.proofs.FastNumbers.{digits-in_two, int_part_at-run, decimal_at-int_part}
use Rattle.jiter_scan.proofs.number.fast_number.two_blocks_at.Goals as goal

pub digits_magnitude-magnitude-requires-clause-digits : goal.digits_magnitude-magnitude-requires-clause-digits
digits_magnitude-magnitude-requires-clause-digits c =
    let run =
    digits-in_two c.args.bytes.now c.full_block_at-back.result c.args.at
    c.digit_count-more.result c.digit_count-more.ensures
    (omega arith) (omega arith) c.full_block_at-back.ensures c.requires.digits in
    (omega arith, omega arith)

pub returns : goal.returns
returns c =
    let t = c.args.bytes.now in
    let i = c.args.at in
    let n = c.digit_count-more.result in
    let e = i + 16 + n in
    let run = digits-in_two t c.full_block_at-back.result i n c.digit_count-more.ensures (omega arith) (omega arith)
    c.full_block_at-back.ensures c.requires.digits in
    let first : get_or t i 0 ≢ 48 = λ (zero : get_or t i 0 ≡ 48). omega arith in
    let int_part = int_part_at-run t i e run (omega arith) (omega arith) (omega arith) (inr first) in
    let few = decimal_of-few t i e (omega arith) (omega arith) (omega arith) 18 (omega arith) in
    record {
      int_part = int_part;
      decimal = decimal_at-int_part t i e (get_or t e 0) int_part (slice_get-get_or t e 0 (omega arith))
          (sym c.goes_on.ensures ∙ c.if-goes_on.false);
      magnitude = c.digits_magnitude-magnitude.ensures;
      small = omega (arith, few, c.digits_magnitude-magnitude.ensures);
      some = omega arith;
      within = omega arith;
    }
