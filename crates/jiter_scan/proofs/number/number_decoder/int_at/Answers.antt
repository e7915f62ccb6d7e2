use Rattle.jiter_scan.proofs.Words.{◌∙◌, ap, sym, int_seen, taken}
use Rattle.jiter_scan.proofs.NumberStarts.{int_at-alone}
use Rattle.jiter_scan.proofs.number.number_decoder.int_at.Goals as goal

pub returns-in-Int-clause-value : goal.returns-in-Int-clause-value
returns-in-Int-clause-value c =
    let end = c.in-Int.end in
    let found = c.in-Int.ensures in
    int_at-alone c.args.bytes.now c.args.at c.skip_minus-digits.result end c.requires c.skip_minus-digits.ensures.end
    found.int_part found.decimal
    ∙ ap (λ n. taken (int_seen n) end) (sym c.integer_of-number.ensures)
