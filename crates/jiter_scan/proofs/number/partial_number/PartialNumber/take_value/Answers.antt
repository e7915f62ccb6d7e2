use Rattle.jiter_scan.proofs.Words.{◌≡◌, ◌<◌, ap, arith, subst, sym, ◌∙◌, length, number_value, skip_minus, int_part_at, big, float}
use Rattle.jiter_scan.proofs.Words.{string_bytes, taken}
use Rattle.jiter_scan.proofs.NumberStarts.{int_part-some}
use Rattle.jiter_scan.proofs.OpenValues.{begun-big, begun-digits, begun-some, float-value, whole-range}
use Rattle.jiter_scan.proofs.number.partial_number.PartialNumber.take_value.Goals as goal

pub returns-then-not-is_int_stage-clause-value : goal.returns-then-not-is_int_stage-clause-value
returns-then-not-is_int_stage-clause-value c =
    let float_seen = c.requires.begun.whole ∙ (sym c.is_int_stage.ensures ∙ c.if-not-is_int_stage.true) in
    sym (float-value (string_bytes c.args.self.now.text) float_seen ∙ ap float (sym c.take_text.ensures.text))

pub skip_minus-requires : goal.skip_minus-requires
skip_minus-requires c =
    subst (λ t. 0 < length t) (sym c.as_bytes-text.ensures.value)
    (begun-some (string_bytes c.args.self.now.text) c.args.self.now.stage c.requires.begun c.requires.whole)

pub long_integer-requires : goal.long_integer-requires
long_integer-requires c =
    let t = c.as_bytes-text.result.now in
    let int = sym c.is_int_stage.ensures ∙ c.if-not-is_int_stage.false in
    let digits : int_part_at t c.skip_minus.result ≡ taken tt (length t) =
    ap (int_part_at t) c.skip_minus.ensures.end
    ∙ subst (λ t. int_part_at t (skip_minus t 0) ≡ taken tt (length t)) (sym c.as_bytes-text.ensures.value)
    (begun-digits (string_bytes c.args.self.now.text) c.args.self.now.stage c.requires.begun c.requires.whole int) in
    record {
      minus = c.skip_minus.ensures.minus;
      int_part = digits;
      place = (int_part-some t c.skip_minus.result (length t) digits, omega arith);
    }

pub returns-in-BigInt-clause-value : goal.returns-in-BigInt-clause-value
returns-in-BigInt-clause-value c =
    let w = string_bytes c.args.self.now.text in
    let int = sym c.is_int_stage.ensures ∙ c.if-not-is_int_stage.false in
    let is =
    begun-big w c.args.self.now.stage c.requires.begun c.requires.whole int c.in-BigInt.field-0.now
    (c.in-BigInt.ensures ∙ ap number_value (whole-range c.as_bytes-text.result.now ∙ c.as_bytes-text.ensures.value)) in
    ap big c.take_text-in-BigInt.ensures.text ∙ is
