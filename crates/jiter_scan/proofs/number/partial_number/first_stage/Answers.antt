use Rattle.jiter_scan.proofs.Words.{◌∙◌, ne_eqb}
use Rattle.jiter_scan.proofs.OpenNumbers.{begins-digit, span-digit, decimal-begins}
use Rattle.jiter_scan.proofs.number.partial_number.first_stage.Goals as goal

pub returns-else-byte-eq48-clause-leads : goal.returns-else-byte-eq48-clause-leads
returns-else-byte-eq48-clause-leads c =
    λ names t j h.
    let digit = begins-digit c.args.byte c.requires (ne_eqb c.args.byte 45 c.if-byte-eq45.false) in
    span-digit t j names c.args.byte h digit
    ∙ decimal-begins t j c.args.byte h (ne_eqb c.args.byte 48 c.if-byte-eq48.false) digit
