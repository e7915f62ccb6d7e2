-- Literals read at a place of a text, by computation.
use Rattle.std.proofs.Common.{◌≡◌, ℕ, List, [], ◌∷◌, refl, codes, map}
use Rattle.jiter_scan.specs.Kind.{eof_value, expected_ident}
use Rattle.jiter_scan.specs.Scanned.{taken, failed}
use Rattle.jiter_scan.specs.Word.{Span}
use Rattle.jiter_steps.specs.Literal.{literal_at}
use Rattle.jiter_steps.specs.declared.parse.Literal.{Literal}
use Rattle.jiter_steps.specs.declared.parse.Literal.TheVariants as literal
use Rattle.jiter_steps.proofs.Computed.{computed_literals}

abbrev rows : List (List ℕ × Literal × ℕ × Span)
rows =
    (codes "[null]", literal.Null, 1, taken tt 5) ∷
    (codes "true", literal.True, 0, taken tt 4) ∷
    (codes " falsely", literal.False, 1, taken tt 6) ∷
    (codes "tru", literal.True, 0, failed eof_value 3) ∷
    (codes "[n", literal.Null, 1, failed eof_value 2) ∷
    (codes "trux", literal.True, 0, failed expected_ident 3) ∷
    (codes "[tru]", literal.True, 1, failed expected_ident 4) ∷
    (codes "[nulx", literal.Null, 1, failed expected_ident 4) ∷
    (codes "fAlse", literal.False, 0, failed expected_ident 1) ∷
    []

rows_answer : map (λ r. literal_at r.0 r.1 r.2) rows ≡ map (λ r. r.3) rows
rows_answer = unfold computed_literals in refl
