-- How long the line is that shows how far a log is read.
use Rattle.std.proofs.Common.{◌+◌, ◌*◌, ◌/◌, ◌%◌, ◌≤◌, ◌<◌, ◌^◌, ◌++◌, ℕ, List, Option, Some, None, arith, length, nat_lt, nat_eq, min}
use Rattle.std.specs.Prelude.{codes, decimal}
use Rattle.std.proofs.lemmas.List.{length-append}
use Rattle.std.proofs.lemmas.Fmt.{length-decimal-le}
use Rattle.std.proofs.lemmas.Bool.Decides.{nat_tests}
use Rattle.jiter_scan.proofs.Choices.{if_case}
use Rattle.json_lines.specs.Progress.{IsUsual, in_unit, percent_text, progress_text, rate, size_text}
use Rattle.json_lines.specs.declared.progress.Tally.{Tally}

unit-width : (bytes unit : ℕ) (name : List ℕ) → bytes / unit < 1000 → bytes % unit * 10 / unit < 10
    → length (in_unit bytes unit name) ≤ 5 + length name
unit-width bytes unit name whole tenth =
    let wholes = length-decimal-le 3 (bytes / unit) (omega (arith)) (omega (arith, whole)) (omega (arith, whole)) in
    let tenths = length-decimal-le 1 (bytes % unit * 10 / unit) (omega (arith)) (omega (arith, tenth)) (omega (arith, tenth)) in
    omega (
      arith,
      wholes,
      tenths,
      length-append (decimal (bytes / unit)) (codes "." ++ (decimal (bytes % unit * 10 / unit) ++ name)),
      length-append (codes ".") (decimal (bytes % unit * 10 / unit) ++ name),
      length-append (decimal (bytes % unit * 10 / unit)) name,
    )

-- a text is no longer than so many bytes
abbrev Short : ℕ → List ℕ → Type 0
Short k text = length text ≤ k

pub size-width : (bytes : ℕ) → bytes < 10 ^ 15 → Short 8 (size_text bytes)
size-width bytes most =
    if_case (Short 8) (nat_lt bytes 1_000) _ _
    (λ h. let few = length-decimal-le 3 bytes (omega (arith)) (grind (arith, nat_tests, h)) (grind (arith, nat_tests, h)) in omega (arith, few, length-append (decimal bytes) (codes " B")))
    (λ h. if_case (Short 8) (nat_lt bytes 1_000_000) _ _
    (λ k. unit-width bytes 1_000 (codes " KB") (grind (arith, nat_tests, k)) (omega (arith)))
    (λ k. if_case (Short 8) (nat_lt bytes 1_000_000_000) _ _
    (λ k. unit-width bytes 1_000_000 (codes " MB") (grind (arith, nat_tests, k)) (omega (arith)))
    (λ k. if_case (Short 8) (nat_lt bytes 1_000_000_000_000) _ _
    (λ k. unit-width bytes 1_000_000_000 (codes " GB") (grind (arith, nat_tests, k)) (omega (arith)))
    (λ k. unit-width bytes 1_000_000_000_000 (codes " TB") (omega (arith, most)) (omega (arith))))))

pub percent-width : (bytes : ℕ) (size : Option ℕ) → Short 7 (percent_text bytes size)
percent-width bytes None = omega (arith)
percent-width bytes (Some size) =
    if_case (Short 7) (nat_eq size 0) _ _ (λ h. omega (arith))
    (λ h. let percent = min (bytes * 100 / size) 100 in
    let few = length-decimal-le 3 percent (omega (arith)) (omega (arith)) (omega (arith)) in
    omega (arith, few, length-append (decimal percent) (codes "%)")))

pub progress_width : (tally : Tally) (size : Option ℕ) (nanoseconds : ℕ) → IsUsual tally nanoseconds
    → length (progress_text tally size nanoseconds) < 79
progress_width tally size nanoseconds usual =
    let read = size-width tally.bytes usual.0 in
    let percent = percent-width tally.bytes size in
    let lines = length-decimal-le 15 tally.lines (omega (arith)) usual.1 (omega (arith, usual.1)) in
    let errors = length-decimal-le 15 tally.errors (omega (arith)) usual.2 (omega (arith, usual.2)) in
    let speed = size-width (rate tally.bytes nanoseconds) usual.3 in
    let a = size_text (rate tally.bytes nanoseconds) ++ codes "/s" in
    let b = decimal tally.errors ++ (codes " errors, " ++ a) in
    let c = decimal tally.lines ++ (codes " lines, " ++ b) in
    let d = percent_text tally.bytes size ++ (codes ", " ++ c) in
    omega (
      arith,
      read,
      percent,
      lines,
      errors,
      speed,
      length-append (size_text tally.bytes) d,
      length-append (percent_text tally.bytes size) (codes ", " ++ c),
      length-append (codes ", ") c,
      length-append (decimal tally.lines) (codes " lines, " ++ b),
      length-append (codes " lines, ") b,
      length-append (decimal tally.errors) (codes " errors, " ++ a),
      length-append (codes " errors, ") a,
      length-append (size_text (rate tally.bytes nanoseconds)) (codes "/s"),
    )
