-- What is made of a container's error, row by row: it ends the container where it is forgiven, and else is told.
use Rattle.std.proofs.Common.{◌≡◌, ℕ, true, false, refl, ap, arith}
use Rattle.jiter_scan.specs.Kind.{fault_kind, eof_list, expected_list_comma_or_end, trailing_comma}
use Rattle.jiter_scan.specs.declared.errors.FaultKind.{FaultKind}
use Rattle.jiter_scan.specs.declared.errors.FaultKind.TheVariants as fault
use Rattle.jiter_scan.specs.declared.partial_mode.PartialMode.TheVariants.{Off, On}
use Rattle.jiter_steps.specs.Step.{more, stuck}
use Rattle.jiter_steps.specs.declared.read_error.ReadError.{ReadError}
use Rattle.jiter_steps.specs.declared.read_error.ReadError.TheVariants as error
use Rattle.jiter_value.specs.Turns.{IsResolved}
use Rattle.test_laws.proofs.Value.Buffers.{settings}

abbrev told : FaultKind → ℕ → ReadError
told k i = error.Fault (record { kind = k; index = i })

-- `[1`
an_open_array_ends : (e : ReadError) → IsResolved (settings On) true e 2 (stuck eof_list 2)
an_open_array_ends e = refl

an_open_array_is_told : IsResolved (settings Off) false (told fault.EofWhileParsingList 2) 2 (stuck eof_list 2)
an_open_array_is_told = (_, refl, refl, refl, refl)

-- `[1,]`: no mode forgives it
a_trailing_comma_is_told :
    IsResolved (settings On) false (told fault.TrailingComma 3) 3 (stuck trailing_comma 3)
a_trailing_comma_is_told = (_, refl, refl, refl, refl)

-- It is not forgiven, nor told as another one or at another index; what is forgiven is not told; a part that begins is
-- no error.
not_forgiven : (e : ReadError) → IsResolved (settings On) true e 3 (stuck trailing_comma 3) → ⊥
not_forgiven e h = cc

not_another : IsResolved (settings On) false (told fault.ExpectedSomeValue 3) 3 (stuck trailing_comma 3) → ⊥
not_another h =
    let same = h.3 in
    let is = h.1 in
    let kind : fault.ExpectedSomeValue ≡ h.0.kind = cc in
    let told_as = ap fault_kind kind in
    cc

not_elsewhere : IsResolved (settings On) false (told fault.TrailingComma 2) 3 (stuck trailing_comma 3) → ⊥
not_elsewhere h = let is = h.1 in let at : 2 ≡ h.0.index = cc in let here = h.2 in omega (arith, at, here)

not_told : IsResolved (settings On) false (told fault.ExpectedListCommaOrEnd 2) 2 (stuck expected_list_comma_or_end 2)
    → ⊥
not_told h = let ends = h.3 in cc

no_fault : (e : ReadError) → IsResolved (settings On) true e 3 (more 3) → ⊥
no_fault e h = cc
