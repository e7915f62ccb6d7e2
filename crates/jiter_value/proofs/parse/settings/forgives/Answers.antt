use Rattle.jiter_value.proofs.Words.{◌≡◌, ◌≢◌, ◌⊎◌, inl, inr, false, true, refl, ap, sym, ◌∙◌, fault_kind}
use Rattle.jiter_scan.specs.Kind.{is_forgiven}
use Rattle.jiter_scan.specs.declared.errors.FaultKind.{FaultKind}
use Rattle.jiter_scan.specs.declared.errors.FaultKind.TheVariants.{EofWhileParsingList, EofWhileParsingObject}
use Rattle.jiter_scan.specs.declared.errors.FaultKind.TheVariants.{EofWhileParsingString, EofWhileParsingValue}
use Rattle.jiter_scan.specs.declared.errors.FaultKind.TheVariants.{ExpectedListCommaOrEnd, ExpectedObjectCommaOrEnd}
use Rattle.jiter_value.proofs.parse.settings.forgives.Goals as goal

one-of : (k : FaultKind)
    → (k ≡ EofWhileParsingList) ⊎
    ((k ≡ EofWhileParsingObject) ⊎
    ((k ≡ EofWhileParsingString) ⊎
    ((k ≡ EofWhileParsingValue) ⊎ ((k ≡ ExpectedListCommaOrEnd) ⊎ (k ≡ ExpectedObjectCommaOrEnd)))))
    → is_forgiven (fault_kind k) ≡ true
one-of k (inl e) = ap (λ k. is_forgiven (fault_kind k)) e
one-of k (inr (inl e)) = ap (λ k. is_forgiven (fault_kind k)) e
one-of k (inr (inr (inl e))) = ap (λ k. is_forgiven (fault_kind k)) e
one-of k (inr (inr (inr (inl e)))) = ap (λ k. is_forgiven (fault_kind k)) e
one-of k (inr (inr (inr (inr (inl e))))) = ap (λ k. is_forgiven (fault_kind k)) e
one-of k (inr (inr (inr (inr (inr e))))) = ap (λ k. is_forgiven (fault_kind k)) e

no-other : (k : FaultKind) → k ≢ EofWhileParsingList → k ≢ EofWhileParsingObject → k ≢ EofWhileParsingString
    → k ≢ EofWhileParsingValue → k ≢ ExpectedListCommaOrEnd → k ≢ ExpectedObjectCommaOrEnd
    → is_forgiven (fault_kind k) ≡ false
no-other EofWhileParsingList a b c d e f = absurd (a refl)
no-other EofWhileParsingObject a b c d e f = absurd (b refl)
no-other EofWhileParsingString a b c d e f = absurd (c refl)
no-other EofWhileParsingValue a b c d e f = absurd (d refl)
no-other ExpectedListCommaOrEnd a b c d e f = absurd (e refl)
no-other ExpectedObjectCommaOrEnd a b c d e f = absurd (f refl)
no-other _ a b c d e f = refl

pub returns-in-EofWhileParsingList : goal.returns-in-EofWhileParsingList
returns-in-EofWhileParsingList c =
    rw (sym c.is_active.ensures ∙ c.if-is_active.true) (sym (one-of c.args.kind c.in-EofWhileParsingList.is))

pub returns-in_default : goal.returns-in_default
returns-in_default c =
    let n = c.in_default in
    rw (sym c.is_active.ensures ∙ c.if-is_active.true)
    (sym (no-other c.args.kind n.not-EofWhileParsingList n.not-EofWhileParsingObject n.not-EofWhileParsingString
    n.not-EofWhileParsingValue n.not-ExpectedListCommaOrEnd n.not-ExpectedObjectCommaOrEnd))
