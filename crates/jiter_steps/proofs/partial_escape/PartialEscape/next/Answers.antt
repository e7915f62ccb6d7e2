use Rattle.jiter_steps.proofs.Words.{◌≡◌, ◌∙◌, ◌∷◌, ◌++◌, [], List, ℕ, ap, arith, length-append, refl, subst, sym, Some}
use Rattle.jiter_steps.proofs.Words.{slice_get, fault_kind, stop_view, cut, over, event_at, wrong}
use Rattle.jiter_steps.proofs.Chunks.OpenEscapes.{begins-after, cut_begins, cut_short, no-close, no-end, spelled-next}
use Rattle.jiter_steps.proofs.Chunks.OpenEscapes.{spelled-wrong, wrong-within}
use Rattle.jiter_steps.proofs.partial_escape.PartialEscape.next.Goals as goal

-- the bytes that are looked at
looked : (s u held w v : List ℕ) → s ≡ u → u ≡ held ++ v → held ≡ w → s ≡ w ++ v
looked s u held w v here is same = here ∙ is ∙ ap (λ x. x ++ v) same

first : (s u held v : List ℕ) → s ≡ u → u ≡ held ++ v → event_at held 0 ≡ over cut → slice_get s 0 ≡ Some 92
first s u held v here is open_before =
    ap (λ w. slice_get w 0) (here ∙ is) ∙ begins-after held v 92 (cut_begins held open_before)

was-cut : (held w : List ℕ) → held ≡ w → event_at held 0 ≡ over cut → event_at w 0 ≡ over cut
was-cut held w same = subst (λ x. event_at x 0 ≡ over cut) same

pub with-longer-requires : goal.with-longer-requires
with-longer-requires c = omega (arith, cut_short c.self.inside.held c.self.invariant)

pub event_at-requires : goal.event_at-requires
event_at-requires c = rw (first _ _ _ _ c.as_slice.ensures.value c.with-longer.ensures c.self.invariant) refl

pub unreachable-requires : goal.unreachable-requires
unreachable-requires c =
    no-close c.as_slice.result.now (first _ _ _ _ c.as_slice.ensures.value c.with-longer.ensures c.self.invariant)
    c.in-End-Closed.field-0-0
    (ap (λ x. over (stop_view x)) (sym c.in-End-Closed.field-0-is) ∙ c.in-End-Closed.ensures)

pub unreachable-requires-in-End-Unclosed : goal.unreachable-requires-in-End-Unclosed
unreachable-requires-in-End-Unclosed c =
    no-end c.as_slice.result.now (first _ _ _ _ c.as_slice.ensures.value c.with-longer.ensures c.self.invariant)
    (ap (λ x. over (stop_view x)) (sym c.in-End-Unclosed.field-0-is) ∙ c.in-End-Unclosed.ensures)

pub returns-in-Escape-clause-spelled : goal.returns-in-Escape-clause-spelled
returns-in-Escape-clause-spelled c =
    spelled-next c.args.self.now c.args.byte c.in-Escape.c c.in-Escape.field-1
    (was-cut _ _ c.self.view_is c.self.invariant)
    (ap (λ w. event_at w 0) (sym (looked _ _ _ _ _ c.as_slice.ensures.value c.with-longer.ensures c.self.view_is))
    ∙ sym c.in-Escape.ensures)

pub returns-in-End-Wrong-clause-spelled : goal.returns-in-End-Wrong-clause-spelled
returns-in-End-Wrong-clause-spelled c =
    λ t i stands.
    let fault = c.in-End-Wrong.fault in
    let u = c.args.self.now ++ c.args.byte ∷ [] in
    let found : event_at u 0 ≡ over (wrong (fault_kind fault.kind) fault.index) =
    ap (λ w. event_at w 0) (sym (looked _ _ _ _ _ c.as_slice.ensures.value c.with-longer.ensures c.self.view_is))
    ∙ sym c.in-End-Wrong.ensures ∙ ap (λ x. over (stop_view x)) c.in-End-Wrong.field-0-is in
    spelled-wrong u t i stands (fault_kind fault.kind) fault.index found

pub returns-in-End-Wrong-clause-within : goal.returns-in-End-Wrong-clause-within
returns-in-End-Wrong-clause-within c =
    let fault = c.in-End-Wrong.fault in
    let u = c.args.self.now ++ c.args.byte ∷ [] in
    let found : event_at u 0 ≡ over (wrong (fault_kind fault.kind) fault.index) =
    ap (λ w. event_at w 0) (sym (looked _ _ _ _ _ c.as_slice.ensures.value c.with-longer.ensures c.self.view_is))
    ∙ sym c.in-End-Wrong.ensures ∙ ap (λ x. over (stop_view x)) c.in-End-Wrong.field-0-is in
    omega (arith, wrong-within u (fault_kind fault.kind) fault.index found, length-append c.args.self.now (c.args.byte ∷ []))
