-- A text that is laid down in two parts, one over the other.
use Rattle.jiter_scan.proofs.Words.{◌≡◌, ℕ, ◌+◌, ◌-◌, ◌≤◌, List, ◌++◌, length, take, drop, sym, ap, ◌∙◌, arith}
use Rattle.jiter_scan.proofs.Words.{append_assoc, take-take, length-take-le, take-append-add, take_all, length-drop}
use Rattle.std.proofs.Common.{take-append-drop}

-- the first half of the bytes is, and from a place in it on the last half is laid down
pub ends-placed : (a b c text : List ℕ) (at half : ℕ) → at ≤ length a → half ≤ length text → length text ≤ half + half
    → take (at + half) b ≡ take at a ++ take half text
    → take (at + (length text - half) + half) c
    ≡ take (at + (length text - half)) b ++ take half (drop (length text - half) text)
    → take (at + length text) c ≡ take at a ++ text
ends-placed a b c text at half within fits covers first second =
    let last = length text - half in
    let long : length (take at a) ≡ at = length-take-le at a within in
    let place : at + last + half ≡ at + length text = omega arith in
    let prefix : take (at + last) b ≡ take at a ++ take last text =
    sym (take-take (at + last) (at + half) b (omega arith)) ∙ ap (take (at + last)) first
    ∙ ap (λ m. take (m + last) (take at a ++ take half text)) (sym long)
    ∙ take-append-add (take at a) (take half text) last
    ∙ ap (λ l. take at a ++ l) (take-take last half text (omega arith)) in
    let rest : take half (drop last text) ≡ drop last text =
    take_all half (drop last text) (omega (arith, length-drop last text)) in
    ap (λ n. take n c) (sym place) ∙ second ∙ ap (λ l. l ++ take half (drop last text)) prefix
    ∙ append_assoc (take at a) (take last text) (take half (drop last text))
    ∙ ap (λ l. take at a ++ (take last text ++ l)) rest
    ∙ ap (λ l. take at a ++ l) (take-append-drop last text)
