-- What is held of an input after a piece more.
use Rattle.std.proofs.Common.{◌≡◌, ◌∙◌, ap, ap₂, arith, subst, sym, ℕ, List, ◌++◌, ◌-◌, ◌≤◌, drop, length, take}
use Rattle.std.specs.List.{fold}
use Rattle.std.proofs.lemmas.List.{length-drop, take_all}
use Rattle.jiter_incremental.specs.Caller.{HasReceived}
use Rattle.json_screen.specs.Arrived.{HasArrived}
use Rattle.json_screen.specs.Parts.{Grows, inside_of, part_step, Parts, parts, parts_of}
use Rattle.json_screen.specs.declared.input.Input.{Input}
use Rattle.json_screen.specs.declared.input.Options.{Options}
use Rattle.json_screen.proofs.Split.{parts-more, rest-is}

-- what was added
added : (old new bytes : List ℕ) (count : ℕ) → Grows old new → count ≡ length old → bytes ≡ new
    → old ++ take (length bytes - count) (drop count bytes) ≡ new
added old new bytes count more at is =
    ap (λ l. old ++ l)
    (take_all (length bytes - count) (drop count bytes) (omega (arith, length-drop count bytes)) ∙ ap₂ drop at is)
    ∙ rest-is old new more

-- the parts of all bytes
parts-then : (old new : Parts) (t piece : List ℕ) (n : ℕ) → old ≡ parts_of t → new ≡ fold part_step old (take n piece)
    → length piece ≤ n → new ≡ parts_of (t ++ piece)
parts-then old new t piece n before now all =
    now ∙ ap₂ (fold part_step) before (take_all n piece all) ∙ sym (parts-more t piece)

-- The bytes of a piece are split, and those of the document were pushed: all bytes have arrived.
pub arrived-then : (options : Options) (old new : Input) (t piece bytes : List ℕ) (n count : ℕ)
    → HasArrived options old t
    → parts new ≡ fold part_step (parts old) (take n piece) → length piece ≤ n
    → Grows old.inside.items new.inside.items → count ≡ length old.inside.items → bytes ≡ new.inside.items
    → new.document.settings ≡ old.document.settings
    → HasReceived new.document (inside_of t ++ take (length bytes - count) (drop count bytes))
    → HasArrived options new (t ++ piece)
arrived-then options old new t piece bytes n count h now all more at is same pushed =
    let split : parts new ≡ parts_of (t ++ piece) = parts-then (parts old) (parts new) t piece n h.split now all in
    let rest = take (length bytes - count) (drop count bytes) in
    let inside : inside_of t ++ rest ≡ inside_of (t ++ piece) =
    ap (λ l. l ++ rest) (sym (ap (λ p. p.inside) h.split))
    ∙ added old.inside.items new.inside.items bytes count more at is
    ∙ ap (λ p. p.inside) split in
    record {
      split = split;
      read = record {
        received = subst (HasReceived new.document) inside pushed;
        names = ap (λ s. s.allow_inf_nan) same ∙ h.read.names;
        mode = ap (λ s. s.mode) same ∙ h.read.mode;
      };
    }
