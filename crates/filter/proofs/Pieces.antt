-- A line's text, one member after the other.
use Rattle.std.proofs.Common.{◌≡◌, ◌∙◌, ◌<◌, ap, refl, subst, sym, ℕ, ◌+◌, List, [], ◌∷◌, ◌++◌, arith, drop, false}
use Rattle.std.proofs.Common.{length}
use Rattle.std.specs.Prelude.{Err, IfOk, IfSome, Ok, Option, None, Result, Some, String, codes, option_map, string_bytes}
use Rattle.std.specs.declared.alloc.Global.{Global}
use Rattle.std.proofs.Math.ListN.{get_or}
use Rattle.std.proofs.lemmas.List.{drop_all, drop_more}
use Rattle.std.specs.Result.{result_ok}
use Rattle.jiter.specs.Caller.{Answers, IsMemory, JsonError, JsonValue, answer, cause_of, cause_text}
use Rattle.jiter.specs.declared.errors.JiterError.{JiterError}
use Rattle.json_lines.specs.Line.{Seen, refused, written}
use Rattle.filter.specs.Line.{LineBecomes, PartBecomes, found_outcome, or_null, pointed_outcome}
use Rattle.filter.specs.Members.{Finds}
use Rattle.filter.specs.Once.{IsValueOf, ReadsOne, seen_part}
use Rattle.filter.specs.declared.line.Part.{Part}
use Rattle.filter.specs.declared.pointers.Member.{Member}

-- The value that a parse returns is the line's.
pub value-read : (line : List ℕ) (r : Result JsonValue JsonError) (o : Option JsonValue) → o ≡ result_ok r
    → Answers r (answer false line) → IfSome o (λ v. IsValueOf line v)
value-read line (Ok v) o is h = subst (λ x. IfSome x (λ v. IsValueOf line v)) (sym is) h
value-read line (Err e) o is h = subst (λ x. IfSome x (λ v. IsValueOf line v)) (sym is) tt

-- ---- one member
module _ (m : Member) (line : List ℕ) where
  pub found-part : (found : Option (List ℕ)) (items : List ℕ) → Finds (string_bytes m.name) line found → m.deep ≡ None
      → items ≡ or_null found → PartBecomes m line (written items)
  found-part found items finds deep is =
      let outcome : found_outcome (option_map string_bytes m.deep) line found ≡ written items =
      ap (λ (d : Option (String Global)). found_outcome (option_map string_bytes d) line found) deep ∙ ap written (sym is) in
      subst (PartBecomes m line) outcome (PartBecomes.part_found found finds)

  pub pointed-part : {E : Type 0} (found : Option (List ℕ)) (pointer : String Global) (path : List ℕ)
      → Finds (string_bytes m.name) line found → m.deep ≡ Some pointer → path ≡ string_bytes pointer
      → (r : Result Part E) → IfOk r (λ p. seen_part p ≡ pointed_outcome path (answer false line))
      → IfOk r (λ p. PartBecomes m line (seen_part p))
  pointed-part found pointer path finds deep same (Err e) h = tt
  pointed-part found pointer path finds deep same (Ok o) h =
      let outcome : found_outcome (option_map string_bytes m.deep) line found ≡ seen_part o =
      ap (λ (d : Option (String Global)). found_outcome (option_map string_bytes d) line found) deep
      ∙ sym (h ∙ ap (λ p. pointed_outcome p (answer false line)) same) in
      subst (PartBecomes m line) outcome (PartBecomes.part_found found finds)

  pub fails-part : (e : JiterError) (text : List ℕ) → (IsMemory e → ⊥) → ReadsOne (string_bytes m.name) line (Err e)
      → text ≡ cause_text (cause_of e.error_type) → PartBecomes m line (refused (e.index + 1) text)
  fails-part e text bytes reads is =
      let fails = reads bytes in
      subst (λ t. PartBecomes m line (refused (e.index + 1) t)) (sym is)
      (PartBecomes.part_fails (cause_of e.error_type) e.index fails.0 fails.1)

-- ---- all members
-- The first i members are in this text: what becomes of the others after it becomes of the line.
abbrev pub SoFar : List Member → List ℕ → ℕ → List ℕ → Type 0
SoFar members line i text = (o : Seen) → LineBecomes (drop i members) line text o → LineBecomes members line [] o

pub line-begins : (members : List Member) (line text : List ℕ) → text ≡ [] → SoFar members line 0 text
line-begins members line text none o h = subst (λ t. LineBecomes members line t o) none h

module _ (members : List Member) (line : List ℕ) (i : ℕ) (m : Member) (within : i < length members)
    (here : m ≡ get_or members i m) (text : List ℕ) (before : SoFar members line i text) where
  others : drop i members ≡ m ∷ drop (i + 1) members
  others = drop_more members i m within ∙ ap (λ x. x ∷ drop (i + 1) members) (sym here)

  -- one more is in it
  pub line-more : (part text' : List ℕ) → PartBecomes m line (written part) → text' ≡ (text ++ m.key.items) ++ part
      → SoFar members line (i + 1) text'
  line-more part text' becomes is o h =
      before o (subst (λ l. LineBecomes l line text o) (sym others)
      (written part, becomes, subst (λ t. LineBecomes (drop (i + 1) members) line t o) is h))

  -- it is refused
  pub line-stops : (column : ℕ) (cause : List ℕ) → PartBecomes m line (refused column cause)
      → LineBecomes members line [] (refused column cause)
  line-stops column cause becomes =
      before (refused column cause) (subst (λ l. LineBecomes l line text (refused column cause)) (sym others)
      (refused column cause, becomes, refl))

-- all are in it
pub line-ends : (members : List Member) (line : List ℕ) (i : ℕ) (text : List ℕ) → SoFar members line i text
    → length members ≡ i → (text' : List ℕ) → text' ≡ text ++ codes "}\n" → LineBecomes members line [] (written text')
line-ends members line i text before all text' is =
    before (written text') (subst (λ l. LineBecomes l line text (written text'))
    (sym (drop_all i members (omega (arith, all)))) (ap written is))
