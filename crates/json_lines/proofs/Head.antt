-- What an input begins with: an array's bracket, or an error.
use Rattle.std.proofs.Common.{◌≡◌, ◌∙◌, ap, refl, sym, subst, ℕ, ◌+◌, Bool, true, false, List, [], ◌∷◌, ◌++◌, Option, Some, None, IfSome}
use Rattle.std.proofs.Common.{arith, eqb-true, length, take, take-append-drop, length-take-le}
use Rattle.std.specs.Prelude.{◌==◌, codes, if◌then◌else◌}
use Rattle.std.proofs.KnownBytes.{Appends-nil}
use Rattle.std.proofs.lemmas.List.Sums.{prefix_len-le-length}
use Rattle.std.proofs.lemmas.Option.{IfSome_then}
use Rattle.std.specs.Io.KnownBytes.{Appends}
use Rattle.jiter_print.specs.Written.{AppendsPrefix}
use Rattle.jiter_scan.specs.declared.errors.LinePosition.{LinePosition}
use Rattle.json_lines.specs.Items.{Part, after_blanks, blanks, is_white, outside, parts, parts_at, parts_of, pieces, wrong}
use Rattle.json_lines.specs.ItemsRead.{IsNext, StartsAt, TakesVisible, head_error, past}
use Rattle.json_lines.specs.ItemsWritten.{WritesItems, WritesItemsPart, position_at}
use Rattle.json_lines.specs.Line.{Seen, cause_in, refusal_text}
use Rattle.json_lines.specs.declared.log.Counts.{Counts}
use Rattle.json_lines.proofs.ItemsWriting.{parts-as, partly-as, wrote-nothing, wrote-wrong, wrote-wrong-partly}
use Rattle.json_lines.proofs.Known.{no-part}
use Rattle.json_lines.proofs.Cases.{some-is}
use Rattle.json_lines.proofs.Positions.{placed, starts-input, starts-rest}

pub nothing-yet : (becomes : List ℕ → Seen → Type 0) (name : List ℕ) (first : ℕ) (old out err bad : Option (List ℕ))
    → IfSome old (λ t. WritesItemsPart becomes name first t out out err err bad bad)
nothing-yet becomes name first None out err bad = tt
nothing-yet becomes name first (Some t) out err bad = wrote-nothing becomes name (position_at first t) _ out err bad

wrong-head : (i : ℕ) (b : Option ℕ) (l rest cause : List ℕ) → IsNext b l rest → ◌≡◌ {A = Option (List ℕ)} (Some cause) (head_error b rest)
    → parts_at i l ≡ wrong i cause [] ∷ []
wrong-head i None l rest cause next is = ap (parts_at i) next.0 ∙ ap (λ c. wrong i c [] ∷ []) (sym (some-is cause _ is))
wrong-head i (Some b) l rest cause next is = ap (parts_at i) next ∙ by (b == 91) refl is where
  by : (c : Bool) → (b == 91) ≡ c
      → ◌≡◌ {A = Option (List ℕ)} (Some cause) (if c then None else Some (cause_in (b ∷ rest) (codes "not an array")))
      → parts_at i (b ∷ rest) ≡ wrong i cause [] ∷ []
  by true e is = absurd (cc)
  by false e is = rw e (ap (λ c. wrong i c [] ∷ []) (sym (some-is cause _ is)))

right-head : (b : Option ℕ) (rest : List ℕ) → ◌≡◌ {A = Option (List ℕ)} None (head_error b rest) → b ≡ Some 91
right-head None rest is = absurd (cc)
right-head (Some b) rest is = by (b == 91) refl is where
  by : (c : Bool) → (b == 91) ≡ c
      → ◌≡◌ {A = Option (List ℕ)} None (if c then None else Some (cause_in (b ∷ rest) (codes "not an array"))) → Some b ≡ Some 91
  by true e is = ap Some (eqb-true b 91 e)
  by false e is = absurd (cc)

module _ (becomes : List ℕ → Seen → Type 0) (name : List ℕ) (first : ℕ) (old mid : Option (List ℕ)) (q : LinePosition) (b : Option ℕ)
    (read : TakesVisible old mid (placed first []) q b) where
  known-in : (P : List ℕ → Type 0) (rest : List ℕ) → mid ≡ Some rest → IfSome mid P → P rest
  known-in P rest is h = subst (λ o. IfSome o P) is h

  here-is : (t : List ℕ) → q ≡ past (placed first []) (take (blanks t) t) → q ≡ position_at first t (blanks t)
  here-is t is =
      let same : 0 + blanks t ≡ blanks t = omega (arith) in
      is ∙ sym (starts-input first t (blanks t) (prefix_len-le-length is_white t)) ∙ ap (position_at first t) same

  module _ (cause : List ℕ) (is : IfSome mid (λ rest. ◌≡◌ {A = Option (List ℕ)} (Some cause) (head_error b rest)))
      (out err err' bad : Option (List ℕ)) where
    pub head-wrong : (counts : Counts) → counts.texts ≡ 0 → counts.refused ≡ 1 → Appends err err' (refusal_text name q.line q.column cause)
        → IfSome old (λ t. WritesItems becomes name first t counts out out err err' bad bad)
    head-wrong counts texts refusals told = IfSome_then old read (λ t x.
        parts-as becomes name (position_at first t) _ (parts t)
        (sym (wrong-head (blanks t) b (after_blanks t) x.0 cause x.2 (known-in _ x.0 x.1 is)))
        (wrote-wrong becomes name (position_at first t) (blanks t) cause [] q (here-is t x.3) out err err' bad bad counts texts refusals told
        (Appends-nil bad)))

    pub head-wrong-partly : AppendsPrefix err err' (refusal_text name q.line q.column cause)
        → IfSome old (λ t. WritesItemsPart becomes name first t out out err err' bad bad)
    head-wrong-partly told = IfSome_then old read (λ t x.
        partly-as becomes name (position_at first t) _ (parts t)
        (sym (wrong-head (blanks t) b (after_blanks t) x.0 cause x.2 (known-in _ x.0 x.1 is)))
        (wrote-wrong-partly becomes name (position_at first t) (blanks t) cause [] q (here-is t x.3) out err err' bad bad told (no-part bad [])))

  module _ (is : IfSome mid (λ rest. ◌≡◌ {A = Option (List ℕ)} None (head_error b rest))) (now : Option (List ℕ))
      (same : b ≡ Some 91 → now ≡ mid) (r : LinePosition) (there : r ≡ past q (91 ∷ [])) where
    pub head-right : (P : (ℕ → LinePosition) → List Part → Type 0) → IfSome now (λ rest. (i : ℕ) (at : ℕ → LinePosition) → StartsAt at i r rest
        → P at (parts_of i true (pieces (outside 0) rest))) → IfSome old (λ t. P (position_at first t) (parts t))
    head-right P h = IfSome_then old read (λ t x.
        let bracket : b ≡ Some 91 = right-head b x.0 (known-in _ x.0 x.1 is) in
        let next : after_blanks t ≡ 91 ∷ x.0 = subst (λ c. IsNext c (after_blanks t) x.0) bracket x.2 in
        let at = position_at first t in
        let whole : t ≡ take (blanks t) t ++ 91 ∷ x.0 = sym (take-append-drop (blanks t) t) ∙ ap (λ l. take (blanks t) t ++ l) next in
        let long : length (take (blanks t) t) ≡ blanks t = length-take-le (blanks t) t (prefix_len-le-length is_white t) in
        let split = subst (StartsAt at 0 (placed first [])) whole (starts-input first t) in
        let begin = starts-rest at 0 (placed first []) (take (blanks t) t) (91 ∷ x.0) split in
        let inside = starts-rest at (0 + length (take (blanks t) t)) (past (placed first []) (take (blanks t) t)) (91 ∷ []) x.0 begin in
        let place : past (past (placed first []) (take (blanks t) t)) (91 ∷ []) ≡ r = ap (λ z. past z (91 ∷ [])) (sym x.3) ∙ sym there in
        let index : 0 + length (take (blanks t) t) + 1 ≡ blanks t + 1 = omega (arith, long) in
        let starts = subst (λ z. StartsAt at (blanks t + 1) z x.0) place
        (subst (λ n. StartsAt at n (past (past (placed first []) (take (blanks t) t)) (91 ∷ [])) x.0) index inside) in
        let all = subst (λ o. IfSome o (λ rest. (i : ℕ) (at : ℕ → LinePosition) → StartsAt at i r rest
        → P at (parts_of i true (pieces (outside 0) rest)))) (same bracket ∙ x.1) h in
        subst (P at) (ap (parts_at (blanks t)) (sym next)) (all (blanks t + 1) at starts))
