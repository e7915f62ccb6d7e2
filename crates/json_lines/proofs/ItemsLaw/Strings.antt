-- A string, outside whose quotes nothing changes.
use Rattle.std.proofs.Common.{◌≡◌, ◌≢◌, ◌⊎◌, inl, inr, ℕ, ◌+◌, ◌<◌, ◌≤◌, true, List, [], ◌∷◌, refl, sym, ◌∙◌, subst, arith}
use Rattle.std.proofs.lemmas.Bool.Decides.{nat_tests}
use Rattle.jiter_steps.specs.Escape.{is_hex}
use Rattle.jiter_steps.specs.Piece.{IsPlain, IsUnit, IsPiece, Piece, SpellsPieces, SpellsString}
use Rattle.jiter_steps.proofs.Grammar.Utf8Shape.{AllFollow, lead}
use Rattle.json_lines.specs.Items.{outside, in_string}
use Rattle.json_lines.proofs.ItemsLaw.Passing.{Passes, AreInString, Leads, byte-leads, leads-on, passes-append, string-pass}

follow-inside : (w : List ℕ) → AllFollow w → AreInString w
follow-inside [] h = tt
follow-inside (b ∷ w) h =
    let least = h.0.least in
    ((λ e. omega (arith, e, least), λ e. omega (arith, e, least)), follow-inside w h.1)

plain-inside : (p : List ℕ) (c : ℕ) → IsPlain p c → AreInString p
plain-inside p c h =
    let l = lead c h.scalar in
    subst AreInString (sym (h.is ∙ l.is)) (first l.byte, follow-inside l.rest l.follow) where
      first : ((c < 128) × (c ≡ (lead c h.scalar).first)) ⊎ ((128 ≤ c) × (194 ≤ (lead c h.scalar).first))
          → ((lead c h.scalar).first ≢ 34) × ((lead c h.scalar).first ≢ 92)
      first (inl low) = (λ e. h.no_quote (low.1 ∙ e), λ e. h.no_backslash (low.1 ∙ e))
      first (inr high) = (λ e. omega (arith, e, high.1), λ e. omega (arith, e, high.1))

hex-inside : (b : ℕ) → is_hex b ≡ true → (b ≢ 34) × (b ≢ 92)
hex-inside b h = (λ e. grind (arith, nat_tests, h, e), λ e. grind (arith, nat_tests, h, e))

module _ (d : ℕ) where
  unit-pass : (p : List ℕ) (u : ℕ) → IsUnit p u → Passes (in_string d) p (in_string d)
  unit-pass p u h =
      let digits : AreInString (h.a ∷ h.b ∷ h.c ∷ h.d ∷ []) =
      (hex-inside h.a h.digits.0, (hex-inside h.b h.digits.1, (hex-inside h.c h.digits.2, (hex-inside h.d h.digits.3, tt)))) in
      subst (λ w. Passes (in_string d) w (in_string d)) (sym h.is)
      (refl, (refl, string-pass d (h.a ∷ h.b ∷ h.c ∷ h.d ∷ []) digits))

  piece-pass : (p : List ℕ) (c : ℕ) → IsPiece p c → Passes (in_string d) p (in_string d)
  piece-pass p c (inl plain) = string-pass d p (plain-inside p c plain)
  piece-pass p c (inr (inl short)) =
      subst (λ w. Passes (in_string d) w (in_string d)) (sym short.is) (refl, (refl, refl))
  piece-pass p c (inr (inr (inl unit))) = unit-pass p c unit.0
  piece-pass p c (inr (inr (inr pair))) =
      subst (λ w. Passes (in_string d) w (in_string d)) (sym pair.is)
      (passes-append (in_string d) (in_string d) (in_string d) pair.prefix pair.back
      (unit-pass pair.prefix pair.high pair.first) (unit-pass pair.back pair.low pair.second))

  module _ (t : List ℕ) where
    -- a string's pieces, and the string
    pieces-lead : (ps : List Piece) (i e : ℕ) → SpellsPieces t i ps e → Leads t i (in_string d) e (in_string d)
    pieces-lead [] i e h = record { bytes = []; stands = h; passes = refl }
    pieces-lead (p ∷ ps) i e h =
        let here : Leads t i (in_string d) p.end (in_string d) = record {
          bytes = h.0.bytes;
          stands = h.0.stands;
          passes = piece-pass h.0.bytes p.character h.0.piece;
        } in
        leads-on t i p.end e (in_string d) (in_string d) (in_string d) here (pieces-lead ps p.end e h.1)

    pub string-leads : (i e : ℕ) (ps : List Piece) → SpellsString t i ps e → Leads t i (outside d) e (outside d)
    string-leads i e ps h =
        let first = byte-leads t i 34 (i + 1) (outside d) (in_string d) h.opens refl (grind (arith, nat_tests)) refl in
        let last = byte-leads t h.close 34 e (in_string d) (outside d) h.closes h.ends refl refl in
        leads-on t i (i + 1) e (outside d) (in_string d) (outside d) first
        (leads-on t (i + 1) h.close e (in_string d) (in_string d) (outside d) (pieces-lead ps (i + 1) h.close h.spelled) last)
