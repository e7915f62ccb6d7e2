-- Bytes at which no item ends: what they leave of the pieces.
use Rattle.std.proofs.Common.{◌≡◌, ◌≢◌, ℕ, ◌+◌, false, List, [], ◌∷◌, ◌++◌}
use Rattle.std.proofs.Common.{refl, sym, ap, ◌∙◌, subst, arith}
use Rattle.std.proofs.lemmas.Bool.{ne_eqb}
use Rattle.std.proofs.lemmas.Bool.Decides.{nat_tests}
use Rattle.std.specs.Prelude.{slice_get, slice_range, Some, drop}
use Rattle.std.proofs.lemmas.List.{drop_more}
use Rattle.std.proofs.lemmas.Option.{slice_get_within, get_or_from_slice_get}
use Rattle.jiter_scan.specs.Stands.{Stands}
use Rattle.jiter_scan.proofs.Standing.{stands-append, slice-stands}
use Rattle.json_lines.specs.Items.{Place, outside, in_string, place_after, ends_item, Pieces, with_byte, pieces}

-- no item ends in these bytes, which lead from one place to another
abbrev pub Passes : Place → List ℕ → Place → Type 0
Passes p [] q = p ≡ q
Passes p (b ∷ w) q = (ends_item p b ≡ false) × Passes (place_after p b) w q

-- with these bytes before the first
abbrev pub with_bytes : List ℕ → Pieces → Pieces
with_bytes [] x = x
with_bytes (b ∷ w) x = with_byte b (with_bytes w x)

pub passes-append : (p q r : Place) (u v : List ℕ) → Passes p u q → Passes q v r → Passes p (u ++ v) r
passes-append p q r [] v h g = subst (λ x. Passes x v r) (sym h) g
passes-append p q r (b ∷ u) v h g = (h.0, passes-append (place_after p b) q r u v h.1 g)

-- what follows such bytes is cut as it is from that place on
pub pieces-pass : (p q : Place) (w rest : List ℕ) → Passes p w q → pieces p (w ++ rest) ≡ with_bytes w (pieces q rest)
pieces-pass p q [] rest h = ap (λ x. pieces x rest) h
pieces-pass p q (b ∷ w) rest h = rw h.0 (ap (with_byte b) (pieces-pass (place_after p b) q w rest h.1))

-- a byte that is no quote, comma or bracket
pub record IsQuiet (b : ℕ) : Type 0 where
  pub no_quote : b ≢ 34
  pub no_comma : b ≢ 44
  pub no_bracket : (b ≢ 91) × (b ≢ 93)
  pub no_brace : (b ≢ 123) × (b ≢ 125)

pub quiet-passes : (d b : ℕ) → IsQuiet b → (ends_item (outside d) b ≡ false) × (place_after (outside d) b ≡ outside d)
quiet-passes d b h = (
  grind (arith, nat_tests, h),
  rw (
    ne_eqb b 34 h.no_quote,
    ne_eqb b 91 h.no_bracket.0,
    ne_eqb b 93 h.no_bracket.1,
    ne_eqb b 123 h.no_brace.0,
    ne_eqb b 125 h.no_brace.1,
  ) refl,
)

-- a byte that neither ends a string nor begins an escape
abbrev pub AreInString : List ℕ → Type 0
AreInString [] = Unit {0}
AreInString (b ∷ w) = ((b ≢ 34) × (b ≢ 92)) × AreInString w

inside-stays : (d b : ℕ) → (b ≢ 34) × (b ≢ 92) → place_after (in_string d) b ≡ in_string d
inside-stays d b h = rw (ne_eqb b 34 h.0, ne_eqb b 92 h.1) refl

-- such bytes lead from a place outside strings to itself
abbrev pub AreQuiet : List ℕ → Type 0
AreQuiet [] = Unit {0}
AreQuiet (b ∷ w) = IsQuiet b × AreQuiet w

pub quiet-pass : (d : ℕ) (w : List ℕ) → AreQuiet w → Passes (outside d) w (outside d)
quiet-pass d [] h = refl
quiet-pass d (b ∷ w) h =
    let here = quiet-passes d b h.0 in
    (here.0, subst (λ p. Passes p w (outside d)) (sym here.1) (quiet-pass d w h.1))

-- in a string, a byte that is neither quote nor backslash
pub string-pass : (d : ℕ) (w : List ℕ) → AreInString w → Passes (in_string d) w (in_string d)
string-pass d [] h = refl
string-pass d (b ∷ w) h =
    (refl, subst (λ p. Passes p w (in_string d)) (sym (inside-stays d b h.0)) (string-pass d w h.1))

-- from i to before j a text has bytes in which no item ends, and which lead from one place to another
pub record Leads (t : List ℕ) (i : ℕ) (p : Place) (j : ℕ) (q : Place) : Type 0 where
  pub bytes : List ℕ
  pub stands : Stands t i j bytes
  pub passes : Passes p bytes q

module _ (t : List ℕ) where
  pub leads-on : (i j k : ℕ) (p q r : Place) → Leads t i p j q → Leads t j q k r → Leads t i p k r
  leads-on i j k p q r h g = record {
    bytes = h.bytes ++ g.bytes;
    stands = stands-append t i j k h.bytes g.bytes h.stands g.stands;
    passes = passes-append p q r h.bytes g.bytes h.passes g.passes;
  }

  pub byte-leads : (i c e : ℕ) (p q : Place) → slice_get t i ≡ Some c → e ≡ i + 1 → ends_item p c ≡ false → place_after p c ≡ q
      → Leads t i p e q
  byte-leads i c e p q here ends inside to = record { bytes = c ∷ []; stands = (here, sym ends); passes = (inside, to) }

  pub next-drop : (i c : ℕ) → slice_get t i ≡ Some c → drop i t ≡ c ∷ drop (i + 1) t
  next-drop i c here =
      drop_more t i 0 (slice_get_within t i c here)
      ∙ ap (λ x. x ∷ drop (i + 1) t) (get_or_from_slice_get t i c 0 here)

  pub stands-drop : (i j : ℕ) (w : List ℕ) → Stands t i j w → drop i t ≡ w ++ drop j t
  stands-drop i j [] h = ap (λ k. drop k t) h
  stands-drop i j (c ∷ w) h = next-drop i c h.0 ∙ ap (λ l. c ∷ l) (stands-drop (i + 1) j w h.1)

  -- such bytes are those of the range
  pub leads-range : (i j : ℕ) (p q : Place) → Leads t i p j q → Passes p (slice_range t i j) q
  leads-range i j p q h = subst (λ w. Passes p w q) (slice-stands t i j h.bytes h.stands) h.passes

  -- The rest of a text is cut as what follows those bytes is.
  pub rest-cut : (i j : ℕ) (p q : Place) (w : List ℕ) → Stands t i j w → Passes p w q
      → pieces p (drop i t) ≡ with_bytes w (pieces q (drop j t))
  rest-cut i j p q w stands passes = ap (pieces p) (stands-drop i j w stands) ∙ pieces-pass p q w (drop j t) passes
