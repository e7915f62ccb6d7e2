-- The laws of reading a string that the layers above rest on.
use Rattle.jiter_steps.proofs.Words.{◌≡◌, ◌≢◌, ℕ, ◌+◌, ◌-◌, ◌<◌, ◌≤◌, Bool, List, length, drop, refl, sym, ap, ◌∙◌}
use Rattle.jiter_steps.proofs.Words.{subst, arith, slice_get, Option, Some, None, ◌==◌, chars, utf8_valid_len}
use Rattle.jiter_steps.proofs.Words.{utf8_error_len, slice_get_within, Kind, eof_string, invalid_code_point, taken}
use Rattle.jiter_steps.proofs.Words.{failed, ScalarWithin, Text, Piece, SpellsString, characters, text_of}
use Rattle.jiter_steps.proofs.Words.{has_backslash, text_at, Stop, unclosed, cut, wrong, body_at, Form, whole, kept}
use Rattle.jiter_steps.proofs.Words.{raw, raw_kept, valid_prefix_by, valid_prefix, between, text_in_form, content_at}
use Rattle.jiter_steps.proofs.Words.{string_at, if_case, chars-encodes, utf8_valid_len_le}
use Rattle.jiter_steps.specs.StringReading.{closed}
use Rattle.jiter_steps.proofs.Reading.Bounds.{fault-end, fault-byte}
use Rattle.jiter_steps.proofs.Grammar.NodeRules.{pieces_from}
use Rattle.jiter_steps.proofs.Grammar.Places.{pieces-ahead}
use Rattle.jiter_steps.proofs.Reading.Bodies.{StopWithin, body_at-within, body_at-long}
use Rattle.jiter_steps.proofs.Grammar.StringComplete.{string-complete, pieces-read}
use Rattle.jiter_steps.proofs.Grammar.StringSound.{string-sound, closed-text, pieces-unique}
use Rattle.jiter_steps.proofs.Reading.StringForms.{content-kept, content-raw}
use Rattle.jiter_steps.proofs.Grammar.StringMarks.{EndOf, mark-is}

-- ---- how far reading gets
-- each way that a string whose quote is at i can end
module _ (t : List ℕ) (i : ℕ) (inside : i < length t) where
  end-within : ScalarWithin {A = Text} t i (failed eof_string (length t))
  end-within = (omega arith, fault-end t eof_string (length t) (λ m. cc) refl)

  code-within : (n : ℕ) → i + 1 + n ≤ length t → ScalarWithin {A = Text} t i (failed invalid_code_point (i + 1 + n))
  code-within n h = (omega arith, fault-byte t invalid_code_point (i + 1 + n) (λ m. cc) refl h)

  kept-within : (o : Bool) (bs : List ℕ) (e : ℕ) → i + 1 + length bs ≤ length t → i < e → e ≤ length t
      → ScalarWithin t i (valid_prefix (i + 1) o bs e)
  kept-within o bs e h l m = by (utf8_error_len (drop (utf8_valid_len bs) bs)) where
    by : (x : Option ℕ) → ScalarWithin t i (valid_prefix_by (i + 1) o bs e x)
    by None = (l, m)
    by (Some n) = code-within (utf8_valid_len bs) (omega (arith, utf8_valid_len_le bs))

  text_in_form-within : (form : Form) (bs : List ℕ) (o : Bool) (s : Stop) → i + 1 + length bs ≤ length t
      → StopWithin t (i + 1) s → ScalarWithin t i (text_in_form form t (i + 1) bs o s)
  text_in_form-within form bs o (wrong k j) h w =
      (omega (arith, w.0), fault-byte t k j (grind (arith, w.2)) (grind (arith, w.2)) (omega (arith, w.1)))
  text_in_form-within whole bs o (closed e) h w =
      if_case (ScalarWithin t i) (utf8_valid_len bs == length bs) _ _ (λ q. ((omega (arith, w.0)), w.1))
      (λ q. code-within (utf8_valid_len bs) (omega (arith, utf8_valid_len_le bs)))
  text_in_form-within kept bs o (closed e) h w = kept-within o bs e h (omega (arith, w.0)) w.1
  text_in_form-within form bs o (closed e) h w = (omega (arith, w.0), w.1)
  text_in_form-within kept bs o unclosed h w = kept-within o bs (length t) h inside (omega arith)
  text_in_form-within raw_kept bs o unclosed h w = (inside, omega arith)
  text_in_form-within form bs o unclosed h w = end-within
  text_in_form-within kept bs o cut h w = kept-within o bs (length t) h inside (omega arith)
  text_in_form-within form bs o cut h w = end-within

-- a string ends after its begin; an error is in the text, or at its end
pub string_at-within : (form : Form) (t : List ℕ) (i : ℕ) → i < length t → ScalarWithin t i (string_at form t i)
unfolding content_at
string_at-within form t i h =
    let b = body_at t (i + 1) in text_in_form-within t i h form b.bytes b.owned b.stop
    (body_at-long t (i + 1) (omega arith)) (body_at-within t (i + 1))

-- ---- the grammar
-- where a string lies
pub string-ordered : (t : List ℕ) (i e : ℕ) (ps : List Piece) → SpellsString t i ps e
    → (i < e) × (e ≤ length t) × (slice_get t i ≡ Some 34)
string-ordered t i e ps s =
    let ahead = pieces-ahead t ps (i + 1) s.close s.spelled in
    let inside = slice_get_within t s.close 34 s.closes in
    (omega (arith, s.ends), omega (arith, s.ends), s.opens)

-- the same with the place that reading stops at
taken-mark : (t : List ℕ) (i e : ℕ) (x : Text) → slice_get t i ≡ Some 34 → string_at whole t i ≡ taken x e
    → x.owned ≡ has_backslash t i e
unfolding content_at
taken-mark t i e x q h =
    let b = body_at t (i + 1) in
    let c = closed-text t (i + 1) b.bytes b.owned b.stop x e h in
    let stop : StopWithin t (i + 1) (closed e) = subst (StopWithin t (i + 1)) c.1 (body_at-within t (i + 1)) in
    ap (λ (y : Text). y.owned) c.0 ∙ mark-is t i e q stop.1 (subst (λ s. EndOf t s e) (sym c.1) refl)

-- what is spelled is read, with its mark
pub string_at-complete : (t : List ℕ) (i e : ℕ) (ps : List Piece) → SpellsString t i ps e
    → string_at whole t i ≡ taken (text_at t ps i e) e
string_at-complete t i e ps s =
    let r = string-complete t i e ps s in
    let mark : r.0 ≡ has_backslash t i e = taken-mark t i e (record { owned = r.0; bytes = text_of ps }) s.opens r.1 in
    r.1 ∙ ap (λ (o : Bool). taken (record { owned = o; bytes = text_of ps }) e) mark

-- what is read is spelled, with its mark
pub string_at-sound : (t : List ℕ) (i e : ℕ) (x : Text) → slice_get t i ≡ Some 34 → string_at whole t i ≡ taken x e
    → SpellsString t i (pieces_from t (i + 1) (chars x.bytes)) e
    × (x ≡ text_at t (pieces_from t (i + 1) (chars x.bytes)) i e)
string_at-sound t i e x q h =
    let r = string-sound t i e x q h in
    (r.0, (λ k. record { owned = taken-mark t i e x q h k; bytes = r.1 k }))

-- the pieces come back from the text that they spell
pub pieces-again : (t : List ℕ) (i e : ℕ) (ps : List Piece) → SpellsString t i ps e
    → pieces_from t (i + 1) (chars (text_of ps)) ≡ ps
pieces-again t i e ps s =
    let r = pieces-read t (i + 1) s.close ps s.spelled s.closes in
    ap (pieces_from t (i + 1)) (chars-encodes (characters ps) r.2) ∙ sym (pieces-unique t ps (i + 1) s.close s.spelled)

-- ---- between the quotes
-- what is read whole is read raw, with the same end
pub raw-whole : (t : List ℕ) (i e : ℕ) (x : Text) → string_at whole t i ≡ taken x e
    → string_at raw t i ≡ taken (between t (i + 1) (e - 1)) e
raw-whole t i e x h = (content-kept t (i + 1) x e h).1

-- and kept too
pub kept-whole : (t : List ℕ) (i e : ℕ) (x : Text) → string_at whole t i ≡ taken x e → string_at kept t i ≡ taken x e
kept-whole t i e x h = (content-kept t (i + 1) x e h).0

-- an error other than that of UTF-8 is one of raw reading
pub raw-whole-fault : (t : List ℕ) (i : ℕ) (k : Kind) (j : ℕ) → k ≢ invalid_code_point
    → string_at whole t i ≡ failed k j → string_at raw t i ≡ failed k j
raw-whole-fault t i k j ne h = content-raw t (i + 1) k j ne h
