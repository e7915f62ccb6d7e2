-- How the four forms relate to one another.
use Rattle.jiter_steps.proofs.Words.{◌≡◌, ◌≢◌, ℕ, ◌-◌, Bool, List, length, sym, ap, ◌∙◌, arith, ◌==◌, utf8_valid_len}
use Rattle.jiter_steps.proofs.Words.{utf8_error_len, eqb-true, take_all, Kind, invalid_code_point, taken, failed}
use Rattle.jiter_steps.proofs.Words.{if_gives, failed-taken, same_taken, Text, Stop, body_at, whole, kept, raw}
use Rattle.jiter_steps.proofs.Words.{valid_prefix, between, text_in_form, content_at, drop_all}
use Rattle.jiter_steps.specs.StringReading.{closed}

pub kept-valid : (i e : ℕ) (o : Bool) (bs : List ℕ) → utf8_valid_len bs ≡ length bs
    → valid_prefix i o bs e ≡ taken (record { owned = o; bytes = bs }) e
unfolding utf8_error_len
kept-valid i e o bs h =
    rw (drop_all (utf8_valid_len bs) bs (omega arith), take_all (utf8_valid_len bs) bs (omega arith))

module _ (t : List ℕ) (i : ℕ) where
  -- what is read whole is kept
  whole-kept : (bs : List ℕ) (o : Bool) (s : Stop) (x : Text) (e : ℕ) → text_in_form whole t i bs o s ≡ taken x e
      → (text_in_form kept t i bs o s ≡ taken x e) × (text_in_form raw t i bs o s ≡ taken (between t i (e - 1)) e)
  whole-kept bs o (closed f) x e h =
      if_gives (utf8_valid_len bs == length bs) _ _ (taken x e) h
      (λ is z.
      (kept-valid i f o bs (eqb-true _ _ is) ∙ z, ap (λ n. taken (between t i (n - 1)) n) (same_taken _ x f e z).1))
      (λ is z. absurd (failed-taken _ _ x e z))
  whole-kept bs o s x e h = absurd (cc)

  pub content-kept : (x : Text) (e : ℕ) → content_at whole t i ≡ taken x e
      → (content_at kept t i ≡ taken x e) × (content_at raw t i ≡ taken (between t i (e - 1)) e)
  unfolding content_at
  content-kept x e h = whole-kept (body_at t i).bytes (body_at t i).owned (body_at t i).stop x e h

  whole-raw : (bs : List ℕ) (o : Bool) (s : Stop) (k : Kind) (j : ℕ) → k ≢ invalid_code_point
      → text_in_form whole t i bs o s ≡ failed k j → text_in_form raw t i bs o s ≡ failed k j
  whole-raw bs o (closed f) x e ne h =
      if_gives (utf8_valid_len bs == length bs) _ _ (failed x e) h (λ is z. absurd (failed-taken x e _ f (sym z)))
      (λ is z. let kind : invalid_code_point ≡ x = cc in absurd (ne (sym kind)))
  whole-raw bs o s x e ne h = h

  -- an error other than that of UTF-8 is one of raw reading too
  pub content-raw : (k : Kind) (j : ℕ) → k ≢ invalid_code_point → content_at whole t i ≡ failed k j
      → content_at raw t i ≡ failed k j
  unfolding content_at
  content-raw k j ne h = whole-raw (body_at t i).bytes (body_at t i).owned (body_at t i).stop k j ne h
