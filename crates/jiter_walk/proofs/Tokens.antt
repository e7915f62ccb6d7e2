-- The token of a key, a character at a time.
use Rattle.std.proofs.Common.{◌≡◌, ◌∙◌, ◌⊎◌, inl, inr, ℕ, ◌<◌, ◌≤◌, List, [], ◌∷◌, ◌++◌, ap, append-nil, arith, codes}
use Rattle.std.proofs.Common.{ne_eqb, refl, sym}
use Rattle.std.proofs.lemmas.Bool.{cases_lt}
use Rattle.std.proofs.lemmas.List.Concat.{flat_map-append}
use Rattle.std.proofs.lemmas.Str.{encode_ascii, encodes-append}
use Rattle.std.specs.Prelude.{encode_utf8, encode_utf8_all}
use Rattle.jiter_scan.proofs.Tapes.{encode-four, encode-three, encode-two}
use Rattle.jiter_value.specs.Pointer.{token_byte, token_of}

byte-kept : (b : ℕ) → (b ≡ 126 → ⊥) → (b ≡ 47 → ⊥) → token_byte b ≡ b ∷ []
byte-kept b tilde slash =
    let first = ne_eqb b 126 tilde in let second = ne_eqb b 47 slash in rw first (rw second refl)

-- bytes of characters that are no ASCII
abbrev High : List ℕ → Type 0
High [] = Unit {0}
High (b ∷ bs) = (128 ≤ b) × High bs

high-kept : (bs : List ℕ) → High bs → token_of bs ≡ bs
high-kept [] h = refl
high-kept (b ∷ bs) h =
    ap (λ x. x ++ token_of bs) (byte-kept b (λ is. omega (arith, is, h.0)) (λ is. omega (arith, is, h.0)))
    ∙ ap (λ x. b ∷ x) (high-kept bs h.1)

wide-kept : (c : ℕ) → 128 ≤ c → token_of (encode_utf8 c) ≡ encode_utf8 c
wide-kept c wide = by (cases_lt c 2048) (cases_lt c 65536) where
  by : (c < 2048) ⊎ (2048 ≤ c) → (c < 65536) ⊎ (65536 ≤ c) → token_of (encode_utf8 c) ≡ encode_utf8 c
  by (inl two) o =
      let is = encode-two c wide two in
      ap token_of is ∙ high-kept _ (omega arith, (omega arith, tt)) ∙ sym is
  by (inr three) (inl more) =
      let is = encode-three c three more in
      ap token_of is ∙ high-kept _ (omega arith, (omega arith, (omega arith, tt))) ∙ sym is
  by (inr three) (inr four) =
      let is = encode-four c four in
      ap token_of is ∙ high-kept _ (omega arith, (omega arith, (omega arith, (omega arith, tt)))) ∙ sym is

pub tilde-token : token_of (encode_utf8 126) ≡ codes "~0"
tilde-token = ap token_of (encode_ascii 126 (omega arith))

pub slash-token : token_of (encode_utf8 47) ≡ codes "~1"
slash-token = ap token_of (encode_ascii 47 (omega arith))

pub other-token : (c : ℕ) → (c ≡ 126 → ⊥) → (c ≡ 47 → ⊥) → token_of (encode_utf8 c) ≡ encode_utf8 c
other-token c tilde slash = by (cases_lt c 128) where
  by : (c < 128) ⊎ (128 ≤ c) → token_of (encode_utf8 c) ≡ encode_utf8 c
  by (inl low) =
      let is = encode_ascii c low in
      ap token_of is ∙ ap (λ x. x ++ []) (byte-kept c tilde slash) ∙ sym is
  by (inr wide) = wide-kept c wide

-- one character more
pub token-more : (done : List ℕ) (c : ℕ) (bytes new token : List ℕ) → bytes ≡ 47 ∷ token_of (encode_utf8_all done)
    → token_of (encode_utf8 c) ≡ token → new ≡ bytes ++ token → new ≡ 47 ∷ token_of (encode_utf8_all (done ++ c ∷ []))
token-more done c bytes new token so_far is pushed =
    pushed ∙ ap (λ b. b ++ token) so_far ∙ ap (λ x. 47 ∷ (token_of (encode_utf8_all done) ++ x)) (sym is)
    ∙ ap (λ x. 47 ∷ x) (sym (flat_map-append token_byte (encode_utf8_all done) (encode_utf8 c)))
    ∙ ap (λ x. 47 ∷ token_of x) (sym (encodes-append done (c ∷ [])
    ∙ ap (λ x. encode_utf8_all done ++ x) (append-nil (encode_utf8 c))))
