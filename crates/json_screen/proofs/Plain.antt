-- The rows of an input are line feeds and bytes that are no controls.
use Rattle.std.proofs.Common.{◌≡◌, refl, sym, subst, ℕ, zero, suc, ◌+◌, ◌/◌, ◌%◌, ◌<◌, ◌≤◌, Bool, true, false, List, [], ◌∷◌}
use Rattle.std.proofs.Common.{◌⊎◌, arith, drop, inl, inr, take, ⊎_elim}
use Rattle.std.specs.Prelude.{◌==◌, chars, if◌then◌else◌, nat_lt}
use Rattle.std.specs.Char.{encode_utf8}
use Rattle.std.specs.Fmt.{digit_glyph}
use Rattle.std.specs.List.{fold}
use Rattle.std.specs.Str.Lossy.{utf8_lossy}
use Rattle.std.proofs.lemmas.Bool.{cases_order}
use Rattle.std.proofs.lemmas.Bool.Decides.{nat_tests}
use Rattle.std.proofs.lemmas.Fmt.{hex_byte}
use Rattle.jiter_scan.proofs.Tapes.{encode-four, encode-three, encode-two}
use Rattle.jiter_steps.proofs.Calls.DecodeSteps.{encode-sign}
use Rattle.jiter.specs.Caller.{Reading, done, fault, Tree, answer_in}
use Rattle.jiter_print.specs.Layout.{pretty_of}
use Rattle.json_screen.specs.Parts.{parts_of}
use Rattle.json_screen.specs.Rows.{columns_of, dim_on, empty_row, escape_of, fill, Filled, is_hidden, mark, new_row, open_place}
use Rattle.json_screen.specs.Rows.{put_bytes, put_char, put_reading, put_value, rows_of, shown_char}
use Rattle.json_screen.specs.Rows.{two_digits}
use Rattle.json_screen.specs.Terminal.{is_plain, IsPlain}
use Rattle.json_screen.specs.declared.input.Options.{Options}
use Rattle.json_screen.proofs.Drawing.{plain-both}

-- ---- either side of a bound
pub below_or_not : (m n : ℕ) → (m < n) ⊎ (n ≤ m)
below_or_not m n = by (cases_order m n) where
  by : (m ≡ n) ⊎ ((m < n) ⊎ (n < m)) → (m < n) ⊎ (n ≤ m)
  by (inl e) = inr (omega (arith, e))
  by (inr (inl l)) = inl l
  by (inr (inr g)) = inr (omega (arith, g))

-- ---- the bytes of a character
not-hidden : (c : ℕ) → is_hidden c ≡ false → 32 ≤ c
not-hidden c h = grind (arith, nat_tests)

hidden-below : (c : ℕ) → is_hidden c ≡ true → c < 65536
hidden-below c h = grind (arith, nat_tests)

plain-byte : (b : ℕ) → 32 ≤ b → is_plain b ≡ true
plain-byte b h = grind (arith, nat_tests)

plain-character : (c : ℕ) → 32 ≤ c → IsPlain (encode_utf8 c)
plain-character c l =
    ⊎_elim (λ one. subst IsPlain (encode-sign c one) (plain-byte c l, tt)) (λ two.
    ⊎_elim (λ one. subst IsPlain (sym (encode-two c two one))
    (plain-byte (192 + c / 64) (omega arith), (plain-byte (128 + c % 64) (omega arith), tt))) (λ three.
    ⊎_elim (λ one. subst IsPlain (sym (encode-three c three one)) (
      plain-byte (224 + c / 4096) (omega arith),
      (plain-byte (128 + c / 64 % 64) (omega arith), (plain-byte (128 + c % 64) (omega arith), tt)),
    )) (λ four.
    subst IsPlain (sym (encode-four c four)) (
      plain-byte (240 + c / 262144) (omega arith),
      (
        plain-byte (128 + c / 4096 % 64) (omega arith),
        (
          plain-byte (128 + c / 64 % 64) (omega arith),
          (plain-byte (128 + c % 64) (omega arith), tt),
        ),
      ),
    ))
    (below_or_not c 65536)) (below_or_not c 2048)) (below_or_not c 128)

plain-glyph : (d : ℕ) → is_plain (digit_glyph false d) ≡ true
plain-glyph d = by (nat_lt d 10) where
  by : (b : Bool) → is_plain (if b then 48 + d else 87 + d) ≡ true
  by true = plain-byte (48 + d) (omega arith)
  by false = plain-byte (87 + d) (omega arith)

plain-digits : (n : ℕ) → n < 256 → IsPlain (two_digits n)
plain-digits n h = subst IsPlain (sym (hex_byte false n h)) (plain-glyph (n / 16), (plain-glyph (n % 16), tt))

plain-escape : (c : ℕ) → c < 65536 → IsPlain (escape_of c)
plain-escape c h = (
  refl,
  (
    refl,
    plain-both (two_digits (c / 256)) (two_digits (c % 256))
        (plain-digits (c / 256) (omega arith)) (plain-digits (c % 256) (omega arith)),
  ),
)

plain-shown : (c : ℕ) → IsPlain (shown_char c)
plain-shown c = by (is_hidden c) refl where
  by : (b : Bool) → is_hidden c ≡ b → IsPlain (if b then escape_of c else encode_utf8 c)
  by true e = plain-escape c (hidden-below c e)
  by false e = plain-character c (not-hidden c e)

abbrev Plain : Filled → Type 0
Plain r = IsPlain r.text

either : (b : Bool) (x y : Filled) → Plain x → Plain y → Plain (if b then x else y)
either true x y p q = p
either false x y p q = q

plain-row : (width : ℕ) (r : Filled) → Plain r → Plain (new_row width r)
plain-row width r p = plain-both r.text (10 ∷ []) p (refl, tt)

plain-fill : (r : Filled) (c : ℕ) → Plain r → Plain (fill r c)
plain-fill r c p = plain-both r.text (shown_char c) p (plain-shown c)

plain-put : (width : ℕ) (r : Filled) (c : ℕ) → Plain r → Plain (put_char width r c)
plain-put width r c p =
    let full = nat_lt r.left (columns_of c) in
    let last = if full then fill (new_row width r) c else fill r c in
    let fills = either full (fill (new_row width r) c) (fill r c) (plain-fill (new_row width r) c (plain-row width r p))
    (plain-fill r c p) in
    either (c == 10) (new_row width r) (if c == 13 then r else last) (plain-row width r p) (either (c == 13) r last p fills)

plain-puts : (width : ℕ) (r : Filled) (cs : List ℕ) → Plain r → Plain (fold (put_char width) r cs)
plain-puts width r [] p = p
plain-puts width r (c ∷ cs) p = plain-puts width (put_char width r c) cs (plain-put width r c p)

plain-bytes : (width : ℕ) (r : Filled) (bs : List ℕ) → Plain r → Plain (put_bytes width r bs)
plain-bytes width r bs p = plain-puts width r (chars (utf8_lossy bs)) p

plain-value : (width depth : ℕ) (r : Filled) (t : List ℕ) → Plain r → Plain (put_value width depth r t)
plain-value width zero r t p = plain-bytes width r t p
plain-value width (suc depth) r t p =
    let place = open_place (suc depth) t in
    let head = put_bytes width r (take place t) in
    plain-bytes width (put_bytes width (dim_on head) mark) (drop place t)
    (plain-bytes width (dim_on head) mark (plain-bytes width r (take place t) p))

plain-reading : (width depth : ℕ) (r : Filled) (t : List ℕ) (x : Reading Tree) → Plain r
    → Plain (put_reading width depth r t x)
plain-reading width depth r t (done v e) p = plain-value width depth r (pretty_of 2 v) p
plain-reading width depth r t (fault k i stop) p = plain-bytes width r t p

pub plain-rows : (options : Options) (width : ℕ) (t : List ℕ) → IsPlain (rows_of options width t).text
plain-rows options width t =
    let p = parts_of t in
    let before = put_bytes width (empty_row width) p.before in
    let value = put_reading width p.span.depth before p.inside (answer_in options.inf_nan options.mode p.inside) in
    let all = put_bytes width value p.after in
    let plain = plain-bytes width value p.after
    (plain-reading width p.span.depth before p.inside (answer_in options.inf_nan options.mode p.inside)
    (plain-bytes width (empty_row width) p.before tt)) in
    either (nat_lt all.left width) (new_row width all) all (plain-row width all plain) plain
