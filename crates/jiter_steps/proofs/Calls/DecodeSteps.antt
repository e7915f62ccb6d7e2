-- Steps of the decoder: a run of plain bytes, and the escape after it.
use Rattle.jiter_steps.proofs.Words.{◌≡◌, ℕ, ◌+◌, ◌<◌, ◌≤◌, true, false, List, ◌++◌, length, sym, arith, append_assoc}
use Rattle.jiter_steps.proofs.Words.{◌≢◌, ◌-◌, Bool, subst, append-nil, ◌&&◌, ◌∙◌, refl, ap, [], ◌∷◌, take, slice_get}
use Rattle.jiter_steps.proofs.Words.{slice_range, Some, IsTrue, nat_lt, AllPass, IsUtf8, IsUtf8-append, IsUtf8-encode}
use Rattle.jiter_steps.proofs.Words.{nat_tests, scan_stop, is_ascii, is_plain, run_end-ahead, run_end-within, part}
use Rattle.jiter_steps.proofs.Words.{over, event_at, Stop, body_at, number, hex_digits_at, ne_eqb, lt-ltb, false≢true}
use Rattle.jiter_steps.proofs.Words.{if-true, encode_utf8, IsScalar, short_escape, is_high, is_low, IsAsciiTo}
use Rattle.jiter_steps.proofs.Grammar.Places.{event_at-explains, Explains}
use Rattle.jiter_steps.proofs.Reading.Bodies.{body_at-event_by, part-ahead}
use Rattle.jiter_steps.proofs.Calls.PlainRuns.{plain_run_prefix}
use Rattle.jiter_steps.proofs.Calls.FastAnswers.{plain-utf8}

-- Escapes that one look shows to be whole, and no pair.
module _ (t : List ℕ) (i : ℕ) (backslash : slice_get t i ≡ Some 92) where
  pub decode-unit : (u : ℕ) → slice_get t (i + 1) ≡ Some 117 → hex_digits_at t (i + 2) ≡ number u → IsScalar u
      → event_at t i ≡ part (encode_utf8 u) true (i + 6)
  unfolding event_at
  decode-unit u letter digits scalar =
      let at : i + 1 + 1 ≡ i + 2 = omega arith in
      let end : i + 2 + 4 ≡ i + 6 = omega arith in
      let no_high : is_high u ≡ false = grind (arith, nat_tests, scalar) in
      let no_low : is_low u ≡ false = grind (arith, nat_tests, scalar) in
      rw (backslash, letter, at, digits, no_high, no_low, end)

  pub decode-letter : (b c : ℕ) → slice_get t (i + 1) ≡ Some b → b ≢ 117 → short_escape b ≡ Some c
      → event_at t i ≡ part (encode_utf8 c) true (i + 2)
  unfolding event_at
  decode-letter b c letter other sign =
      let end : i + 1 + 1 ≡ i + 2 = omega arith in
      rw (backslash, letter, ne_eqb b 117 other, sign, end)

-- of these bytes, which end so, those up to a place are in the buffer, and the rest is read from there
abbrev pub Decoded : List ℕ → List ℕ → Stop → List ℕ → ℕ → Type 0
Decoded t whole s buffer at = (whole ≡ buffer ++ (body_at t at).bytes) × (s ≡ (body_at t at).stop)

module _ (t whole : List ℕ) (s : Stop) (buffer : List ℕ) (at : ℕ) (so_far : Decoded t whole s buffer at) where
  -- so many plain bytes are added
  pub decode-run : (next : List ℕ) (n : ℕ) → at ≤ length t → at + n ≤ scan_stop t at
      → next ≡ buffer ++ slice_range t at (at + n) → Decoded t whole s next (at + n)
  decode-run next n within run added =
      let b = plain_run_prefix t at n within run in
      (rw (so_far.0, b, added, append_assoc), rw (so_far.1, b))

  -- an escape
  pub decode-more : (later bs : List ℕ) (end : ℕ) → part bs true end ≡ event_at t at → later ≡ buffer ++ bs
      → Decoded t whole s later end × (at < end) × (end ≤ length t)
  decode-more later bs end f added =
      let b = body_at-event_by t at (part bs true end) (sym f) in
      let ahead = part-ahead t at end bs true (subst (Explains t at) (sym f) (event_at-explains t at)) in
      ((rw (so_far.0, b, added, append_assoc), rw (so_far.1, b)), ahead.0, ahead.1)

  -- or the string is over
  pub decode-over : (x : Stop) → over x ≡ event_at t at → (buffer ≡ whole) × (x ≡ s)
  decode-over x f =
      let b = body_at-event_by t at (over x) (sym f) in (rw (so_far.0, b, append-nil), rw (so_far.1, b))

-- What is known to be UTF-8 stays so, where plain bytes below 80 hex are added.
pub known-run : (known low now : Bool) (buffer run next : List ℕ) → (IsTrue known → IsUtf8 buffer)
    → (IsTrue low → AllPass is_ascii run) → now ≡ (known && low) → next ≡ buffer ++ run → IsTrue now → IsUtf8 next
known-run true true now buffer run next k l both added h =
    subst IsUtf8 (sym added) (IsUtf8-append buffer run (k refl) (plain-utf8 run (l refl)))
known-run true false now buffer run next k l both added h = absurd (false≢true (sym both ∙ h))
known-run false low now buffer run next k l both added h = absurd (false≢true (sym both ∙ h))

-- and the character of an escape
pub known-escape : (t buffer later bs : List ℕ) (at end : ℕ) → IsUtf8 buffer → part bs true end ≡ event_at t at
    → later ≡ buffer ++ bs → IsUtf8 later
known-escape t buffer later bs at end u f added =
    let e = subst (Explains t at) (sym f) (event_at-explains t at) in
    let utf8 : IsUtf8 bs = subst IsUtf8 (sym e.is) (IsUtf8-encode e.character e.scalar) in
    subst IsUtf8 (sym added) (IsUtf8-append buffer bs u utf8)

-- a byte of ASCII is its UTF-8
pub encode-sign : (c : ℕ) → c < 128 → c ∷ [] ≡ encode_utf8 c
unfolding encode_utf8
encode-sign c h = sym (if-true (nat_lt c 128) _ _ (lt-ltb c 128 h))

-- The plain bytes up to the first stop are copied to the buffer, later the bytes that count there.
module _ (t buffer next : List ℕ) (at count end stop : ℕ) (within : at ≤ length t) (is : stop ≡ scan_stop t at)
    (put : take end next ≡ take count buffer ++ slice_range t at (scan_stop t at)) where
  pub copied-within : stop ≤ length t
  copied-within = omega (arith, is, run_end-within is_plain t at within)

  pub copied-decoded : (whole : List ℕ) (s : Stop) → Decoded t whole s (take count buffer) at
      → Decoded t whole s (take end next) stop
  copied-decoded whole s so_far =
      let to : at + (stop - at) ≡ stop = omega (arith, is, run_end-ahead is_plain t at) in
      rw (← to) (decode-run t whole s (take count buffer) at so_far (take end next) (stop - at) within (omega (arith, is))
      (put ∙ ap (λ j. take count buffer ++ slice_range t at j) (sym (to ∙ is))))

  pub copied-known : (known low now : Bool) → (IsTrue known → IsUtf8 (take count buffer))
      → (IsTrue low → IsAsciiTo t at (scan_stop t at)) → now ≡ (known && low) → IsTrue now → IsUtf8 (take end next)
  copied-known known low now k ascii both =
      known-run known low now (take count buffer) (slice_range t at (scan_stop t at)) (take end next) k ascii both put
