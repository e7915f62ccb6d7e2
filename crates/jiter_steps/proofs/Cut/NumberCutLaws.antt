-- A number that the prefix of a text cuts is read up to the cut exactly where its bytes up to there are a number's text.
use Rattle.jiter_steps.proofs.Words.{◌≡◌, ℕ, ◌<◌, ◌≤◌, Bool, true, false, List, length, take, sym, ap, ◌∙◌, subst}
use Rattle.jiter_steps.proofs.Words.{arith, refl, IfSome, slice_range, is_end_kind, Number, IsNumberText, number_value}
use Rattle.jiter_steps.proofs.Words.{number_at, is_number_text, Scanned, taken, failed, failed-taken, continues_number}
use Rattle.jiter_steps.proofs.Words.{number_text-decides, SpellsNumber, number_at-sound, number_at-complete}
use Rattle.jiter_steps.proofs.Cut.DocumentPrefixes.{prefix-length, prefix-if, prefix-past, prefix-range, number-prefix}
use Rattle.jiter_steps.proofs.Cut.NumberCut.{CutAt, number_at-cut}
use Rattle.jiter_steps.proofs.Grammar.ScalarLaws.{EndsNumber}

module _ (names : Bool) (t : List ℕ) (k : ℕ) (within : k ≤ length t) where
  abbrev prefix : List ℕ
  prefix = take k t

  -- a number that ends by the cut is read as it was
  pub number_at-before : (b e : ℕ) → SpellsNumber names t b e → EndsNumber t e → e ≤ k
      → number_at names prefix b ≡ taken (number_value (slice_range t b e)) e
  number_at-before b e h q le =
      let g = number-prefix t k within names b e h le in
      number_at-complete names prefix b e g.ordered g.within g.text
      (prefix-if t k within (λ c. continues_number c ≡ false) e q)
      ∙ ap (λ w. taken (number_value w) e) (prefix-range t k within b e h.ordered le)

  -- read up to the cut, where that is a number's text; or the input ends too early, where it is none
  abbrev pub CutNumber : ℕ → Scanned Number → Type 0
  CutNumber b (taken n e) =
      (is_number_text names (slice_range t b k) ≡ true) × (n ≡ number_value (slice_range t b k)) × (e ≡ k)
  CutNumber b (failed kind j) =
      (is_number_text names (slice_range t b k) ≡ false) × (is_end_kind kind ≡ true)

  cut-number : (b : ℕ) (x : Scanned Number) → b < k → number_at names prefix b ≡ x → CutAt k x → CutNumber b x
  cut-number b (taken n e) lt is at =
      let same = prefix-range t k within b k (omega arith) (omega arith) in
      let sound = number_at-sound names prefix b n k (is ∙ ap (taken n) at) in
      let text = subst (IsNumberText names) same sound.0 in
      ((number_text-decides names (slice_range t b k)).1 text, sound.1 ∙ ap number_value same, at)
  cut-number b (failed kind j) lt is early = (by (is_number_text names (slice_range t b k)) refl, early) where
    by : (y : Bool) → is_number_text names (slice_range t b k) ≡ y → y ≡ false
    by false e = refl
    by true e =
        let text = (number_text-decides names (slice_range t b k)).0 e in
        let read = number_at-complete names prefix b k (omega arith) (omega (arith, prefix-length t k within))
        (subst (IsNumberText names) (sym (prefix-range t k within b k (omega arith) (omega arith))) text)
        (subst (λ o. IfSome o (λ c. continues_number c ≡ false)) (sym (prefix-past t k within k (omega arith))) tt) in
        absurd (failed-taken kind j (number_value (slice_range prefix b k)) k (sym is ∙ read))

  pub number_at-cuts : (b e : ℕ) → SpellsNumber names t b e → EndsNumber t e → b < k → k < e
      → CutNumber b (number_at names prefix b)
  number_at-cuts b e h q lt gt =
      let read = number_at-complete names t b e h.ordered h.within h.text q in
      cut-number b (number_at names prefix b) lt refl
      (number_at-cut t k within names b e (number_value (slice_range t b e)) (omega arith) gt read)
