-- Runs of bytes that pass two tests, and where the weaker one ends with the stronger.
use Rattle.jiter_scan.proofs.Words.{◌≡◌, ℕ, ◌+◌, ◌-◌, ◌<◌, Bool, true, false, ◌&&◌, cond, List, [], ◌∷◌, length, take}
use Rattle.jiter_scan.proofs.Words.{get_or, refl, ap, sym, subst, ◌∙◌, ◌≤◌, arith, suc, drop, eqb, slice_get, Some}
use Rattle.jiter_scan.proofs.Words.{prefix_len, list_all, eqb-true, nat_tests, length-drop, get_or-drop}
use Rattle.jiter_scan.proofs.Words.{slice_get_within, get_or_from_slice_get, chunk, is_plain, is_ascii, is_plain_ascii}
use Rattle.jiter_scan.proofs.Words.{run_end, scan_stop, IsAsciiTo, failing, ascii_from}
use Rattle.jiter_scan.proofs.Chunks.{list_all-failing, none_fails, run_end-on, run_end-through}
use Rattle.jiter_scan.proofs.PlainRuns.{ascii_from-clear, IsAsciiTo-iff}
use Rattle.jiter_scan.proofs.Runs.{run_end-stops, run_end-within}

and-left : (a b : Bool) → (a && b) ≡ true → a ≡ true
and-left true b h = refl
and-left false b h = h

and-right : (a b : Bool) → (a && b) ≡ true → b ≡ true
and-right true b h = h
and-right false b h = absurd (cc)

one-first : (n : ℕ) → 1 + n ≡ suc n
one-first n = omega arith

-- what passes both passes each
pub plain-of : (c : ℕ) → is_plain_ascii c ≡ true → is_plain c ≡ true
plain-of c h = and-left (is_plain c) (is_ascii c) h

pub ascii-of : (c : ℕ) → is_plain_ascii c ≡ true → is_ascii c ≡ true
ascii-of c h = and-right (is_plain c) (is_ascii c) h

module _ (p q : ℕ → Bool) (weaker : (c : ℕ) → p c ≡ true → q c ≡ true) where
  -- where all pass the stronger test, all pass the weaker
  pub all-pass : (w : List ℕ) → list_all p w ≡ true → list_all q w ≡ true
  all-pass [] h = refl
  all-pass (c ∷ w) h =
      ap (λ x. x && list_all q w) (weaker c (and-left (p c) (list_all p w) h))
      ∙ all-pass w (and-right (p c) (list_all p w) h)

  -- the bytes before the first that fails the stronger test pass the weaker
  pub prefix-passes : (w : List ℕ) → list_all q (take (prefix_len p w) w) ≡ true
  prefix-passes [] = refl
  prefix-passes (c ∷ w) = by (p c) refl (prefix-passes w) where
    by : (b : Bool) → p c ≡ b → list_all q (take (prefix_len p w) w) ≡ true
        → list_all q (take (cond b (1 + prefix_len p w) 0) (c ∷ w)) ≡ true
    by true e rest =
        ap (λ n. list_all q (take n (c ∷ w))) (one-first (prefix_len p w))
        ∙ ap (λ x. x && list_all q (take (prefix_len p w) w)) (weaker c e) ∙ rest
    by false e rest = refl

  -- that one is at or before the first that fails the weaker
  pub shorter : (w : List ℕ) → prefix_len p w ≤ prefix_len q w
  shorter [] = omega arith
  shorter (c ∷ w) = by (p c) refl (shorter w) where
    by : (b : Bool) → p c ≡ b → prefix_len p w ≤ prefix_len q w
        → cond b (1 + prefix_len p w) 0 ≤ cond (q c) (1 + prefix_len q w) 0
    by true e rest = rw (weaker c e) (omega arith)
    by false e rest = omega arith

  -- if that one fails the weaker too, both runs end there
  pub same-end : (w : List ℕ) → prefix_len p w < length w → q (get_or w (prefix_len p w) 0) ≡ false
      → prefix_len q w ≡ prefix_len p w
  same-end [] h d = refl
  same-end (c ∷ w) h d = by (p c) refl (same-end w) h d where
    by : (b : Bool) → p c ≡ b
        → (prefix_len p w < length w → q (get_or w (prefix_len p w) 0) ≡ false → prefix_len q w ≡ prefix_len p w)
        → cond b (1 + prefix_len p w) 0 < length (c ∷ w)
        → q (get_or (c ∷ w) (cond b (1 + prefix_len p w) 0) 0) ≡ false
        → cond (q c) (1 + prefix_len q w) 0 ≡ cond b (1 + prefix_len p w) 0
    by true e go h d =
        let here = subst (λ n. q (get_or (c ∷ w) n 0) ≡ false) (one-first (prefix_len p w)) d in
        ap (λ x. cond x (1 + prefix_len q w) 0) (weaker c e) ∙ ap (λ n. 1 + n) (go (omega arith) here)
    by false e go h d = ap (λ x. cond x (1 + prefix_len q w) 0) d

module _ (t : List ℕ) (i : ℕ) where
  -- a scan that goes on from a place within its plain bytes ends where it would have
  scan-on : (to : ℕ) → i ≤ to → to ≤ scan_stop t i → i ≤ length t → scan_stop t i ≡ scan_stop t to
  scan-on to ahead before inside =
      let place : i + (to - i) ≡ to = omega arith in
      let within = run_end-within is_plain t i inside in
      sym (run_end-on is_plain t i (to - i) (omega (arith, place)) (omega (arith, place, within)))
      ∙ ap (scan_stop t) place

  pub ascii-again : (to : ℕ) → i ≤ length t → run_end is_plain_ascii t i ≡ to → scan_stop t i ≡ scan_stop t to
  ascii-again to inside h =
      let before = shorter is_plain_ascii is_plain plain-of (drop i t) in
      scan-on to (omega arith) (omega (arith, before)) inside

  -- a stop that ends a run of plain bytes of ASCII ends the run of plain bytes
  module _ (to b : ℕ) (run : run_end is_plain_ascii t i ≡ to) (here : slice_get t to ≡ Some b)
      (stops : is_plain b ≡ false) where
    stop-same : prefix_len is_plain (drop i t) ≡ prefix_len is_plain_ascii (drop i t)
    stop-same =
        let n = prefix_len is_plain_ascii (drop i t) in
        let place : to ≡ i + n = omega arith in
        let at_n = subst (λ k. slice_get t k ≡ Some b) place here in
        let inside = slice_get_within t (i + n) b at_n in
        let byte : get_or (drop i t) n 0 ≡ b = get_or-drop i t n 0 ∙ get_or_from_slice_get t (i + n) b 0 at_n in
        same-end is_plain_ascii is_plain plain-of (drop i t) (omega (arith, inside, length-drop i t))
        (ap is_plain byte ∙ stops)

    pub ascii-stops : to ≡ scan_stop t i
    ascii-stops = omega (arith, stop-same)

    pub ascii-before : IsAsciiTo t i to
    ascii-before =
        let all : ascii_from t i ≡ true =
        ap (λ n. list_all is_ascii (take n (drop i t))) stop-same
        ∙ prefix-passes is_plain_ascii is_ascii ascii-of (drop i t) in
        (IsAsciiTo-iff t i to true ascii-stops (sym all)).0 refl

  -- and if it is below 80 hex, it is a stop
  pub low-stops : (b : ℕ) → slice_get t (run_end is_plain_ascii t i) ≡ Some b → b < 128 → is_plain b ≡ false
  low-stops b here low = grind (arith, nat_tests, run_end-stops is_plain_ascii t i b here)

  -- past a chunk of such bytes
  module _ (long : i + 16 ≤ length t) (none : failing is_plain_ascii (chunk i 16 t) ≡ 0) where
    all-text : list_all is_plain_ascii (chunk i 16 t) ≡ true
    all-text = none_fails is_plain_ascii t i 16 none

    no-stop : failing is_plain (chunk i 16 t) ≡ 0
    no-stop =
        eqb-true _ 0
        (sym (list_all-failing is_plain (chunk i 16 t))
        ∙ all-pass is_plain_ascii is_plain plain-of (chunk i 16 t) all-text)

    no-high : eqb (failing is_ascii (chunk i 16 t)) 0 ≡ true
    no-high =
        sym (list_all-failing is_ascii (chunk i 16 t))
        ∙ all-pass is_plain_ascii is_ascii ascii-of (chunk i 16 t) all-text

    pub text-through : scan_stop t i ≡ scan_stop t (i + 16)
    text-through = run_end-through is_plain t i 16 long no-stop

    pub ascii-through : (to : ℕ) → to ≡ scan_stop t (i + 16) → IsAsciiTo t (i + 16) to → IsAsciiTo t i to
    ascii-through to stop rest =
        let after : ascii_from t (i + 16) ≡ true = (IsAsciiTo-iff t (i + 16) to (ascii_from t (i + 16)) stop refl).1 rest in
        let all : ascii_from t i ≡ true =
        ascii_from-clear t i 16 _ _ refl refl long no-stop ∙ ap (λ x. x && ascii_from t (i + 16)) no-high ∙ after in
        (IsAsciiTo-iff t i to true (stop ∙ sym text-through) (sym all)).0 refl
