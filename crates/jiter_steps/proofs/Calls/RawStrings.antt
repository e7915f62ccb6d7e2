-- What the readers of raw strings answer, from where a content is over.
use Rattle.jiter_steps.proofs.Words.{◌≡◌, ◌≢◌, ℕ, ◌+◌, ◌-◌, ◌<◌, ◌≤◌, Bool, true, false, List, length, refl, sym, ap}
use Rattle.jiter_steps.proofs.Words.{◌∙◌, subst, arith, slice_get, Option, Some, None, IfSome, IsTrue, nat_tests}
use Rattle.jiter_steps.proofs.Words.{none-some, is_stop, scan_stop, eof_string, taken, failed, Event, part, over, Stop}
use Rattle.jiter_steps.proofs.Words.{unclosed, cut, event_by, event_at, Body, body_at, Form, raw, raw_kept, raw_form}
use Rattle.jiter_steps.proofs.Words.{between, text_in_form, content_at, EndsAt}
use Rattle.jiter_steps.specs.StringReading.{closed}
use Rattle.jiter_steps.proofs.Reading.Bodies.{body_at-event_by, part-ahead}
use Rattle.jiter_steps.proofs.Grammar.Places.{Explains, event_at-explains, got}
use Rattle.jiter_steps.proofs.Calls.PlainRuns.{plain_run-within, plain_run_stops, plain_run_to}
use Rattle.jiter_steps.proofs.Grammar.StringComplete.{event_by-quote}

same-over : (s x : Stop) → over s ≡ over x → s ≡ x
same-over s x h = cc

if-some : (o : Option ℕ) (P : ℕ → Type 0) → ((b : ℕ) → o ≡ Some b → P b) → IfSome o P
if-some None P h = tt
if-some (Some b) P h = h b refl

module _ (t : List ℕ) where
  -- after a run of plain bytes the content goes on as it does from there, and a stop is there or nothing
  pub raw-run : (i to : ℕ) → i ≤ length t → to ≡ scan_stop t i
      → ((body_at t i).stop ≡ (body_at t to).stop) × (i ≤ to) × (to ≤ length t)
      × IfSome (slice_get t to) (λ b. is_stop b ≡ true)
  raw-run i to h e =
      let w = plain_run-within t i h in (
        ap (λ (b : Body). b.stop) (plain_run_to t i to h e),
        omega (arith, w.0, e),
        omega (arith, w.1, e),
        if-some _ (λ b. is_stop b ≡ true) (λ b q. plain_run_stops t i b (subst (λ j. slice_get t j ≡ Some b) e q)),
      )

  -- an escape ends after its begin
  pub raw-escape_ahead : (i j : ℕ) (bs : List ℕ) → part bs true j ≡ event_at t i → (i < j) × (j ≤ length t)
  raw-escape_ahead i j bs p = part-ahead t i j bs true (subst (Explains t i) (sym p) (event_at-explains t i))

  -- and after an escape and the run that follows it
  pub raw-escape : (i to j : ℕ) (bs : List ℕ) → part bs true j ≡ event_at t i → to ≡ scan_stop t j
      → ((body_at t i).stop ≡ (body_at t to).stop) × (i < to) × (to ≤ length t)
      × IfSome (slice_get t to) (λ b. is_stop b ≡ true)
  raw-escape i to j bs p e =
      let here : event_at t i ≡ part bs true j = sym p in
      let ahead = raw-escape_ahead i j bs p in
      let run = raw-run j to ahead.1 e in (
        ap (λ (b : Body). b.stop) (body_at-event_by t i (part bs true j) here) ∙ run.0,
        omega (arith, ahead.0, run.1),
        run.2,
        run.3,
      )

  pub raw-over_again : (i j k : ℕ) → (body_at t i).stop ≡ (body_at t j).stop → EndsAt t j k → EndsAt t i k
  raw-over_again i j k h o = o ∙ ap over (sym h)

  -- what is where it is over
  pub raw-over_here : (i j : ℕ) (s : Stop) → (body_at t i).stop ≡ (body_at t j).stop → over s ≡ event_at t j
      → EndsAt t i j
  raw-over_here i j s h p =
      let stop : (body_at t j).stop ≡ s = ap (λ (b : Body). b.stop) (body_at-event_by t j (over s) (sym p)) in
      sym p ∙ ap over (sym (h ∙ stop))

  -- where a stop other than a backslash is, or nothing, a content is over
  pub over-unless : (j : ℕ) → IfSome (slice_get t j) (λ b. is_stop b ≡ true) → slice_get t j ≢ Some 92
      → (s : Stop) × (event_at t j ≡ over s)
  over-unless j h ne = by (event_at t j) (event_at-explains t j) refl where
    by : (p : Event) → Explains t j p → event_at t j ≡ p → (s : Stop) × (event_at t j ≡ over s)
    by (part bs true k) x e = absurd (ne x.backslash)
    by (part bs false k) x e = absurd (grind (arith, nat_tests, subst (λ o. IfSome o (λ b. is_stop b ≡ true)) x.here h))
    by (over s) x e = (s, e)

  pub raw-over_run : (i to : ℕ) → i ≤ length t → to ≡ scan_stop t i → slice_get t to ≢ Some 92 → EndsAt t i to
  raw-over_run i to h e ne =
      let run = raw-run i to h e in
      let o = over-unless to run.3 ne in
      raw-over_here i to o.0 run.0 (sym o.1)

  -- where it goes on after some plain bytes, it is over at the same place
  pub raw-over_after : (i from j : ℕ) → i ≤ length t → from ≤ length t → scan_stop t i ≡ scan_stop t from
      → EndsAt t from j → EndsAt t i j
  raw-over_after i from j h w same o =
      let stop = scan_stop t from in
      raw-over_again i from j ((raw-run i stop h (sym same)).0 ∙ sym (raw-run from stop w refl).0) o

  -- what a form makes of a content that is over at j, by what is there
  pub raw-by : (form : Form) (i j : ℕ) (s : Stop) → EndsAt t i j → over s ≡ event_at t j
      → content_at form t i ≡ text_in_form form t i (body_at t i).bytes (body_at t i).owned s
  unfolding content_at
  raw-by form i j s o p =
      ap (text_in_form form t i (body_at t i).bytes (body_at t i).owned) (sym (same-over _ _ (p ∙ o)))

  pub raw-closed : (partial : Bool) (i j : ℕ) → EndsAt t i j → slice_get t j ≡ Some 34
      → content_at (raw_form partial) t i ≡ taken (between t i j) (j + 1)
  raw-closed partial i j o q =
      raw-by (raw_form partial) i j (closed (j + 1)) o (sym (event_by-quote t j q)) ∙ by partial where
        by : (partial : Bool) → text_in_form (raw_form partial) t i (body_at t i).bytes (body_at t i).owned (closed (j + 1))
            ≡ taken (between t i j) (j + 1)
        by true = let last : j + 1 - 1 ≡ j = omega arith in rw last
        by false = let last : j + 1 - 1 ≡ j = omega arith in rw last

  pub raw-unclosed : (i j : ℕ) → EndsAt t i j → slice_get t j ≡ None
      → content_at raw_kept t i ≡ taken (between t i (length t)) (length t)
  unfolding event_at
  raw-unclosed i j o q = raw-by raw_kept i j unclosed o (sym (ap (event_by t j) q))

  -- a byte is there where it is not the end of input
  not-unclosed : (j : ℕ) → over unclosed ≡ event_at t j → j < length t → ⊥
  not-unclosed j p h =
      let none : slice_get t j ≡ None = subst (Explains t j) (sym p) (event_at-explains t j) in
      none-some _ (sym none ∙ got t j h)

  -- without its quote it is refused, unless it is kept and the input ends there
  pub raw-no_quote : (partial : Bool) (i j : ℕ) → EndsAt t i j → over unclosed ≡ event_at t j
      → (IsTrue partial → j < length t)
      → content_at (raw_form partial) t i ≡ failed eof_string (length t)
  raw-no_quote true i j o p h = absurd (not-unclosed j p (h refl))
  raw-no_quote false i j o p h = raw-by raw i j unclosed o p

  -- and cut within an escape it is refused
  pub raw-cut : (partial : Bool) (i j : ℕ) → EndsAt t i j → over cut ≡ event_at t j
      → content_at (raw_form partial) t i ≡ failed eof_string (length t)
  raw-cut true i j o p = raw-by raw_kept i j cut o p
  raw-cut false i j o p = raw-by raw i j cut o p

  pub raw-quote : (j e : ℕ) → over (closed e) ≡ event_at t j → slice_get t j ≡ Some 34
  raw-quote j e p =
      let x : Explains t j (over (closed e)) = subst (Explains t j) (sym p) (event_at-explains t j) in x.0
