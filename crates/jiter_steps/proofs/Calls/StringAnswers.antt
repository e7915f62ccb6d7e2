-- What the reader of strings answers, from what it has found.
use Rattle.jiter_steps.proofs.Words.{◌≡◌, ◌≢◌, ℕ, ◌+◌, ◌<◌, ◌≤◌, Bool, true, false, List, length, refl, sym, ap, ◌∙◌}
use Rattle.jiter_steps.proofs.Words.{subst, arith, append-nil, slice_get, slice_range, Some, None, Result, Ok, Err}
use Rattle.jiter_steps.proofs.Words.{IfOk, ◌==◌, nat_lt, IsUtf8, ne_eqb, lt-ltb, eq-eqb, nat_tests, none-some}
use Rattle.jiter_steps.proofs.Words.{same_Some, utf8_valid_len-IsUtf8, control_character, scan_stop, Fault, failed}
use Rattle.jiter_steps.proofs.Words.{taken, if-true, if-false, ScalarWithin, Event, part, over, event_by, event_at}
use Rattle.jiter_steps.proofs.Words.{Stop, unclosed, cut, wrong, is_cut, Body, before, join, body_at, Form, text_form}
use Rattle.jiter_steps.proofs.Words.{checked, text_in_form, content_at, string_at, MatchResult, IsErrAnd, Global}
use Rattle.jiter_steps.proofs.Words.{CowStr, Scans, with_end, UnlessRefused, text_view, ReadError}
use Rattle.jiter_steps.specs.StringReading.{closed}
use Rattle.jiter_steps.specs.declared.read_error.ReadError.TheVariants as error
use Rattle.jiter_steps.proofs.Calls.PlainRuns.{plain_run_to, plain_run_stops}
use Rattle.jiter_steps.proofs.Grammar.Places.{event_at-explains, Explains}
use Rattle.jiter_steps.proofs.Grammar.StringComplete.{event_by-quote}
use Rattle.jiter_steps.proofs.Grammar.StringLaws.{string_at-within}
use Rattle.jiter_steps.proofs.Reading.Bodies.{body_at-is, body_at-event_by}
use Rattle.jiter_steps.proofs.Reading.StringForms.{kept-valid}

-- Decoded bytes as a text, by whether they are UTF-8.
module _ (i e : ℕ) (o : Bool) (bs : List ℕ) where
  pub string-checked : (partial : Bool) → IsUtf8 bs → checked partial i o bs e ≡ taken (record { owned = o; bytes = bs }) e
  string-checked true u = kept-valid i e o bs (utf8_valid_len-IsUtf8 bs u)
  string-checked false u = rw (eq-eqb _ _ (utf8_valid_len-IsUtf8 bs u))

-- a reading that fails by an error alone, given on as one that may want memory
pub string-fault : {A : Type 0} (P : Result A Fault → Type 0) (r : Result A Fault) (told : Result A ReadError)
    → MatchResult r (λ x. told ≡ Ok x) (λ f. IsErrAnd told (λ e. e ≡ error.Fault f)) → P r → UnlessRefused told P
string-fault P (Ok x) told is p = rw is p
string-fault P (Err f) (Ok x) is p = absurd is
string-fault P (Err f) (Err e) is p = rw is p

-- a closed text, kept or not
pub string_closed : (partial : Bool) (t : List ℕ) (i : ℕ) (bs : List ℕ) (o : Bool) (e : ℕ)
    → text_in_form (text_form partial) t i bs o (closed e) ≡ checked partial i o bs e
string_closed true t i bs o e = refl
string_closed false t i bs o e = refl

-- After a backslash a text lies in memory of its own, so that nothing hangs on the mark.
module _ (t : List ℕ) (i : ℕ) (backslash : slice_get t i ≡ Some 92) (form : Form) (from : ℕ) (bs : List ℕ) where
  abbrev Marked : Bool → Stop → Type 0
  Marked o s = text_in_form form t from bs o s ≡ text_in_form form t from bs true s

  marked-by : (x : Event) → Explains t i x → Marked (join (body_at t) x).owned (join (body_at t) x).stop
  marked-by (part bs true j) x = refl
  marked-by (part bs false j) x = absurd (x.no_backslash (same_Some _ _ (sym x.here ∙ backslash)))
  marked-by (over (closed f)) x = let no = same_Some _ _ (sym x.0 ∙ backslash) in absurd (omega arith)
  marked-by (over unclosed) x = absurd (none-some _ (sym x ∙ backslash))
  marked-by (over cut) x = refl
  marked-by (over (wrong k j)) x = refl

  marked : Marked (body_at t i).owned (body_at t i).stop
  marked = rw (body_at-is t i) (marked-by (event_at t i) (event_at-explains t i))

module _ (t : List ℕ) (at : ℕ) (inside : at < length t) where
  -- a text ends after its begin and within the bytes
  pub string-advances : (form : Form) (r : Result (CowStr Global × ℕ) ReadError)
      → UnlessRefused r (λ x. Scans (with_end text_view) x (string_at form t at))
      → IfOk r (λ x. (at < x.1) × (x.1 ≤ length t))
  string-advances form (Ok x) g = subst (ScalarWithin t at) g (string_at-within form t at inside)
  string-advances form (Err (error.Fault f)) g = tt
  string-advances form (Err (error.Memory m)) g = tt

  -- how the string goes on where its plain bytes end
  module _ (to : ℕ) (stop : to ≡ scan_stop t (at + 1)) where
    abbrev plain : List ℕ
    plain = slice_range t (at + 1) to

    run : body_at t (at + 1) ≡ before plain false (body_at t to)
    run = plain_run_to t (at + 1) to (omega arith) stop

    -- it is over there
    string-over : (form : Form) (s : Stop) → event_at t to ≡ over s
        → string_at form t at ≡ text_in_form form t (at + 1) plain (is_cut s) s
    unfolding content_at
    string-over form s e =
        ap (λ (b : Body). text_in_form form t (at + 1) b.bytes b.owned b.stop)
        (run ∙ ap (before plain false) (body_at-event_by t to (over s) e))
        ∙ ap (λ l. text_in_form form t (at + 1) l (is_cut s) s) (append-nil plain)

    pub string-none : (form : Form) → slice_get t to ≡ None
        → string_at form t at ≡ text_in_form form t (at + 1) plain false unclosed
    unfolding event_at
    string-none form e = string-over form unclosed (ap (event_by t to) e)

    pub string-quote : (partial : Bool) → slice_get t to ≡ Some 34
        → string_at (text_form partial) t at ≡ checked partial (at + 1) false plain (to + 1)
    string-quote partial e =
        string-over (text_form partial) (closed (to + 1)) (event_by-quote t to e)
        ∙ string_closed partial t (at + 1) plain false (to + 1)

    pub string-control : (form : Form) (b : ℕ) → slice_get t to ≡ Some b → b ≢ 34 → b ≢ 92
        → string_at form t at ≡ failed control_character to
    unfolding event_at
    string-control form b e q s =
        let stops = plain_run_stops t (at + 1) b (subst (λ j. slice_get t j ≡ Some b) stop e) in
        let low : b < 32 = grind (arith, nat_tests, stops, q, s) in
        string-over form (wrong control_character to)
        (ap (event_by t to) e ∙ if-false (b == 34) _ _ (ne_eqb b 34 q) ∙ if-false (b == 92) _ _ (ne_eqb b 92 s)
        ∙ if-true (nat_lt b 32) _ _ (lt-ltb b 32 low))

    -- it goes on with a backslash
    pub string-escaped : (form : Form) → slice_get t to ≡ Some 92
        → string_at form t at
        ≡ text_in_form form t (at + 1) (body_at t (at + 1)).bytes true (body_at t (at + 1)).stop
    unfolding content_at
    string-escaped form e =
        ap (λ (b : Body). text_in_form form t (at + 1) (body_at t (at + 1)).bytes b.owned b.stop) run
        ∙ marked t to e form (at + 1) (body_at t (at + 1)).bytes
        ∙ ap (λ (b : Body). text_in_form form t (at + 1) (body_at t (at + 1)).bytes true b.stop) (sym run)
