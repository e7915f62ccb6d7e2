-- What a look at a string says of its reading.
use Rattle.jiter_steps.proofs.Words.{◌≡◌, ◌≢◌, ℕ, ◌+◌, ◌<◌, Bool, true, false, List, length, refl, sym, ap, ◌∙◌, arith}
use Rattle.jiter_steps.proofs.Words.{subst, ◌==◌, slice_get, slice_range, Option, Some, None, utf8_valid_len}
use Rattle.jiter_steps.proofs.Words.{slice_get_past, eof_string, fault_kind, IsLook, scan_stop, taken, failed}
use Rattle.jiter_steps.proofs.Words.{FaultKind, Look, failed-taken, if_gives, same_taken, get-none, between, checked}
use Rattle.jiter_steps.proofs.Words.{kept, string_at, text_form, whole, Text, IsFaultOf, WantsMemory}
use Rattle.jiter_scan.specs.declared.errors.FaultKind.TheVariants as fault
use Rattle.jiter_scan.specs.declared.bytes.short_scan.Look.TheVariants as look
use Rattle.jiter_steps.proofs.Calls.FastAnswers.{plain-quoted, plain-utf8}
use Rattle.jiter_steps.proofs.Calls.PlainRuns.{plain_run-within}
use Rattle.jiter_steps.proofs.Reading.StringForms.{content-kept}
use Rattle.jiter_steps.proofs.Calls.StringAnswers.{string-control, string-none, string-quote}

module _ (t : List ℕ) (at to : ℕ) (inside : at < length t) (stop : to ≡ scan_stop t (at + 1)) where
  abbrev content : List ℕ
  content = slice_range t (at + 1) to

  abbrev Found : Look → Type 0
  Found l = IsLook t (at + 1) to l

  -- a closed string whose bytes are below 80 hex
  pub look-plain : Found look.Plain → (partial : Bool) → string_at (text_form partial) t at ≡ taken (between t (at + 1) to) (to + 1)
  look-plain found partial = plain-quoted t at to inside stop found.0 (plain-utf8 content found.1) partial

  -- one whose bytes have to be tested
  pub look-checked : Found look.Utf8 → (partial : Bool)
      → string_at (text_form partial) t at ≡ checked partial (at + 1) false content (to + 1)
  look-checked found partial = string-quote t at inside to stop partial found

  -- what is a text of those bytes is all of them
  pub look-whole : (text : List ℕ) (e : ℕ)
      → checked false (at + 1) false content e ≡ taken (record { owned = false; bytes = text }) e → text ≡ content
  look-whole text e is =
      if_gives (utf8_valid_len content == length content) _ _ (taken (record { owned = false; bytes = text }) e) is
      (λ all same. ap (λ (x : Text). x.bytes) (sym (same_taken _ _ e e same).0))
      (λ some no. absurd (failed-taken _ _ _ e no))

  -- so a string that passes the test is those bytes, kept or not
  pub look-text : Found look.Utf8 → (text : List ℕ)
      → ((e : ℕ) → checked false (at + 1) false content e ≡ taken (record { owned = false; bytes = text }) e)
      → (text ≡ content)
      × ((partial : Bool) → string_at (text_form partial) t at ≡ taken (between t (at + 1) to) (to + 1))
  look-text found text is = (same, read) where
    same : text ≡ content
    same = look-whole text (to + 1) (is (to + 1))

    closed : string_at whole t at ≡ taken (between t (at + 1) to) (to + 1)
    closed =
        look-checked found false ∙ is (to + 1)
        ∙ ap (λ w. taken (record { owned = false; bytes = w }) (to + 1)) same

    read : (partial : Bool) → string_at (text_form partial) t at ≡ taken (between t (at + 1) to) (to + 1)
    read true = (content-kept t (at + 1) (between t (at + 1) to) (to + 1) closed).0
    read false = closed

  -- one with a backslash
  pub look-escaped : (a : Bool) → Found (look.Escaped a) → WantsMemory t at
  look-escaped a found = subst (λ j. slice_get t j ≡ Some 92) stop found.0

  -- the end of the input
  none-here : (o : Option ℕ) → IsFaultOf o fault.EofWhileParsingString → o ≡ None
  none-here None found = refl
  none-here (Some b) found = absurd (cc)

  pub look-end : Found (look.Fault fault.EofWhileParsingString) → to ≡ length t
  look-end found =
      omega (arith, get-none t to (none-here (slice_get t to) found), (plain_run-within t (at + 1) (omega arith)).1)

  -- where it ends there, it is kept up to its end
  pub look-ended : to ≡ length t → string_at kept t at ≡ checked true (at + 1) false content to
  look-ended end =
      string-none t at inside to stop kept (slice_get_past t to (omega arith))
      ∙ ap (checked true (at + 1) false content) (sym end)

  -- any error, of a string that has to be closed
  fault-here : (k : FaultKind) (o : Option ℕ) → slice_get t to ≡ o → IsFaultOf o k
      → string_at whole t at ≡ failed (fault_kind k) to
  fault-here k None here found =
      string-none t at inside to stop whole here
      ∙ ap (failed eof_string) (sym (look-end (rw (here, sym found) refl)))
      ∙ ap (λ x. failed (fault_kind x) to) (sym found)
  fault-here k (Some b) here found =
      string-control t at inside to stop whole b here (omega (arith, found.0)) (omega (arith, found.0))
      ∙ ap (λ x. failed (fault_kind x) to) (sym found.1)

  -- or of one that is kept, unless the input ends there
  pub look-unkept : (partial : Bool) (k : FaultKind) → Found (look.Fault k) → (partial ≡ true → to ≢ length t)
      → string_at (text_form partial) t at ≡ failed (fault_kind k) to
  look-unkept false k found more = fault-here k (slice_get t to) refl found
  look-unkept true k found more = by (slice_get t to) refl found where
    by : (o : Option ℕ) → slice_get t to ≡ o → IsFaultOf o k → string_at kept t at ≡ failed (fault_kind k) to
    by None here f = absurd (more refl (omega (arith, get-none t to here, (plain_run-within t (at + 1) (omega arith)).1)))
    by (Some b) here f =
        string-control t at inside to stop kept b here (omega (arith, f.0)) (omega (arith, f.0))
        ∙ ap (λ x. failed (fault_kind x) to) (sym f.1)
