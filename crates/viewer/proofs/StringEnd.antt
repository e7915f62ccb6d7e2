-- What is shown of a document that is cut, and how a run ends.
use Rattle.std.proofs.Common.{◌≡◌, refl, subst, ℕ, ◌+◌, Bool, true, false, List, Option, Some, None, IfSome}
use Rattle.std.proofs.Common.{inl, inr}
use Rattle.std.specs.Prelude.{codes, if◌then◌else◌, length, Result, Ok, Err, IsErr}
use Rattle.std.specs.Io.KnownBytes.{Appends, Keeps}
use Rattle.std.proofs.KnownBytes.{Appends-nil, Keeps-refl}
use Rattle.std.proofs.lemmas.Option.{IfSome_then}
use Rattle.jiter_print.specs.Written.{AppendsPrefix}
use Rattle.jiter.specs.Caller.{Reading, done, fault, Tree, answer, answer_in, is_active, IsBegunContainer, IsDocument, Node}
use Rattle.jiter_steps.proofs.Cut.CutLaw.{AnswersCut, answer_in-cut}
use Rattle.jiter_steps.proofs.Grammar.Documents.{IsRead, answer-is}
use Rattle.json_screen.specs.Parts.{inside_of, parts_of}
use Rattle.json_screen.specs.Report.{document_error, error_of, has_mark, IsReport, next_document, trailing_error}
use Rattle.viewer.specs.Shown.{EndsAs, Finishes, IsLineOfCut, Ran, shown_at_end, ShowsPrefix, ShowsRead, Tells, value_line}
use Rattle.viewer.specs.declared.view.Settings.{Settings}
use Rattle.json_screen.specs.declared.input.Options.{Options}

-- the line of a prefix of an array or object
pub cut-shown : (options : Options) → is_active options.mode ≡ true → (prefix : List ℕ)
    → (f : IsBegunContainer options.inf_nan prefix)
    → IsLineOfCut options f (value_line (answer_in options.inf_nan options.mode prefix))
cut-shown options active prefix f =
    by (answer_in options.inf_nan options.mode prefix) (answer_in-cut options.inf_nan prefix options.mode f active) where
      by : (x : Reading Tree) → AnswersCut options.inf_nan prefix options.mode f x → IsLineOfCut options f (value_line x)
      by (done v e) is = (v, is, refl)
      by (fault k i stop) is = absurd is

-- an input whose error was told is no document, or has another one after it
pub ends-as : {E : Type 0} (names : Bool) (name t : List ℕ) (end : Result Bool E) (err err' : Option (List ℕ))
    → Tells name t (error_of names t) end err err' → EndsAs names t end
ends-as {E = E} names name t end err err' h = by (has_mark t) refl h where
  begin : ℕ
  begin = length (parts_of t).before

  followed : (o : Option ℕ) → next_document 0 (parts_of t).after ≡ o → has_mark t ≡ false
      → (n : Node) × IsDocument names (inside_of t) n → (end : Result Bool E)
      → Tells name t (trailing_error (begin + length (inside_of t)) o) end err err' → EndsAs names t end
  followed None next unmarked document (Ok true) told = (document, next, unmarked)
  followed None next unmarked document (Ok false) told = absurd told
  followed (Some i) next unmarked document (Ok true) told = absurd told
  followed (Some i) next unmarked document (Ok false) told = inr (inr (i, next))
  followed o next unmarked document (Err x) told = tt

  in-document : (x : Reading Tree) (end : Result Bool E) → IsRead names (inside_of t) x → has_mark t ≡ false
      → Tells name t (document_error begin x (trailing_error (begin + length (inside_of t))
      (next_document 0 (parts_of t).after))) end err err'
      → EndsAs names t end
  in-document (done v e) end is unmarked told =
      followed (next_document 0 (parts_of t).after) refl unmarked (is.0, is.1) end told
  in-document (fault k i stop) (Ok true) is unmarked told = absurd told
  in-document (fault k i stop) (Ok false) is unmarked told = inr (inl is)
  in-document (fault k i stop) (Err x) is unmarked told = tt

  marked : (end : Result Bool E) → has_mark t ≡ true
      → Tells name t (Some (0, codes "byte order mark")) end err err' → EndsAs names t end
  marked (Ok true) e told = absurd told
  marked (Ok false) e told = inl e
  marked (Err x) e told = tt

  by : (m : Bool) → has_mark t ≡ m
      → Tells name t (if m then Some (0, codes "byte order mark") else document_error begin (answer names (inside_of t))
      (trailing_error (begin + length (inside_of t)) (next_document 0 (parts_of t).after))) end err err'
      → EndsAs names t end
  by true e told = marked end e told
  by false e told = in-document (answer names (inside_of t)) end (answer-is names (inside_of t)) e told

pub ended : {E : Type 0} (settings : Settings) (from err err' : Option (List ℕ)) (end : Result Bool E)
    → IfSome from (λ t. Finishes settings t end err err') → IfSome from (λ t. EndsAs settings.options.inf_nan t end)
ended settings from err err' end told =
    IfSome_then from told (λ t h. ends-as settings.options.inf_nan settings.name.now t end err err' h)

-- there is no error
pub nothing-told : (E : Type 0) (name t : List ℕ) (o : Option (ℕ × List ℕ)) → IsReport name t o None
    → (err err' : Option (List ℕ)) → Keeps err err' → Tells {E = E} name t o (Ok true) err err'
nothing-told E name t None is err err' kept = kept
nothing-told E name t (Some x) is err err' kept = absurd is

-- its text was written
pub all-told : (E : Type 0) (name t : List ℕ) (o : Option (ℕ × List ℕ)) (text : List ℕ) → IsReport name t o (Some text)
    → (err err' : Option (List ℕ)) → Appends err err' text → Tells {E = E} name t o (Ok false) err err'
all-told E name t None text is err err' whole = absurd is
all-told E name t (Some x) text is err err' whole = subst (Appends err err') is whole

-- nothing of it was
pub untold : {E : Type 0} (name t : List ℕ) (o : Option (ℕ × List ℕ)) (end : Result Bool E) → IsErr end
    → (err : Option (List ℕ)) → Tells name t o end err err
untold name t o (Ok whole) is err = absurd (cc)
untold name t None (Err e) is err = Keeps-refl err
untold name t (Some x) (Err e) is err = (0, Appends-nil err)

-- a prefix of it was
pub half-told : {E : Type 0} (end : Result Bool E) → IsErr end → (name t : List ℕ) (o : Option (ℕ × List ℕ))
    (text : List ℕ) → IsReport name t o (Some text) → (err err' : Option (List ℕ)) → AppendsPrefix err err' text
    → Tells name t o end err err'
half-told (Ok whole) is name t o text told err err' prefix = absurd (cc)
half-told (Err e) is name t None text told err err' prefix = absurd told
half-told (Err e) is name t (Some x) text told err err' prefix = subst (AppendsPrefix err err') told prefix

-- all was shown, and then the error
pub ran : {E : Type 0} (settings : Settings) (from out read out' err err' : Option (List ℕ)) (end : Result Bool E)
    → IfSome from (λ t. ShowsRead settings.output settings.options t out read)
    → IfSome from (λ t. Appends read out' (shown_at_end settings.output settings.options t))
    → IfSome from (λ t. Finishes settings t end err err')
    → IfSome from (λ t. Ran settings t end out out' err err')
ran settings None out read out' err err' end shown wrote told = tt
ran settings (Some t) out read out' err err' (Ok whole) shown wrote told = ((read, shown, wrote), told)
ran settings (Some t) out read out' err err' (Err e) shown wrote told = inl ((read, shown, wrote), told)

-- not all was read, or shown
pub broke-off : {E : Type 0} (settings : Settings) (from out out' err : Option (List ℕ))
    (end : Result Bool E) → IsErr end → IfSome from (λ t. ShowsPrefix settings.output settings.options t out out')
    → IfSome from (λ t. Ran settings t end out out' err err)
broke-off settings from out out' err (Ok whole) is prefix = absurd (cc)
broke-off settings from out out' err (Err e) is prefix = IfSome_then from prefix (λ t h. inr (inl h, Keeps-refl err))

-- all was read, and not all shown
pub broke-at-end : {E : Type 0} (settings : Settings) (from out read out' err : Option (List ℕ)) (end : Result Bool E) → IsErr end
    → IfSome from (λ t. ShowsRead settings.output settings.options t out read)
    → IfSome from (λ t. AppendsPrefix read out' (shown_at_end settings.output settings.options t))
    → IfSome from (λ t. Ran settings t end out out' err err)
broke-at-end settings from out read out' err (Ok whole) is shown prefix = absurd (cc)
broke-at-end settings None out read out' err (Err e) is shown prefix = tt
broke-at-end settings (Some t) out read out' err (Err e) is shown prefix = inr (inr (read, shown, prefix), Keeps-refl err)
