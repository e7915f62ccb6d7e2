-- What C is told of a parser: of a push, of its value, of its error and of its end.
use Rattle.std.proofs.Common.{◌≡◌, ◌⊎◌, inl, inr, ◌∙◌, ◌+◌, ◌-◌, ◌^◌, ◌<◌, ◌≤◌, ◌++◌, ℕ, Bool, true, false, List}
use Rattle.std.proofs.Common.{length, take, refl, sym, ap, subst}
use Rattle.std.proofs.lemmas.Bool.{false≢true}
use Rattle.std.specs.Prelude.{Result, Ok, Err, IfOk, IfErr, Some, None, Vec}
use Rattle.std.specs.declared.alloc.Global.{Global}
use Rattle.jiter.specs.Cause.{json_error}
use Rattle.jiter_incremental.specs.IncrementalParser.{HasReceived, Received, WouldFinish}
use Rattle.jiter_incremental.specs.Document.{MayRefuseAt}
use Rattle.jiter_print.specs.Print.{print_of}
use Rattle.jiter_scan.specs.Kind.{Kind, kind_of, out_of_memory}
use Rattle.jiter_scan.specs.declared.errors.JsonError.{JsonError}
use Rattle.jiter_scan.specs.declared.errors.JsonErrorType.TheVariants.{OutOfMemory}
use Rattle.jiter_scan.specs.declared.partial_mode.PartialMode.{PartialMode}
use Rattle.jiter_scan.specs.declared.partial_mode.PartialMode.TheVariants.{Off}
use Rattle.jiter_steps.specs.Answer.{answer_in}
use Rattle.jiter_steps.specs.Read.{Reading, done, fault}
use Rattle.jiter_steps.specs.Tree.{Tree}
use Rattle.jiter_value.specs.Owned.{owned_tree}
use Rattle.jiter_value.specs.Parses.{Parses, reading_as}
use Rattle.jiter_value.specs.Value.{view}
use Rattle.jiter_value.specs.declared.value.JsonValue.{JsonValue}
use Rattle.jiter_c.specs.Faults.{fault_of, misuse}
use Rattle.jiter_c.specs.Holding.{MatchParser}
use Rattle.jiter_c.specs.Parsers.{Errs, Finishes, Prints, Pushed, ReportsError, ReportsFinish, ReportsPrint}
use Rattle.jiter_c.specs.Parsers.{reading_so_far, reading_whole}
use Rattle.jiter_c.specs.Printing.{WritesText}
use Rattle.jiter_c.specs.declared.faults.JiterFault.{JiterFault}
use Rattle.jiter_c.specs.declared.handles.Contents.{Contents}

done-is : {A : Type 0} (v w : A) (e i : ℕ) → done v e ≡ done w i → v ≡ w
done-is v w e i is = cc

-- a push that failed
pub push_failed : (p q : Received) (chunk : List ℕ) → q.settings ≡ p.settings
    → ((t : List ℕ) → HasReceived p t → HasReceived q (t ++ take (q.position - p.position) chunk))
    → (p.position ≤ q.position) × (q.position ≤ p.position + length chunk)
    → ((t : List ℕ) → HasReceived p t → p.position + length chunk < 2 ^ 64 → MayRefuseAt (t ++ chunk) q.position)
    → (2 ^ 64 ≤ p.position + length chunk → q ≡ p) → Pushed p q chunk false
push_failed p q chunk settings taken within memory unchanged = (
  settings,
  record { taken = taken; forward = within.0; within = within.1; memory = memory; unchanged = unchanged },
)

prints-done : (r : Reading Tree) (w : Tree) (e i : ℕ) (text : Result (Vec ℕ Global) JiterFault) → r ≡ done w e
    → IfOk text (λ t. t.items ≡ print_of w) → IfErr text (λ f. f ≡ fault_of (json_error out_of_memory) i)
    → Prints i r text
prints-done (done v j) w e i (Ok t) is ok err = ok ∙ ap print_of (sym (done-is v w j e is))
prints-done (done v j) w e i (Err f) is ok err = err
prints-done (fault k j stop) w e i text is ok err = absurd (cc)

pub prints_value : (names : Bool) (mode : PartialMode) (t : List ℕ) (v : JsonValue) (i : ℕ)
    (text : Result (Vec ℕ Global) JiterFault) → Parses owned_tree ⊥ names mode t (Ok v)
    → IfOk text (λ t. t.items ≡ print_of (view v)) → IfErr text (λ f. f ≡ fault_of (json_error out_of_memory) i)
    → Prints i (reading_as owned_tree (answer_in names mode t)) text
prints_value names mode t v i text p ok err =
    prints-done (reading_as owned_tree (answer_in names mode t)) (view v) p.answer.0 i text p.answer.1 ok err

-- the error of a parse that doesn't allocate
parse-fault : (names : Bool) (mode : PartialMode) (t : List ℕ) (e : JsonError)
    → Parses owned_tree ⊥ names mode t (Err e)
    → (stop : ℕ) × (reading_as owned_tree (answer_in names mode t) ≡ fault (kind_of e.error_type) e.index stop)
parse-fault names mode t e p = by p.answer where
  by : (e.error_type ≡ OutOfMemory)
      ⊎ ((stop : ℕ) × (reading_as owned_tree (answer_in names mode t) ≡ fault (kind_of e.error_type) e.index stop))
      → (stop : ℕ) × (reading_as owned_tree (answer_in names mode t) ≡ fault (kind_of e.error_type) e.index stop)
  by (inl m) = absurd (p.memory m)
  by (inr bad) = bad

abbrev fault-in : JiterFault → Reading Tree → JiterFault
fault-in other (done v e) = other
fault-in other (fault k i stop) = fault_of (json_error k) i

prints-fault : (n : ℕ) (r : Reading Tree) (k : Kind) (i stop : ℕ) (f : JiterFault) → r ≡ fault k i stop
    → f ≡ fault_of (json_error k) i → Prints n r (Err f)
prints-fault n (done v e) k i stop f is told = absurd (cc)
prints-fault n (fault l j end) k i stop f is told = told ∙ sym (ap (fault-in f) is)

pub prints_error : (n : ℕ) (names : Bool) (mode : PartialMode) (t : List ℕ) (e : JsonError) (f : JiterFault)
    → Parses owned_tree ⊥ names mode t (Err e) → f ≡ fault_of (json_error (kind_of e.error_type)) e.index
    → Prints n (reading_as owned_tree (answer_in names mode t)) (Err f)
prints_error n names mode t e f p told =
    let bad = parse-fault names mode t e p in prints-fault n _ _ _ bad.0 f bad.1 told

errs-fault : (r : Reading Tree) (k : Kind) (i stop : ℕ) (f : JiterFault) → r ≡ fault k i stop
    → f ≡ fault_of (json_error k) i → Errs r (Some f)
errs-fault (done v e) k i stop f is told = absurd (cc)
errs-fault (fault l j end) k i stop f is told = ap Some (told ∙ sym (ap (fault-in f) is))

pub errs_some : (names : Bool) (t : List ℕ) (e : JsonError) (f : JiterFault) → WouldFinish names t (Some e)
    → f ≡ fault_of (json_error (kind_of e.error_type)) e.index
    → Errs (reading_as owned_tree (answer_in names Off t)) (Some f)
errs_some names t e f p told =
    let bad = parse-fault names Off t e p in errs-fault _ _ _ bad.0 f bad.1 told

errs-done : (r : Reading Tree) (w : Tree) (e : ℕ) → r ≡ done w e → Errs r None
errs-done (done v j) w e is = refl
errs-done (fault k j stop) w e is = absurd (cc)

pub errs_none : (names : Bool) (t : List ℕ) → WouldFinish names t None
    → Errs (reading_as owned_tree (answer_in names Off t)) None
errs_none names t (v, p) = errs-done _ (view v) p.answer.0 p.answer.1

finishes-done : (r : Reading Tree) (v : JsonValue) (e : ℕ) → r ≡ done (view v) e → Finishes r (Contents.Document v) None
finishes-done (done w j) v e is = (sym (done-is w (view v) j e is), refl)
finishes-done (fault k j stop) v e is = absurd (cc)

pub finishes_done : (names : Bool) (t : List ℕ) (v : JsonValue) → Parses owned_tree ⊥ names Off t (Ok v)
    → Finishes (reading_as owned_tree (answer_in names Off t)) (Contents.Document v) None
finishes_done names t v p = finishes-done _ v p.answer.0 p.answer.1

finishes-fault : (r : Reading Tree) (k : Kind) (i stop : ℕ) (f : JiterFault) → r ≡ fault k i stop
    → f ≡ fault_of (json_error k) i → Finishes r Contents.Nothing (Some f)
finishes-fault (done v e) k i stop f is told = absurd (cc)
finishes-fault (fault l j end) k i stop f is told = (refl, ap Some (told ∙ sym (ap (fault-in f) is)))

pub finishes_fault : (names : Bool) (t : List ℕ) (e : JsonError) (f : JiterFault)
    → Parses owned_tree ⊥ names Off t (Err e) → f ≡ fault_of (json_error (kind_of e.error_type)) e.index
    → Finishes (reading_as owned_tree (answer_in names Off t)) Contents.Nothing (Some f)
finishes_fault names t e f p told =
    let bad = parse-fault names Off t e p in finishes-fault _ _ _ bad.0 f bad.1 told

-- What is known of the contents of a handle, as a call writes it.
pub reports_print : (contents : Contents) (text : Result (Vec ℕ Global) JiterFault) (given : Bool) (out after : List ℕ)
    (whole count : ℕ) (before later : JiterFault)
    → MatchParser contents (text ≡ Err misuse)
    (λ p. (t : List ℕ) → HasReceived p t → Prints p.position (reading_so_far p t) text)
    → WritesText text given out after whole count before later
    → MatchParser contents (WritesText (Err misuse) given out after whole count before later)
    (λ p. (t : List ℕ) → HasReceived p t
    → ReportsPrint p.position (reading_so_far p t) given out after whole count before later)
reports_print Contents.Nothing text given out after whole count before later h w =
    subst (λ x. WritesText x given out after whole count before later) h w
reports_print (Contents.Parser p) text given out after whole count before later h w = λ t r. (text, h t r, w)
reports_print (Contents.Document v) text given out after whole count before later h w =
    subst (λ x. WritesText x given out after whole count before later) h w
reports_print (Contents.Lines l) text given out after whole count before later h w =
    subst (λ x. WritesText x given out after whole count before later) h w

some-is : (f g : JiterFault) → Some f ≡ Some g → f ≡ g
some-is f g is = cc

none-some : (f : JiterFault) → None ≡ Some f → ⊥
none-some f is = cc

pub reports_error : (contents : Contents) (f before : JiterFault)
    → MatchParser contents (Some f ≡ Some misuse)
    (λ p. (t : List ℕ) → HasReceived p t → Errs (reading_whole p t) (Some f))
    → MatchParser contents ((true ≡ true) × (f ≡ misuse))
    (λ p. (t : List ℕ) → HasReceived p t → ReportsError (reading_whole p t) true before f)
reports_error Contents.Nothing f before h = (refl, some-is f misuse h)
reports_error (Contents.Parser p) f before h = λ t r. (h t r, λ no. absurd (false≢true (sym no)))
reports_error (Contents.Document v) f before h = (refl, some-is f misuse h)
reports_error (Contents.Lines l) f before h = (refl, some-is f misuse h)

pub reports_no_error : (contents : Contents) (before : JiterFault)
    → MatchParser contents (None ≡ Some misuse)
    (λ p. (t : List ℕ) → HasReceived p t → Errs (reading_whole p t) None)
    → MatchParser contents ((false ≡ true) × (before ≡ misuse))
    (λ p. (t : List ℕ) → HasReceived p t → ReportsError (reading_whole p t) false before before)
reports_no_error Contents.Nothing before h = absurd (none-some misuse h)
reports_no_error (Contents.Parser p) before h = λ t r. (h t r, λ no. refl)
reports_no_error (Contents.Document v) before h = absurd (none-some misuse h)
reports_no_error (Contents.Lines l) before h = absurd (none-some misuse h)

pub reports_failed : (contents new : Contents) (f before : JiterFault)
    → MatchParser contents ((Some f ≡ Some misuse) × (new ≡ contents))
    (λ p. (t : List ℕ) → HasReceived p t → Finishes (reading_whole p t) new (Some f))
    → MatchParser contents ((false ≡ false) × (f ≡ misuse) × (new ≡ contents))
    (λ p. (t : List ℕ) → HasReceived p t → ReportsFinish (reading_whole p t) new false before f)
reports_failed Contents.Nothing new f before h = (refl, some-is f misuse h.0, h.1)
reports_failed (Contents.Parser p) new f before h = λ t r. (h t r, λ no. absurd (false≢true no))
reports_failed (Contents.Document v) new f before h = (refl, some-is f misuse h.0, h.1)
reports_failed (Contents.Lines l) new f before h = (refl, some-is f misuse h.0, h.1)

pub reports_finished : (contents new : Contents) (before : JiterFault)
    → MatchParser contents ((None ≡ Some misuse) × (new ≡ contents))
    (λ p. (t : List ℕ) → HasReceived p t → Finishes (reading_whole p t) new None)
    → MatchParser contents ((true ≡ false) × (before ≡ misuse) × (new ≡ contents))
    (λ p. (t : List ℕ) → HasReceived p t → ReportsFinish (reading_whole p t) new true before before)
reports_finished Contents.Nothing new before h = absurd (none-some misuse h.0)
reports_finished (Contents.Parser p) new before h = λ t r. (h t r, λ no. refl)
reports_finished (Contents.Document v) new before h = absurd (none-some misuse h.0)
reports_finished (Contents.Lines l) new before h = absurd (none-some misuse h.0)
