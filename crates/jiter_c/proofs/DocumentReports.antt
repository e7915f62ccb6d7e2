-- What a parse puts into a handle, and what it writes.
use Rattle.std.proofs.Common.{◌≡◌, ◌⊎◌, inl, inr, ◌∙◌, ◌≤◌, ℕ, Bool, true, false, List, length, refl, sym, ap}
use Rattle.std.proofs.Common.{subst, option_map, arith}
use Rattle.std.specs.Prelude.{Result, Ok, Err, IfErr, IfOk, Option, Some, None, MatchOption, MatchResult, Vec}
use Rattle.std.specs.Prelude.{option_and_then}
use Rattle.std.specs.declared.alloc.Global.{Global}
use Rattle.jiter_print.specs.Print.{print_of}
use Rattle.jiter_scan.specs.Kind.{Kind, kind_of, out_of_memory}
use Rattle.jiter_scan.specs.declared.errors.JsonError.{JsonError}
use Rattle.jiter_scan.specs.declared.errors.JsonErrorType.{JsonErrorType}
use Rattle.jiter_scan.specs.declared.errors.JsonErrorType.TheVariants as code
use Rattle.jiter_scan.specs.declared.partial_mode.PartialMode.{PartialMode}
use Rattle.jiter_steps.specs.Answer.{answer_in}
use Rattle.jiter_steps.specs.Blank.{past_blanks}
use Rattle.jiter_steps.specs.Read.{Reading, done, fault}
use Rattle.jiter_steps.specs.Tree.{Tree}
use Rattle.jiter_steps.specs.Unique.{unique_answer_in}
use Rattle.jiter_steps.proofs.Grammar.Blanks.{past_blanks-bound}
use Rattle.jiter_value.specs.Owned.{HoldsBorrowedTextOrPart, OwnedMayGrow, ReadHolds, owned_tree}
use Rattle.jiter_value.specs.Parses.{AnswersBy, Parses, as_read, reading_as}
use Rattle.jiter_value.specs.ParsesUnique.{ParsesUnique, refusing_repeats}
use Rattle.jiter_value.specs.UniqueErrors.{IsMemoryRefused, unique_kind}
use Rattle.jiter_value.specs.Value.{Answers, MayGrow, view}
use Rattle.jiter_value.specs.declared.parse.unique_error.UniqueError.{UniqueError}
use Rattle.jiter_value.specs.declared.value.JsonValue.{JsonValue}
use Rattle.jiter.specs.Cause.{json_error}
use Rattle.jiter_c.specs.Documents.{PrintsBytes, RunsOut}
use Rattle.jiter_c.specs.Faults.{fault_of, kind_number, memory_number, misuse}
use Rattle.jiter_c.specs.Holding.{MatchDocument}
use Rattle.jiter_c.specs.Printing.{WritesText}
use Rattle.jiter_c.specs.Reports.{UnlessMemory, written}
use Rattle.jiter_c.specs.Values.{Copies, HoldsKey, OwnedRunsOut, Reads, Refuses, ReportsCopy, value_report, wanted_text}
use Rattle.jiter_c.specs.declared.document_texts.Wanted.TheVariants as wanted
use Rattle.jiter_c.specs.declared.faults.JiterFault.{JiterFault}
use Rattle.jiter_c.specs.declared.handles.Contents.{Contents}
use Rattle.jiter_c.specs.declared.values.JiterValue.{JiterValue}

done-is : {A : Type 0} (v w : A) (e i : ℕ) → done v e ≡ done w i → v ≡ w
done-is v w e i is = cc

abbrev kind-in : Kind → Reading Tree → Kind
kind-in other (done v e) = other
kind-in other (fault k i stop) = k

abbrev index-in : ℕ → Reading Tree → ℕ
index-in other (done v e) = other
index-in other (fault k i stop) = i

-- an error is the reading's, or memory ran out
same-fault : (r : Reading Tree) (k : Kind) (i stop : ℕ) (l : Kind) (j end : ℕ) (f : JiterFault) → r ≡ fault k i stop
    → r ≡ fault l j end → f ≡ fault_of (json_error l) j → f ≡ fault_of (json_error k) i
same-fault r k i stop l j end f here is told =
    told ∙ ap (λ n. fault_of (json_error n) j) (ap (kind-in l) (sym is ∙ here))
    ∙ ap (fault_of (json_error k)) (ap (index-in j) (sym is ∙ here))

ran-out : (G : Type 0) (t : List ℕ) (k : Kind) (i : ℕ) (f : JiterFault) → f ≡ fault_of (json_error k) i
    → k ≡ out_of_memory → G → past_blanks t 0 ≤ i → i ≤ length t → RunsOut G t f
ran-out G t k i f told memory grows begun within =
    let at : f.index ≡ i = ap (λ (g : JiterFault). g.index) told ∙ ap (λ n. (fault_of (json_error n) i).index) memory in
    record {
      grows = grows;
      fault = told ∙ ap (λ n. fault_of (json_error n) i) memory ∙ ap (fault_of (json_error out_of_memory)) (sym at);
      begun = omega (arith, begun, at);
      within = omega (arith, within, at);
    }

-- an error of a parse for which memory ran out
pub runs_out : (made : Tree → Tree) (G : Type 0) (names : Bool) (mode : PartialMode) (t : List ℕ) (e : JsonError)
    (f : JiterFault) → Parses made G names mode t (Err e) → f ≡ fault_of (json_error (kind_of e.error_type)) e.index
    → f.kind ≡ memory_number → RunsOut G t f
runs_out made G names mode t e f p told kind =
    let m = memory-kind e.error_type (sym (ap (λ (g : JiterFault). g.kind) told) ∙ kind) in
    ran-out G t (kind_of e.error_type) e.index f told (ap kind_of m) (p.memory m) (p.place m) p.index where
      memory-kind : (c : JsonErrorType) → kind_number (kind_of c) ≡ memory_number → c ≡ code.OutOfMemory
      memory-kind code.FloatExpectingInt h = absurd (omega (arith, h))
      memory-kind code.EofWhileParsingList h = absurd (omega (arith, h))
      memory-kind code.EofWhileParsingObject h = absurd (omega (arith, h))
      memory-kind code.EofWhileParsingString h = absurd (omega (arith, h))
      memory-kind code.EofWhileParsingValue h = absurd (omega (arith, h))
      memory-kind code.ExpectedColon h = absurd (omega (arith, h))
      memory-kind code.ExpectedListCommaOrEnd h = absurd (omega (arith, h))
      memory-kind code.ExpectedObjectCommaOrEnd h = absurd (omega (arith, h))
      memory-kind code.ExpectedSomeIdent h = absurd (omega (arith, h))
      memory-kind code.ExpectedSomeValue h = absurd (omega (arith, h))
      memory-kind code.InvalidEscape h = absurd (omega (arith, h))
      memory-kind code.InvalidNumber h = absurd (omega (arith, h))
      memory-kind code.NumberOutOfRange h = absurd (omega (arith, h))
      memory-kind code.InvalidUnicodeCodePoint h = absurd (omega (arith, h))
      memory-kind code.ControlCharacterWhileParsingString h = absurd (omega (arith, h))
      memory-kind code.KeyMustBeAString h = absurd (omega (arith, h))
      memory-kind code.LoneLeadingSurrogateInHexEscape h = absurd (omega (arith, h))
      memory-kind code.TrailingComma h = absurd (omega (arith, h))
      memory-kind code.TrailingCharacters h = absurd (omega (arith, h))
      memory-kind code.UnexpectedEndOfHexEscape h = absurd (omega (arith, h))
      memory-kind code.RecursionLimitExceeded h = absurd (omega (arith, h))
      memory-kind code.OutOfMemory h = refl

-- a kind of the library is no repeated key
no-key : (c : JsonErrorType) → HoldsKey (kind_of c) Contents.Nothing
no-key code.FloatExpectingInt = refl
no-key code.EofWhileParsingList = refl
no-key code.EofWhileParsingObject = refl
no-key code.EofWhileParsingString = refl
no-key code.EofWhileParsingValue = refl
no-key code.ExpectedColon = refl
no-key code.ExpectedListCommaOrEnd = refl
no-key code.ExpectedObjectCommaOrEnd = refl
no-key code.ExpectedSomeIdent = refl
no-key code.ExpectedSomeValue = refl
no-key code.InvalidEscape = refl
no-key code.InvalidNumber = refl
no-key code.NumberOutOfRange = refl
no-key code.InvalidUnicodeCodePoint = refl
no-key code.ControlCharacterWhileParsingString = refl
no-key code.KeyMustBeAString = refl
no-key code.LoneLeadingSurrogateInHexEscape = refl
no-key code.TrailingComma = refl
no-key code.TrailingCharacters = refl
no-key code.UnexpectedEndOfHexEscape = refl
no-key code.RecursionLimitExceeded = refl
no-key code.OutOfMemory = refl

-- ---- what is put into a handle
-- a value
reads-done : (t : List ℕ) (r : Reading Tree) (v : JsonValue) (w : Tree) (e : ℕ) → r ≡ done w e
    → view v ≡ owned_tree w → Reads t r (Contents.Document v) None
reads-done t (done u i) v w e is same = same ∙ ap owned_tree (sym (done-is u w i e is))
reads-done t (fault k i stop) v w e is same = absurd (cc)

pub parsed_owned : (G : Type 0) (names : Bool) (mode : PartialMode) (t : List ℕ) (v : JsonValue)
    → Parses owned_tree G names mode t (Ok v) → Reads t (answer_in names mode t) (Contents.Document v) None
parsed_owned G names mode t v p = by (answer_in names mode t) p.answer.1 where
  by : (r : Reading Tree) → reading_as owned_tree r ≡ done (view v) p.answer.0
      → Reads t r (Contents.Document v) None
  by (done u i) is = sym (done-is (owned_tree u) (view v) i p.answer.0 is)
  by (fault k i stop) is = absurd (cc)

-- an error of the bytes
reads-fault : (t : List ℕ) (r : Reading Tree) (k : Kind) (i stop : ℕ) (contents : Contents) (f : JiterFault)
    → r ≡ fault k i stop → f ≡ fault_of (json_error k) i → HoldsKey k contents → Reads t r contents (Some f)
reads-fault t (done v e) k i stop contents f is told key = absurd (cc)
reads-fault t (fault l j end) k i stop contents f is told key =
    inl (same-fault (fault l j end) l j end k i stop f refl is told, subst (λ n. HoldsKey n contents) (sym (ap (kind-in l) is)) key)

-- out of memory
reads-memory : (t : List ℕ) (r : Reading Tree) (f : JiterFault) → OwnedRunsOut t r f
    → Reads t r Contents.Nothing (Some f)
reads-memory t (done v e) f out = (out, refl)
reads-memory t (fault k i stop) f out = inr (out, refl)

as-fault : (r : Reading Tree) (k : Kind) (i stop : ℕ) → reading_as owned_tree r ≡ fault k i stop → r ≡ fault k i stop
as-fault (done v e) k i stop is = absurd (cc)
as-fault (fault l j end) k i stop is = is

pub parse_refused : (names : Bool) (mode : PartialMode) (t : List ℕ) (e : JsonError) (f : JiterFault)
    → Parses owned_tree (OwnedMayGrow names mode t) names mode t (Err e)
    → f ≡ fault_of (json_error (kind_of e.error_type)) e.index
    → Reads t (answer_in names mode t) Contents.Nothing (Some f)
parse_refused names mode t e f p told = by p.answer where
  by : (e.error_type ≡ code.OutOfMemory)
      ⊎ ((stop : ℕ) × (reading_as owned_tree (answer_in names mode t) ≡ fault (kind_of e.error_type) e.index stop))
      → Reads t (answer_in names mode t) Contents.Nothing (Some f)
  by (inl m) =
      reads-memory t (answer_in names mode t) f
      (ran-out _ t (kind_of e.error_type) e.index f told (ap kind_of m) (p.memory m) (p.place m) p.index)
  by (inr bad) =
      reads-fault t (answer_in names mode t) (kind_of e.error_type) e.index bad.0 Contents.Nothing f
      (as-fault (answer_in names mode t) _ _ bad.0 bad.1) told (no-key e.error_type)

-- the same where a repeated key is an error
pub unique_owned : (names : Bool) (mode : PartialMode) (t : List ℕ) (u v : JsonValue)
    → AnswersBy (refusing_repeats names) (Ok u) (unique_answer_in names mode t) → view v ≡ owned_tree (view u)
    → Reads t (unique_answer_in names mode t) (Contents.Document v) None
unique_owned names mode t u v a same = reads-done t (unique_answer_in names mode t) v (view u) a.0 a.1 same

pub unique_no_memory : (names : Bool) (mode : PartialMode) (t : List ℕ) (u : JsonValue) (f : JiterFault)
    → AnswersBy (refusing_repeats names) (Ok u) (unique_answer_in names mode t) → HoldsBorrowedTextOrPart (view u)
    → f ≡ fault_of (json_error out_of_memory) (length t)
    → Reads t (unique_answer_in names mode t) Contents.Nothing (Some f)
unique_no_memory names mode t u f a holds told =
    reads-memory t (unique_answer_in names mode t) f
    (ran-out _ t out_of_memory (length t) f told refl
    (inr (subst ReadHolds (sym a.1) holds)) (past_blanks-bound t 0 (omega arith)) (omega arith))

pub unique_refused : (names : Bool) (mode : PartialMode) (t : List ℕ) (e : UniqueError) (contents : Contents)
    (error : Option JiterFault) → AnswersBy (refusing_repeats names) (Err e) (unique_answer_in names mode t)
    → ParsesUnique names mode t (Err e) → Refuses (unique_kind e.error_type) e.index contents error
    → Reads t (unique_answer_in names mode t) contents error
unique_refused names mode t e contents None a p refused = absurd refused
unique_refused names mode t e contents (Some f) a p refused = by a where
  by : IsMemoryRefused e.error_type
      ⊎ ((stop : ℕ) × (unique_answer_in names mode t ≡ fault (unique_kind e.error_type) e.index stop))
      → Reads t (unique_answer_in names mode t) contents (Some f)
  by (inl m) =
      let kind = ap unique_kind m in
      subst (λ c. Reads t (unique_answer_in names mode t) c (Some f))
      (sym (subst (λ k. HoldsKey k contents) kind refused.1))
      (reads-memory t (unique_answer_in names mode t) f
      (ran-out _ t (unique_kind e.error_type) e.index f refused.0 kind (inl (p.memory m)) (p.place m) p.index))
  by (inr bad) =
      reads-fault t (unique_answer_in names mode t) (unique_kind e.error_type) e.index bad.0 contents f bad.1
      refused.0 refused.1

-- ---- what a print writes
pub prints_value : (names : Bool) (mode : PartialMode) (t : List ℕ) (v : JsonValue) (text : Result (Vec ℕ Global) JiterFault)
    → Answers (Ok v) (answer_in names mode t) → IfOk text (λ x. x.items ≡ print_of (view v))
    → IfErr text (λ f. f ≡ fault_of (json_error out_of_memory) (length t))
    → PrintsBytes t (answer_in names mode t) text
prints_value names mode t v text a ok err = by (answer_in names mode t) text a.1 ok err where
  by : (r : Reading Tree) (text : Result (Vec ℕ Global) JiterFault) → r ≡ done (view v) a.0
      → IfOk text (λ x. x.items ≡ print_of (view v))
      → IfErr text (λ f. f ≡ fault_of (json_error out_of_memory) (length t)) → PrintsBytes t r text
  by (done w e) (Ok x) is ok err = ok ∙ ap print_of (sym (done-is w (view v) e a.0 is))
  by (done w e) (Err f) is ok err =
      ran-out _ t out_of_memory (length t) f err refl (inr (ap (λ (g : JiterFault). g.index) err))
      (past_blanks-bound t 0 (omega arith)) (omega arith)
  by (fault k i stop) text is ok err = absurd (cc)

pub prints_error : (names : Bool) (mode : PartialMode) (t : List ℕ) (e : JsonError) (f : JiterFault)
    → Answers (Err e) (answer_in names mode t) → Parses as_read (MayGrow t) names mode t (Err e)
    → f ≡ fault_of (json_error (kind_of e.error_type)) e.index → PrintsBytes t (answer_in names mode t) (Err f)
prints_error names mode t e f a p told = by (answer_in names mode t) a where
  by : (r : Reading Tree)
      → (e.error_type ≡ code.OutOfMemory) ⊎ ((stop : ℕ) × (r ≡ fault (kind_of e.error_type) e.index stop))
      → PrintsBytes t r (Err f)
  by (done v i) (inl m) =
      ran-out _ t (kind_of e.error_type) e.index f told (ap kind_of m) (inl (p.memory m)) (p.place m) p.index
  by (done v i) (inr bad) = absurd (not-done bad.1) where
    not-done : done v i ≡ fault (kind_of e.error_type) e.index bad.0 → ⊥
    not-done is = cc
  by (fault k i stop) (inl m) =
      inr (ran-out _ t (kind_of e.error_type) e.index f told (ap kind_of m) (p.memory m) (p.place m) p.index)
  by (fault k i stop) (inr bad) =
      inl (same-fault (fault k i stop) k i stop (kind_of e.error_type) e.index bad.0 f refl bad.1 told)

pub reports_document : (text : Result (Vec ℕ Global) JiterFault) (expected : List ℕ) (given : Bool) (out later : List ℕ)
    (whole count : ℕ) (before f : JiterFault)
    → MatchResult text (λ x. x.items ≡ expected) (λ g. g.kind ≡ memory_number)
    → WritesText text given out later whole count before f → UnlessMemory given f (later ≡ written expected out)
reports_document (Ok x) expected given out later whole count before f is w =
    subst (λ g. UnlessMemory g f (later ≡ written expected out)) (sym w.0)
    (w.1 ∙ ap (λ s. written s out) is)
reports_document (Err g) expected given out later whole count before f is w =
    subst (λ b. UnlessMemory b f (later ≡ written expected out)) (sym w.0)
    (λ bytes. absurd (bytes (ap (λ (h : JiterFault). h.kind) w.3 ∙ is)))

-- ---- what is read of a handle
copies-json : (text : Result (Vec ℕ Global) JiterFault) (v : Tree) → IfOk text (λ x. x.items ≡ print_of v)
    → IfErr text (λ f. f ≡ fault_of (json_error out_of_memory) 0) → Copies (Some (print_of v)) text
copies-json (Ok x) v ok err = ok
copies-json (Err f) v ok err = err

pub copies_json : (text : Result (Vec ℕ Global) JiterFault) (v : Tree) → IfOk text (λ x. x.items ≡ print_of v)
    → IfErr text (λ f. f ≡ fault_of (json_error out_of_memory) 0) → Copies (wanted_text wanted.Json v) text
copies_json text v ok err = copies-json text v ok err

pub reports_copy : (contents : Contents) (bytes : Tree → Option (List ℕ)) (text : Result (Vec ℕ Global) JiterFault)
    (given : Bool) (out later : List ℕ) (whole count : ℕ) (before f : JiterFault)
    → MatchDocument contents (text ≡ Err misuse) (λ v. Copies (bytes v) text)
    → WritesText text given out later whole count before f
    → MatchDocument contents (WritesText (Err misuse) given out later whole count before f)
    (λ v. ReportsCopy (bytes v) given out later whole count before f)
reports_copy Contents.Nothing bytes text given out later whole count before f h w =
    subst (λ x. WritesText x given out later whole count before f) h w
reports_copy (Contents.Parser q) bytes text given out later whole count before f h w =
    subst (λ x. WritesText x given out later whole count before f) h w
reports_copy (Contents.Document v) bytes text given out later whole count before f h w = (text, h, w)
reports_copy (Contents.Lines l) bytes text given out later whole count before f h w =
    subst (λ x. WritesText x given out later whole count before f) h w

json-of : (o : Option Tree) → option_and_then (wanted_text wanted.Json) o ≡ option_map print_of o
json-of None = refl
json-of (Some v) = refl

pub reports_json : (contents : Contents) (place : Tree → Option Tree) (text : Result (Vec ℕ Global) JiterFault)
    (given : Bool) (out later : List ℕ) (whole count : ℕ) (before f : JiterFault)
    → MatchDocument contents (text ≡ Err misuse) (λ v. Copies (option_and_then (wanted_text wanted.Json) (place v)) text)
    → WritesText text given out later whole count before f
    → MatchDocument contents (WritesText (Err misuse) given out later whole count before f)
    (λ v. ReportsCopy (option_map print_of (place v)) given out later whole count before f)
reports_json Contents.Nothing place text given out later whole count before f h w =
    subst (λ x. WritesText x given out later whole count before f) h w
reports_json (Contents.Parser q) place text given out later whole count before f h w =
    subst (λ x. WritesText x given out later whole count before f) h w
reports_json (Contents.Document v) place text given out later whole count before f h w =
    (text, subst (λ o. Copies o text) (json-of (place (view v))) h, w)
reports_json (Contents.Lines l) place text given out later whole count before f h w =
    subst (λ x. WritesText x given out later whole count before f) h w

value-found : (o : Option Tree) (old new : JiterValue) → Some new ≡ option_map value_report o
    → MatchOption o ((true ≡ false) × (new ≡ old)) (λ w. (true ≡ true) × (new ≡ value_report w))
value-found None old new is = absurd (cc)
value-found (Some w) old new is = (refl, cc)

value-missing : (o : Option Tree) (old : JiterValue) → None ≡ option_map value_report o
    → MatchOption o ((false ≡ false) × (old ≡ old)) (λ w. (false ≡ true) × (old ≡ value_report w))
value-missing None old is = (refl, refl)
value-missing (Some w) old is = absurd (cc)

some-none : (v : JiterValue) → Some v ≡ None → ⊥
some-none v is = cc

pub value_found : (contents : Contents) (place : Tree → Option Tree) (old new : JiterValue)
    → MatchDocument contents (Some new ≡ None) (λ v. Some new ≡ option_map value_report (place v))
    → MatchDocument contents ((true ≡ false) × (new ≡ old)) (λ v. MatchOption (place v) ((true ≡ false) × (new ≡ old))
    (λ w. (true ≡ true) × (new ≡ value_report w)))
value_found Contents.Nothing place old new h = absurd (some-none new h)
value_found (Contents.Parser q) place old new h = absurd (some-none new h)
value_found (Contents.Document v) place old new h = value-found (place (view v)) old new h
value_found (Contents.Lines l) place old new h = absurd (some-none new h)

abbrev no-value : Option JiterValue
no-value = None

pub value_missing : (contents : Contents) (place : Tree → Option Tree) (old : JiterValue)
    → MatchDocument contents (no-value ≡ None) (λ v. None ≡ option_map value_report (place v))
    → MatchDocument contents ((false ≡ false) × (old ≡ old)) (λ v. MatchOption (place v) ((false ≡ false) × (old ≡ old))
    (λ w. (false ≡ true) × (old ≡ value_report w)))
value_missing Contents.Nothing place old h = (refl, refl)
value_missing (Contents.Parser q) place old h = (refl, refl)
value_missing (Contents.Document v) place old h = value-missing (place (view v)) old h
value_missing (Contents.Lines l) place old h = (refl, refl)
