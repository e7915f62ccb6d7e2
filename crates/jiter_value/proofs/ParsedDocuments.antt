-- What a parse promises that keeps repeated keys, from its answer and where it may want memory.
use Rattle.jiter_value.proofs.Words.{◌≡◌, ℕ, ◌≤◌, Bool, List, length, refl, sym, ap, ap₂, ◌∙◌, subst, Result, Ok, Err}
use Rattle.jiter_value.proofs.Words.{IfErr, MatchResult, Option, Some, None, option_map, JsonError, PartialMode, answer}
use Rattle.jiter_value.proofs.Words.{answer_in, past_blanks, cut, IsBegunContainer, IsCutContainer, Reading, done}
use Rattle.jiter_value.proofs.Words.{fault, WhereRefused, Tree, ReadError, answer_in-cut, EndsEarly, alive, Parses}
use Rattle.jiter_value.proofs.Words.{as_read, reading_as, GivesWhole, IsErrorOf, answer_by, view, Answers, Settings}
use Rattle.jiter_value.proofs.Words.{JsonValue}
use Rattle.jiter_scan.specs.Kind.{kind_of}
use Rattle.jiter_scan.specs.declared.errors.JsonErrorType.TheVariants.{OutOfMemory}
use Rattle.jiter_steps.specs.declared.read_error.ReadError.TheVariants as error
use Rattle.jiter_steps.proofs.Cut.CutLaw.{AnswersCut, answer_in-of}
use Rattle.jiter_steps.proofs.Cut.Prefixes.{prefix-refused}
use Rattle.jiter_steps.proofs.Fault.Dead.{dead}
use Rattle.jiter_steps.proofs.Grammar.Documents.{IsRead, answer-is}
use Rattle.jiter_value.specs.Parses.{keeping_repeats}
use Rattle.jiter_value.proofs.ParsedBy as parsed
use Rattle.jiter_value.proofs.WholeTextAnswers.{answer_in-within, error-answers}

pub as_read-is : (x : Reading Tree) → reading_as as_read x ≡ x
as_read-is (done v e) = refl
as_read-is (fault k i stop) = refl

option_map-as_read : (o : Option Tree) → option_map as_read o ≡ o
option_map-as_read None = refl
option_map-as_read (Some v) = refl

pub as_read-cut : (names : Bool) (t : List ℕ) (mode : PartialMode) (f : IsBegunContainer names t)
    (r : Result JsonValue JsonError)
    → MatchResult r (λ v. option_map as_read (cut names f.text f.node f.place mode) ≡ Some (view v))
    (λ e. e.error_type ≡ OutOfMemory)
    → MatchResult r (λ v. cut names f.text f.node f.place mode ≡ Some (view v)) (λ e. e.error_type ≡ OutOfMemory)
as_read-cut names t mode f (Ok v) h = sym (option_map-as_read (cut names f.text f.node f.place mode)) ∙ h
as_read-cut names t mode f (Err e) h = h

-- what a cut leaves is answered
pub cut-left : (names : Bool) (t : List ℕ) (mode : PartialMode) (f : IsBegunContainer names t) (x : Reading Tree)
    → AnswersCut names t mode f x → parsed.AnswersLeft (cut names f.text f.node f.place mode) x
cut-left names t mode f (done v e) h = h
cut-left names t mode f (fault k i stop) h = h

-- a container that is cut ends too early
cut-early : (names : Bool) (t : List ℕ) → IsCutContainer names t → EndsEarly (answer names t)
cut-early names t c = rw c.is (prefix-refused names c.text c.node c.place c.document c.container c.before_end)

-- What is known of the readings.
pub laws : (names : Bool) → parsed.Laws (keeping_repeats names) names
laws names = record {
  memory = λ e m. ap kind_of m;
  found = λ t v e is. let read = subst (IsRead names t) is (answer-is names t) in (read.0, read.1, read.2);
  accepts = λ mode t n d. answer_in-of names t mode n d;
  cut = λ mode t f on. cut-left names t mode f (answer_in names mode t) (answer_in-cut names t mode f on);
  early = λ t c. cut-early names t c;
  dead = λ t. dead names t;
  alive = λ t. alive names t;
  within = λ mode t. answer_in-within names t mode;
}

module _ (names : Bool) (t : List ℕ) (mode : PartialMode) (made : Tree → Tree) (Grows : Type 0) where
  -- Out of memory is the answer only where the call may allocate, from the first byte of the value to the length.
  abbrev pub IsWanted : JsonError → Type 0
  IsWanted e = e.error_type ≡ OutOfMemory → Grows × (past_blanks t 0 ≤ e.index) × (e.index ≤ length t)

  pub parses : (r : Result JsonValue JsonError) → Answers r (reading_as made (answer_in names mode t))
      → IfErr r IsWanted → Parses made Grows names mode t r
  parses r h want = parsed.parses (keeping_repeats names) names (laws names) made t mode Grows r h want

-- Of what a reading gives: its value, or the error that is made of why it was given up at i.
module _ (made : Tree → Tree) (Grows : Type 0) (p : Settings) (t : List ℕ) (i : ℕ) where
  pub value-parses : (v : JsonValue) → GivesWhole (Ok v) i (reading_as made (answer_by p t))
      → Parses made Grows p.allow_inf_nan p.mode t (Ok v)
  value-parses v h = parses p.allow_inf_nan t p.mode made Grows (Ok v) h tt

  wanted : (x : ReadError) (e : JsonError) → IsErrorOf x i e
      → GivesWhole (Err x) i (reading_as made (answer_by p t)) → i ≤ length t
      → WhereRefused {A = JsonValue} (Err x) Grows → WhereRefused {A = JsonValue} (Err x) (past_blanks t 0 ≤ i)
      → IsWanted p.allow_inf_nan t p.mode made Grows e
  wanted (error.Memory m) e is h le grows from = λ same. rw is (grows, from, le)
  wanted (error.Fault f) e is h le grows from = λ same.
      let read : reading_as made (answer_by p t) ≡ fault (kind_of e.error_type) e.index i =
      h ∙ ap₂ (λ k x. fault k x i) (sym is.0) (sym is.1) in
      let names = p.allow_inf_nan in
      absurd ((parsed.fault-at (keeping_repeats names) names (laws names) made t p.mode e i read).bytes
      (ap kind_of same))

  pub error-parses : (x : ReadError) (e : JsonError) → IsErrorOf x i e
      → GivesWhole (Err x) i (reading_as made (answer_by p t)) → i ≤ length t
      → WhereRefused {A = JsonValue} (Err x) Grows → WhereRefused {A = JsonValue} (Err x) (past_blanks t 0 ≤ i)
      → Parses made Grows p.allow_inf_nan p.mode t (Err e)
  error-parses x e is h le grows from =
      parses p.allow_inf_nan t p.mode made Grows (Err e)
      (error-answers x i e (reading_as made (answer_by p t)) is h) (wanted x e is h le grows from)

-- What a parse promises, where the same becomes of its tree and memory may be wanted wherever it was.
pub parses-same : (made other : Tree → Tree) → ((v : Tree) → made v ≡ other v) → (P Q : Type 0) → (P → Q)
    → (names : Bool) (mode : PartialMode) (t : List ℕ) (r : Result JsonValue JsonError)
    → Parses made P names mode t r → Parses other Q names mode t r
parses-same made other same P Q more names mode t =
    parsed.parses-alike (keeping_repeats names) names (laws names) made other same P Q more mode t
