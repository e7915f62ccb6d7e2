-- What a parse promises that refuses repeated keys, from its answer and where it may want memory.
use Rattle.jiter_value.proofs.Words.{◌≡◌, inl, inr, ℕ, ◌≤◌, Bool, true, List, length, take, sym, ap, ap₂, ◌∙◌, subst}
use Rattle.jiter_value.proofs.Words.{arith, refl, Result, Ok, Err, Option, Some, None, slice_get, Kind, duplicate_key}
use Rattle.jiter_value.proofs.Words.{is_active, JsonError, PartialMode, Off, On, TrailingStrings, whole_trees}
use Rattle.jiter_value.proofs.Words.{past_blanks, cut, IsBegunContainer, can_go_on, CanBeCompleted, Node, end, value_of}
use Rattle.jiter_value.proofs.Words.{IsCutContainer, Reading, done, fault, if_last, to_end, prefix_answer, Tree}
use Rattle.jiter_value.proofs.Words.{own_bytes, unique_answer_in, ReadError, answer_in-cut, EndsEarly, alive, Within}
use Rattle.jiter_value.proofs.Words.{whole-is, AnswersBy, as_read, reading_as, refusing_repeats, IsErrorOf}
use Rattle.jiter_value.proofs.Words.{GivesUniqueWhole, WhereUniqueRefused, MayGrowBy, MayGrow, Interrupted, JsonValue}
use Rattle.jiter_steps.specs.Answer.{partial_answer}
use Rattle.jiter_steps.specs.Unique.{HasUniqueKeys, IsUniqueDocument, unique_answer}
use Rattle.jiter_steps.specs.declared.read_error.ReadError.TheVariants as error
use Rattle.jiter_steps.proofs.Unique.Agreeing.{IsOfRepeat, IsRepeat, whole_answer-agrees}
use Rattle.jiter_steps.proofs.Unique.Cuts.{unique-cut, unique-prefix_refused}
use Rattle.jiter_steps.proofs.Unique.Dead.{unique-dead}
use Rattle.jiter_steps.proofs.Unique.Documents.{unique-complete, unique-sound}
use Rattle.jiter_steps.proofs.Unique.Tracking.{Tracks, strict, partial, prefix_answer-tracks}
use Rattle.jiter_steps.proofs.Unique.Within.{unique_answer-within, unique_partial-within}
use Rattle.jiter_value.specs.ParsesUnique.{ParsesUnique}
use Rattle.jiter_value.specs.UniqueErrors.{unique_kind}
use Rattle.jiter_value.specs.UniqueKeys.{IsUniqueErrorOf}
use Rattle.jiter_value.specs.declared.parse.turns.unique.Interrupted.TheVariants as stopped
use Rattle.jiter_value.specs.declared.parse.unique_error.UniqueError.{UniqueError}
use Rattle.jiter_value.specs.declared.parse.unique_error.UniqueErrorType.TheVariants as cause
use Rattle.jiter_value.proofs.ParsedBy as parsed
use Rattle.jiter_value.proofs.ParsedDocuments.{as_read-is, cut-left}
use Rattle.jiter_value.proofs.TurnOutcomes.{grows-borrowing}

-- no document begins with what is before a repeated key's error, and little more
no-completion : (k : Kind) → IsOfRepeat k → can_go_on k ≡ true → ⊥
no-completion (duplicate_key key) is on = cc
no-completion k is on = is

module _ (names : Bool) (t : List ℕ) where
  -- With partial reading off: where a repeated key is refused, the error is that or the plain reading's.
  unique-alive : (k : Kind) (i stop : ℕ) → unique_answer names t ≡ fault k i stop → can_go_on k ≡ true
      → CanBeCompleted names (take i t)
  unique-alive k i stop is on =
      elim (whole_answer-agrees own_bytes (whole_trees names) (λ ms v j. refl) (λ kind h. refl) t) [
        | inl same ↦ alive names t k i stop (sym same ∙ is) on
        | inr repeat ↦ absurd (no-completion k (subst IsRepeat is repeat) on)
      ]

  -- a value that nothing follows was read
  last-is : (v w : Tree) (d e j : ℕ) (o : Option ℕ) → if_last v d j o ≡ done w e → done v d ≡ done w e
  last-is v w d e j None is = is
  last-is v w d e j (Some c) is = absurd (cc)

  prefix-is : (x : Reading Tree) (w : Tree) (e : ℕ) → to_end t x ≡ done w e → x ≡ done w e
  prefix-is (done v d) w e is = last-is v w d e (past_blanks t d) (slice_get t (past_blanks t d)) is
  prefix-is (fault k i stop) w e is = absurd (cc)

  -- A document with unique keys is answered in a partial mode too.
  partial-of : (mode : PartialMode) (n : Node) → IsUniqueDocument names t n
      → prefix_answer (partial names mode t) t ≡ done (value_of t n) (end n)
  partial-of mode n d =
      let whole : to_end t (prefix_answer (strict names mode t) t) ≡ done (value_of t n) (end n) =
      sym (whole-is (strict names mode t) t) ∙ unique-complete names t n d in
      let prefix = prefix-is (prefix_answer (strict names mode t) t) (value_of t n) (end n) whole in
      subst (Tracks t (prefix_answer (partial names mode t) t)) prefix (prefix_answer-tracks names mode t)

  unique-of : (mode : PartialMode) (n : Node) → IsUniqueDocument names t n
      → unique_answer_in names mode t ≡ done (value_of t n) (end n)
  unique-of Off n d = unique-complete names t n d
  unique-of On n d = partial-of On n d
  unique-of TrailingStrings n d = partial-of TrailingStrings n d

  -- So is a prefix of one.
  prefix-plain : (mode : PartialMode) (f : IsBegunContainer names t) → HasUniqueKeys f.node
      → prefix_answer (partial names mode t) t ≡ partial_answer names mode t
  prefix-plain mode f keys =
      subst (λ u. prefix_answer (partial names mode u) u ≡ partial_answer names mode u) (sym f.is)
      (unique-cut names f.text f.node f.place (record { document = f.document; unique = keys }) f.container f.within
      mode)

  abbrev LeavesCut : PartialMode → IsBegunContainer names t → Reading Tree → Type 0
  LeavesCut mode f x = parsed.AnswersLeft (cut names f.text f.node f.place mode) x

  prefix-left : (mode : PartialMode) (f : IsBegunContainer names t) → HasUniqueKeys f.node
      → LeavesCut mode f (partial_answer names mode t)
      → LeavesCut mode f (prefix_answer (partial names mode t) t)
  prefix-left mode f keys h = subst (LeavesCut mode f) (sym (prefix-plain mode f keys)) h

  unique-left : (mode : PartialMode) (f : IsBegunContainer names t) → HasUniqueKeys f.node → is_active mode ≡ true
      → LeavesCut mode f (unique_answer_in names mode t)
  unique-left Off f keys on = absurd (cc)
  unique-left On f keys on =
      prefix-left On f keys
      (cut-left names t On f (partial_answer names On t) (answer_in-cut names t On f on))
  unique-left TrailingStrings f keys on =
      prefix-left TrailingStrings f keys
      (cut-left names t TrailingStrings f (partial_answer names TrailingStrings t)
      (answer_in-cut names t TrailingStrings f on))

  unique-early : (c : IsCutContainer names t) → HasUniqueKeys c.node → EndsEarly (unique_answer names t)
  unique-early c keys =
      subst (λ u. EndsEarly (unique_answer names u)) (sym c.is)
      (unique-prefix_refused names c.text c.node c.place (record { document = c.document; unique = keys }) c.container
      (omega (arith, c.before_end, c.document.after.ordered)) c.before_end)

  unique-within : (mode : PartialMode) → Within t 0 (unique_answer_in names mode t)
  unique-within Off = unique_answer-within t names
  unique-within On = unique_partial-within t names On
  unique-within TrailingStrings = unique_partial-within t names TrailingStrings

-- What is known of the readings.
pub laws : (names : Bool) → parsed.Laws (refusing_repeats names) names
laws names = record {
  memory = λ e m. ap unique_kind m;
  found = λ t v e is. unique-sound names t v e is;
  accepts = λ mode t n d. unique-of names t mode n d;
  cut = λ mode t f on. unique-left names t mode f.0 f.1 on;
  early = λ t c. unique-early names t c.0 c.1;
  dead = λ t. unique-dead names t;
  alive = λ t. unique-alive names t;
  within = λ mode t. unique-within names t mode;
}

-- The error that is made of why a reading was given up.
pub read-error : (x : ReadError) (i : ℕ) (old : JsonError) (new : UniqueError) → IsErrorOf x i old
    → new.error_type ≡ cause.JsonError old.error_type → new.index ≡ old.index
    → IsUniqueErrorOf (stopped.Read x) i new
read-error (error.Fault f) i old new is kind index = (ap unique_kind kind ∙ is.0, index ∙ is.1)
read-error (error.Memory m) i old new is kind index =
    (kind ∙ ap (λ e. cause.JsonError e.error_type) is, index ∙ ap (λ e. e.index) is)

module _ (names : Bool) (mode : PartialMode) (t : List ℕ) where
  abbrev Read : Reading Tree
  Read = unique_answer_in names mode t

  abbrev Answer : Result JsonValue UniqueError → Reading Tree → Type 0
  Answer = AnswersBy (refusing_repeats names)

  abbrev Wanted : UniqueError → Type 0
  Wanted = parsed.IsWanted (refusing_repeats names) names (laws names) as_read t mode (MayGrow t)

  as-read : (r : Result JsonValue UniqueError) → Answer r Read → Answer r (reading_as as_read Read)
  as-read r h = subst (Answer r) (sym (as_read-is Read)) h

  -- Of what a reading gives: its value, or the error that is made of why it was given up at i.
  pub value-parses : (v : JsonValue) (i : ℕ) → GivesUniqueWhole (Ok v) i Read → ParsesUnique names mode t (Ok v)
  value-parses v i h =
      parsed.parses (refusing_repeats names) names (laws names) as_read t mode (MayGrow t) (Ok v) (as-read (Ok v) h) tt

  module _ (i : ℕ) (le : i ≤ length t) where
    given : (x : Interrupted) (e : UniqueError) → IsUniqueErrorOf x i e → GivesUniqueWhole (Err x) i Read
        → Answer (Err e) Read
    given (stopped.Read (error.Memory m)) e is h = inl is.0
    given (stopped.Read (error.Fault f)) e is h = inr (i, h ∙ ap₂ (λ k x. fault k x i) (sym is.0) (sym is.1))
    given (stopped.Repeated k) e is h = inr (i, h ∙ ap₂ (λ k x. fault k x i) (sym is.0) (sym is.1))

    -- an error of the bytes is no a failed allocation
    not-memory : (e : UniqueError) → Read ≡ fault (unique_kind e.error_type) e.index i → Wanted e
    not-memory e h = λ same.
        let read = as_read-is Read ∙ h in
        absurd ((parsed.fault-at (refusing_repeats names) names (laws names) as_read t mode e i read).bytes
        (ap unique_kind same))

    wanted : (x : Interrupted) (e : UniqueError) → IsUniqueErrorOf x i e → GivesUniqueWhole (Err x) i Read
        → WhereUniqueRefused (Err x) (MayGrowBy ⊥ t (past_blanks t 0))
        → WhereUniqueRefused (Err x) (past_blanks t 0 ≤ i) → Wanted e
    wanted (stopped.Read (error.Memory m)) e is h grows from = λ same.
        rw is.1 (grows-borrowing t (past_blanks t 0) grows, from, le)
    wanted (stopped.Read (error.Fault f)) e is h grows from =
        not-memory e (h ∙ ap₂ (λ k x. fault k x i) (sym is.0) (sym is.1))
    wanted (stopped.Repeated k) e is h grows from =
        not-memory e (h ∙ ap₂ (λ k x. fault k x i) (sym is.0) (sym is.1))

    pub error-parses : (x : Interrupted) (e : UniqueError) → IsUniqueErrorOf x i e → GivesUniqueWhole (Err x) i Read
        → WhereUniqueRefused (Err x) (MayGrowBy ⊥ t (past_blanks t 0))
        → WhereUniqueRefused (Err x) (past_blanks t 0 ≤ i) → ParsesUnique names mode t (Err e)
    error-parses x e is h grows from =
        parsed.parses (refusing_repeats names) names (laws names) as_read t mode (MayGrow t) (Err e)
        (as-read (Err e) (given x e is h)) (wanted x e is h grows from)
