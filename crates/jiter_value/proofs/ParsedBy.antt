-- What a parse promises in any manner, from its answer and where it may want memory.
use Rattle.jiter_value.proofs.Words.{◌≡◌, ◌≢◌, ◌⊎◌, inl, inr, ℕ, ◌+◌, ◌≤◌, Bool, true, false, List, length, take, refl}
use Rattle.jiter_value.proofs.Words.{sym, ap, ◌∙◌, subst, Result, Ok, Err, IfOk, IfErr, MatchResult, Option, Some}
use Rattle.jiter_value.proofs.Words.{option_map, Kind, invalid_code_point, is_active, FaultAt, PartialMode, Off}
use Rattle.jiter_value.proofs.Words.{past_blanks, can_go_on, CanBeCompleted, Node, end, value_of, Reading, done, fault}
use Rattle.jiter_value.proofs.Words.{Tree, EndsEarly, Within, AnswersBy, reading_as, view, JsonValue}
use Rattle.std.proofs.lemmas.Result.{IfErr-weaker}
use Rattle.jiter_scan.specs.Kind.{is_end_kind, out_of_memory}
use Rattle.jiter_steps.specs.FirstFault.{IsDeadEnd}
use Rattle.jiter_value.specs.Parses.{Manner, BeginsNone, ParsesBy}

-- an error is that of the reading, whatever becomes of its tree
pub fault-read : (made : Tree → Tree) (x : Reading Tree) (k : Kind) (i stop : ℕ) → reading_as made x ≡ fault k i stop
    → x ≡ fault k i stop
fault-read made (done v e) k i stop h = absurd (cc)
fault-read made (fault l j s) k i stop h = h

-- a value was read, and is what the cut left
abbrev pub AnswersLeft : Option Tree → Reading Tree → Type 0
AnswersLeft o (done v e) = o ≡ Some v
AnswersLeft o (fault k i stop) = ⊥

-- What is known of a manner's reading of any text.
pub record Laws {E : Type 0} (by : Manner E) (names : Bool) : Type 0 where
  pub memory : (e : E) → by.IsMemory e → by.kind e ≡ out_of_memory
  pub found : (t : List ℕ) (v : Tree) (e : ℕ) → by.reading Off t ≡ done v e
      → (n : Node) × by.Spells t n × (value_of t n ≡ v)
  pub accepts : (mode : PartialMode) (t : List ℕ) (n : Node) → by.Spells t n
      → by.reading mode t ≡ done (value_of t n) (end n)
  pub cut : (mode : PartialMode) (t : List ℕ) (f : by.Begun t) → is_active mode ≡ true
      → AnswersLeft (by.left mode t f) (by.reading mode t)
  pub early : (t : List ℕ) → by.Short t → EndsEarly (by.reading Off t)
  pub dead : (t : List ℕ) (k : Kind) (i stop : ℕ) → by.reading Off t ≡ fault k i stop → is_end_kind k ≡ false
      → k ≢ invalid_code_point → BeginsNone by.Spells (take (i + 1) t)
  pub alive : (t : List ℕ) (k : Kind) (i stop : ℕ) → by.reading Off t ≡ fault k i stop → can_go_on k ≡ true
      → CanBeCompleted names (take i t)
  pub within : (mode : PartialMode) (t : List ℕ) → Within t 0 (by.reading mode t)

module _ {E : Type 0} (by : Manner E) (names : Bool) (law : Laws by names) (made : Tree → Tree) (t : List ℕ) where
  abbrev Answer : Result JsonValue E → Reading Tree → Type 0
  Answer r x = AnswersBy by r (reading_as made x)

  -- With partial reading off, of the reading x:
  found : (r : Result JsonValue E) (x : Reading Tree)
      → ((v : Tree) (e : ℕ) → x ≡ done v e → (n : Node) × by.Spells t n × (value_of t n ≡ v)) → Answer r x
      → IfOk r (λ v. (n : Node) × by.Spells t n × (made (value_of t n) ≡ view v))
  found (Ok v) (done w e) is h =
      let read = h.1 in let n = is w e refl in (n.0, n.1, ap made n.2 ∙ cc)
  found (Ok v) (fault k i stop) is h = let read = h.1 in absurd (cc)
  found (Err e) x is h = tt

  early : (r : Result JsonValue E) (x : Reading Tree) → EndsEarly x → Answer r x
      → MatchResult r (λ v. ⊥) (λ e. by.IsMemory e ⊎ (is_end_kind (by.kind e) ≡ true))
  early r (done v e) is h = absurd is
  early (Ok v) (fault k i stop) is h = let read = h.1 in absurd (cc)
  early (Err e) (fault k i stop) is (inl m) = inl m
  early (Err e) (fault k i stop) is (inr h) =
      let read = h.1 in let same : by.kind e ≡ k = cc in inr (ap is_end_kind same ∙ is)

  dead-end : (r : Result JsonValue E) → Answer r (by.reading Off t)
      → IfErr r (λ e. IsDeadEnd (by.kind e) → BeginsNone by.Spells (take (by.index e + 1) t))
  dead-end (Ok v) h = tt
  dead-end (Err e) (inl m) = λ d. absurd (d.2 (law.memory e m))
  dead-end (Err e) (inr h) = λ d.
      let read = fault-read made (by.reading Off t) (by.kind e) (by.index e) h.0 h.1 in
      law.dead t (by.kind e) (by.index e) h.0 read d.0 d.1

  goes-on : (r : Result JsonValue E) → Answer r (by.reading Off t)
      → IfErr r (λ e. can_go_on (by.kind e) ≡ true → CanBeCompleted names (take (by.index e) t))
  goes-on (Ok v) h = tt
  goes-on (Err e) (inl m) = λ on. let no = sym (ap can_go_on (law.memory e m)) ∙ on in absurd (cc)
  goes-on (Err e) (inr h) = λ on.
      let read = fault-read made (by.reading Off t) (by.kind e) (by.index e) h.0 h.1 in
      law.alive t (by.kind e) (by.index e) h.0 read on

  -- In every mode, of a document's value and of its cut:
  accepts : (r : Result JsonValue E) (v : Tree) (e : ℕ) → AnswersBy by r (done v e)
      → MatchResult r (λ w. view w ≡ v) (λ e. by.IsMemory e)
  accepts (Ok w) v e h = let read = h.1 in cc
  accepts (Err f) v e (inl m) = m
  accepts (Err f) v e (inr h) = let read = h.1 in absurd (cc)

  cuts : (o : Option Tree) (r : Result JsonValue E) (x : Reading Tree) → AnswersLeft o x → Answer r x
      → MatchResult r (λ v. option_map made o ≡ Some (view v)) (λ e. by.IsMemory e)
  cuts o r (fault k i stop) is h = absurd is
  cuts o (Ok v) (done w e) is h =
      let read = h.1 in let same : made w ≡ view v = cc in ap (option_map made) is ∙ ap Some same
  cuts o (Err x) (done w e) is (inl m) = m
  cuts o (Err x) (done w e) is (inr h) = let read = h.1 in absurd (cc)

  module _ (mode : PartialMode) where
    -- An error of the bytes is within them.
    pub fault-at : (e : E) (stop : ℕ) → reading_as made (by.reading mode t) ≡ fault (by.kind e) (by.index e) stop
        → FaultAt t (by.kind e) (by.index e)
    fault-at e stop h =
        let read = fault-read made (by.reading mode t) (by.kind e) (by.index e) stop h in
        let within = subst (Within t 0) read (law.within mode t) in within.2

    module _ (Grows : Type 0) where
      -- Out of memory is the answer only where the call may allocate, from the first byte of the value to the length.
      abbrev pub IsWanted : E → Type 0
      IsWanted e = by.IsMemory e → Grows × (past_blanks t 0 ≤ by.index e) × (by.index e ≤ length t)

      stands : (e : E) → Answer (Err e) (by.reading mode t) → IsWanted e
          → (by.index e ≤ length t) × (is_end_kind (by.kind e) ≡ true → by.index e ≡ length t)
      stands e (inl m) want =
          ((want m).2, λ ends. let no = sym (ap is_end_kind (law.memory e m)) ∙ ends in absurd (cc))
      stands e (inr h) want = let at = fault-at e h.0 h.1 in (at.within, at.ends)

      places : (r : Result JsonValue E) → Answer r (by.reading mode t) → IfErr r IsWanted
          → IfErr r (λ e. (by.index e ≤ length t) × (is_end_kind (by.kind e) ≡ true → by.index e ≡ length t))
      places (Ok v) h want = tt
      places (Err e) h want = stands e h want

      -- All that a parse promises, from its answer and where it may want memory.
      pub parses : (r : Result JsonValue E) → Answer r (by.reading mode t) → IfErr r IsWanted
          → ParsesBy by made Grows names mode t r
      parses r h want =
          let whole : mode ≡ Off → Answer r (by.reading Off t) =
          λ off. subst (λ m. Answer r (by.reading m t)) off h in
          let at = places r h want in
          record {
            found = λ off. found r (by.reading Off t) (law.found t) (whole off);
            accepts = λ n d.
                accepts r (made (value_of t n)) (end n)
                (subst (λ x. Answer r x) (law.accepts mode t n d) h);
            cut = λ on f. cuts (by.left mode t f) r (by.reading mode t) (law.cut mode t f on) h;
            first = whole;
            answer = h;
            dead = λ off. dead-end r (whole off);
            alive = λ off. goes-on r (whole off);
            index = IfErr-weaker r _ (λ e. by.index e ≤ length t) (λ e a. a.0) at;
            ends = IfErr-weaker r _ (λ e. is_end_kind (by.kind e) ≡ true → by.index e ≡ length t) (λ e a. a.1) at;
            early = λ off c. early r (by.reading Off t) (law.early t c) (whole off);
            memory = IfErr-weaker r IsWanted (λ e. by.IsMemory e → Grows) (λ e w m. (w m).0) want;
            place = IfErr-weaker r IsWanted (λ e. by.IsMemory e → past_blanks t 0 ≤ by.index e) (λ e w m. (w m).1)
                want;
          }

-- What a parse promises, where the same becomes of its tree and memory may be wanted wherever it was.
module _ {E : Type 0} (by : Manner E) (names : Bool) (law : Laws by names) (made other : Tree → Tree)
    (same : (v : Tree) → made v ≡ other v) (P Q : Type 0) (more : P → Q) (mode : PartialMode) (t : List ℕ) where
  reading-same : (x : Reading Tree) → reading_as made x ≡ reading_as other x
  reading-same (done v e) = ap (λ w. done w e) (same v)
  reading-same (fault k i stop) = refl

  want-same : (r : Result JsonValue E) → ParsesBy by made P names mode t r
      → IfErr r (IsWanted by names law other t mode Q)
  want-same (Ok v) h = tt
  want-same (Err e) h = λ m. (more (h.memory m), h.place m, h.index)

  pub parses-alike : (r : Result JsonValue E) → ParsesBy by made P names mode t r → ParsesBy by other Q names mode t r
  parses-alike r h =
      parses by names law other t mode Q r (subst (AnswersBy by r) (reading-same (by.reading mode t)) h.answer)
      (want-same r h)
