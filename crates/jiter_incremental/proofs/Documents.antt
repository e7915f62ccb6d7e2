-- What a document that arrives in chunks knows of its bytes, where some are taken.
pub mod Blanks
pub mod Bytes
pub mod Ends
pub mod Names
pub mod Strings
pub mod Tokens
pub mod WholeTokens
use Rattle.jiter_incremental.proofs.Words.{◌≡◌, ℕ, ◌+◌, ◌-◌, ◌<◌, ◌≤◌, true, false, List, [], ◌∷◌, ◌++◌, length, get_or}
use Rattle.jiter_incremental.proofs.Words.{refl, sym, subst, ap, ◌∙◌, arith, append_assoc, inl, inr, length-append}
use Rattle.jiter_incremental.proofs.Words.{slice_get, Option, Some, None, get_or-append_seam, append-nil, none-some}
use Rattle.jiter_incremental.proofs.Words.{slice_get-get_or, get_or_from_slice_get, if_case, if-false, Kind, fault_kind}
use Rattle.jiter_incremental.proofs.Words.{HoldsNumber, is_active, Fault, FaultKind, past_blanks-blank}
use Rattle.jiter_incremental.proofs.Words.{past_blanks-other, whole-is, is_blank, past_blanks, items_frame}
use Rattle.jiter_incremental.proofs.Words.{members_frame, value_from, value_in, done, fault, prefix_answer, if_last}
use Rattle.jiter_incremental.proofs.Words.{to_end, whole_answer, Tree, HasTaken, nesting_limit, ContainerKind, Arrived}
use Rattle.jiter_incremental.proofs.Words.{HasRead, IsBeforeValue, IsBetweenParts, IsLeft, OpenValue, at_end, at_value}
use Rattle.jiter_incremental.proofs.Words.{between_parts, owned, ClosesBefore, EndsHere, Everywhere, TakesByte}
use Rattle.jiter_incremental.proofs.Words.{after_value, completed, passed, BeginsAs, BeginsHere, MayFollow, Document}
use Rattle.jiter_incremental.proofs.Words.{EndsRight, Follows, HasTakenAll, HasTakenIn, HoldsOpened, HoldsScalar, HoldsWord}
use Rattle.jiter_incremental.proofs.Words.{IsAllowed, IsOver, IsReadAs, IsReading, IsRefused, ReadSoFar, Next, Opened}
use Rattle.jiter_incremental.proofs.Words.{ReadsAt, Strictness, by_mode, fault_by, settings_by, strict, StandsAt}
use Rattle.jiter_incremental.proofs.Words.{any_bytes, between_tokens, in_key, in_scalar, noted_in, opened_to, strictly}
use Rattle.jiter_incremental.proofs.Words.{with_byte, with_first, name_start, OpenFrame, answer_as, rules_as, PartTree}
use Rattle.jiter_incremental.proofs.Words.{Token, Awaits, Settings}
use Rattle.jiter_scan.specs.Kind.{trailing_characters}
use Rattle.jiter_scan.specs.declared.errors.FaultKind.TheVariants as fault_of
use Rattle.jiter_incremental.specs.Document.{IsAnswered, IsEnded, IsFaulty}
use Rattle.jiter_incremental.specs.declared.reader.Token.TheVariants as token
use Rattle.jiter_incremental.specs.declared.reader.Awaits.TheVariants as awaits

-- An error of the prefix is the text's answer.
pub prefix-fault : (p : Settings) (t : List ℕ) (k : Kind) (i stop : ℕ)
    → prefix_answer (rules_as owned p) t ≡ fault k i stop → answer_as owned p t ≡ fault k i stop
prefix-fault p t k i stop h =
    let r = rules_as owned p in
    if_case (λ x. x ≡ fault k i stop) (is_active p.mode) _ _ (λ on. h) (λ off. whole-is r t ∙ ap (to_end t) h)

faulty-answers : (p : Settings) (t : List ℕ) (k : Kind) (i : ℕ) → IsFaulty p t k i → IsAnswered p t k i
faulty-answers p t k i h = (h.0, prefix-fault p t k i h.0 h.1)

-- An error that is there is one of the first errors.
pub noted-some : (x : Option Fault) (k : FaultKind) (i : ℕ) → noted_in x k i ≡ None → ⊥
noted-some (Some f) k i h = none-some f (sym h)
noted-some None k i h = none-some _ (sym h)

module _ (p : Settings) (n m : Next) (t w : List ℕ) (o o' : Opened) (follows : Follows n w m) where
  -- What is read of t is read of the bytes w after it too, if these bring what is open so far.
  pub reads-on : (x : Option Fault) → ((u : List ℕ) → MayFollow n u → ReadsAt p t u x o)
      → (x ≡ None → (u : List ℕ) → MayFollow m u
      → opened_to p ((t ++ w) ++ u) o (length t) ≡ opened_to p ((t ++ w) ++ u) o' (length (t ++ w)))
      → (u : List ℕ) → MayFollow m u → ReadsAt p (t ++ w) u x o'
  reads-on (Some f) read goes u comes =
      subst (λ v. IsAnswered p v (fault_kind f.kind) f.index) (sym (append_assoc t w u)) (read (w ++ u) (follows u comes))
  reads-on None read goes u comes =
      subst (λ v. prefix_answer (rules_as owned p) v ≡ opened_to p v o (length t)) (sym (append_assoc t w u))
      (read (w ++ u) (follows u comes))
      ∙ goes refl u comes

  -- Or they are refused.
  pub reads-fault : (x : Option Fault) (k : FaultKind) (i : ℕ) → ((u : List ℕ) → MayFollow n u → ReadsAt p t u x o)
      → (x ≡ None → (u : List ℕ) → MayFollow m u → IsAnswered p ((t ++ w) ++ u) (fault_kind k) i)
      → (u : List ℕ) → MayFollow m u → ReadsAt p (t ++ w) u (noted_in x k i) o'
  reads-fault (Some f) k i read goes u comes =
      subst (λ v. IsAnswered p v (fault_kind f.kind) f.index) (sym (append_assoc t w u)) (read (w ++ u) (follows u comes))
  reads-fault None k i read goes u comes = goes refl u comes

-- The same is known of it.
abbrev pub Keeps : Document → Document → Type 0
Keeps d e = (e.settings ≡ d.settings) × (e.fault ≡ d.fault) × (e.first ≡ d.first)

same-fault : (d e : Document) → Keeps d e → (by : Strictness) → fault_by by e.fault e.first ≡ fault_by by d.fault d.first
same-fault d e k by_mode = k.1
same-fault d e k strict = k.2

pub known-as : (n : Next) (d e : Document) (t : List ℕ) (o : Opened) → Keeps d e → ReadSoFar n d t o → ReadSoFar n e t o
known-as n d e t o k known = record {
  reads = λ by u comes.
      subst (λ p. ReadsAt (settings_by by p) t u (fault_by by e.fault e.first) o) (sym k.0)
      (subst (λ x. ReadsAt (settings_by by d.settings) t u x o) (sym (same-fault d e k by)) (known.reads by u comes));
  ends = λ none. known.ends (sym k.2 ∙ none);
  noted = λ none. k.1 ∙ known.noted (sym k.2 ∙ none);
  same = λ off none. k.2 ∙ known.same (ap (λ (p : Settings). is_active p.mode) (sym k.0) ∙ off) (sym k.1 ∙ none);
}

-- What is known whatever comes is known of what comes.
pub known-any : (m : Next) (d : Document) (t : List ℕ) (o : Opened) → ReadSoFar any_bytes d t o → ReadSoFar m d t o
known-any m d t o k = record {
  reads = λ by u comes. k.reads by u tt;
  ends = k.ends;
  noted = k.noted;
  same = k.same;
}

module _ (n m : Next) (d : Document) (t w : List ℕ) (o o' : Opened) (k : ReadSoFar n d t o) (follows : Follows n w m)
  where
    -- The bytes w bring what is open so far.
    pub known-on :
        ((p : Settings) → IsReading d p → (u : List ℕ) → MayFollow m u
        → opened_to p ((t ++ w) ++ u) o (length t) ≡ opened_to p ((t ++ w) ++ u) o' (length (t ++ w)))
        → (d.first ≡ None → EndsRight (t ++ w) o') → ReadSoFar m d (t ++ w) o'
    known-on goes ends = record {
      reads = λ by.
          reads-on (settings_by by d.settings) n m t w o o' follows (fault_by by d.fault d.first) (k.reads by)
          (λ none. goes (settings_by by d.settings) (by, refl, none));
      ends = ends;
      noted = k.noted;
      same = k.same;
    }

    -- They are refused with partial reading off alone.
    pub known-noted : (kind : FaultKind) (i : ℕ) → is_active d.settings.mode ≡ true
        → (d.fault ≡ None → (u : List ℕ) → MayFollow m u
        → opened_to d.settings ((t ++ w) ++ u) o (length t) ≡ opened_to d.settings ((t ++ w) ++ u) o' (length (t ++ w)))
        → (d.first ≡ None → (u : List ℕ) → MayFollow m u
        → IsAnswered (strictly d.settings) ((t ++ w) ++ u) (fault_kind kind) i)
        → ReadSoFar m (with_first d (noted_in d.first kind i)) (t ++ w) o'
    known-noted kind i on goes fails = record {
      reads = by;
      ends = λ none. absurd (noted-some d.first kind i none);
      noted = λ none. absurd (noted-some d.first kind i none);
      same = λ off none. absurd (off-on (sym off ∙ on));
    }
      where
        new : Document
        new = with_first d (noted_in d.first kind i)

        by : (s : Strictness) (u : List ℕ) → MayFollow m u
            → ReadsAt (settings_by s new.settings) (t ++ w) u (fault_by s new.fault new.first) o'
        by by_mode = reads-on d.settings n m t w o o' follows d.fault (k.reads by_mode) goes
        by strict = reads-fault (strictly d.settings) n m t w o o' follows d.first kind i (k.reads strict) fails

        off-on : false ≡ true → ⊥
        off-on h = cc

    -- They are refused for good.
    pub known-refused : (kind : FaultKind) (i : ℕ) → d.fault ≡ None
        → ((p : Settings) (u : List ℕ) → IsReading d p → MayFollow m u → IsAnswered p ((t ++ w) ++ u) (fault_kind kind) i)
        → HasTakenIn m (record d { fault = Some (record { kind = kind; index = i }); first = noted_in d.first kind i }) (t ++ w)
    known-refused kind i unset fails =
        record {
          opened = o';
          known = record {
            reads = by;
            ends = λ none. absurd (noted-some d.first kind i none);
            noted = λ none. absurd (noted-some d.first kind i none);
            same = λ off none. absurd (none-some found (sym none));
          };
          held = λ none. absurd (none-some found (sym none));
        }
      where
        found : Fault
        found = record { kind = kind; index = i }

        new : Document
        new = record d { fault = Some found; first = noted_in d.first kind i }

        by : (s : Strictness) (u : List ℕ) → MayFollow m u
            → ReadsAt (settings_by s new.settings) (t ++ w) u (fault_by s new.fault new.first) o'
        by by_mode u comes = fails d.settings u (by_mode, refl, unset) comes
        by strict u comes =
            reads-fault (strictly d.settings) n m t w o o' follows d.first kind i (k.reads strict)
            (λ none u comes. fails (strictly d.settings) u (strict, refl, none) comes) u comes

-- what a text that is refused leaves open
abbrev pub left_open : Opened
left_open = between_tokens (at_value awaits.Value [])

-- The bytes w are refused where each text of them answers that;
pub ended : (n m : Next) (d : Document) (t w : List ℕ) (o : Opened) (kind : FaultKind) (i : ℕ) → d.fault ≡ None
    → ReadSoFar n d t o → Follows n w m → IsEnded d m (t ++ w) (fault_kind kind) i
    → HasTakenIn m (record d { fault = Some (record { kind = kind; index = i }); first = noted_in d.first kind i }) (t ++ w)
ended n m d t w o kind i unset k follows fails = known-refused n m d t w o left_open k follows kind i unset fails

-- also where it is the error of what was read so far.
pub refuses : (n m : Next) (d : Document) (t w : List ℕ) (o : Opened) (kind : FaultKind) (i : ℕ) → d.fault ≡ None
    → ReadSoFar n d t o → Follows n w m → IsRefused d m (t ++ w) (fault_kind kind) i
    → HasTakenIn m (record d { fault = Some (record { kind = kind; index = i }); first = noted_in d.first kind i }) (t ++ w)
refuses n m d t w o kind i unset k follows fails =
    ended n m d t w o kind i unset k follows
    (λ p u reading comes. faulty-answers p ((t ++ w) ++ u) (fault_kind kind) i (fails p u reading comes))

-- After a value nothing but what is there is missing.
pub ends-after : (t : List ℕ) (x : Tree) (fs : List OpenFrame) → EndsRight t (between_tokens (after_value x fs))
ends-after t x [] = (omega arith, λ u. let same : length t - 0 ≡ length t = omega arith in ap (past_blanks (t ++ u)) same)
ends-after t x (items_frame xs ∷ fs) = tt
ends-after t x (members_frame ms k ∷ fs) = tt

-- A scalar that is read as this value is put after what is before it.
pub puts : (n m : Next) (d : Document) (v : OpenValue) (x : Tree) (t w : List ℕ) (fs : List OpenFrame) (b : ℕ)
    → ReadSoFar n d t (in_scalar fs b) → Follows n w m → IsLeft v (after_value x fs)
    → ((p : Settings) (u : List ℕ) (j e : ℕ) → value_in (rules_as owned p) u (length fs) j ≡ done x e
    → value_from (rules_as owned p) u fs j ≡ completed p u (after_value x fs) e)
    → IsReadAs d m (t ++ w) (length fs) b x
    → HasTakenIn m (record d { token = token.Nothing; value = v }) (t ++ w)
puts n m d v x t w fs b k follows left read reads =
    let new = record d { token = token.Nothing; value = v } in
    let o' = between_tokens (after_value x fs) in
    let on : ReadSoFar m d (t ++ w) o' =
    known-on n m d t w (in_scalar fs b) o' k follows
    (λ p reading u comes. read p ((t ++ w) ++ u) b (length (t ++ w)) (reads p u reading comes))
    (λ none. ends-after (t ++ w) x fs) in
    record {
      opened = o';
      known = known-as m d new (t ++ w) o' (refl, refl, refl) on;
      held = λ none. (refl, left);
    }

-- These bytes follow a byte where any do after it.
pub follows-byte : (c : ℕ) → Follows (with_byte c) (c ∷ []) any_bytes
follows-byte c u comes = (u, refl)

-- The byte is there, and one byte is one more.
pub byte-first : (c : ℕ) (t u : List ℕ) → slice_get (t ++ c ∷ u) (length t) ≡ Some c
byte-first c t u =
    let long = length-append t (c ∷ u) in
    slice_get-get_or (t ++ c ∷ u) (length t) 0 (omega arith) ∙ ap Some (get_or-append_seam t c u 0)

byte-here : (c : ℕ) (t u : List ℕ) → slice_get ((t ++ c ∷ []) ++ u) (length t) ≡ Some c
byte-here c t u = subst (λ v. slice_get v (length t) ≡ Some c) (sym (append_assoc t (c ∷ []) u)) (byte-first c t u)

pub one-more : (c : ℕ) (t : List ℕ) → length t + 1 ≡ length (t ++ c ∷ [])
one-more c t = omega (arith, length-append t (c ∷ []))

-- Where nothing is taken, what is open may be seen otherwise.
pub known-here : (n : Next) (d : Document) (t : List ℕ) (o o' : Opened) → ReadSoFar n d t o
    → ((p : Settings) → IsReading d p → (u : List ℕ) → MayFollow n u
    → opened_to p (t ++ u) o (length t) ≡ opened_to p (t ++ u) o' (length t))
    → (d.first ≡ None → EndsRight t o') → ReadSoFar n d t o'
known-here n d t o o' k goes ends =
    let same = append-nil t in
    let on : ReadSoFar n d (t ++ []) o' =
    known-on n n d t [] o o' k (λ u comes. comes)
    (λ p reading u comes.
    subst (λ v. opened_to p (v ++ u) o (length t) ≡ opened_to p (v ++ u) o' (length v)) (sym same)
    (goes p reading u comes))
    (λ none. subst (λ v. EndsRight v o') (sym same) (ends none)) in
    subst (λ v. ReadSoFar n d v o') same on

-- Where a token is unfinished, within the limit of nesting
abbrev pub IsInside : Opened → Type 0
IsInside (between_tokens s) = ⊥
IsInside (in_scalar fs b) = length fs ≤ nesting_limit
IsInside (in_key fs ms b) = Unit {0}

pub ends-inside : (t : List ℕ) (o : Opened) → IsInside o → EndsRight t o
ends-inside t (between_tokens s) i = absurd i
ends-inside t (in_scalar fs b) i = tt
ends-inside t (in_key fs ms b) i = tt

same-inside : (p : Settings) (t : List ℕ) (o : Opened) (i j : ℕ) → IsInside o → opened_to p t o i ≡ opened_to p t o j
same-inside p t (between_tokens s) i j h = absurd h
same-inside p t (in_scalar fs b) i j h = refl
same-inside p t (in_key fs ms b) i j h = refl

-- bytes are taken inside it.
pub known-in : (n m : Next) (d e : Document) (t w : List ℕ) (o : Opened) → IsInside o → Keeps d e → Follows n w m
    → ReadSoFar n d t o → ReadSoFar m e (t ++ w) o
known-in n m d e t w o i k follows known =
    known-as m d e (t ++ w) o k
    (known-on n m d t w o o known follows
    (λ p reading u comes. same-inside p ((t ++ w) ++ u) o (length t) (length (t ++ w)) i)
    (λ none. ends-inside (t ++ w) o i))

-- What is open where no token is unfinished
pub record Between (n : Next) (d : Document) (t : List ℕ) : Type 0 where
  pub state : Arrived
  pub known : ReadSoFar n d t (between_tokens state)
  pub left : IsLeft d.value state

key-nothing : token.Nothing ≡ token.Key → ⊥
key-nothing h = cc

opened-between : (n : Next) (d : Document) (t : List ℕ) (o : Opened) → ReadSoFar n d t o → HoldsOpened d t o
    → d.token ≡ token.Nothing → Between n d t
opened-between n d t (between_tokens s) k h none = record { state = s; known = k; left = h.1 }
opened-between n d t (in_scalar fs b) k h none =
    let never : ⊥ = subst (λ x. HoldsScalar d x h.0) none h.2 in absurd never
opened-between n d t (in_key fs ms b) k h none = absurd (key-nothing (sym none ∙ h.2))

pub taken-between : (n : Next) (d : Document) (t : List ℕ) → HasTakenIn n d t → d.fault ≡ None
    → d.token ≡ token.Nothing → Between n d t
taken-between n d t h unset none = opened-between n d t h.opened h.known (h.held unset) none

-- What is read of the bytes so far, by settings that still read.
pub reads-so : (n : Next) (d : Document) (t : List ℕ) (o : Opened) (p : Settings) → ReadSoFar n d t o → IsReading d p
    → (u : List ℕ) → MayFollow n u → prefix_answer (rules_as owned p) (t ++ u) ≡ opened_to p (t ++ u) o (length t)
reads-so n d t o p k (by, is, none) u comes =
    subst (λ q. prefix_answer (rules_as owned q) (t ++ u) ≡ opened_to q (t ++ u) o (length t)) (sym is)
    (subst (λ x. ReadsAt (settings_by by d.settings) t u x o) none (k.reads by u comes))

-- the same where w is after them
pub reads-after : (n m : Next) (d : Document) (t w : List ℕ) (o : Opened) (p : Settings) → ReadSoFar n d t o
    → Follows n w m → IsReading d p → (u : List ℕ) → MayFollow m u
    → prefix_answer (rules_as owned p) ((t ++ w) ++ u) ≡ opened_to p ((t ++ w) ++ u) o (length t)
reads-after n m d t w o p k follows reading u comes =
    subst (λ v. prefix_answer (rules_as owned p) v ≡ opened_to p v o (length t)) (sym (append_assoc t w u))
    (reads-so n d t o p k reading (w ++ u) (follows u comes))

same-end : (x y : Tree) (n m : ℕ) → at_end x n ≡ at_end y m → n ≡ m
same-end x y n m h = cc

value-ends : (a : Awaits) (fs : List OpenFrame) (x : Tree) (n : ℕ) → at_value a fs ≡ at_end x n → ⊥
value-ends a fs x n h = cc

parts-end : (a : Awaits) (h : ContainerKind) (xs : List (PartTree h)) (fs : List OpenFrame) (x : Tree) (n : ℕ)
    → between_parts a h xs fs ≡ at_end x n → ⊥
parts-end a h xs fs x n is = cc

-- One more byte of whitespace is after a whole value.
blank-ends : (t : List ℕ) (c : ℕ) (s : Arrived) (x : Tree) (n : ℕ) → is_blank c ≡ true → passed s ≡ at_end x n
    → EndsRight t (between_tokens s) → EndsRight (t ++ c ∷ []) (between_tokens (at_end x n))
blank-ends t c (at_value a fs) x n blank is h = absurd (value-ends a fs x n is)
blank-ends t c (between_parts a k xs fs) x n blank is h = absurd (parts-end a k xs fs x n is)
blank-ends t c (at_end y m) x n blank is h =
    let same = same-end y x (m + 1) n is in
    let more = one-more c t in (
      omega (arith, h.0),
      λ u.
          let w = (t ++ c ∷ []) ++ u in
          let back : past_blanks w (length t - m) ≡ past_blanks w (length t) =
          subst (λ v. past_blanks v (length t - m) ≡ past_blanks v (length t)) (sym (append_assoc t (c ∷ []) u))
          (h.1 (c ∷ u)) in
          let long : length t < length w =
          omega (arith, length-append (t ++ c ∷ []) u, length-append t (c ∷ [])) in
          let here : get_or w (length t) 0 ≡ c = get_or_from_slice_get w (length t) c 0 (byte-here c t u) in
          let on : past_blanks w (length t) ≡ past_blanks w (length t + 1) =
          past_blanks-blank w (length t) long (ap is_blank here ∙ blank) in
          let place : length t - m ≡ length (t ++ c ∷ []) - n = omega (arith, h.0) in
          sym (ap (past_blanks w) place) ∙ back ∙ on ∙ ap (past_blanks w) more,
    )

byte-ends : (t : List ℕ) (c : ℕ) (s next : Arrived) → EndsHere s c next → EndsRight t (between_tokens s)
    → EndsRight (t ++ c ∷ []) (between_tokens next)
byte-ends t c s (at_end x n) (inl none) h =
    let w = t ++ c ∷ [] in
    let same : length w - n ≡ length w = omega arith in
    (omega arith, λ u. ap (past_blanks (w ++ u)) same)
byte-ends t c s (at_end x n) (inr here) h = blank-ends t c s x n here.0 here.1 h
byte-ends t c s (at_value a fs) e h = tt
byte-ends t c s (between_parts a k xs fs) e h = tt

-- The value takes a byte.
pub takes-byte : (d : Document) (v : OpenValue) (c : ℕ) (t : List ℕ) (s : Arrived)
    → ReadSoFar (with_byte c) d t (between_tokens s) → d.token ≡ token.Nothing → TakesByte v s c
    → HasTakenIn any_bytes (record d { value = v }) (t ++ c ∷ [])
takes-byte d v c t s k none g =
    let new = record d { value = v } in
    let o = between_tokens s in
    let o' = between_tokens g.next in
    let on : ReadSoFar any_bytes d (t ++ c ∷ []) o' =
    known-on (with_byte c) any_bytes d t (c ∷ []) o o' k (follows-byte c)
    (λ p reading u comes.
    let w = (t ++ c ∷ []) ++ u in
    g.goes p w (length t) (byte-here c t u) ∙ ap (completed p w g.next) (one-more c t))
    (λ first. byte-ends t c s g.next g.ends (k.ends first)) in
    record {
      opened = o';
      known = known-as any_bytes d new (t ++ c ∷ []) o' (refl, refl, refl) on;
      held = λ unset. (none, g.left);
    }

-- Inside these containers it begins.
pub begins-in : (d : Document) (v : OpenValue) (c : ℕ) (t : List ℕ) (s : Arrived) (fs : List OpenFrame)
    → ReadSoFar (with_byte c) d t (between_tokens s) → d.fault ≡ None → d.position ≡ length t
    → IsLeft v (at_value awaits.Value fs) → length fs ≤ 200
    → Everywhere c (λ p u j. completed p u s j ≡ value_from (rules_as owned p) u fs j)
    → BeginsHere c (record d { value = v }) t fs
begins-in d v c t s fs k unset place left low goes =
    let new = record d { value = v } in
    let n = with_byte c in
    let o' = in_scalar fs (length t) in
    let on : ReadSoFar n d t o' =
    known-here n d t (between_tokens s) o' k
    (λ p reading u comes.
    let at : slice_get (t ++ u) (length t) ≡ Some c =
    subst (λ v. slice_get (t ++ v) (length t) ≡ Some c) (sym comes.1) (byte-first c t comes.0) in
    goes p (t ++ u) (length t) at)
    (λ first. tt) in
    record {
      known = known-as n d new t o' (refl, refl, refl) on;
      left = left;
      low = low;
      unset = unset;
      position = place;
    }

-- It is wrong there: the document is refused.
pub wrong-refused : (d : Document) (v : OpenValue) (c : ℕ) (t : List ℕ) (s : Arrived) (kind : FaultKind)
    → StandsAt c d t s → Everywhere c (λ p u j. completed p u s j ≡ fault (fault_kind kind) j j)
    → IsRefused d any_bytes (t ++ c ∷ []) (fault_kind kind) d.position
wrong-refused d v c t s kind at wrong p u reading comes =
    let w = (t ++ c ∷ []) ++ u in
    let j = length t in
    let read = reads-after (with_byte c) any_bytes d t (c ∷ []) (between_tokens s) p at.known (follows-byte c) reading u comes in
    (j, read ∙ wrong p w j (byte-here c t u) ∙ ap (λ i. fault (fault_kind kind) i j) (sym at.position))

-- By strict settings each of a document's readings is strict, where its mode is off.
reading-strict : (d : Document) (p : Settings) → is_active d.settings.mode ≡ false → IsReading d p
    → is_active p.mode ≡ false
reading-strict d p off (by_mode, is, none) = ap (λ (q : Settings). is_active q.mode) is ∙ off
reading-strict d p off (strict, is, none) = ap (λ (q : Settings). is_active q.mode) is

-- and there is no error that partial reading alone passes over.
reading-first : (n : Next) (d : Document) (t : List ℕ) (o : Opened) (p : Settings) → ReadSoFar n d t o
    → is_active d.settings.mode ≡ false → IsReading d p → d.first ≡ None
reading-first n d t o p k off (by_mode, is, none) = k.same off none
reading-first n d t o p k off (strict, is, none) = none

-- A value that is whole
record Whole (s : Arrived) : Type 0 where
  value : Tree
  blanks : ℕ
  is : s ≡ at_end value blanks

whole-end : (v : OpenValue) (s : Arrived) → IsLeft v s → v.awaits ≡ awaits.Nothing → Whole s
whole-end v (at_value b fs) h none =
    let never : ⊥ = subst IsBeforeValue (sym h.0 ∙ none) h.1 in absurd never
whole-end v (between_parts b k xs fs) h none =
    let never : ⊥ = subst IsBetweenParts (sym h.0 ∙ none) h.1 in absurd never
whole-end v (at_end x n) h none = record { value = x; blanks = n; is = refl }

-- After a whole value another byte than whitespace is the error of the text.
trailing-answered : (p : Settings) (t u : List ℕ) (c : ℕ) (x : Tree) (n : ℕ) → is_active p.mode ≡ false
    → prefix_answer (rules_as owned p) ((t ++ c ∷ []) ++ u) ≡ done x (length t - n)
    → EndsRight t (between_tokens (at_end x n)) → is_blank c ≡ false
    → IsAnswered p ((t ++ c ∷ []) ++ u) trailing_characters (length t)
trailing-answered p t u c x n off read ends other =
    let r = rules_as owned p in
    let w = (t ++ c ∷ []) ++ u in
    let j = length t in
    let e = length t - n in
    let at = byte-here c t u in
    let back : past_blanks w e ≡ past_blanks w j =
    subst (λ v. past_blanks v e ≡ past_blanks v j) (sym (append_assoc t (c ∷ []) u)) (ends.1 (c ∷ u)) in
    let long : j < length w = omega (arith, length-append (t ++ c ∷ []) u, length-append t (c ∷ [])) in
    let here : get_or w j 0 ≡ c = get_or_from_slice_get w j c 0 at in
    let past : past_blanks w e ≡ j = back ∙ past_blanks-other w j long (ap is_blank here ∙ other) in
    let last : if_last x e (past_blanks w e) (slice_get w (past_blanks w e)) ≡ if_last x e j (slice_get w j) =
    ap (λ i. if_last x e i (slice_get w i)) past in (
      j,
      if-false (is_active p.mode) (prefix_answer r w) (whole_answer r w) off ∙ whole-is r w ∙ ap (to_end w) read ∙ last
          ∙ ap (if_last x e j) at,
    )

-- what is read there
trailing-read : (d : Document) (c : ℕ) (t u : List ℕ) (s : Arrived) (w : Whole s) (p : Settings) → StandsAt c d t s
    → IsReading d p
    → prefix_answer (rules_as owned p) ((t ++ c ∷ []) ++ u) ≡ done w.value (length t - w.blanks)
trailing-read d c t u s w p at reading =
    reads-after (with_byte c) any_bytes d t (c ∷ []) (between_tokens s) p at.known (follows-byte c) reading u tt
    ∙ ap (λ s. completed p ((t ++ c ∷ []) ++ u) s (length t)) w.is

trailing-at : (d : Document) (c : ℕ) (t u : List ℕ) (s : Arrived) (p : Settings) → StandsAt c d t s
    → IsLeft d.value s → d.value.awaits ≡ awaits.Nothing → is_blank c ≡ false → IsReading d p
    → is_active p.mode ≡ false → d.first ≡ None
    → IsAnswered p ((t ++ c ∷ []) ++ u) trailing_characters d.position
trailing-at d c t u s p at left none other reading off first =
    let w = whole-end d.value s left none in
    let ends = subst (λ s. EndsRight t (between_tokens s)) w.is (at.known.ends first) in
    subst (IsAnswered p ((t ++ c ∷ []) ++ u) trailing_characters) (sym at.position)
    (trailing-answered p t u c w.value w.blanks off (trailing-read d c t u s w p at reading) ends other)

-- With partial reading off it is refused,
pub trailing-ended : (d : Document) (c : ℕ) (t : List ℕ) (s : Arrived) → StandsAt c d t s → IsLeft d.value s
    → d.value.awaits ≡ awaits.Nothing → is_blank c ≡ false → is_active d.settings.mode ≡ false
    → IsEnded d any_bytes (t ++ c ∷ []) trailing_characters d.position
trailing-ended d c t s at left none other off p u reading comes =
    trailing-at d c t u s p at left none other reading (reading-strict d p off reading)
    (reading-first (with_byte c) d t (between_tokens s) p at.known off reading)

-- else passed over.
pub trailing-noted : (d : Document) (c : ℕ) (t : List ℕ) (s : Arrived) → StandsAt c d t s → IsLeft d.value s
    → d.value.awaits ≡ awaits.Nothing → is_blank c ≡ false → is_active d.settings.mode ≡ true → (new : Document)
    → new ≡ with_first d (noted_in d.first fault_of.TrailingCharacters d.position)
    → HasTakenIn any_bytes new (t ++ c ∷ [])
trailing-noted d c t s at left none other on new is =
    let kind = fault_of.TrailingCharacters in
    let noted = with_first d (noted_in d.first kind d.position) in
    let whole = whole-end d.value s left none in
    let o = between_tokens s in
    let o' = between_tokens (at_end whole.value (whole.blanks + 1)) in
    let p = d.settings in
    let known : ReadSoFar any_bytes noted (t ++ c ∷ []) o' =
    known-noted (with_byte c) any_bytes d t (c ∷ []) o o' at.known (follows-byte c) kind d.position on
    (λ unset u comes.
    let w = (t ++ c ∷ []) ++ u in
    let place : length t - whole.blanks ≡ length (t ++ c ∷ []) - (whole.blanks + 1) =
    omega (arith, length-append t (c ∷ [])) in
    ap (λ s. completed p w s (length t)) whole.is ∙ ap (done whole.value) place)
    (λ first u comes.
    trailing-at d c t u s (strictly p) at left none other (strict, refl, first) refl first) in
    let all : HasTakenIn any_bytes noted (t ++ c ∷ []) =
    record {
      opened = o';
      known = known;
      held = λ unset. (at.token, subst (IsLeft d.value) whole.is left);
    } in
    subst (λ d. HasTakenIn any_bytes d (t ++ c ∷ [])) (sym is) all

-- What is missing before the byte is the error by strict settings;
closes-fault : (d : Document) (c : ℕ) (t u : List ℕ) (s : Arrived) (kind : FaultKind) (p : Settings) (v : OpenValue)
    → StandsAt c d t s → ClosesBefore v s c (fault_kind kind) → IsReading d p → is_active p.mode ≡ false
    → IsFaulty p ((t ++ c ∷ []) ++ u) (fault_kind kind) d.position
closes-fault d c t u s kind p v at g reading off =
    let w = (t ++ c ∷ []) ++ u in
    let j = length t in
    let read =
    reads-after (with_byte c) any_bytes d t (c ∷ []) (between_tokens s) p at.known (follows-byte c) reading u tt in (
      j,
      read ∙ g.fails p w j (byte-here c t u) off ∙ ap (λ i. fault (fault_kind kind) i j) (sym at.position),
    )

-- where the mode is off, for good;
pub closes-refused : (d : Document) (c : ℕ) (t : List ℕ) (s : Arrived) (kind : FaultKind) (v : OpenValue)
    → StandsAt c d t s → ClosesBefore v s c (fault_kind kind) → is_active d.settings.mode ≡ false
    → IsRefused d any_bytes (t ++ c ∷ []) (fault_kind kind) d.position
closes-refused d c t s kind v at g off p u reading comes =
    closes-fault d c t u s kind p v at g reading (reading-strict d p off reading)

-- else the container ends there, before the byte.
pub closes-noted : (d : Document) (v : OpenValue) (c : ℕ) (t : List ℕ) (s : Arrived) (kind : FaultKind)
    → StandsAt c d t s → (g : ClosesBefore v s c (fault_kind kind)) → is_active d.settings.mode ≡ true
    → HasTakenIn (with_byte c) (record d { value = v; first = noted_in d.first kind d.position }) t
closes-noted d v c t s kind at g on =
    let noted = with_first d (noted_in d.first kind d.position) in
    let next = record noted { value = v } in
    let o = between_tokens s in
    let o' = between_tokens g.next in
    let p = d.settings in
    let n = with_byte c in
    let here : (u : List ℕ) → MayFollow n u → slice_get (t ++ u) (length t) ≡ Some c =
    λ u comes. subst (λ v. slice_get (t ++ v) (length t) ≡ Some c) (sym comes.1) (byte-first c t comes.0) in
    let known : ReadSoFar n noted (t ++ []) o' =
    known-noted n n d t [] o o' at.known (λ u comes. comes) kind d.position on
    (λ unset u comes.
    subst (λ v. completed p (v ++ u) s (length t) ≡ completed p (v ++ u) g.next (length v)) (sym (append-nil t))
    (g.goes p (t ++ u) (length t) (here u comes) on))
    (λ first u comes.
    let q = strictly p in
    let read = reads-so n d t o q at.known (strict, refl, first) u comes in
    faulty-answers q ((t ++ []) ++ u) (fault_kind kind) d.position
    (subst (λ v. IsFaulty q (v ++ u) (fault_kind kind) d.position) (sym (append-nil t)) (
      length t,
      read ∙ g.fails q (t ++ u) (length t) (here u comes) refl ∙ ap (λ i. fault (fault_kind kind) i (length t)) (sym at.position),
    ))) in
    record {
      opened = o';
      known = known-as n noted next t o' (refl, refl, refl) (subst (λ v. ReadSoFar n noted v o') (append-nil t) known);
      held = λ unset. (at.token, g.left);
    }

-- Before the first byte
pub new-arrived : (d : Document) → d.fault ≡ None → d.first ≡ None → d.token ≡ token.Nothing → d.position ≡ 0
    → IsLeft d.value (at_value awaits.Value []) → ((p : Settings) → HasRead p [] (at_value awaits.Value []))
    → HasTakenAll d []
new-arrived d unset first none position left read =
    let s = at_value awaits.Value [] in
    let o = between_tokens s in
    record {
      read =
          record {
            opened = o;
            known = record { reads = by; ends = λ _. tt; noted = λ _. unset; same = λ _ _. first };
            held = λ _. (none, left);
          };
      position = position;
    }
  where
    by : (s : Strictness) (u : List ℕ) → MayFollow any_bytes u
        → ReadsAt (settings_by s d.settings) [] u (fault_by s d.fault d.first) (between_tokens (at_value awaits.Value []))
    by by_mode u comes =
        subst (λ x. ReadsAt d.settings [] u x (between_tokens (at_value awaits.Value []))) (sym unset)
        ((read d.settings).goes u)
    by strict u comes =
        subst (λ x. ReadsAt (strictly d.settings) [] u x (between_tokens (at_value awaits.Value []))) (sym first)
        ((read (strictly d.settings)).goes u)

-- Where a document is over, any bytes leave it so.
over-fault : (n m : Next) (d : Document) (t w : List ℕ) (f : Fault) → Follows n w m → d.fault ≡ Some f → HasTakenIn n d t
    → HasTakenIn m d (t ++ w)
over-fault n m d t w f follows is h =
    let none : d.fault ≡ None → ⊥ = λ h. none-some f (sym h ∙ is) in
    record {
      opened = h.opened;
      known =
          known-on n m d t w h.opened h.opened h.known follows
          (λ p reading u comes. absurd (not-reading d p f is h.known.noted reading))
          (λ first. absurd (none (h.known.noted first)));
      held = λ unset. absurd (none unset);
    }
  where
    not-reading : (d : Document) (p : Settings) (f : Fault) → d.fault ≡ Some f
        → (d.first ≡ None → d.fault ≡ None) → IsReading d p → ⊥
    not-reading d p f is noted (by_mode, so, none) = none-some f (sym none ∙ is)
    not-reading d p f is noted (strict, so, none) = none-some f (sym (noted none) ∙ is)

over-whole : (n m : Next) (d : Document) (t w : List ℕ) (f : Fault) → Follows n w m → d.fault ≡ None → d.first ≡ Some f
    → d.token ≡ token.Nothing → d.value.awaits ≡ awaits.Nothing → HasTakenIn n d t
    → HasTakenIn m d (t ++ w)
over-whole n m d t w f follows unset first none whole h =
    let b = taken-between n d t h unset none in
    let e = whole-end d.value b.state b.left whole in
    let o' = between_tokens (at_end e.value (e.blanks + length w)) in
    let never : d.first ≡ None → ⊥ = λ h. none-some f (sym h ∙ first) in
    record {
      opened = o';
      known =
          known-on n m d t w (between_tokens b.state) o' b.known follows
          (λ p reading u comes.
          let place : length t - e.blanks ≡ length (t ++ w) - (e.blanks + length w) =
          omega (arith, length-append t w) in
          ap (λ s. completed p ((t ++ w) ++ u) s (length t)) e.is ∙ ap (done e.value) place)
          (λ h. absurd (never h));
      held = λ _. (none, subst (IsLeft d.value) e.is b.left);
    }

pub over-takes : (n m : Next) (d : Document) (t w : List ℕ) → Follows n w m → IsOver d → HasTakenIn n d t
    → HasTakenIn m d (t ++ w)
over-takes n m d t w follows (inl h) read = over-fault n m d t w h.0 follows h.1 read
over-takes n m d t w follows (inr h) read = by d.fault refl
  where
    by : (x : Option Fault) → d.fault ≡ x → HasTakenIn m d (t ++ w)
    by None unset = over-whole n m d t w h.0 follows unset h.1 h.2 h.3 read
    by (Some f) is = over-fault n m d t w f follows is read

scalar-as : (d new : Document) (k : Token) (w : List ℕ) → new.settings ≡ d.settings → new.name ≡ d.name
    → new.word ≡ d.word → new.number ≡ d.number → new.string ≡ d.string → HoldsScalar d k w → HoldsScalar new k w
scalar-as d new token.Word w settings names words numbers strings h = (
  subst (λ x. HoldsWord new.name x w) (sym words) (subst (λ x. HoldsWord x d.word w) (sym names) h.0),
  subst (λ x. IsAllowed new.settings x) (sym names) (subst (λ x. IsAllowed x d.name) (sym settings) h.1),
  subst (λ x. BeginsAs w (name_start x)) (sym names) h.2,
)
scalar-as d new token.Number w settings names words numbers strings h =
    (subst (λ x. HoldsNumber x w) (sym numbers) h.0, h.1)
scalar-as d new token.Text w settings names words numbers strings h =
    record { rest = h.rest; is = h.is; taken = subst (λ x. HasTaken x h.rest) (sym strings) h.taken }
scalar-as d new token.Nothing w settings names words numbers strings h = h
scalar-as d new token.Key w settings names words numbers strings h = h

pub counted-holding : (d : Document) (j : ℕ) (t : List ℕ) (o : Opened) → HoldsOpened d t o
    → HoldsOpened (record d { position = j }) t o
counted-holding d j t (between_tokens s) h = h
counted-holding d j t (in_scalar fs b) h =
    let new = record d { position = j } in (
      h.0,
      record { prefix = h.1.prefix; is = h.1.is; begin = h.1.begin; place = h.1.place },
      scalar-as d new d.token h.0 refl refl refl refl refl h.2,
      h.3,
      h.4,
    )
counted-holding d j t (in_key fs ms b) h = (
  h.0,
  record { prefix = h.1.prefix; is = h.1.is; begin = h.1.begin; place = h.1.place },
  h.2,
  record { rest = h.3.rest; is = h.3.is; taken = h.3.taken },
  h.4,
  h.5,
  h.6,
)

-- What was taken does not depend on the position.
pub moved : (n : Next) (d : Document) (j : ℕ) (t : List ℕ) → HasTakenIn n d t
    → HasTakenIn n (record d { position = j }) t
moved n d j t h = record {
  opened = h.opened;
  known = known-as n d (record d { position = j }) t h.opened (refl, refl, refl) h.known;
  held = λ unset. counted-holding d j t h.opened (h.held unset);
}
