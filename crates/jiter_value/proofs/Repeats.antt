-- A key that its object has already, and what its reading is.
use Rattle.jiter_value.proofs.Words.{◌≡◌, ℕ, zero, suc, ◌<◌, true, false, List, [], ◌∷◌, length, take, drop, map}
use Rattle.jiter_value.proofs.Words.{refl, sym, ap, ◌∙◌, arith, cond, subst, ◌||◌, Bool, reverse, string_bytes, Option}
use Rattle.jiter_value.proofs.Words.{Some, None, Result, Err, bytes_eq, Kind, duplicate_key, taken, failed, PartialMode}
use Rattle.jiter_value.proofs.Words.{Off, On, TrailingStrings, resume, object_in, Reading, Rules, Container, fault}
use Rattle.jiter_value.proofs.Words.{value_at, step, colon, value_first, text_view, string_at, whole, Text, Tree}
use Rattle.jiter_value.proofs.Words.{own_bytes, if_forgiven-no, resume-fault, TextPolicy, borrowed_unique, forgives, rules_as}
use Rattle.jiter_value.proofs.Words.{answer_as, Member, member_view, frames, HaveKeyBase, IsFree, StandsAtKey}
use Rattle.jiter_value.proofs.Words.{refused_in, key_in, denotes, IsKeyRead, IsWithin, has_key}
use Rattle.jiter_value.proofs.Words.{WhereUniqueRefused, GivesUniqueWhole, object_has_key, GivesWhole, past_blanks}
use Rattle.jiter_value.proofs.Words.{unique_answer_in, ReadError, Settings, OpenContainer, Stacks, Interrupted, JsonValue}
use Rattle.jiter_steps.specs.Read.{if_forgiven, parts_at}
use Rattle.jiter_steps.specs.Unique.{is_among, after_its_colon}
use Rattle.jiter_value.specs.UniqueKeys.{innermost_base, StopsAtKey, GivesUnique}
use Rattle.jiter_value.specs.UniqueKeys.{fault_at_key}
use Rattle.jiter_value.proofs.MadeTexts.{answer_as-unique}
use Rattle.jiter_value.proofs.WholeTextAnswers.{answer-none, answer-fault, answer-refused}
use Rattle.jiter_value.specs.declared.parse.stacks.State.TheVariants as state
use Rattle.jiter_value.specs.declared.parse.turns.unique.Interrupted.TheVariants as stopped
use Rattle.jiter_steps.specs.declared.read_error.ReadError.TheVariants as error

has_key-among : (key : List ℕ) (ms : List Member)
    → is_among key (map (λ m. own_bytes m.0) (map member_view ms)) ≡ has_key key ms
has_key-among key [] = refl
has_key-among key (m ∷ ms) = ap (λ b. bytes_eq key (text_view m.0).bytes || b) (has_key-among key ms)

either-way : {A : Type 0} (b : Bool) (x y : A) → x ≡ y → cond b x y ≡ y
either-way true x y is = is
either-way false x y is = refl

-- The error of a key, where this is read of it.
module _ (policy : TextPolicy) (t : List ℕ) (os : List OpenContainer) (n : ℕ) (ms : List Member) (i : ℕ)
    (stands : HaveKeyBase os n (length ms)) where
  abbrev Refused : Option (Kind × ℕ)
  Refused = refused_in policy t os ms i

  refused-read : (os : List OpenContainer) → HaveKeyBase os n (length ms) → (k : Text) (e : ℕ) → string_at whole t i ≡ taken k e
      → refused_in policy t os ms i ≡ cond policy.unique
      (cond (has_key k.bytes (drop (innermost_base os) ms)) (after_its_colon k.bytes (step t colon e)) None) None
  refused-read [] b k e is = absurd b
  refused-read (o ∷ os) b k e is =
      let among = has_key-among k.bytes (drop o.base ms) in
      rw (is, among) refl

  refused-failed : (os : List OpenContainer) → HaveKeyBase os n (length ms) → (k : Kind) (j : ℕ)
      → string_at whole t i ≡ failed k j → refused_in policy t os ms i ≡ None
  refused-failed [] b k j is = absurd b
  refused-failed (o ∷ os) b k j is = rw is (either-way policy.unique None None refl)

  pub no-key : (k : Kind) (j : ℕ) → string_at whole t i ≡ failed k j → Refused ≡ None
  no-key k j is = refused-failed os stands k j is

  pub no-colon : (k : Text) (e : ℕ) (x : Kind) (j : ℕ) → string_at whole t i ≡ taken k e → step t colon e ≡ failed x j
      → Refused ≡ None
  no-colon k e x j is fails =
      let has = has_key k.bytes (drop (innermost_base os) ms) in
      refused-read os stands k e is
      ∙ ap (λ s. cond policy.unique (cond has (after_its_colon k.bytes s) None) None) fails
      ∙ either-way policy.unique (cond has None None) None (either-way has None None refl)

  pub key-read : policy.unique ≡ true → (k : Text) (e : ℕ) → string_at whole t i ≡ taken k e
      → Refused ≡ cond (has_key k.bytes (drop (innermost_base os) ms)) (after_its_colon k.bytes (step t colon e)) None
  key-read unique k e is = refused-read os stands k e is ∙ (rw unique refl)

-- The same where the key was read: a repeated key's error.
pub refused-key : (t : List ℕ) (s : Stacks) (i e j : ℕ) (k : Text) → StandsAtKey s → IsKeyRead borrowed_unique t i e j k
    → refused_in borrowed_unique t (reverse s.nest.items) s.members.items i ≡ fault_at_key k.bytes s t e
refused-key t s i e j k stands h =
    key-read borrowed_unique t (reverse s.nest.items) (length s.items.items) s.members.items i stands refl h.key e h.read
    ∙ ap (λ x. fault_at_key x.bytes s t e) (sym h.kept)

pub free-key : (t : List ℕ) (s : Stacks) (i e j : ℕ) (k : Text) → StandsAtKey s → IsKeyRead borrowed_unique t i e j k
    → object_has_key k.bytes s ≡ false → IsFree borrowed_unique t s i
free-key t s i e j k stands h new =
    refused-key t s i e j k stands h ∙ ap (λ b. cond b (after_its_colon k.bytes (step t colon e)) None) new

-- A repeated key's error is that of the reading: no container forgives it.
refused-part : {K A P : Type 0} (r : Rules K A) (c : Container P A) (t : List ℕ) (n : ℕ) (parts : List P) (j : ℕ)
    (f : Kind × ℕ) → 0 < n → c.refuses parts j ≡ Some f
    → parts_at r c t n parts j ≡ if_forgiven r (λ e. c.build e parts) f.0 f.1 f.1
unfolding parts_at
refused-part r c t zero parts j f lt is = absurd (omega arith)
refused-part r c t (suc n) parts j f lt is = rw is refl

repeat-kept : (mode : PartialMode) (key : List ℕ) → forgives mode (duplicate_key key) ≡ false
repeat-kept Off key = refl
repeat-kept On key = refl
repeat-kept TrailingStrings key = refl

pub key-repeated : (p : Settings) (t : List ℕ) (os : List OpenContainer) (es : List JsonValue) (ms : List Member) (j x : ℕ)
    (key : List ℕ) → j < length t → refused_in borrowed_unique t os ms j ≡ Some (duplicate_key key, x)
    → key_in borrowed_unique p t os es ms j ≡ fault (duplicate_key key) x x
key-repeated p t [] es ms j x key lt is = absurd (cc)
key-repeated p t (o ∷ os) es ms j x key lt is =
    let r = rules_as borrowed_unique p in
    let fs = frames o.outer os es (take o.base ms) in
    let c = object_in r t (length fs) in
    let parts = map member_view (drop o.base ms) in
    let kept = repeat-kept p.mode key in
    ap (resume r t fs)
    (refused-part r c t (length t) parts j (duplicate_key key, x) (omega (arith, lt)) is
    ∙ if_forgiven-no r t (λ e. c.build e parts) (duplicate_key key) x x kept)
    ∙ resume-fault r t fs (duplicate_key key) x x kept

-- What is returned then.
pub stops-gives : (p : Settings) (t : List ℕ) (s : Stacks) (i : ℕ) (x : Interrupted) (j : ℕ) (r : Reading Tree)
    → IsWithin t s state.Key i → r ≡ denotes borrowed_unique p t s state.Key i → StopsAtKey t s i x j
    → GivesUnique (Err x) j r
stops-gives p t s i (stopped.Read (error.Fault f)) j r w is h = absurd h
stops-gives p t s i (stopped.Read (error.Memory m)) j r w is h = tt
stops-gives p t s i (stopped.Repeated k) j r w is h =
    is
    ∙ key-repeated p t (reverse s.nest.items) s.items.items s.members.items i k.index (string_bytes k.key) w.2 h.0
    ∙ ap (fault (duplicate_key (string_bytes k.key)) k.index) (sym h.1)

pub stops-grows : (x : Interrupted) (P : Type 0) → P → WhereUniqueRefused (Err x) P
stops-grows (stopped.Read (error.Fault f)) P h = tt
stops-grows (stopped.Read (error.Memory m)) P h = h
stops-grows (stopped.Repeated k) P h = tt

-- The answer of a whole text: where its value is stopped, and where it is read and what follows it is looked at.
pub whole-stopped : (p : Settings) (t : List ℕ) → past_blanks t 0 < length t → (x : Interrupted) (j : ℕ)
    → GivesUnique (Err x) j (value_at (rules_as borrowed_unique p) t 200 (past_blanks t 0))
    → GivesUniqueWhole (Err x) j (unique_answer_in p.allow_inf_nan p.mode t)
whole-stopped p t begun (stopped.Read e) j h =
    subst (GivesWhole (Err e) j) (answer_as-unique p t) (answer-refused (rules_as borrowed_unique p) p.mode t begun e j h)
whole-stopped p t begun (stopped.Repeated k) j h =
    sym (answer_as-unique p t)
    ∙ answer-fault (rules_as borrowed_unique p) p.mode t begun (duplicate_key (string_bytes k.key)) k.index j h

pub whole-none : (p : Settings) (t : List ℕ) (k : Kind) (x i : ℕ) → (step t value_first 0 ≡ failed k x) × (i ≡ x)
    → unique_answer_in p.allow_inf_nan p.mode t ≡ fault k x i
whole-none p t k x i h = sym (answer_as-unique p t) ∙ answer-none (rules_as borrowed_unique p) p.mode t k x i h

pub whole-given : (p : Settings) (t : List ℕ) (r : Result JsonValue ReadError) (j : ℕ)
    → GivesWhole r j (answer_as borrowed_unique p t)
    → GivesWhole r j (unique_answer_in p.allow_inf_nan p.mode t)
whole-given p t r j h = subst (GivesWhole r j) (answer_as-unique p t) h
