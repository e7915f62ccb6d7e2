-- A turn at a key: it leads on, or it is stopped.
use Rattle.jiter_value.proofs.Words.{◌≡◌, ◌+◌, ◌++◌, ◌∙◌, ℕ, Bool, true, false, List, ap, arith, refl, OnOk, Kind, taken}
use Rattle.jiter_value.proofs.Words.{failed, colon, object_colon, step, value_first, TextPolicy, HaveKeys, LeavesKeys, Member}
use Rattle.jiter_value.proofs.Words.{keys_of, Proceeds, work_left, outcome, Settings, Stacks, State}
use Rattle.jiter_scan.specs.NumberReading.{span_then}
use Rattle.jiter_scan.specs.Word.{Span}
use Rattle.jiter_value.specs.Size.{key_size}
use Rattle.jiter_value.specs.Stacks.{from_key}
use Rattle.jiter_value.specs.Turns.{HasTakenKey, Turned, turns_at_key}
use Rattle.jiter_value.specs.declared.parse.stacks.Slot.TheVariants as slot
use Rattle.jiter_value.specs.declared.parse.stacks.State.TheVariants as state
use Rattle.jiter_value.specs.declared.parse.turns.Reading.{Reading}
use Rattle.jiter_value.proofs.KeptKeys.{left-keys, weaker-on}
use Rattle.jiter_value.proofs.Turning.{keys-left}
use Rattle.jiter_value.proofs.TurnOutcomes.{leads-weaker}

module _ (policy : TextPolicy) (p : Settings) (t : List ℕ) (i : ℕ) (old new : Stacks) (r : ℕ × State) (stopped : Bool)
    (Knows : List (List ℕ) → Type 0) (Refuses : Type 0) where
  pub taken-on : stopped ≡ false
      → Proceeds policy p t i (work_left t old i) (key_size old + 1) (from_key policy p t old i) new r
      → OnOk (outcome new r.1) ((ks : List (List ℕ)) × Knows ks × HaveKeys ks new.members.items)
      → HasTakenKey policy p t 1 i old new r stopped Knows Refuses
  taken-on going leads keys = record {
    leads = λ _. leads;
    keys = λ _. keys;
    refused = λ h. absurd (cc (going, h));
    same = λ h. absurd (cc (going, h));
  }

-- The members that are left have keys that are known.
pub left-known : (ks : List (List ℕ)) (old : List Member) (s : Stacks) (a : State) (Knows : List (List ℕ) → Type 0)
    → Knows ks → HaveKeys ks old → OnOk (outcome s a) (LeavesKeys old s.members.items)
    → OnOk (outcome s a) ((ks : List (List ℕ)) × Knows ks × HaveKeys ks s.members.items)
left-known ks old s a Knows known have =
    weaker-on s a (λ kept. (ks, known, keys-left ks old s.members.items have kept))

-- A turn at a key, and one at its value.
pub then-value : (policy : TextPolicy) (p : Settings) (W : Type 0) (t : List ℕ) (i : ℕ) (old : Stacks) (mid new : Reading)
    (q r : ℕ × State) (stopped : Bool) (Knows : List (List ℕ) → Type 0) (Refuses : Type 0) (once : Bool)
    → HasTakenKey policy p t 1 i old mid.stacks q stopped Knows Refuses → q.1 ≡ state.Member → once ≡ false
    → mid.settings ≡ p → Turned policy W t q.0 slot.Member mid new r
    → HasTakenKey policy p t (turns_at_key once) i old new.stacks r stopped Knows Refuses
then-value policy p W t i old mid new q r stopped Knows Refuses true h is on same e = absurd (cc on)
then-value policy p W t i old mid new q r true Knows Refuses false h is on same e = absurd (cc (is, (h.same refl).1))
then-value policy p W t i old mid new q r false Knows Refuses false h is on same e =
    let key = h.leads refl in
    let known = rw is at (h.keys refl) in
    let less = rw is at key.work_left in
    let held = rw is at key.held in
    record {
      leads = λ _. leads-weaker (rw same at e.leads) (omega (arith, key.within.0)) (omega (arith, less))
          (omega (arith, held)) (rw is at key.reaches).0;
      keys = λ _. left-known known.0 mid.stacks.members.items new.stacks r.1 Knows known.1 known.2 e.keys;
      refused = λ h. absurd (cc h);
      same = λ h. absurd (cc h);
    }

-- The same where more are known after theirs.
pub more-known : (old : List Member) (more : List (List ℕ)) (s : Stacks) (a : State)
    (Knows : List (List ℕ) → Type 0) → Knows (keys_of old ++ more) → OnOk (outcome s a) (LeavesKeys old s.members.items)
    → OnOk (outcome s a) ((ks : List (List ℕ)) × Knows ks × HaveKeys ks s.members.items)
more-known old more s a Knows known =
    weaker-on s a (λ kept. (keys_of old ++ more, known, left-keys old s.members.items more kept))

-- A colon, and where a value begins after it.
pub after-colon : (t : List ℕ) (e j : ℕ) (x : Span) → step t colon e ≡ taken tt j → step t value_first j ≡ x
    → object_colon t e ≡ x
after-colon t e j x colon first = ap (λ c. span_then c (step t value_first)) colon ∙ first

pub at-colon : (t : List ℕ) (e j : ℕ) (k : Kind) → step t colon e ≡ failed k j → object_colon t e ≡ failed k j
at-colon t e j k colon = ap (λ c. span_then c (step t value_first)) colon
