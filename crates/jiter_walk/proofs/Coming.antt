-- Where a node comes next, in the words of the reader's laws.
use Rattle.std.specs.Prelude.{IfErr, IfOk, Option, Result}
use Rattle.std.proofs.Common.{◌≡◌, ◌<◌, ◌≤◌, ℕ, arith, false, List, length, refl, sym, ap, subst, ◌∙◌}
use Rattle.jiter.specs.Caller.{Cause, IsBlank, IsDocument, MovesOn, Node, ReaderState, Tells, at_start, begin, end, finish}
use Rattle.jiter.specs.Caller.{Reply, Text, gave, key_bytes, key_step, refused, reply_seen, value_of, whole, value_place, with_position}
use Rattle.jiter.proofs.Peeking.{past_blanks-again}
use Rattle.jiter.proofs.Telling.{tells}
use Rattle.jiter.proofs.Walking.{ComesNext, document-next, finish-ends, gave-is, gave-refused, key-ahead}
use Rattle.jiter.proofs.Walking.{moves-on}
use Rattle.jiter_walk.specs.declared.walk_error.WalkError.{WalkError}
use Rattle.jiter_walk.specs.Walk.{Comes, Outcome, Returns, SkipsTo, Walks, index_of}

pub comes-next : (s : ReaderState) (n : Node) → Comes s n → ComesNext s n
comes-next s n h = record {
  stands = record { place = h.place; spelled = h.spelled; limit = h.limit };
  quiet = h.quiet;
}

pub next-comes : (s : ReaderState) (n : Node) → s.partial_strings ≡ false → ComesNext s n → Comes s n
next-comes s n strict h = record {
  strict = strict;
  place = h.stands.place;
  spelled = h.stands.spelled;
  limit = h.stands.limit;
  quiet = h.quiet;
}

-- A document's value comes next to a reader before its first byte.
pub document-comes : (t : List ℕ) (n : Node) → IsDocument false t n → Comes (at_start t) n
document-comes t n d = next-comes (at_start t) n refl (document-next (at_start t) n d refl)

-- Calls for it reply by its tree.
pub comes-tells : (s : ReaderState) (n : Node) → Comes s n → Tells s (value_of s.text n) (begin n) (end n)
comes-tells s n h = tells s h.strict n (comes-next s n h)

-- what a move leaves as it is
pub moved-text : (s0 s : ReaderState) → MovesOn s0 s → s.text ≡ s0.text
moved-text s0 s m = ap (λ (x : ReaderState). x.text) m.same

pub moved-length : (s0 s : ReaderState) → MovesOn s0 s → length s.text ≡ length s0.text
moved-length s0 s m = ap length (moved-text s0 s m)

pub moved-strict : (s0 s : ReaderState) → MovesOn s0 s → s0.partial_strings ≡ false → s.partial_strings ≡ false
moved-strict s0 s m strict = ap (λ (x : ReaderState). x.partial_strings) m.same ∙ strict

-- After a peek it still comes next.
pub comes-after_peek : (s0 s : ReaderState) → MovesOn s0 s → s.position ≡ value_place s0 → (n : Node) → Comes s0 n
    → Comes s n
comes-after_peek s0 s m place n h =
    subst (λ (v : ReaderState). Comes v n) (sym (m.same ∙ ap (with_position s0) place))
    (record {
      strict = h.strict;
      place = past_blanks-again s0.text s0.position ∙ h.place;
      spelled = h.spelled;
      limit = h.limit;
      quiet = h.quiet;
    })

-- After a document's value `finish` is not refused.
pub finish-not_refused : (t : List ℕ) (n : Node) → IsDocument false t n → (s : ReaderState) → MovesOn (at_start t) s
    → s.position ≡ end n → (c : Cause) (x stop : ℕ) → finish s ≡ refused c x stop → ⊥
finish-not_refused t n d s m place c x stop is =
    let text : s.text ≡ t = moved-text (at_start t) s m in
    let blank : IsBlank t s.position (length t) = subst (λ i. IsBlank t i (length t)) (sym place) d.after in
    gave-refused (sym (finish-ends s (subst (λ u. IsBlank u s.position (length u)) (sym text) blank)) ∙ is)

-- A call for the next key that succeeds moves the reader on.
pub key-after : (s0 s : ReaderState) → MovesOn s0 s → (o : Option (List ℕ)) (i : ℕ)
    → reply_seen key_bytes (key_step whole s) ≡ gave o i → s.position < i
key-after s0 s moved o i is = by (key_step whole s) refl is where
  by : (r : Reply (Option Text)) → key_step whole s ≡ r → reply_seen key_bytes r ≡ gave o i → s.position < i
  by (gave key j) there same =
      let within : s.position ≤ length s.text = omega (arith, moved.within, moved-length s0 s moved) in
      omega (arith, key-ahead whole s key j within there, (gave-is _ o j i same).1)
  by (refused c x stop) there same = absurd (gave-refused (sym same))

-- After a peek the same value comes next.
pub value_place-again : (s0 s : ReaderState) → MovesOn s0 s → s.position ≡ value_place s0 → value_place s ≡ value_place s0
value_place-again s0 s m place =
    ap (λ (x : ReaderState). value_place x) (m.same ∙ ap (with_position s0) place) ∙ past_blanks-again s0.text s0.position

-- A walk after a peek is a walk from before it.
pub walks-after_peek : {C X A : Type 0} (view : X → A) (meaning : List ℕ → Node → Outcome C A) (x : Result X (WalkError C))
    (s0 s s1 : ReaderState) → MovesOn s0 s → s.position ≡ value_place s0 → Walks view meaning x s s1
    → Walks view meaning x s0 s1
walks-after_peek view meaning x s0 s s1 m place w =
    let text = moved-text s0 s m in
    let names : s.names ≡ s0.names = ap (λ (y : ReaderState). y.names) m.same in
    record {
      moves = moves-on s0 s s1 m w.moves;
      value = λ n comes.
          subst (λ t. Returns view x (meaning t n)) text (w.value n (comes-after_peek s0 s m place n comes));
      place = λ n comes. w.place n (comes-after_peek s0 s m place n comes);
      reads = λ strict.
          subst (λ i. IfOk x (λ _. SkipsTo s0.names s0.text i s1.position)) (value_place-again s0 s m place)
          (subst (λ t. IfOk x (λ _. SkipsTo s0.names t (value_place s) s1.position)) text
          (subst (λ b. IfOk x (λ _. SkipsTo b s.text (value_place s) s1.position)) names
          (w.reads (moved-strict s0 s m strict))));
      index = subst (λ n. IfErr x (λ e. index_of e ≤ n)) (moved-length s0 s m) w.index;
      memory = w.memory;
    }
