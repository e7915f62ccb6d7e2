-- What a read promises, from its parts.
use Rattle.jiter.proofs.Words.{◌≡◌, ◌∙◌, ◌≤◌, Ok, Err, Result, refl, sym, ap, subst, slice_get, length, Some, ℕ}
use Rattle.jiter.proofs.Words.{start_of, ValueType, IsRefusalOf, refusal_view, MovesOn, Replies, RefusesBytes}
use Rattle.jiter.proofs.Words.{reply_seen, ReaderState, Reply, refused, refused_as, if_byte, next, value_place}
use Rattle.jiter.proofs.Words.{Refusal, with_position, Reads, anywhere, never, JiterError, Option, None, Form, Text}
use Rattle.jiter.proofs.Words.{object, object_read, Start}
use Rattle.std.proofs.Common.{◌≢◌}
use Rattle.jiter_steps.proofs.Grammar.Sound.{object-byte}
use Rattle.jiter_steps.specs.declared.parse.Start.TheVariants as start
use Rattle.jiter.specs.Reader.{type_refusal}
use Rattle.jiter.specs.Reads.{Memory, Stops, only_at}

-- of a read that does not allocate
pub read-bytes : {X A : Type 0} {view : X → A} {x : Result X JiterError} {s0 s : ReaderState} {r : Reply A}
    → MovesOn s0 s → Replies view x s r → RefusesBytes s0.text x → Reads never view r x s0 s
read-bytes {x = Ok a} moves value is = record { moves = moves; value = value; index = tt; memory = tt }
read-bytes {x = Err e} moves value is =
    record { moves = moves; value = value; index = is.within; memory = is.bytes }

-- A read that may run out of memory somewhere promises less than one that runs out only here.
pub read-anywhere : {X A : Type 0} (when : Memory) (view : X → A) (x : Result X JiterError) {s0 s : ReaderState}
    {r : Reply A} → Reads when view r x s0 s → Reads anywhere view r x s0 s
read-anywhere never view (Ok a) h = record { moves = h.moves; value = h.value; index = tt; memory = tt }
read-anywhere never view (Err e) h =
    record { moves = h.moves; value = λ m. h.value; index = h.index; memory = λ m. absurd (h.memory m) }
read-anywhere (only_at At) view (Ok a) h = record { moves = h.moves; value = h.value; index = tt; memory = tt }
read-anywhere (only_at At) view (Err e) h = record {
  moves = h.moves;
  value = h.value;
  index = h.index;
  memory = λ m. let out = h.memory m in (out.0, tt);
}

-- A read that does not allocate promises no less than one that may run out of memory.
pub read-never : {X A : Type 0} (when : Memory) {view : X → A} {x : Result X JiterError} {s0 s : ReaderState}
    {r : Reply A} → Reads never view r x s0 s → Reads when view r x s0 s
read-never never h = h
read-never (only_at At) {x = Ok a} h = record { moves = h.moves; value = h.value; index = tt; memory = tt }
read-never (only_at At) {x = Err e} h =
    record { moves = h.moves; value = λ m. h.value; index = h.index; memory = λ m. absurd (h.memory m) }

-- What comes next is of another type: the error of the value there.
pub other-refused : (s : ReaderState) (w : ValueType) (v : ReaderState) (i c : ℕ) (e : JiterError) → v ≡ s
    → i ≡ value_place s → s.position ≤ i → i ≤ length s.text → slice_get v.text i ≡ Some c
    → refusal_view e ≡ type_refusal v i w (start_of c) → IsRefusalOf v.text e
    → Stops {X = Unit {0}} (next s (λ i b. refused_as s i w b)) (Err e) s (with_position v i)
other-refused s w v i c e is place = subst P (sym is) here where
  P : ReaderState → Type 0
  P v = s.position ≤ i → i ≤ length s.text → slice_get v.text i ≡ Some c → refusal_view e ≡ type_refusal v i w (start_of c)
      → IsRefusalOf v.text e → Stops {X = Unit {0}} (next s (λ i b. refused_as s i w b)) (Err e) s (with_position v i)

  here : P s
  here ahead within byte wrong bytes =
      let at : slice_get s.text (value_place s) ≡ Some c = ap (slice_get s.text) (sym place) ∙ byte in
      record {
        moves = record { same = refl; forward = ahead; within = within };
        value = ap (λ o. if_byte {A = Unit {0}} (value_place s) o (λ c. refused_as s (value_place s) w (start_of c))) at
            ∙ ap (λ j. refused_as {A = Unit {0}} s j w (start_of c)) (sym place)
            ∙ ap (λ (r : Refusal). refused r.cause r.index i) (sym wrong);
        index = bytes.within;
        memory = bytes.bytes;
      }

-- The same error, whatever would have been returned.
pub error-seen : {X Y A B : Type 0} {seen : X → A} {view : Y → B} {e : JiterError} {s0 s : ReaderState} {r : Reply A}
    (g : A → B) → Reads never seen r (Err e) s0 s → Reads never view (reply_seen g r) (Err e) s0 s
error-seen g h =
    record { moves = h.moves; value = ap (reply_seen g) h.value; index = h.index; memory = h.memory }

-- What comes next is no object: the error of the value there.
pub no-object : {X : Type 0} {view : X → Option Text} (f : Form) (e : JiterError) {s0 s : ReaderState}
    → slice_get s0.text (value_place s0) ≢ Some 123
    → Stops {X = Unit {0}} (next s0 (λ i b. refused_as s0 i object b)) (Err e) s0 s
    → Reads never view (next s0 (object_read f s0)) (Err e) s0 s
no-object {view = view} f e {s0 = s0} {s = s} other h =
    record { moves = h.moves; value = by (slice_get s0.text i) other h.value; index = h.index; memory = h.memory } where
      i : ℕ
      i = value_place s0

      at : (b : Start) → b ≢ start.Object → Replies {X = Unit {0}} (λ _. tt {0}) (Err e) s (refused_as s0 i object b)
          → Replies view (Err e) s (object_read f s0 i b)
      at start.Object apart h = absurd (apart refl)
      at (start.Literal w) apart h = cc
      at b apart h = cc

      by : (o : Option ℕ) → o ≢ Some 123
          → Replies {X = Unit {0}} (λ _. tt {0}) (Err e) s (if_byte i o (λ c. refused_as s0 i object (start_of c)))
          → Replies view (Err e) s (if_byte i o (λ c. object_read f s0 i (start_of c)))
      by None other h = cc
      by (Some c) other h = at (start_of c) (λ is. other (ap Some (object-byte c is))) h
