-- A member's value, read or skipped.
use Rattle.std.proofs.Common.{◌≡◌, ◌∙◌, ℕ, Bool, true, false, Option, Some, None, refl, sym, ap}
use Rattle.std.specs.Prelude.{Err, Ok, Result, slice_get}
use Rattle.jiter.specs.Caller.{ReaderState, Reads, Reply, RunsOut, Start, Tells, Tree, UnlessMemory}
use Rattle.jiter.specs.Caller.{SkipsAsRead, WhereMemory, anywhere, gave, if_byte, never, next, refused, reply_seen}
use Rattle.jiter.specs.Caller.{skip_read, start_of, value_place, value_read}
use Rattle.jiter.specs.declared.errors.JiterError.{JiterError}
use Rattle.jiter.proofs.SkipReplies.{next-skipped}
use Rattle.jiter.proofs.Walking.{gave-refused}
use Rattle.filter.specs.Members.{part_read}

-- what a next_ call replies, seen so
next-seen : {A B : Type 0} (f : A → B) (s : ReaderState) (read : ℕ → Start → Reply A)
    → next s (λ i b. reply_seen f (read i b)) ≡ reply_seen f (next s read)
next-seen {A = A} {B = B} f s read = by (slice_get s.text (value_place s)) where
  by : (o : Option ℕ) → if_byte (value_place s) o (λ c. reply_seen f (read (value_place s) (start_of c)))
      ≡ reply_seen f (if_byte (value_place s) o (λ c. read (value_place s) (start_of c)))
  by None = refl
  by (Some c) = refl

-- A value that comes next is passed, whether it is read or skipped.
pub part-told : (s : ReaderState) (named : Bool) (v : Tree) (b e : ℕ) → Tells s v b e
    → next s (part_read named s) ≡ gave tt e
part-told s true v b e told = next-seen (λ v. tt) s (value_read s) ∙ ap (reply_seen (λ v. tt)) told.value
part-told s false v b e told = told.passed

-- a skip replies so
abbrev Skips : ReaderState → Reply (Unit {0}) → Type 0
Skips s r = next s (skip_read s) ≡ r

read-skips : (s : ReaderState) (e : ℕ) (r : Reply Tree) → SkipsAsRead (Skips s) r
    → reply_seen {B = Unit {0}} (λ v. tt) r ≡ gave tt e → next s (skip_read s) ≡ gave tt e
read-skips s e (gave v j) skips same = skips ∙ same
read-skips s e (refused c x stop) skips same = absurd (gave-refused (sym same))

-- A value that can be read can be skipped, to the same end.
pub part-any : (s : ReaderState) (named : Bool) (e : ℕ) → next s (part_read true s) ≡ gave tt e
    → next s (part_read named s) ≡ gave tt e
part-any s true e h = h
part-any s false e h =
    read-skips s e (next s (value_read s)) (next-skipped (Skips s) s refl) (sym (next-seen (λ v. tt) s (value_read s)) ∙ h)

unless : {X : Type 0} (r : Result X JiterError) (P : Type 0) → P → UnlessMemory r P
unless (Ok x) P p = p
unless (Err e) P p = λ bytes. p

nowhere : {X : Type 0} (r : Result X JiterError) (s : ReaderState) → WhereMemory r (RunsOut never s)
    → WhereMemory r (RunsOut anywhere s)
nowhere (Ok x) s h = tt
nowhere (Err e) s h = λ memory. absurd (h memory)

-- A call that doesn't allocate is one that may run out of it.
pub never-anywhere : {X A : Type 0} (view : X → A) (reply : Reply A) (r : Result X JiterError) (s s1 : ReaderState)
    → Reads never view reply r s s1 → Reads anywhere view reply r s s1
never-anywhere view reply r s s1 h = record {
  moves = h.moves;
  value = unless r _ h.value;
  index = h.index;
  memory = nowhere r s1 h.memory;
}
