-- What every read of the pull reader promises.
use Rattle.std.specs.Prelude.{◌≡◌, ◌≤◌, ◌+◌, ◌⊎◌, ℕ, List, Result}
use Rattle.jiter_steps.specs.Answer.{read_at}
use Rattle.jiter_steps.specs.Step.{Step, more, step, object_first, object_step}
use Rattle.jiter_steps.specs.StringDecoder.{WantsMemory}
use Rattle.jiter_steps.specs.declared.parse.Start.TheVariants as start
use Rattle.jiter_value.specs.Owned.{ReadHolds}
use Rattle.jiter_value.specs.Value.{MayGrowAt}
use Rattle.jiter.specs.Jiter.{BeginsAt, IndexWithin, MovesOn, Replies, UnlessMemory, WhereMemory}
use Rattle.jiter.specs.Reader.{ReaderState, Reply}
use Rattle.jiter.specs.declared.errors.JiterError.{JiterError}

-- When a read may run out of memory: never, or only at an index of which P.
pub data Memory : Type 1 where
  never : Memory
  only_at : (ℕ → Type 0) → Memory

abbrev pub anywhere : Memory
anywhere = only_at (λ i. Unit {0})

-- P, unless memory ran out
abbrev pub Unless : {X : Type 0} → Memory → Result X JiterError → Type 0 → Type 0
Unless never result P = P
Unless (only_at At) result P = UnlessMemory result P

-- Where a read that runs out of memory leaves the reader: at the error's index, and there memory may run out.
abbrev pub RunsOut : Memory → ReaderState → JiterError → Type 0
RunsOut never new e = ⊥
RunsOut (only_at At) new e = (new.position ≡ e.index) × At e.index

-- What a read promises of its result, seen by `view`, and of the reader before and after it.
pub record Reads {X A : Type 0} (when : Memory) (view : X → A) (reply : Reply A) (result : Result X JiterError)
    (old new : ReaderState) : Type 0 where
  -- The reader keeps its bytes and settings, never moves back and stays within the bytes.
  pub moves : MovesOn old new
  -- The result and the position are those of the reply, unless memory ran out.
  pub value : Unless when result (Replies view result new reply)
  -- An error's index is within the bytes.
  pub index : IndexWithin old.text result
  -- Memory runs out only where it may, and leaves the reader at the error's index.
  pub memory : WhereMemory result (RunsOut when new)

-- How a read fails for the bytes, whatever it would have returned.
abbrev pub Stops : {X : Type 0} → Reply (Unit {0}) → Result X JiterError → ReaderState → ReaderState → Type 0
Stops reply result old new = Reads never (λ _. tt) reply result old new

-- The same of a read whose result is borrowed from the reader: of the reader once the borrow ends.
abbrev pub Lends : {X A : Type 0} → Memory → (X → A) → Reply A → Result X JiterError → ReaderState → Type 0
Lends when view reply result old = (new : ReaderState) × Reads when view reply result old new

-- The string at i needs memory at its opening quote, and only if it has a backslash.
abbrev pub escape_memory : List ℕ → ℕ → Memory
escape_memory t i = only_at (λ x. (x ≡ i) × WantsMemory t i)

-- So does the value at i, if it is a string.
abbrev pub string_memory : List ℕ → ℕ → Memory
string_memory t i = only_at (λ x. (x ≡ i) × BeginsAt t i start.String × WantsMemory t i)

-- The key that a step leads to needs memory at its opening quote, and only if it has a backslash.
abbrev pub key_memory : List ℕ → Step → Memory
key_memory t led = only_at (λ x. (led ≡ more x) × WantsMemory t x)

-- So does the first key of the object at i, and the next key after a member.
abbrev pub first_key_memory : List ℕ → ℕ → Memory
first_key_memory t i =
    only_at (λ x. BeginsAt t i start.Object × (step t object_first (i + 1) ≡ more x) × WantsMemory t x)

abbrev pub next_key_memory : ReaderState → Memory
next_key_memory s = key_memory s.text (step s.text (object_step s.text) s.position)

-- The value at i needs memory from its first byte on, and only if it may grow.
abbrev pub value_memory : ReaderState → ℕ → Memory
value_memory s i = only_at (λ x. (i ≤ x) × MayGrowAt s.text i)

-- An owned one also if it holds a borrowed string or a part.
abbrev pub owned_value_memory : ReaderState → ℕ → Memory
owned_value_memory s i = only_at (λ x. (i ≤ x) × (MayGrowAt s.text i ⊎ ReadHolds (read_at s.names s.text i)))
