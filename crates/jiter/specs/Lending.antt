-- How a call that borrows a text out of the reader leaves it, once the text is let go. No other file of this crate speaks
-- of names of the toolchain's inside: `the_row` with `named 1` is the type of a reader over bytes of one lifetime, and
-- `follows_so` says that the last line holds of the reader v that is after the reference when its borrow ends.
use Rattle.std.specs.Borrow.{MutBor, Fml}
use Rattle.std.specs.Prelude.{⊤, [], Result}
use denote.Follow.{follows_so}
use mathlib.Core.Option.{none}
use mir.Syntax.{named}
use Rattle.jiter.specs.Reader.{ReaderState, Reply}
use Rattle.jiter.specs.Reads.{Memory, Reads}
use Rattle.jiter.specs.contracts.jiter.Jiter.{the_row}
use Rattle.jiter.specs.declared.errors.JiterError.{JiterError}

-- Once the borrow ends, the reader is as the read promises.
abbrev pub LeavesReader : {X A : Type 0} → Memory → (X → A) → Reply A → Result X JiterError → MutBor ReaderState → Fml
LeavesReader when view reply result reader = follows_so
    (the_row (record { mir = named 1; lft = [] })) (the_row (record { mir = named 1; lft = [] }))
    reader.ghost_name none (λ _ _. ⊤) (λ v. Reads when view reply result reader.now v)
