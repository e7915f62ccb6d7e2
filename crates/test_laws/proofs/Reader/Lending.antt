-- What the words about a borrowing call say of a result and of where the reader is, row by row. That it is so
-- when the borrow ends (`LeavesReader`) is a formula of the toolchain's logic over these words, which no row computes.
use Rattle.jiter.proofs.Words.{◌≡◌, ℕ, List, refl, arith, codes, Ok, Err, Some, None, Result, subst, slice_get, Option}
use Rattle.jiter.proofs.Words.{trailing_comma, past_blanks, Text, json_error, wrong_type, int, string, reply_seen}
use Rattle.jiter.proofs.Words.{text_bytes, ReaderState, Reply, gave, refused, next, str_read, Reads, never}
use Rattle.jiter.proofs.Words.{string_memory}
use Rattle.jiter_scan.specs.declared.errors.JsonErrorType.TheVariants as kind
use Rattle.jiter.specs.Jiter.{TellsHere, EndsWithColon}
use Rattle.jiter.specs.declared.errors.JiterError.{JiterError}
use Rattle.jiter.specs.declared.errors.JiterErrorType.{JiterErrorType}
use Rattle.jiter.specs.declared.errors.JiterErrorType.TheVariants as error
use Rattle.jiter.specs.declared.errors.JsonType.TheVariants as type
use Rattle.jiter.specs.declared.peek.TheConstants.Peek as of
use Rattle.test_laws.proofs.Reader.Tables.{computed_replies, at, borrowed}

abbrev error_at : JiterErrorType → ℕ → JiterError
error_at t i = record { error_type = t; index = i }

-- what `next_str` replies
abbrev replied : ReaderState → Reply (List ℕ)
replied s = reply_seen text_bytes (next s (str_read s))

-- the bytes of a text that was borrowed, and how the call leaves a reader that was at 0
abbrev Leaves : List ℕ → Result (List ℕ) JiterError → ℕ → Type 0
Leaves t result i =
    Reads (string_memory t (past_blanks t 0)) (λ x. x) (replied (at t 0)) result (at t 0) (at t i)

-- after its closing quote
a_text_is_borrowed : Leaves (codes "\"a\" 1") (Ok (codes "a")) 3
a_text_is_borrowed =
    unfold computed_replies in record {
      moves = record { same = refl; forward = omega arith; within = omega arith };
      value = refl;
      index = tt;
      memory = tt;
    }

-- at another type's value
another_type : Leaves (codes " 1") (Err (error_at (error.WrongType type.String type.Int) 1)) 1
another_type =
    unfold computed_replies in record {
      moves = record { same = refl; forward = omega arith; within = omega arith };
      value = λ bytes. refl;
      index = omega arith;
      memory = λ m. absurd (cc);
    }

-- where an allocation failed, at the error's index
memory_refused : Leaves (codes "\"\\n\"") (Err (error_at (error.JsonError kind.OutOfMemory) 0)) 0
memory_refused =
    unfold computed_replies in record {
      moves = record { same = refl; forward = omega arith; within = omega arith };
      value = λ bytes. absurd (bytes refl);
      index = omega arith;
      memory = λ m. (refl, (refl, refl, refl));
    }

-- nowhere else
not_after_blanks : Leaves (codes "\"a\" 1") (Ok (codes "a")) 4 → ⊥
not_after_blanks h = by (unfold computed_replies in h.value) where
  by : gave (codes "a") 3 ≡ gave (codes "a") 4 → ⊥
  by e = cc

not_past_the_index : Leaves (codes "\"\\n\"") (Err (error_at (error.JsonError kind.OutOfMemory) 0)) 4 → ⊥
not_past_the_index h = let out = h.memory refl in let place = out.0 in cc

-- An error is the reply's.
abbrev wrong : Reply (List ℕ)
wrong = refused (wrong_type string int) 1 1

no_other_refusal : Leaves (codes " 1") (Err (error_at (error.JsonError kind.TrailingComma) 1)) 1 → ⊥
no_other_refusal h = by (unfold computed_replies in h.value (λ m. cc)) where
  by : wrong ≡ refused (json_error trailing_comma) 1 1 → ⊥
  by e = cc

-- A read that does not allocate is never out of memory.
never_out : (r : Reply (List ℕ)) (s : ReaderState)
    → Reads never (λ x. x) r (Err (error_at (error.JsonError kind.OutOfMemory) 0)) s s → ⊥
never_out r s h = h.memory refl

same_byte : (b c : ℕ) → Some b ≡ Some c → b ≡ c
same_byte b c e = cc

-- A peek that was handed out is the byte where the reader is.
told_here : TellsHere (Ok (Some of.True)) (at (codes "[true]") 1)
told_here = refl

nothing_told : TellsHere (Ok None) (at (codes "[]") 2)
nothing_told = tt

not_told_elsewhere : TellsHere (Ok (Some of.True)) (at (codes "[true]") 2) → ⊥
not_told_elsewhere h = let same = same_byte 114 116 h in omega (arith, same)

-- After a key the reader is right after its colon.
abbrev key_of_a : Result (Option Text) JiterError
key_of_a = Ok (Some (borrowed (codes "a")))

after_the_colon : EndsWithColon key_of_a (codes "{\"a\" : 1}") 6
after_the_colon = (5, refl, refl)

not_before_it : EndsWithColon key_of_a (codes "{\"a\" : 1}") 5 → ⊥
not_before_it h =
    let next_to = h.1 in
    let at_4 : h.0 ≡ 4 = omega (arith, next_to) in
    let same = same_byte 32 58 (subst (λ j. slice_get (codes "{\"a\" : 1}") j ≡ Some 58) at_4 h.2) in
    omega (arith, same)
