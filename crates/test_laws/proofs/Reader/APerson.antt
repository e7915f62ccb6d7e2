-- A document that is read by steps, by computation.
use Rattle.jiter.proofs.Words.{◌≡◌, ℕ, pos, ◌∷◌, refl, codes, Some, None, whole, ReaderState, gave, next, known}
use Rattle.jiter.proofs.Words.{int_read, str_read, array_read, item_step, object_read, key_step, finish}
use Rattle.jiter_scan.specs.Number as number
use Rattle.test_laws.proofs.Reader.Tables.{computed_replies, named, borrowed}

-- the reader of the document, at a place
abbrev person : ℕ → ReaderState
person i = named (10 ∷ codes "{\"name\": \"John Doe\", \"age\": 43, \"phones\": [\"+44 1234567\", \"+44 2345678\"]}") i

by_steps :
    (next (person 0) (object_read whole (person 0)) ≡ gave (Some (borrowed (codes "name"))) 9)
    × (next (person 9) (str_read (person 9)) ≡ gave (borrowed (codes "John Doe")) 20)
    × (key_step whole (person 20) ≡ gave (Some (borrowed (codes "age"))) 28)
    × (next (person 28) (int_read (person 28)) ≡ gave (number.integer (pos 43)) 31)
    × (key_step whole (person 31) ≡ gave (Some (borrowed (codes "phones"))) 42)
    × (next (person 42) (array_read (person 42)) ≡ gave (Some 34) 44)
    × (known (person 44) (str_read (person 44)) ≡ gave (borrowed (codes "+44 1234567")) 57)
    × (item_step (person 57) ≡ gave (Some 34) 59)
    × (known (person 59) (str_read (person 59)) ≡ gave (borrowed (codes "+44 2345678")) 72)
    × (item_step (person 72) ≡ gave None 73)
    × (key_step whole (person 73) ≡ gave None 74)
    × (finish (person 74) ≡ gave tt 74)
unfolding computed_replies
by_steps = (refl, refl, refl, refl, refl, refl, refl, refl, refl, refl, refl, refl)
