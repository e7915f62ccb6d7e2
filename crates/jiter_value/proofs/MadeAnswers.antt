-- What a whole text answers whose texts are borrowed, repeated keys and all.
use Rattle.jiter_value.proofs.Words.{◌≡◌, ◌∙◌, refl, sym, subst, ℕ, List, Result, ReadError, as_read, reading_as}
use Rattle.jiter_value.proofs.Words.{GivesWhole, borrowed, answer_as, answer_by, Settings, JsonValue}
use Rattle.jiter_value.proofs.MadeTexts.{answer_as-is, reading_as-it_is}
use Rattle.jiter_value.proofs.ParsedDocuments.{as_read-is}

borrowed-same : (p : Settings) (t : List ℕ) → answer_as borrowed p t ≡ reading_as as_read (answer_by p t)
borrowed-same p t = answer_as-is borrowed refl p t ∙ reading_as-it_is (answer_by p t) ∙ sym (as_read-is (answer_by p t))

pub borrowed-gives : (p : Settings) (t : List ℕ) (r : Result JsonValue ReadError) (i : ℕ)
    → GivesWhole r i (answer_as borrowed p t) → GivesWhole r i (reading_as as_read (answer_by p t))
borrowed-gives p t r i h = subst (GivesWhole r i) (borrowed-same p t) h
