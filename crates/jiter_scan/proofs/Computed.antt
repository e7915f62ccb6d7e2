-- What a table of worked rows computes, so that one line unfolds it.
use Rattle.jiter_scan.proofs.Words.{word_at, number_value, number_at, int_at, is_number_text, ⊤}

-- what reading a number unfolds, and testing whether a text is one
unfoldable pub computed_numbers : ⊤
unfolding number_at int_at is_number_text word_at number_value
computed_numbers = tt
