-- What the rows compute: of each subject the definitions that a row on literals unfolds.
use Rattle.jiter_steps.proofs.Words.{chars, is_utf8, utf8_valid_len, utf8_error_len, encode_utf8, word_at, past_blanks}
use Rattle.jiter_steps.proofs.Words.{event_at, body_within, body_at, content_at, parts_at, inside_at, prefix_answer}
use Rattle.jiter_steps.proofs.Words.{whole_answer, ⊤}
use Rattle.jiter_scan.proofs.Computed.{computed_numbers}

unfoldable pub computed_literals : ⊤
unfolding word_at
computed_literals = tt

unfoldable pub computed_steps : ⊤
unfolding past_blanks
computed_steps = tt

unfoldable pub computed_strings : ⊤
unfolding content_at body_at body_within event_at utf8_valid_len utf8_error_len is_utf8 chars encode_utf8
computed_strings = tt

unfoldable pub computed_cuts : ⊤
unfolding computed_numbers encode_utf8
computed_cuts = tt

unfoldable pub computed_readings : ⊤
unfolding whole_answer prefix_answer parts_at inside_at
    computed_literals computed_steps computed_numbers computed_strings
computed_readings = tt
