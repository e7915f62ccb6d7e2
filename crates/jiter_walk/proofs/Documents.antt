-- A document that is read by a walk, and then to its end.
use Rattle.std.proofs.Common.{◌≡◌, ◌≤◌, ℕ, false, List, length, refl, sym, ap, subst, arith}
use Rattle.std.specs.Prelude.{Option, Some, None, slice_get}
use Rattle.jiter_steps.specs.Blank.{IsBlank, past_blanks}
use Rattle.jiter_steps.proofs.Grammar.Blanks.{at_length, passed-blank, past_blanks-bound}
use Rattle.jiter.specs.Caller.{MovesOn, ReaderState, at_start, finish, gave, value_place}
use Rattle.jiter.specs.Reader.{end_reply}
use Rattle.jiter.proofs.Walking.{gave-refused}
use Rattle.jiter_walk.specs.Walk.{IsReadable, SkipsTo}
use Rattle.jiter_walk.proofs.Coming.{moved-text}

-- Where `finish` succeeds only whitespace is left.
finish-blank : (s : ReaderState) (e : ℕ) → s.position ≤ length s.text → finish s ≡ gave tt e
    → IsBlank s.text s.position (length s.text)
finish-blank s e within is = by (slice_get s.text (value_place s)) refl is where
  by : (o : Option ℕ) → slice_get s.text (value_place s) ≡ o → end_reply (value_place s) o ≡ gave tt e
      → IsBlank s.text s.position (length s.text)
  by None there h =
      subst (IsBlank s.text s.position)
      (at_length s.text (value_place s) (past_blanks-bound s.text s.position within) there)
      (passed-blank s.text s.position within)
  by (Some c) there h = absurd (gave-refused (sym h))

pub readable : (t : List ℕ) (s : ReaderState) (e : ℕ) → MovesOn (at_start t) s
    → SkipsTo false t (past_blanks t 0) s.position → finish s ≡ gave tt e → IsReadable t
readable t s e moves value is =
    let text : s.text ≡ t = moved-text (at_start t) s moves in
    let within : s.position ≤ length s.text = omega (arith, moves.within, ap length text) in
    record {
      last = s.position;
      value = value;
      after = subst (λ u. IsBlank u s.position (length u)) text (finish-blank s e within is);
    }
