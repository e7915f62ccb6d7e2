-- The skip law of the pull reader: a skip replies what reading the value replies, except the value and UTF-8.
use Rattle.jiter.proofs.Words.{ℕ, ap, subst, Result, Option, Some, None, slice_get, slice_index, read_at, skip_at}
use Rattle.jiter.proofs.Words.{start_of, Reading, done, fault, Tree, Start, EndsAlike, skip_at-law, json_error}
use Rattle.jiter.proofs.Words.{ReaderState, Reply, value_place, if_byte, next, known, value_reply, value_read}
use Rattle.jiter.proofs.Words.{skip_read, Replies, Reads, never, JiterError}
use Rattle.jiter.specs.Skipping.{SkipsAsRead}

module _ (P : Reply (Unit {0}) → Type 0) where
  reply-skipped : (x : Reading Tree) (y : Reading (Unit {0})) → EndsAlike x y → P (value_reply y)
      → SkipsAsRead P (value_reply x)
  reply-skipped (done v e) y h p = subst (λ z. P (value_reply z)) h.1 p
  reply-skipped (fault k i stop) y h p = λ other. subst (λ z. P (value_reply z)) (h (λ e. other (ap json_error e))) p

  module _ (s : ReaderState) where
    -- what begins at i
    read-skipped : (i : ℕ) (b : Start) → P (skip_read s i b) → SkipsAsRead P (value_read s i b)
    read-skipped i b p =
        reply-skipped (read_at s.names s.text i) (skip_at s.names s.text i) (skip_at-law s.names s.text i) p

    -- What the call next_skip replies, by what next_value replies from the same state.
    pub next-skipped : P (next s (skip_read s)) → SkipsAsRead P (next s (value_read s))
    next-skipped = by (slice_get s.text (value_place s)) where
      by : (o : Option ℕ) → P (if_byte (value_place s) o (λ c. skip_read s (value_place s) (start_of c)))
          → SkipsAsRead P (if_byte (value_place s) o (λ c. value_read s (value_place s) (start_of c)))
      by None p = λ other. p
      by (Some c) p = read-skipped (value_place s) (start_of c) p

    -- The same of the calls known_skip and known_value.
    pub known-skipped : P (known s (skip_read s)) → SkipsAsRead P (known s (value_read s))
    known-skipped p = read-skipped s.position (start_of (slice_index s.text s.position)) p

-- by what the calls promise
pub next-read-skipped : {x : Result (Unit {0}) JiterError} {s0 s : ReaderState}
    → Reads never (λ u. u) (next s0 (skip_read s0)) x s0 s → SkipsAsRead (Replies (λ u. u) x s) (next s0 (value_read s0))
next-read-skipped {x = x} {s0 = s0} {s = s} h = next-skipped (Replies (λ u. u) x s) s0 h.value

pub known-read-skipped : {x : Result (Unit {0}) JiterError} {s0 s : ReaderState}
    → Reads never (λ u. u) (known s0 (skip_read s0)) x s0 s → SkipsAsRead (Replies (λ u. u) x s) (known s0 (value_read s0))
known-read-skipped {x = x} {s0 = s0} {s = s} h = known-skipped (Replies (λ u. u) x s) s0 h.value
