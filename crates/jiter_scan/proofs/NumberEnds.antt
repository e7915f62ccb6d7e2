-- Numbers that end within a chunk.
use Rattle.jiter_scan.proofs.Words.{◌≡◌, ◌+◌, ◌-◌, ◌∙◌, ◌<◌, ℕ, Bool, true, false, List, inl, inr, slice_get-get_or}
use Rattle.jiter_scan.proofs.Words.{slice_range, IsNumberText, Number, number_at, taken, EndsNumber, EndsWithin}
use Rattle.jiter_scan.proofs.NumberComplete.{number_span-complete}
use Rattle.jiter_scan.proofs.NumberSound.{number_at-sound}

no_names : false ≡ true → ⊥
no_names h = cc

-- a number that is no name is one whether names are allowed or not
any_names : (names : Bool) (w : List ℕ) → IsNumberText false w → IsNumberText names w
any_names names w (inl d) = inl d
any_names names w (inr x) = absurd (no_names x.0)

-- a number that is read in a chunk, and a byte after it with which none goes on
pub ends-within : (chunk : List ℕ) (at : ℕ) (n : Number) (e : ℕ) → number_at false chunk at ≡ taken n e → at < e
    → EndsNumber chunk e → EndsWithin chunk at n e
ends-within chunk at n e read ahead ends =
    let is = number_at-sound false chunk at n e read in
    let here = slice_get-get_or chunk e 0 ends.within in
    record {
      begins = ahead;
      within = ends.within;
      value = is.1;
      reads = λ names t b stands same.
          number_span-complete t names b (b + (e - at)) (slice_range chunk at e) stands
          (any_names names (slice_range chunk at e) is.0) (rw (same ∙ here) ends.stops);
    }
