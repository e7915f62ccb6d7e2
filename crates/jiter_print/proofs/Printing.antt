-- What the line holds after one byte or one text more.
use Rattle.std.proofs.Common.{◌≡◌, ℕ, ◌+◌, ◌-◌, ◌<◌, ◌≤◌, true, false, List, [], ◌∷◌, ◌++◌, length, take, drop, zero}
use Rattle.std.proofs.Common.{suc}
use Rattle.std.proofs.Common.{refl, subst, sym, ap, ◌∙◌, arith, append_assoc, take-take, length-take-le, take_at}
use Rattle.std.proofs.Common.{drop_at}
use Rattle.std.specs.Prelude.{Result, Ok, Err, OnErr, slice_get, slice_index, slice_range, slice_set, flat_map, nat_le}
use Rattle.std.proofs.lemmas.Grind.{take-set_at}
use Rattle.std.proofs.lemmas.List.{append-nil, length-take, drop-take, length-append, take_all, take_more, flat_map_more}
use Rattle.std.proofs.lemmas.List.Edits.{between_more, between_none}
use Rattle.std.proofs.lemmas.Bool.Decides.{nat_tests}
use Rattle.std.proofs.lemmas.Option.{slice_get-get_or}
use Rattle.jiter_scan.specs.Scan.{is_plain, scan_stop, Pass}
use Rattle.jiter_scan.proofs.Choices.{if-true, if-false}
use Rattle.jiter_scan.proofs.Chunks.{prefix_len-pass}
use Rattle.jiter_scan.proofs.Runs.{run_end-ahead, run_end-within, run_end-passes, run_end-stops}
use Rattle.jiter_print.specs.Print.{print_byte, print_text, escape_of, needs_escape}

-- the text up to a byte, and that byte
printed-more : (bs : List ℕ) (i : ℕ) → i < length bs
    → flat_map print_byte (take (i + 1) bs) ≡ flat_map print_byte (take i bs) ++ print_byte (slice_index bs i)
printed-more bs i h =
    ap (flat_map print_byte) (take_more bs i 0 h) ∙ sym (flat_map_more print_byte [] (take i bs) (slice_index bs i))

-- a byte that stays as it is lengthens the run
run-more : (bs line before : List ℕ) (begin i : ℕ) → begin ≤ i → i < length bs
    → needs_escape (slice_index bs i) ≡ false
    → line ++ slice_range bs begin i ≡ before ++ flat_map print_byte (take i bs)
    → line ++ slice_range bs begin (i + 1) ≡ before ++ flat_map print_byte (take (i + 1) bs)
run-more bs line before begin i h l plain same =
    let b = slice_index bs i in
    ap (λ w. line ++ w) (between_more bs begin i 0 h l) ∙ sym (append_assoc line (slice_range bs begin i) (b ∷ []))
    ∙ ap (λ w. w ++ (b ∷ [])) same
    ∙ append_assoc before (flat_map print_byte (take i bs)) (b ∷ [])
    ∙ ap (λ w. before ++ (flat_map print_byte (take i bs) ++ w))
    (sym (if-false (needs_escape b) (escape_of b) (b ∷ []) plain))
    ∙ ap (λ w. before ++ w) (sym (printed-more bs i l))

-- a run of bytes that stay as they are
run-plain : (bs line before : List ℕ) (begin n j : ℕ) → begin + n ≡ j → j ≤ length bs
    → ((k : ℕ) → begin ≤ k → k < j → needs_escape (slice_index bs k) ≡ false)
    → line ≡ before ++ flat_map print_byte (take begin bs)
    → line ++ slice_range bs begin j ≡ before ++ flat_map print_byte (take j bs)
run-plain bs line before begin zero j at within plain same =
    let here : begin ≡ j = omega arith in
    subst (λ k. line ++ slice_range bs begin k ≡ before ++ flat_map print_byte (take k bs)) here
    (ap (λ w. line ++ w) (between_none bs begin) ∙ append-nil line ∙ same)
run-plain bs line before begin (suc n) j at within plain same =
    let i = begin + n in
    let next : i + 1 ≡ j = omega arith in
    subst (λ k. line ++ slice_range bs begin k ≡ before ++ flat_map print_byte (take k bs)) next
    (run-more bs line before begin i (omega arith) (omega arith) (plain i (omega arith) (omega arith))
    (run-plain bs line before begin n i refl (omega arith) (λ k low high. plain k low (omega arith)) same))

plain-stays : (b : ℕ) → is_plain b ≡ true → needs_escape b ≡ false
plain-stays b h = grind (arith, nat_tests, h)

stop-escapes : (b : ℕ) → is_plain b ≡ false → needs_escape b ≡ true
stop-escapes b h = grind (arith, nat_tests, h)

-- the run of plain bytes, as long as it is
pub run-stopped : (bs line before : List ℕ) (begin stop : ℕ) → begin ≤ length bs → stop ≡ scan_stop bs begin
    → line ≡ before ++ flat_map print_byte (take begin bs)
    → line ++ slice_range bs begin stop ≡ before ++ flat_map print_byte (take stop bs)
run-stopped bs line before begin stop within is same =
    let ahead = run_end-ahead is_plain bs begin in
    let inside = run_end-within is_plain bs begin within in
    run-plain bs line before begin (stop - begin) stop (omega arith) (omega arith)
    (λ k low high. plain-stays (slice_index bs k) (run_end-passes is_plain bs begin k low (omega arith))) same

-- what ends a run needs an escape
pub stopped-needs : (bs : List ℕ) (begin stop : ℕ) → stop ≡ scan_stop bs begin → stop < length bs
    → needs_escape (slice_index bs stop) ≡ true
stopped-needs bs begin stop is lt =
    stop-escapes (slice_index bs stop) (run_end-stops is_plain bs begin (slice_index bs stop)
    (ap (slice_get bs) (sym is) ∙ slice_get-get_or bs stop 0 lt))

-- a byte that needs an escape ends the run, and the next begins after it
pub run-ended : (bs line before : List ℕ) (i : ℕ) → i < length bs → needs_escape (slice_index bs i) ≡ true
    → line ≡ before ++ flat_map print_byte (take i bs)
    → line ++ escape_of (slice_index bs i) ≡ before ++ flat_map print_byte (take (i + 1) bs)
run-ended bs line before i l needs same =
    let b = slice_index bs i in
    ap (λ w. w ++ escape_of b) same
    ∙ append_assoc before (flat_map print_byte (take i bs)) (escape_of b)
    ∙ ap (λ w. before ++ (flat_map print_byte (take i bs) ++ w))
    (sym (if-true (needs_escape b) (escape_of b) (b ∷ []) needs))
    ∙ ap (λ w. before ++ w) (sym (printed-more bs i l))

-- the text after its quote, and the quote that closes it
pub text-closed : (bs before line : List ℕ) (j : ℕ) → j ≡ length bs → line ≡ before ++ flat_map print_byte (take j bs)
    → line ++ 34 ∷ [] ≡ before ++ (flat_map print_byte bs ++ 34 ∷ [])
text-closed bs before line j is same =
    ap (λ w. w ++ 34 ∷ []) (same ∙ ap (λ w. before ++ flat_map print_byte w) (take_all j bs (omega arith)))
    ∙ append_assoc before (flat_map print_byte bs) (34 ∷ [])

-- a text of plain bytes is printed as it is
plain-prints : (bs : List ℕ) → Pass is_plain bs → flat_map print_byte bs ≡ bs
plain-prints [] h = refl
plain-prints (b ∷ bs) h =
    ap (λ w. w ++ flat_map print_byte bs) (if-false (needs_escape b) (escape_of b) (b ∷ []) (plain-stays b h.0))
    ∙ ap (λ w. b ∷ w) (plain-prints bs h.1)

-- what is after the first bytes of a tape
stands-after : (line before text : List ℕ) (at : ℕ) → length before ≡ at
    → take (at + length text) line ≡ before ++ text
    → take (length text) (drop at line) ≡ text
stands-after line before text at long placed =
    sym (drop-take at (length text) line) ∙ ap (drop at) placed ∙ drop_at before text at long

-- a text after the first bytes of a tape, no stop in it, is printed as it is
pub plain-text : (line before text : List ℕ) (at : ℕ) → length before ≡ at
    → take (at + length text) line ≡ before ++ text → nat_le (at + length text) (scan_stop line at) ≡ true
    → flat_map print_byte text ≡ text
plain-text line before text at long placed plain =
    let reaches : at + length text ≤ scan_stop line at = grind (arith, nat_tests, plain) in
    plain-prints text (subst (Pass is_plain) (stands-after line before text at long placed)
    (prefix_len-pass is_plain (length text) (drop at line) (omega arith)))

-- so it is after an error too
pub if-err : {T E P : Type 0} (r : Result T E) → P → OnErr r P
if-err (Ok x) h = tt
if-err (Err e) h = h

-- The first bytes are the same, if more bytes are and these begin so.
pub kept-through : (old held new text : List ℕ) (count end : ℕ) → count ≤ length old
    → take end held ≡ take count old ++ text → take end new ≡ take end held → take count new ≡ take count old
kept-through old held new text count end within is same =
    let long = length-take-le count old within in
    let reaches : count ≤ end =
    omega (arith, ap length is, length-append (take count old) text, long, length-take end held) in
    sym (take-take count end new reaches) ∙ ap (take count) (same ∙ is) ∙ take_at (take count old) text count long

-- a text laid down after a quote
module _ (old roomy laid text : List ℕ) (at : ℕ) (within : at ≤ length old) (room : at < length roomy)
    (kept : take at roomy ≡ take at old)
    (placed : take (at + 1 + length text) laid ≡ take (at + 1) (slice_set roomy at 34) ++ text) where
  opened : take (at + 1 + length text) laid ≡ (take at old ++ 34 ∷ []) ++ text
  opened = placed
      ∙ ap (λ w. w ++ text) (take-set_at roomy at (at + 1) 34 refl room ∙ ap (λ w. w ++ 34 ∷ []) kept)

  prefix-long : length (take at old ++ 34 ∷ []) ≡ at + 1
  prefix-long = omega (arith, length-append (take at old) (34 ∷ []), length-take-le at old within)

  -- what follows the quote, where the text does not stay
  pub text-after : (printed : List ℕ) → take (at + 1) laid ++ printed ≡ take at old ++ 34 ∷ printed
  text-after printed =
      ap (λ w. w ++ printed)
      (sym (take-take (at + 1) (at + 1 + length text) laid (omega arith)) ∙ ap (take (at + 1)) opened
      ∙ take_at (take at old ++ 34 ∷ []) text (at + 1) prefix-long)
      ∙ append_assoc (take at old) (34 ∷ []) printed

  -- the text and a quote after it, where it is plain
  pub text-whole : at + 1 + length text < length laid
      → nat_le (at + 1 + length text) (scan_stop laid (at + 1)) ≡ true
      → take (at + 1 + length text + 1) (slice_set laid (at + 1 + length text) 34) ≡ take at old ++ print_text text
  text-whole more plain =
      let end = at + 1 + length text in
      let same = plain-text laid (take at old ++ 34 ∷ []) text (at + 1) prefix-long opened plain in
      take-set_at laid end (end + 1) 34 refl more ∙ ap (λ w. w ++ 34 ∷ []) opened
      ∙ ap (λ w. ((take at old ++ 34 ∷ []) ++ w) ++ 34 ∷ []) (sym same)
      ∙ append_assoc (take at old ++ 34 ∷ []) (flat_map print_byte text) (34 ∷ [])
      ∙ append_assoc (take at old) (34 ∷ []) (flat_map print_byte text ++ 34 ∷ [])
