-- A string in chunks: what its next bytes make of it, and what ends it.
use Rattle.jiter_steps.proofs.Words.{◌≡◌, ℕ, zero, suc, ◌+◌, ◌-◌, ◌<◌, ◌≤◌, ◌||◌, Bool, true, false, List, [], ◌∷◌}
use Rattle.jiter_steps.proofs.Words.{◌++◌, length, take, drop, refl, sym, ap, ap₂, ◌∙◌, subst, arith, append-nil}
use Rattle.jiter_steps.proofs.Words.{append_assoc, length-append, take-take, slice_get, slice_range, Option, Some}
use Rattle.jiter_steps.proofs.Words.{None, IfOk, IfSome, Result, Ok, Err, is_some, encode_utf8, IsAscii, IsUtf8}
use Rattle.jiter_steps.proofs.Words.{and_parts, false≢true, lt-ltb, ltb-true, ne_eqb, nat_tests, slice_get_within}
use Rattle.jiter_steps.proofs.Words.{fault_kind, control_character, eof_string, is_plain, scan_stop, failed, taken}
use Rattle.jiter_steps.proofs.Words.{Stands, prefix_len-pass, stands-length, stands-append, stands-slice, stands-split}
use Rattle.jiter_steps.proofs.Words.{slice-one, slice-stands, IsSpelled, HasTaken, IsTextWithin, HoldsBytes, HoldsText}
use Rattle.jiter_steps.proofs.Words.{SoFar, Body, Form, Stop, before, body_at, checked, content_at, cut, is_cut, kept}
use Rattle.jiter_steps.proofs.Words.{over, part, event_at, text_form, text_in_form, unclosed, whole, wrong, FaultKind}
use Rattle.jiter_steps.proofs.Words.{length-take, length-drop, IsAscii-cons, IsAscii-nil, Pass, is_plain_ascii}
use Rattle.jiter_steps.proofs.Words.{GoesOnWith, HasTakenFrom, IsEven, grown, held_bytes, with_text, PartialString}
use Rattle.jiter_steps.specs.StringReading.{closed}
use Rattle.jiter_steps.specs.declared.partial_escape.EscapeStep.TheVariants as spelled
use Rattle.jiter_steps.specs.declared.partial_string.StringStep.TheVariants as went
use Rattle.jiter_steps.proofs.Cut.DocumentPrefixes.{prefix-length, prefix-range}
use Rattle.jiter_steps.proofs.Grammar.StringComplete.{ArePrinted, IsPrinted, bytes-read, event_by-escape}
use Rattle.jiter_steps.proofs.Grammar.StringComplete.{event_by-quote}
use Rattle.jiter_steps.proofs.Grammar.Places.{Explains, event_at-explains}
use Rattle.jiter_steps.proofs.Chunks.OpenEscapes.{spelled-cut}
use Rattle.jiter_steps.proofs.Calls.StringAnswers.{string-checked, string_closed}
use Rattle.jiter_steps.proofs.Chunks.OpenTexts.{absorbed-whole}
use Rattle.jiter_steps.proofs.Reading.Bodies.{before-before, body_at-event_by, event_by-end}

-- the first bytes of some that pass
pub pass-take : (test : ℕ → Bool) (n : ℕ) (w : List ℕ) → Pass test w → Pass test (take n w)
pass-take test zero w h = tt
pass-take test (suc n) [] h = tt
pass-take test (suc n) (c ∷ w) h = (h.0, pass-take test n w h.1)

-- a plain byte
plain-one : (b : ℕ) → is_plain b ≡ true → IsPrinted b
plain-one b e =
    record {
      printed = grind (arith, nat_tests, e);
      no_quote = grind (arith, nat_tests, e);
      no_backslash = grind (arith, nat_tests, e);
    }

-- plain bytes
plain-all : (w : List ℕ) → Pass is_plain w → ArePrinted w
plain-all [] h = tt
plain-all (b ∷ w) h = (plain-one b h.0, plain-all w h.1)

-- The first n bytes of a run that is a range of a chunk are those of the chunk.
pub run-range : (chunk run : List ℕ) (at n : ℕ) → run ≡ slice_range chunk at (at + length run) → n ≤ length run
    → take n run ≡ slice_range chunk at (at + n)
run-range chunk run at n is few =
    let long : n ≤ at + length run - at = omega arith in
    let count : n ≡ at + n - at = omega arith in
    ap (take n) is ∙ take-take n (at + length run - at) (drop at chunk) long ∙ ap (λ k. take k (drop at chunk)) count

-- the same of all bytes after a place
pub rest-range : (chunk : List ℕ) (at n : ℕ) → n ≤ length chunk - at
    → take n (slice_range chunk at (length chunk)) ≡ slice_range chunk at (at + n)
rest-range chunk at n few =
    let count : n ≡ at + n - at = omega arith in
    take-take n (length chunk - at) (drop at chunk) few ∙ ap (λ k. take k (drop at chunk)) count

-- The bytes before the first one that stops are plain.
pub run-plain : (chunk : List ℕ) (at to : ℕ) → to ≡ scan_stop chunk at → Pass is_plain (slice_range chunk at to)
run-plain chunk at to stop = prefix_len-pass is_plain (to - at) (drop at chunk) (omega (arith, stop))

-- no escape is open at the beginning
pub nothing-taken : (text : SoFar) → HoldsText text [] → HasTaken (record { text = text; escape = None }) []
nothing-taken text h = record {
  prefix = [];
  decoded = [];
  escaped = false;
  is = refl;
  unfinished = tt;
  holds = h;
  goes = λ t i s. let here : i ≡ i + 0 = omega arith in ap (body_at t) here;
}

-- where a body stops at once, the string does
module _ (t : List ℕ) (i m : ℕ) (bytes : List ℕ) (escaped : Bool)
    (body : body_at t i ≡ before bytes escaped (body_at t m)) where
  pub stops-so : (x : Stop) → event_at t m ≡ over x → (form : Form)
      → content_at form t i ≡ text_in_form form t i (bytes ++ []) (escaped || is_cut x) x
  unfolding content_at
  stops-so x e form =
      ap (λ (b : Body). text_in_form form t i b.bytes b.owned b.stop)
      (body ∙ ap (before bytes escaped) (body_at-event_by t m (over x) e))

-- no mark is added
or-none : (b : Bool) → (b || false) ≡ b
or-none true = refl
or-none false = refl

-- a control character
control-stops : (t : List ℕ) (j b : ℕ) → slice_get t j ≡ Some b → b < 32
    → event_at t j ≡ over (wrong control_character j)
unfolding event_at
control-stops t j b e low =
    rw (e, ne_eqb b 34 (λ q. omega arith), ne_eqb b 92 (λ q. omega arith), lt-ltb b 32 low)

-- an escape has begun with its backslash
backslash-cut : event_at (92 ∷ []) 0 ≡ over cut
unfolding event_at
backslash-cut = refl

-- the byte at a place of a chunk is this range
pub one-byte : (chunk : List ℕ) (at b : ℕ) → slice_get chunk at ≡ Some b → slice_range chunk at (at + 1) ≡ b ∷ []
one-byte chunk at b e = slice-one chunk at b e

module _ (old : PartialString) (w : List ℕ) (h : HasTaken old w) where
  -- the bytes that were taken are before those after them,
  module _ (v t : List ℕ) (i : ℕ) (stands : Stands t i (i + length (w ++ v)) (w ++ v)) where
    first-stand : Stands t i (i + length w) w
    first-stand =
        let r = stands-split t i (i + length (w ++ v)) w v stands in
        subst (λ j. Stands t i j w) (stands-length t i r.0 w r.1) r.1

    -- and these there
    rest-stand : Stands t (i + length w) (i + length (w ++ v)) v
    rest-stand =
        let r = stands-split t i (i + length (w ++ v)) w v stands in
        subst (λ j. Stands t j (i + length (w ++ v)) v) (stands-length t i r.0 w r.1) r.2

    so_far : body_at t i ≡ before h.decoded h.escaped (body_at t (i + length h.prefix))
    so_far = h.goes t i first-stand

    -- or those from an escape on
    escape-stands : (u : List ℕ) → w ++ v ≡ h.prefix ++ u
        → Stands t (i + length h.prefix) (i + length h.prefix + length u) u
    escape-stands u is =
        let r =
        stands-split t i _ h.prefix u (subst (λ x. Stands t i (i + length (w ++ v)) x) is stands) in
        let there = subst (λ j. Stands t j (i + length (w ++ v)) u) (stands-length t i r.0 h.prefix r.1) r.2 in
        subst (λ j. Stands t (i + length h.prefix) j u)
        (stands-length t (i + length h.prefix) (i + length (w ++ v)) u there) there

  -- where no escape is open, all are decoded
  all-prefix : old.escape ≡ None → w ≡ h.prefix
  all-prefix none = h.is ∙ ap (λ e. h.prefix ++ held_bytes e) none ∙ append-nil h.prefix

  -- where one is, it is after those that are
  pub held-prefix : (e : List ℕ) → old.escape ≡ Some e → w ≡ h.prefix ++ e
  held-prefix e partial_escape = h.is ∙ ap (λ o. h.prefix ++ held_bytes o) partial_escape

  -- with what is after
  held-more : (e v : List ℕ) → old.escape ≡ Some e → w ++ v ≡ h.prefix ++ (e ++ v)
  held-more e v partial_escape = ap (λ x. x ++ v) (held-prefix e partial_escape) ∙ append_assoc h.prefix e v

  -- Bytes that are read as these are taken, where no escape is left open.
  part-taken : (v bytes : List ℕ) (o : Bool) (text : SoFar) (left : Option (List ℕ)) → left ≡ None
      → HoldsText text (h.decoded ++ bytes)
      → ((t : List ℕ) (i : ℕ) → Stands t i (i + length (w ++ v)) (w ++ v)
      → body_at t (i + length h.prefix) ≡ before bytes o (body_at t (i + length (w ++ v))))
      → HasTaken (record { text = text; escape = left }) (w ++ v)
  part-taken v bytes o text left none holds reads = record {
    prefix = w ++ v;
    decoded = h.decoded ++ bytes;
    escaped = h.escaped || o;
    is = sym (ap (λ x. (w ++ v) ++ held_bytes x) none ∙ append-nil (w ++ v));
    unfinished = subst (λ x. IfSome x (λ e. event_at e 0 ≡ over cut)) (sym none) tt;
    holds = holds;
    goes = λ t i s.
        so_far v t i s ∙ ap (before h.decoded h.escaped) (reads t i s)
        ∙ before-before h.decoded bytes h.escaped o (body_at t (i + length (w ++ v)));
  }

  -- An escape begins.
  pub escape-cut : (v e : List ℕ) → old.escape ≡ None → v ≡ e → event_at e 0 ≡ over cut
      → HasTaken (record { text = old.text; escape = Some e }) (w ++ v)
  escape-cut v e none same is_cut = record {
    prefix = h.prefix;
    decoded = h.decoded;
    escaped = h.escaped;
    is = ap (λ x. x ++ v) (all-prefix none) ∙ ap (λ x. h.prefix ++ x) same;
    unfinished = is_cut;
    holds = h.holds;
    goes = λ t i s. so_far v t i s;
  }

  -- with its backslash alone.
  pub escape-begins : (v e : List ℕ) → old.escape ≡ None → v ≡ 92 ∷ [] → e ≡ 92 ∷ []
      → HasTaken (record { text = old.text; escape = Some e }) (w ++ v)
  escape-begins v e none first begun =
      escape-cut v e none (first ∙ sym begun) (ap (λ x. event_at x 0) begun ∙ backslash-cut)

  -- It goes on with some bytes,
  module _ (e v : List ℕ) (partial_escape : old.escape ≡ Some e) where
    abbrev u : List ℕ
    u = e ++ v

    longer : w ++ v ≡ h.prefix ++ u
    longer = held-more e v partial_escape

    pub escape-goes : (new : List ℕ) → new ≡ u → event_at u 0 ≡ over cut
        → HasTaken (record { text = old.text; escape = Some new }) (w ++ v)
    escape-goes new is more = record {
      prefix = h.prefix;
      decoded = h.decoded;
      escaped = h.escaped;
      is = longer ∙ ap (λ x. h.prefix ++ x) (sym is);
      unfinished = ap (λ x. event_at x 0) is ∙ more;
      holds = h.holds;
      goes = λ t i s. so_far v t i s;
    }

    -- and ends with some,
    pub escape-ends : (text : SoFar) (c : ℕ) → IsSpelled u (spelled.Whole c)
        → HoldsText text (h.decoded ++ encode_utf8 c) → HasTaken (record { text = text; escape = None }) (w ++ v)
    escape-ends text c spelled_so holds =
        part-taken v (encode_utf8 c) true text None refl holds
        (λ t i s.
        let m = i + length h.prefix in
        let end : m + length u ≡ i + length (w ++ v) = omega (arith, ap length longer, length-append h.prefix u) in
        body_at-event_by t m (part (encode_utf8 c) true (m + length u))
        (spelled_so t m (escape-stands v t i s u longer))
        ∙ ap (λ j. before (encode_utf8 c) true (body_at t j)) end)

  -- or a byte of it is wrong.
  module _ (e : List ℕ) (b : ℕ) (partial_escape : old.escape ≡ Some e) where
    pub escape-fails : (k : FaultKind) (n : ℕ) → IsSpelled (e ++ b ∷ []) (spelled.Wrong k n) → n ≤ length e
        → (chunk : List ℕ) (at back : ℕ) → slice_get chunk at ≡ Some b → back ≡ length e - n
        → (new : PartialString) → GoesOnWith new w chunk at (went.Wrong k back)
    escape-fails k n bad few chunk at back here far new = (
      omega (arith, ap length (held-prefix e partial_escape), length-append h.prefix e),
      λ t i s there form.
          let m = i + length h.prefix in
          let long : i + length w ≡ m + length e =
          omega (arith, ap length (held-prefix e partial_escape), length-append h.prefix e) in
          let one : Stands t (i + length w) (i + length w + 1) (b ∷ []) = (there ∙ here, refl) in
          let end : i + length w + 1 ≡ i + length (w ++ b ∷ []) = omega (arith, length-append w (b ∷ [])) in
          let all : Stands t i (i + length (w ++ b ∷ [])) (w ++ b ∷ []) =
          rw (← end) (stands-append t i (i + length w) (i + length w + 1) w (b ∷ []) s one) in
          let place : m + n ≡ i + length w - back = omega arith in
          stops-so t i m h.decoded h.escaped (h.goes t i s) (wrong (fault_kind k) (m + n))
          (bad t m (escape-stands (b ∷ []) t i all (e ++ b ∷ []) (held-more e (b ∷ []) partial_escape))) form
          ∙ ap (failed (fault_kind k)) place,
    )

  -- Closed, the string is what was decoded, as far as it is a text,
  pub closed-text : old.escape ≡ None → (partial : Bool) (t : List ℕ) (i : ℕ) → Stands t i (i + length w) w
      → slice_get t (i + length w) ≡ Some 34
      → content_at (text_form partial) t i ≡ checked partial i h.escaped h.decoded (i + length w + 1)
  closed-text none partial t i s quote =
      let m = i + length h.prefix in
      let same : m ≡ i + length w = omega (arith, ap length (all-prefix none)) in
      let byte : slice_get t m ≡ Some 34 = ap (slice_get t) same ∙ quote in
      stops-so t i m h.decoded h.escaped (h.goes t i s) (closed (m + 1)) (event_by-quote t m byte) (text_form partial)
      ∙ string_closed partial t i (h.decoded ++ []) (h.escaped || false) (m + 1)
      ∙ ap₂ (λ d o. checked partial i o d (m + 1)) (append-nil h.decoded) (or-none h.escaped)
      ∙ ap (λ x. checked partial i h.escaped h.decoded (x + 1)) same

  -- and where the input ends after it,
  module _ (t : List ℕ) (i : ℕ) (s : Stands t i (i + length w) w) (end : length t ≡ i + length w) where
    abbrev from : ℕ
    from = i + length h.prefix

    -- what was decoded is kept, or the end is reported
    abbrev IsEnded : Option (List ℕ) → Type 0
    IsEnded o =
        (content_at kept t i ≡ checked true i (h.escaped || is_some o) h.decoded (i + length w))
        × (content_at whole t i ≡ failed eof_string (i + length w))

    ended-at : (x : Stop) → event_at t from ≡ over x → (form : Form)
        → content_at form t i ≡ text_in_form form t i h.decoded (h.escaped || is_cut x) x
    ended-at x e form =
        stops-so t i from h.decoded h.escaped (h.goes t i s) x e form
        ∙ ap (λ d. text_in_form form t i d (h.escaped || is_cut x) x) (append-nil h.decoded)

    ended-by : (o : Option (List ℕ)) → old.escape ≡ o → IfSome o (λ e. event_at e 0 ≡ over cut) → IsEnded o
    ended-by None none u =
        let stop = event_by-end t from (omega (arith, ap length (all-prefix none))) in (
          ended-at unclosed stop kept ∙ ap (checked true i (h.escaped || false) h.decoded) end,
          ended-at unclosed stop whole ∙ ap (failed eof_string) end,
        )
    ended-by (Some e) partial_escape u =
        let all : i + length w ≡ from + length e =
        omega (arith, ap length (held-prefix e partial_escape), length-append h.prefix e) in
        let split =
        stands-split t i _ h.prefix e (subst (λ x. Stands t i (i + length w) x) (held-prefix e partial_escape) s) in
        let there : Stands t from (i + length w) e =
        subst (λ j. Stands t j (i + length w) e) (stands-length t i split.0 h.prefix split.1) split.2 in
        let stop = spelled-cut e t from (subst (λ j. Stands t from j e) all there) (end ∙ all) u in (
          ended-at cut stop kept ∙ ap (checked true i (h.escaped || true) h.decoded) end,
          ended-at cut stop whole ∙ ap (failed eof_string) end,
        )

    pub ended : IsEnded old.escape
    ended = ended-by old.escape refl h.unfinished

  -- Where no escape is open a control character is wrong,
  pub control-fails : (new : PartialString) (chunk : List ℕ) (at b : ℕ) (k : FaultKind) → old.escape ≡ None
      → slice_get chunk at ≡ Some b → b < 32 → fault_kind k ≡ control_character
      → GoesOnWith new w chunk at (went.Wrong k 0)
  control-fails new chunk at b k none here low kind = (
    omega arith,
    λ t i s there form.
        let m = i + length h.prefix in
        let same : m ≡ i + length w = omega (arith, ap length (all-prefix none)) in
        let place : m ≡ i + length w - 0 = omega arith in
        stops-so t i m h.decoded h.escaped (h.goes t i s) (wrong control_character m)
        (control-stops t m b (ap (slice_get t) same ∙ there ∙ here) low) form
        ∙ ap (λ x. failed x m) (sym kind) ∙ ap (failed (fault_kind k)) place,
  )

  -- a complete escape is its character,
  pub escape-whole : (chunk : List ℕ) (at end c n : ℕ) (text : SoFar) (o : Option (List ℕ)) → o ≡ None
      → old.escape ≡ None → part (encode_utf8 c) true end ≡ event_at chunk at → n ≡ end - at
      → HoldsText text (h.decoded ++ encode_utf8 c)
      → HasTaken (record { text = text; escape = o }) (w ++ slice_range chunk at (at + n))
  escape-whole chunk at end c n text o closed_escape none found size holds =
      let e = subst (Explains chunk at) (sym found) (event_at-explains chunk at) in
      let v = slice_range chunk at (at + n) in
      let until : end ≡ at + n = omega (arith, e.ahead) in
      let bytes : v ≡ e.bytes =
      ap (slice_range chunk at) (sym until) ∙ sym (slice-stands chunk at end e.bytes e.stands) in
      part-taken v (encode_utf8 c) true text o closed_escape holds
      (λ t i s.
      let j = i + length (w ++ v) in
      let same : i + length h.prefix ≡ i + length w = omega (arith, ap length (all-prefix none)) in
      let there = event_by-escape t (i + length w) j e.character e.bytes e.escape
      (subst (Stands t (i + length w) j) bytes (rest-stand v t i s)) in
      ap (body_at t) same
      ∙ body_at-event_by t (i + length w) (part (encode_utf8 c) true j) (there ∙ ap (λ x. part x true j) (sym e.is)))

  -- and plain bytes stand for themselves.
  pub plain-goes : (v : List ℕ) (text : SoFar) (o : Option (List ℕ)) → o ≡ None → old.escape ≡ None → Pass is_plain v
      → HoldsText text (h.decoded ++ v) → HasTaken (record { text = text; escape = o }) (w ++ v)
  plain-goes v text o closed_escape none pass holds =
      part-taken v v false text o closed_escape holds
      (λ t i s.
      let same : i + length h.prefix ≡ i + length w = omega (arith, ap length (all-prefix none)) in
      ap (body_at t) same
      ∙ bytes-read t (i + length w) (i + length (w ++ v)) v (plain-all v pass) (rest-stand v t i s))

-- plain bytes below 80 hex
pub plain-of : (v : List ℕ) → Pass is_plain_ascii v → Pass is_plain v
plain-of [] h = tt
plain-of (c ∷ v) h = ((and_parts _ _ h.0).0, plain-of v h.1)

pub ascii-of : (v : List ℕ) → Pass is_plain_ascii v → IsAscii v
ascii-of [] h = IsAscii-nil
ascii-of (c ∷ v) h = IsAscii-cons c v (ltb-true c 128 (and_parts _ _ h.0).1) (ascii-of v h.1)

-- Plain bytes after complete characters are taken.
pub grown-taken : (s : PartialString) (w v : List ℕ) → IsEven s → Pass is_plain v → HasTaken s w → HasTaken (grown s v) (w ++ v)
grown-taken s w v even pass h =
    let new = grown s v in
    let held : HoldsBytes false s.text.text s.text.rest h.decoded =
    subst (λ b. HoldsBytes b s.text.text s.text.rest h.decoded) even.1.0 h.holds in
    let all : h.decoded ++ v ≡ s.text.text ++ v =
    ap (λ d. d ++ v) (held.0 ∙ ap (λ r. s.text.text ++ r) even.1.1 ∙ append-nil s.text.text) in
    plain-goes s w h v new.text s.escape even.0 even.0 pass
    (subst (λ b. HoldsBytes b new.text.text s.text.rest (h.decoded ++ v)) (sym even.1.0)
    (absorbed-whole s.text.text new.text.text v (h.decoded ++ v) all s.text.rest refl even.1.1))

-- or the first of a run of plain bytes.
pub run-goes : (s : PartialString) (w : List ℕ) (h : HasTaken s w) (chunk run : List ℕ) (at n : ℕ) (new : SoFar)
    → s.escape ≡ None → Pass is_plain run → run ≡ slice_range chunk at (at + length run) → n ≤ length run
    → HoldsText new (h.decoded ++ take n run) → HasTakenFrom (record { text = new; escape = s.escape }) w chunk at n
run-goes s w h chunk run at n new none pass is within holds =
    subst (λ v. HasTaken (record { text = new; escape = s.escape }) (w ++ v)) (run-range chunk run at n is within)
    (plain-goes s w h (take n run) new s.escape none none (pass-take is_plain n run pass) holds)

-- The same of a run of which some bytes are taken, where no allocation failed.
pub run-goes-if : {E : Type 0} → (s : PartialString) (w : List ℕ) (h : HasTaken s w) (chunk run : List ℕ) (at : ℕ) (new : SoFar)
    → s.escape ≡ None → Pass is_plain run → run ≡ slice_range chunk at (at + length run) → (r : Result ℕ E)
    → IfOk r (λ n. HoldsText new (h.decoded ++ take n run)) → IfOk r (λ n. n ≤ length run)
    → IfOk r (HasTakenFrom (record { text = new; escape = s.escape }) w chunk at)
run-goes-if s w h chunk run at new none pass is (Ok n) holds within =
    run-goes s w h chunk run at n new none pass is within holds
run-goes-if s w h chunk run at new none pass is (Err e) holds within = tt

-- how long a range of a chunk is
pub range-length : (chunk : List ℕ) (at to : ℕ) → at ≤ to → to ≤ length chunk → length (slice_range chunk at to) ≡ to - at
range-length chunk at to ahead within =
    omega (arith, length-take (to - at) (drop at chunk), length-drop at chunk)

-- so it is known by its length
pub run-whole : (chunk : List ℕ) (at to : ℕ) → at ≤ to → to ≤ length chunk
    → slice_range chunk at to ≡ slice_range chunk at (at + length (slice_range chunk at to))
run-whole chunk at to ahead within =
    let same : to ≡ at + length (slice_range chunk at to) = omega (arith, range-length chunk at to ahead within) in
    ap (slice_range chunk at) same

-- Plain bytes of a chunk after complete characters are taken.
pub grown-range : (s : PartialString) (w : List ℕ) (h : HasTaken s w) (chunk : List ℕ) (at to : ℕ) → IsEven s → at ≤ to
    → Pass is_plain (slice_range chunk at to) → (new : SoFar)
    → new ≡ with_text s.text (s.text.text ++ slice_range chunk at to) → (n : ℕ) → n ≡ to - at
    → HasTakenFrom (record { text = new; escape = s.escape }) w chunk at n
grown-range s w h chunk at to even ahead pass new is n size =
    let same : to ≡ at + n = omega arith in
    rw is (rw (← same) (grown-taken s w (slice_range chunk at to) even pass h))

-- A range within the prefix of a chunk is one of the chunk.
pub near-range : (chunk : List ℕ) (at end stop : ℕ) → end ≤ length chunk → at ≤ stop → stop ≤ length (take end chunk)
    → slice_range (take end chunk) at stop
    ≡ slice_range chunk at (at + length (slice_range (take end chunk) at stop))
near-range chunk at end stop within ahead inside =
    let prefix = prefix-length chunk end within in
    let size : length (slice_range (take end chunk) at stop) ≡ stop - at =
    omega (arith, length-take (stop - at) (drop at (take end chunk)), length-drop at (take end chunk)) in
    let same : stop ≡ at + length (slice_range (take end chunk) at stop) = omega arith in
    prefix-range chunk end within at stop ahead (omega arith) ∙ ap (slice_range chunk at) same

-- what is found of an escape is after its backslash, and within the chunk
pub escape-ahead : (chunk : List ℕ) (at end c : ℕ) → part (encode_utf8 c) true end ≡ event_at chunk at
    → (at < end) × (end ≤ length chunk)
escape-ahead chunk at end c found =
    let e = subst (Explains chunk at) (sym found) (event_at-explains chunk at) in (e.ahead, e.within)

-- no escape is open where it was asked for
pub none_open : (o : Option (List ℕ)) (b : Bool) → b ≡ is_some o → b ≡ false → o ≡ None
none_open None b is answer = refl
none_open (Some e) b is answer = absurd (false≢true (sym answer ∙ is))

-- A string of plain bytes, wherever it is with its quotes.
module _ (v t : List ℕ) (i j : ℕ) (pass : Pass is_plain v) (utf8 : IsUtf8 v)
    (stands : Stands t i j (34 ∷ v ++ 34 ∷ [])) where
  abbrev inner : (k : ℕ) × Stands t (i + 1) k v × Stands t k j (34 ∷ [])
  inner = stands-split t (i + 1) j v (34 ∷ []) stands.1

  -- and so it is read
  pub plain-string : (partial : Bool)
      → content_at (text_form partial) t (i + 1) ≡ taken (record { owned = false; bytes = v }) j
  plain-string partial =
      let k = inner.0 in
      let end = inner.2 in
      stops-so t (i + 1) k v false (bytes-read t (i + 1) k v (plain-all v pass) inner.1) _ (event_by-quote t k end.0) _
      ∙ ap (λ b. text_in_form (text_form partial) t (i + 1) b false (closed (k + 1))) (append-nil v)
      ∙ string_closed partial t (i + 1) v false (k + 1)
      ∙ string-checked (i + 1) (k + 1) false v partial utf8
      ∙ ap (taken (record { owned = false; bytes = v })) end.1

-- What is between a quote in a chunk and the next byte that stops, which is a quote, is the string's text.
module _ (chunk : List ℕ) (at to : ℕ) (stop : to ≡ scan_stop chunk (at + 1))
    (first : slice_get chunk at ≡ Some 34) (last : slice_get chunk to ≡ Some 34) where
  abbrev inside : List ℕ
  inside = slice_range chunk (at + 1) to

  abbrev quoted : List ℕ
  quoted = slice_range chunk at (to + 1)

  inside-plain : Pass is_plain inside
  inside-plain = run-plain chunk (at + 1) to stop

  quoted-is : quoted ≡ 34 ∷ inside ++ 34 ∷ []
  quoted-is =
      let within : to ≤ length chunk = omega (arith, slice_get_within chunk to 34 last) in
      let between_stands = stands-slice chunk (at + 1) to (omega (arith, stop)) within in
      let after = stands-append chunk (at + 1) to (to + 1) inside (34 ∷ []) between_stands (last, refl) in
      sym (slice-stands chunk at (to + 1) (34 ∷ inside ++ 34 ∷ []) (first, after))

  pub text-within : (text : List ℕ) → text ≡ inside → IsUtf8 text → IsTextWithin chunk at text (to + 1)
  text-within text is utf8 = record {
    owned = false;
    first = first;
    within = (omega (arith, stop), omega (arith, slice_get_within chunk to 34 last));
    quoted = λ t i s. (here t i s).0;
    reads = λ partial t i s.
        plain-string inside t i (i + length quoted) inside-plain (subst IsUtf8 is utf8) (here t i s) partial
        ∙ ap (λ b. taken (record { owned = false; bytes = b }) (i + length quoted)) (sym is);
  } where
    here : (t : List ℕ) (i : ℕ) → Stands t i (i + length quoted) quoted
        → Stands t i (i + length quoted) (34 ∷ inside ++ 34 ∷ [])
    here t i s = subst (Stands t i (i + length quoted)) quoted-is s
