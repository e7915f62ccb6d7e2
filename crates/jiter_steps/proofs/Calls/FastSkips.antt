-- The fast path of skipping, as what its open containers complete the reading to.
use Rattle.jiter_steps.proofs.Words.{◌≡◌, ℕ, ◌+◌, ◌-◌, ◌<◌, ◌≤◌, Bool, true, false, List, ◌∷◌, length, refl, sym, ap}
use Rattle.jiter_steps.proofs.Words.{subst, ◌∙◌, arith, slice_get, slice_index, slice_index_or, slice_set, IfSome}
use Rattle.jiter_steps.proofs.Words.{Option, Some, None, Ok, number_span, span_then, is_plain, scan_stop, taken}
use Rattle.jiter_steps.proofs.Words.{only_ends, seen_as, is_blank, past_blanks, Frame, resume, value_from, start_of}
use Rattle.jiter_steps.proofs.Words.{Reading, done, follow, inside_at, scalar_at, value_with, value_inside}
use Rattle.jiter_steps.proofs.Words.{first_inside, next_inside, frame_of, open_frames, Continues, inside, opening, more}
use Rattle.jiter_steps.proofs.Words.{closed, step, begins_part, closer_of, container_first, container_step}
use Rattle.jiter_steps.proofs.Words.{container_comma, colon, value_first, object_colon, raw, string_at, ContainerKind}
use Rattle.jiter_steps.proofs.Words.{run_end-stopping, run_end-stops, IsPlainEnd, LeadsAfter}
use Rattle.jiter_steps.specs.declared.parse.ContainerKind.TheVariants as shape
use Rattle.jiter_steps.specs.declared.parse.Start.TheVariants as start
use Rattle.jiter_steps.proofs.Calls.RawStrings.{raw-closed, raw-over_run}
use Rattle.jiter_steps.proofs.Calls.Resumed.{value_in-levels}
use Rattle.jiter_steps.proofs.Calls.Skipping.{led_on, next_inside-is, first_inside-is, open_frames-opens}
use Rattle.jiter_steps.proofs.Calls.Skipping.{length-open_frames, number-value, open_frames-innermost}
use Rattle.jiter_steps.proofs.Grammar.Blanks.{past_blanks-above, past_blanks-blank}
use Rattle.jiter_steps.proofs.Grammar.Places.{got}

abbrev Frames : Type 0
Frames = List (Frame (Unit {0}) (Unit {0}))

module _ (names : Bool) (t : List ℕ) where
  -- a value that ends so, inside any open containers
  pub plain-passed : (fs : Frames) (i e : ℕ) → length fs ≤ 200 → IsPlainEnd t i e
      → value_from (only_ends names) t fs i ≡ resume (only_ends names) t fs (done tt e)
  plain-passed fs i e few plain =
      ap (resume (only_ends names) t fs)
      (value_in-levels (only_ends names) t (length fs) i few ∙ plain names (200 - length fs))

  -- what was told, as one of the two
  pub continues-told : (fs : Frames) (m k : Bool) (j : ℕ) (x : Reading (Unit {0})) → m ≡ k
      → Continues names t fs (Ok m) j x → Continues names t fs (Ok k) j x
  continues-told fs m k j x same h = subst (λ n. Continues names t fs (Ok n) j x) same h

  -- after a part: the value of the next one, and the container's end
  pub plain-next : (b : ContainerKind) (fs : Frames) (i v : ℕ) → i ≤ length t → next_inside b t i ≡ done true v
      → resume (only_ends names) t (frame_of b ∷ fs) (done tt i) ≡ value_from (only_ends names) t (frame_of b ∷ fs) v
  plain-next b fs i v within is = next_inside-is names t b fs i within ∙ ap (led_on names t b fs) is

  -- Inside the innermost of some open containers: what a run of parts leads to, and the container's end.
  module _ (kinds : List ContainerKind) (d : ℕ) (few : d ≤ 200) (some : 0 < d) where
    abbrev b : ContainerKind
    b = slice_index_or kinds (d - 1) shape.Array

    innermost : open_frames kinds d ≡ frame_of b ∷ open_frames kinds (d - 1)
    innermost = open_frames-innermost kinds d some

    pub run-leads : (i j : ℕ) (awaited m : Bool) → awaited ≡ m → LeadsAfter b t i awaited j
        → Continues names t (open_frames kinds d) (Ok m) j
        (resume (only_ends names) t (open_frames kinds d) (done tt i))
    run-leads i j awaited m same leads =
        let fs = open_frames kinds (d - 1) in
        let below : length fs < 200 = omega (arith, length-open_frames kinds (d - 1)) in
        subst (λ gs. Continues names t gs (Ok m) j (resume (only_ends names) t gs (done tt i))) (sym innermost)
        (continues-told (frame_of b ∷ fs) awaited m j _ same (leads names fs below))

    pub end-leads : (i e : ℕ) → i ≤ length t → next_inside b t i ≡ done false e
        → resume (only_ends names) t (open_frames kinds d) (done tt i)
        ≡ resume (only_ends names) t (open_frames kinds (d - 1)) (done tt e)
    end-leads i e within ends =
        ap (λ gs. resume (only_ends names) t gs (done tt i)) innermost
        ∙ next_inside-is names t b (open_frames kinds (d - 1)) i within
        ∙ ap (led_on names t b (open_frames kinds (d - 1))) ends

  -- the first value inside a container
  pub plain-opens : (b : ContainerKind) (kinds : List ContainerKind) (d i v : ℕ) → d ≤ 200 → d < length kinds → i < length t
      → start_of (slice_index t i) ≡ opening b → first_inside b t i ≡ done true v
      → value_from (only_ends names) t (open_frames kinds d) i
      ≡ value_from (only_ends names) t (open_frames (slice_set kinds d b) (d + 1)) v
  plain-opens b kinds d i v few place lt opens is =
      first_inside-is names t b kinds d i _ few lt opens is
      ∙ ap (λ fs. value_from (only_ends names) t fs v) (sym (open_frames-opens kinds d b place))

-- The steps, by the bytes that are there.
module _ (t : List ℕ) (b : ContainerKind) where
  comma-part : (j c : ℕ) → slice_get t j ≡ Some c → begins_part b c ≡ true
      → container_comma b j (slice_get t j) ≡ more j
  comma-part j c here part = rw (here, part) refl

  comma-step : (b : ContainerKind) (i : ℕ) → container_step b t i (Some 44) ≡ step t (container_comma b) (i + 1)
  comma-step shape.Array i = refl
  comma-step shape.Object i = refl

  pub plain-comma : (i j v : ℕ) → i < length t → slice_index t i ≡ 44 → j ≡ past_blanks t (i + 1) → j < length t
      → begins_part b (slice_index t j) ≡ true → value_inside b t j ≡ done true v → next_inside b t i ≡ done true v
  plain-comma i j v lt comma at within part is =
      let here : past_blanks t i ≡ i = past_blanks-above t i lt (omega (arith, comma)) in
      ap (λ k. inside b t (container_step b t k (slice_get t k))) here
      ∙ ap (λ o. inside b t (container_step b t i o)) (got t i lt ∙ ap Some comma)
      ∙ ap (inside b t) (comma-step b i)
      ∙ ap (λ k. inside b t (container_comma b k (slice_get t k))) (sym at)
      ∙ ap (inside b t) (comma-part j _ (got t j within) part) ∙ is

  closer-above : (b : ContainerKind) → 32 < closer_of b
  closer-above shape.Array = omega arith
  closer-above shape.Object = omega arith

  first-closes : (b : ContainerKind) (j : ℕ) → container_first b j (Some (closer_of b)) ≡ closed (j + 1)
  first-closes shape.Array j = refl
  first-closes shape.Object j = refl

  pub plain-closes : (j : ℕ) → j < length t → slice_index t j ≡ closer_of b
      → step t (container_first b) j ≡ closed (j + 1)
  plain-closes j lt closer =
      let here : past_blanks t j ≡ j = past_blanks-above t j lt (omega (arith, closer, closer-above b)) in
      ap (λ k. container_first b k (slice_get t k)) here
      ∙ ap (container_first b j) (got t j lt ∙ ap Some closer) ∙ first-closes b j

-- a colon, and a value right after it
pub colon-stands : (t : List ℕ) (i : ℕ) → i + 1 < length t → slice_index t i ≡ 58 → 32 < slice_index t (i + 1)
    → object_colon t i ≡ taken tt (i + 1)
colon-stands t i lt sign above =
    let here : past_blanks t i ≡ i = past_blanks-above t i (omega arith) (omega (arith, sign)) in
    let next : past_blanks t (i + 1) ≡ i + 1 = past_blanks-above t (i + 1) lt above in
    ap (λ k. span_then (colon k (slice_get t k)) (step t value_first)) here
    ∙ ap (λ o. span_then (colon i o) (step t value_first)) (got t i (omega arith) ∙ ap Some sign)
    ∙ ap (λ k. value_first k (slice_get t k)) next ∙ ap (value_first (i + 1)) (got t (i + 1) lt)

-- a colon, a space, and a value right after it
pub colon-spaced : (t : List ℕ) (i : ℕ) → i + 2 < length t → slice_index t i ≡ 58 → slice_index t (i + 1) ≡ 32
    → 32 < slice_index t (i + 2) → object_colon t i ≡ taken tt (i + 2)
colon-spaced t i lt sign space above =
    let here : past_blanks t i ≡ i = past_blanks-above t i (omega arith) (omega (arith, sign)) in
    let two : i + 1 + 1 ≡ i + 2 = omega arith in
    let blank : is_blank (slice_index t (i + 1)) ≡ true = ap is_blank space in
    let next : past_blanks t (i + 1) ≡ i + 2 =
    past_blanks-blank t (i + 1) (omega arith) blank ∙ ap (past_blanks t) two ∙ past_blanks-above t (i + 2) lt above in
    ap (λ k. span_then (colon k (slice_get t k)) (step t value_first)) here
    ∙ ap (λ o. span_then (colon i o) (step t value_first)) (got t i (omega arith) ∙ ap Some sign)
    ∙ ap (λ k. value_first k (slice_get t k)) next ∙ ap (value_first (i + 2)) (got t (i + 2) lt)

-- Values that end so wherever they are: scalars, by what their reading gives, and empty containers.
pub some-as : {A : Type 0} {P Q : A → Type 0} (r : Option A) → ((x : A) → P x → Q x) → IfSome r P → IfSome r Q
some-as None f h = tt
some-as (Some x) f h = f x h

-- where a run of plain bytes ends it ends from there too
pub stop-stands : (t : List ℕ) (i to : ℕ) → to < length t → to ≡ scan_stop t i → scan_stop t i ≡ scan_stop t to
stop-stands t i to lt e =
    let byte : slice_get t (scan_stop t i) ≡ Some (slice_index t to) = ap (slice_get t) (sym e) ∙ got t to lt in
    sym e ∙ sym (run_end-stopping is_plain t to lt (run_end-stops is_plain t i (slice_index t to) byte))

-- a string with no backslash
pub near-closed : (t : List ℕ) (i to : ℕ) → i + 1 ≤ length t → to ≡ scan_stop t (i + 1) → slice_get t to ≡ Some 34
    → seen_as (λ s k. tt {0}) (string_at raw t i) ≡ taken tt (to + 1)
near-closed t i to within stop quote =
    ap (seen_as (λ s k. tt {0}))
    (raw-closed t false (i + 1) to (raw-over_run t (i + 1) to within stop (λ e. cc (quote, e))) quote)

module _ (t : List ℕ) (i : ℕ) where
  pub number-ends : (e : ℕ) → start_of (slice_index t i) ≡ start.Number
      → ((names : Bool) → number_span names t i ≡ taken tt e) → IsPlainEnd t i e
  number-ends e begins is = λ names levels. number-value names t levels i begins ∙ ap (scalar_at i) (is names)

  pub empty-ends : (b : ContainerKind) → start_of (slice_index t i) ≡ opening b → i + 1 < length t
      → slice_index t (i + 1) ≡ closer_of b → IsPlainEnd t i (i + 2)
  empty-ends shape.Array begins lt closer = λ names levels.
      let at : i + 1 + 1 ≡ i + 2 = omega arith in
      ap (value_with (only_ends names) (λ j. inside_at (only_ends names) t levels j) t i) begins
      ∙ ap (follow (only_ends names) _ _) (plain-closes t shape.Array (i + 1) lt closer) ∙ ap (λ k. done tt k) at
  empty-ends shape.Object begins lt closer = λ names levels.
      let at : i + 1 + 1 ≡ i + 2 = omega arith in
      ap (value_with (only_ends names) (λ j. inside_at (only_ends names) t levels j) t i) begins
      ∙ ap (follow (only_ends names) _ _) (plain-closes t shape.Object (i + 1) lt closer) ∙ ap (λ k. done tt k) at
