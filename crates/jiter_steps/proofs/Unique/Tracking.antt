-- A partial reading beside the same reading with partial reading off, both of which refuse repeated keys: where that
-- reads a value so does this, and where that misses the end of the input this meets no repeated key.
use Rattle.jiter_steps.proofs.Words.{◌≡◌, ◌≢◌, ℕ, zero, suc, ◌+◌, ◌<◌, ◌≤◌, ◌==◌, Bool, true, false, List, [], ◌∷◌}
use Rattle.jiter_steps.proofs.Words.{◌++◌, length, IfSome, refl, sym, ap, ◌∙◌, subst, arith, slice_get, slice_index}
use Rattle.jiter_steps.proofs.Words.{Option, Some, None, if◌then◌else◌, utf8_valid_len, utf8_error_len, drop}
use Rattle.jiter_steps.proofs.Words.{false≢true, slice_get_past, slice_get_within, slice_get-get_or, Kind, is_end_kind}
use Rattle.jiter_steps.proofs.Words.{is_forgiven, duplicate_key, invalid_code_point, number_at, allows_trailing_strings}
use Rattle.jiter_steps.proofs.Words.{Scanned, taken, failed, Span, PartialMode, ScalarWithin, if-true, seen_as}
use Rattle.jiter_steps.proofs.Words.{whole_trees, partial_trees, nothing_forgiven, past_blanks, start_of, literal_at}
use Rattle.jiter_steps.proofs.Words.{nesting_limit, Reading, done, fault, Rules, Container, scalar_at, with_key}
use Rattle.jiter_steps.proofs.Words.{after_colon, after_key, if_forgiven, unless_refused, follow, after_part, parts_at}
use Rattle.jiter_steps.proofs.Words.{container_at, array_of, object_of, value_with, inside_at, value_at, if_begun}
use Rattle.jiter_steps.proofs.Words.{prefix_answer, Step, more, closed, stuck, step, object_colon, Stop, unclosed, cut}
use Rattle.jiter_steps.proofs.Words.{wrong, whole, kept, body_at, valid_prefix_by, text_in_form, content_at, string_at}
use Rattle.jiter_steps.proofs.Words.{Text, Tree, without_repeats, own_bytes, Start}
use Rattle.jiter_steps.specs.StringReading.{closed}
use Rattle.jiter_steps.specs.Tree as tree
use Rattle.jiter_steps.specs.declared.parse.ContainerKind.TheVariants as shape
use Rattle.jiter_steps.specs.declared.parse.Start.TheVariants as start
use Rattle.jiter_steps.proofs.Cut.Halting.{Halts, StuckAt, byte-halts, container-halts}
use Rattle.jiter_steps.proofs.Reading.Bounds.{Ahead, SpanAhead, Within, either, container_first-ahead}
use Rattle.jiter_steps.proofs.Reading.Bounds.{container_step-ahead, object_colon-ahead}
use Rattle.jiter_steps.proofs.Reading.FirstBytes.{begins-within, GoesTo, BeginsAt, key-quote, container_first-begins}
use Rattle.jiter_steps.proofs.Reading.FirstBytes.{container_step-begins}
use Rattle.jiter_steps.proofs.Reading.Instances.{trees-advances}
use Rattle.jiter_steps.proofs.Reading.StringForms.{content-kept}
use Rattle.jiter_steps.proofs.Reading.Values.{Advances, part_after, object_of-goes, inside_at-within}
use Rattle.jiter_steps.proofs.Unique.Agreeing.{IsOfRepeat, RefusesRepeats, key-repeats}
use Rattle.jiter_steps.proofs.Unique.Within.{repeats-advance}

-- the input's end is no repeated key
pub end-no_repeat : (k : Kind) → is_end_kind k ≡ true → IsOfRepeat k → ⊥
end-no_repeat (duplicate_key key) early is = false≢true early
end-no_repeat k early is = absurd is

module _ (t : List ℕ) where
  -- no container takes a byte where the reading is then, and it met no repeated key
  abbrev pub Stops : {A : Type 0} → Reading A → Type 0
  Stops (done a e) = Halts t e
  Stops (fault k i stop) = Halts t stop × (IsOfRepeat k → ⊥)

  -- the same value as y, or a stop where y misses the input's end
  abbrev pub Tracks : {A : Type 0} → Reading A → Reading A → Type 0
  Tracks x (done a e) = x ≡ done a e
  Tracks x (fault k i stop) = is_end_kind k ≡ true → Stops x

  length-halts : (j : ℕ) → j ≡ length t → Halts t j
  length-halts j at = rw (slice_get_past t j (omega (arith, at))) tt

module _ (names : Bool) (mode : PartialMode) (t : List ℕ) where
  abbrev pub strict : Rules Text Tree
  strict = without_repeats own_bytes (whole_trees names)

  abbrev pub partial : Rules Text Tree
  partial = without_repeats own_bytes (partial_trees names mode)

  forgiven-stops : (close : ℕ → Tree) (k : Kind) (i stop : ℕ) → Halts t stop → (IsOfRepeat k → ⊥)
      → Stops t (if_forgiven partial close k i stop)
  forgiven-stops close k i stop halts none = either (Stops t) (is_forgiven k) _ _ halts (halts, none)

  module _ {P : Type 0} (c d : Container P Tree) (first : (i : ℕ) → step t d.first i ≡ step t c.first i)
      (next : (i : ℕ) → step t d.next i ≡ step t c.next i) (build : (e : ℕ) (ps : List P) → d.build e ps ≡ c.build e ps)
      (refuses : (ps : List P) (i : ℕ) → d.refuses ps i ≡ c.refuses ps i)
      (repeats : (ps : List P) (i : ℕ) → RefusesRepeats (c.refuses ps i)) (Begins : ℕ → Type 0)
      (inside : (i : ℕ) → Begins i → i < length t) (first-begins : (i : ℕ) → GoesTo Begins (step t c.first i))
      (next-begins : (i : ℕ) → GoesTo Begins (step t c.next i))
      (first-ahead : (i : ℕ) → i ≤ length t → Ahead t i (step t c.first i))
      (next-ahead : (i : ℕ) → i ≤ length t → Ahead t i (step t c.next i))
      (halts : (q : ℕ) → Halts t q → StuckAt q (step t c.next q))
      (within : (i : ℕ) → Begins i → Within t i (c.part i))
      (part : (i : ℕ) → Begins i → Tracks t (d.part i) (c.part i)) where
    abbrev Go : Type 0
    Go = List P → ℕ → Reading Tree

    -- where so many rounds are enough
    abbrev GoTracks : ℕ → Go → Go → Type 0
    GoTracks n f g = (ps : List P) (j : ℕ) → Begins j → length t ≤ j + n → Tracks t (f ps j) (g ps j)

    follow-tracks : (n : ℕ) (f g : Go) → GoTracks n f g → (ps : List P) (i : ℕ) → length t ≤ i + n → (s z : Step)
        → s ≡ z → GoesTo Begins z → Ahead t i z
        → Tracks t (follow partial (f ps) (λ e. d.build e ps) s) (follow strict (g ps) (λ e. c.build e ps) z)
    follow-tracks n f g all ps i enough s z is begins ahead =
        rw is (by z begins ahead) where
          by : (z : Step) → GoesTo Begins z → Ahead t i z
              → Tracks t (follow partial (f ps) (λ e. d.build e ps) z) (follow strict (g ps) (λ e. c.build e ps) z)
          by (more j) begins ahead = all ps j begins (omega (arith, ahead.0))
          by (closed e) begins ahead = ap (λ a. done a e) (build e ps)
          by (stuck k j) begins ahead = λ early.
              forgiven-stops (λ e. d.build e ps) k j j (length-halts t j (ahead.1.ends early)) (end-no_repeat k early)

    halted : (f : Go) (ps : List P) (q : ℕ) → Halts t q
        → Stops t (follow partial (f ps) (λ e. d.build e ps) (step t d.next q))
    halted f ps q here =
        let stuck_here = halts q here in
        rw (next q ∙ stuck_here.1) (rw (if-true (is_forgiven stuck_here.0) _ _ stuck_here.2) here)

    after-stops : (f : Go) (ps : List P) (x : Reading P) → Stops t x → Stops t (after_part partial d t f ps x)
    after-stops f ps (done q e) here = halted f (ps ++ q ∷ []) e here
    after-stops f ps (fault k i stop) here = forgiven-stops (λ e. d.build e ps) k i stop here.0 here.1

    after-tracks : (n : ℕ) (f g : Go) → GoTracks n f g → (ps : List P) (i : ℕ) → length t ≤ i + suc n
        → (x y : Reading P) → Within t i y → Tracks t x y
        → Tracks t (after_part partial d t f ps x) (after_part strict c t g ps y)
    after-tracks n f g all ps i enough x (done q e) inside tracks =
        subst (λ x. Tracks t (after_part partial d t f ps x) (after_part strict c t g ps (done q e))) (sym tracks)
        (follow-tracks n f g all (ps ++ q ∷ []) e (omega (arith, inside.0)) (step t d.next e) (step t c.next e) (next e)
        (next-begins e)
        (next-ahead e inside.1))
    after-tracks n f g all ps i enough x (fault k v stop) inside tracks = λ early. after-stops f ps x (tracks early)

    part_after-tracks : (n : ℕ) (f g : Go) → GoTracks n f g → (ps : List P) (i : ℕ) → length t ≤ i + suc n → Begins i
        → Tracks t (after_part partial d t f ps (part_after d ps i))
        (after_part strict c t g ps (part_after c ps i))
    part_after-tracks n f g all ps i enough begins =
        rw (refuses ps i) (by (c.refuses ps i) (repeats ps i)) where
          by : (o : Option (Kind × ℕ)) → RefusesRepeats o
              → Tracks t (after_part partial d t f ps (unless_refused o (d.part i)))
              (after_part strict c t g ps (unless_refused o (c.part i)))
          by None h = after-tracks n f g all ps i enough (d.part i) (c.part i) (within i begins) (part i begins)
          by (Some z) h = λ early. absurd (end-no_repeat z.0 early h)

    parts_at-tracks : (n : ℕ) → GoTracks n (parts_at partial d t n) (parts_at strict c t n)
    unfolding parts_at
    parts_at-tracks zero ps i begins enough = let lt = inside i begins in absurd (omega arith)
    parts_at-tracks (suc n) ps i begins enough =
        part_after-tracks n (parts_at partial d t n) (parts_at strict c t n) (parts_at-tracks n) ps i enough begins

    container-tracks : (i : ℕ) → i < length t → Tracks t (container_at partial d t i) (container_at strict c t i)
    container-tracks i lt =
        follow-tracks (length t) (parts_at partial d t (length t)) (parts_at strict c t (length t))
        (parts_at-tracks (length t)) [] (i + 1) (omega arith) (step t d.first (i + 1)) (step t c.first (i + 1))
        (first (i + 1)) (first-begins (i + 1)) (first-ahead (i + 1) (omega arith))

  -- members
  module _ (f g : ℕ → Reading Tree) (all : (i : ℕ) → i < length t → Tracks t (f i) (g i))
      (inner-within : (i : ℕ) → i < length t → Within t i (g i)) where
    keyed-stops : (k : Text) (x : Reading Tree) → Stops t x → Stops t (with_key k x)
    keyed-stops k (done a e) h = h
    keyed-stops k (fault kind j stop) h = h

    keyed-tracks : (k : Text) (x y : Reading Tree) → Tracks t x y → Tracks t (with_key k x) (with_key k y)
    keyed-tracks k x (done a e) h = ap (with_key k) h
    keyed-tracks k x (fault kind j stop) h = λ early. keyed-stops k x (h early)

    colon-tracks : (k : Text) (e : ℕ) (x : Span) → SpanAhead t e 0 x
        → Tracks t (after_colon k f x) (after_colon k g x)
    colon-tracks k e (taken w j) ahead = keyed-tracks k (f j) (g j) (all j (omega (arith, ahead.1)))
    colon-tracks k e (failed kind j) ahead = λ early.
        (length-halts t j (ahead.1.ends early), end-no_repeat kind early)

    key-tracks : (i : ℕ) → slice_get t i ≡ Some 34 → (x : Scanned Text) → ScalarWithin t i x
        → Tracks t (after_key f t i x) (after_key g t i x)
    key-tracks i quote (taken k e) far = colon-tracks k e (object_colon t e) (object_colon-ahead t e far.1)
    key-tracks i quote (failed kind j) far = λ early. (byte-halts t i 34 quote (λ e. cc), end-no_repeat kind early)

    good : Advances strict t
    good = repeats-advance t own_bytes (whole_trees names) (trees-advances t nothing_forgiven whole names)

    array-tracks : (i : ℕ) → i < length t
        → Tracks t (container_at partial (array_of partial f t i) t i) (container_at strict (array_of strict g t i) t i)
    array-tracks i lt =
        container-tracks (array_of strict g t i) (array_of partial f t i) (λ j. refl) (λ j. refl) (λ e ps. refl)
        (λ ps j. refl) (λ ps j. tt) (BeginsAt shape.Array t) (λ j h. slice_get_within t j h.0 h.1)
        (container_first-begins shape.Array t) (container_step-begins shape.Array t)
        (container_first-ahead t shape.Array) (container_step-ahead t shape.Array)
        (container-halts t shape.Array) (λ j h. inner-within j (slice_get_within t j h.0 h.1))
        (λ j h. all j (slice_get_within t j h.0 h.1)) i lt

    object-tracks : (i : ℕ) → i < length t
        → Tracks t (container_at partial (object_of partial f t i) t i)
        (container_at strict (object_of strict g t i) t i)
    object-tracks i lt =
        container-tracks (object_of strict g t i) (object_of partial f t i) (λ j. refl) (λ j. refl) (λ e ps. refl)
        (λ ps j. refl) (λ ps j. key-repeats own_bytes _ t (strict.key t j)) (BeginsAt shape.Object t)
        (λ j h. slice_get_within t j h.0 h.1)
        (container_first-begins shape.Object t) (container_step-begins shape.Object t)
        (container_first-ahead t shape.Object) (container_step-ahead t shape.Object)
        (container-halts t shape.Object)
        (λ j h. (object_of-goes strict t good g inner-within i).part j (slice_get_within t j h.0 h.1))
        (λ j h. key-tracks j (key-quote t j h) (string_at whole t j) (good.key j (slice_get_within t j h.0 h.1))) i lt

    -- scalars
    scalar-tracks : {X : Type 0} (i : ℕ) → Halts t i → (x : Scanned X) (seen : X → ℕ → Tree)
        → Tracks t (scalar_at i (seen_as seen x)) (scalar_at i (seen_as seen x))
    scalar-tracks i here (taken a e) seen = refl
    scalar-tracks i here (failed k j) seen = λ early. (here, end-no_repeat k early)

    abbrev text_seen : ℕ → Scanned Text → Reading Tree
    text_seen i x = scalar_at i (seen_as (λ s e. tree.string s) x)

    valid-stops : (i j : ℕ) (o : Bool) (bs : List ℕ) (n : Option ℕ) → Halts t i
        → Stops t (text_seen i (valid_prefix_by j o bs (length t) n))
    valid-stops i j o bs None here = length-halts t (length t) refl
    valid-stops i j o bs (Some n) here = (here, λ is. is)

    closed-late : (b : Bool) (x : Text) (e : ℕ) (v : ℕ) (k : Kind) (j : ℕ)
        → (if b then taken x e else failed invalid_code_point v) ≡ failed k j → is_end_kind k ≡ true → ⊥
    closed-late true x e v k j is early = absurd (cc)
    closed-late false x e v k j is early =
        let same : invalid_code_point ≡ k = cc in false≢true (ap is_end_kind same ∙ early)

    kept-stops : (i c : ℕ) (bs : List ℕ) (o : Bool) (s : Stop) (k : Kind) (j : ℕ) → Halts t i
        → text_in_form whole t c bs o s ≡ failed k j → is_end_kind k ≡ true
        → Stops t (text_seen i (text_in_form kept t c bs o s))
    kept-stops i c bs o (closed e) k j here is early =
        absurd (closed-late (utf8_valid_len bs == length bs) _ e _ k j is early)
    kept-stops i c bs o unclosed k j here is early =
        valid-stops i c o bs (utf8_error_len (drop (utf8_valid_len bs) bs)) here
    kept-stops i c bs o cut k j here is early =
        valid-stops i c o bs (utf8_error_len (drop (utf8_valid_len bs) bs)) here
    kept-stops i c bs o (wrong kind v) k j here is early =
        let same : k ≡ kind = cc in (here, end-no_repeat kind (ap is_end_kind (sym same) ∙ early))

    kept-tracks : (i : ℕ) → Halts t i → (x : Scanned Text) → string_at whole t i ≡ x
        → Tracks t (text_seen i (string_at kept t i)) (text_seen i x)
    unfolding content_at
    kept-tracks i here (taken s e) is = ap (text_seen i) (content-kept t (i + 1) s e is).0
    kept-tracks i here (failed k j) is = λ early.
        let b = body_at t (i + 1) in kept-stops i (i + 1) b.bytes b.owned b.stop k j here is early

    text-tracks : (i : ℕ) → Halts t i → (keep : Bool)
        → Tracks t (text_seen i (string_at (if keep then kept else whole) t i)) (text_seen i (string_at whole t i))
    text-tracks i here true = kept-tracks i here (string_at whole t i) refl
    text-tracks i here false = scalar-tracks i here (string_at whole t i) (λ s e. tree.string s)

    begins-halts : (i : ℕ) (s : Start) → start_of (slice_index t i) ≡ s → (start.Nothing ≡ s → ⊥) → Halts t i
    begins-halts i s is some =
        let lt = begins-within t i (λ z. some (sym z ∙ is)) in
        byte-halts t i (slice_index t i) (slice_get-get_or t i 0 lt) (λ z. some (sym z ∙ is))

    value_with-tracks : (i : ℕ) → i < length t → (s : Start) → start_of (slice_index t i) ≡ s
        → Tracks t (value_with partial f t i s) (value_with strict g t i s)
    value_with-tracks i lt start.Array is = array-tracks i lt
    value_with-tracks i lt start.Object is = object-tracks i lt
    value_with-tracks i lt start.String is =
        text-tracks i (begins-halts i start.String is (λ z. cc)) (allows_trailing_strings mode)
    value_with-tracks i lt start.Number is =
        scalar-tracks i (begins-halts i start.Number is (λ z. cc)) (number_at names t i) _
    value_with-tracks i lt (start.Literal l) is =
        scalar-tracks i (begins-halts i (start.Literal l) is (λ z. cc)) (literal_at t l i) _
    value_with-tracks i lt start.Nothing is = λ early. absurd (false≢true early)

  strict-within : (levels : ℕ) (i : ℕ) → i < length t → Within t i (inside_at strict t levels i)
  strict-within levels =
      inside_at-within strict t
      (repeats-advance t own_bytes (whole_trees names) (trees-advances t nothing_forgiven whole names)) levels

  inside_at-tracks : (levels i : ℕ) → i < length t
      → Tracks t (inside_at partial t levels i) (inside_at strict t levels i)
  unfolding inside_at
  inside_at-tracks zero i lt = λ early. absurd (false≢true early)
  inside_at-tracks (suc levels) i lt =
      value_with-tracks (inside_at partial t levels) (inside_at strict t levels) (inside_at-tracks levels)
      (strict-within levels) i lt (start_of (slice_index t i)) refl

  value_at-tracks : (levels i : ℕ) → i < length t → Tracks t (value_at partial t levels i) (value_at strict t levels i)
  value_at-tracks levels i lt =
      value_with-tracks (inside_at partial t levels) (inside_at strict t levels) (inside_at-tracks levels)
      (strict-within levels) i lt (start_of (slice_index t i)) refl

  if_begun-tracks : (i : ℕ) (o : Option ℕ) → slice_get t i ≡ o
      → Tracks t (if_begun partial t i o) (if_begun strict t i o)
  if_begun-tracks i None at = λ early. (subst (λ o. IfSome o (λ c. start_of c ≢ start.Nothing)) (sym at) tt, λ is. is)
  if_begun-tracks i (Some c) at = value_at-tracks nesting_limit i (slice_get_within t i c at)

  -- The text's value, whatever follows it.
  pub prefix_answer-tracks : Tracks t (prefix_answer partial t) (prefix_answer strict t)
  unfolding prefix_answer
  prefix_answer-tracks = if_begun-tracks (past_blanks t 0) (slice_get t (past_blanks t 0)) refl
