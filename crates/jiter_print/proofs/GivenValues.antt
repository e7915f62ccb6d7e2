-- What holds of each value that a reading may give.
use Rattle.std.proofs.Common.{ℕ, zero, suc, ◌+◌, ◌++◌, List, [], ◌∷◌, length}
use Rattle.std.specs.Prelude.{slice_get, slice_index, Option, Some, None}
use Rattle.jiter_steps.proofs.Reading.Values.{part_after}
use Rattle.jiter_scan.specs.Kind.{Kind}
use Rattle.jiter_scan.specs.Scanned.{Scanned, taken, failed}
use Rattle.jiter_scan.specs.Word.{Span}
use Rattle.jiter_steps.specs.Blank.{past_blanks}
use Rattle.jiter_steps.specs.Literal.{start_of}
use Rattle.jiter_steps.specs.Node.{nesting_limit}
use Rattle.jiter_steps.specs.Read.{Reading, done, fault, Rules, Container, scalar_at, with_key, after_colon}
use Rattle.jiter_steps.specs.Read.{after_key, if_forgiven, follow, after_part, parts_at, container_at, array_of}
use Rattle.jiter_steps.specs.Read.{object_of, value_with, inside_at, value_at, if_last, to_end, if_begun}
use Rattle.jiter_steps.specs.Read.{prefix_answer, unless_refused, whole_answer}
use Rattle.jiter_steps.specs.Step.{Step, more, closed, stuck, step, object_colon}
use Rattle.jiter_steps.specs.declared.parse.Literal.{Literal}
use Rattle.jiter_steps.specs.declared.parse.Start.{Start}
use Rattle.jiter_steps.specs.declared.parse.Start.TheVariants as start
use Rattle.jiter_steps.proofs.Reading.Bounds.{either}

-- what is taken is so
abbrev pub Takes : {A : Type 0} → (A → Type 0) → Scanned A → Type 0
Takes P (taken a e) = P a
Takes P (failed k j) = Unit {0}

-- what is read is so
abbrev pub Gives : {A : Type 0} → (A → Type 0) → Reading A → Type 0
Gives P (done a e) = P a
Gives P (fault k i stop) = Unit {0}

-- each element is so
abbrev pub Each : {A : Type 0} → (A → Type 0) → List A → Type 0
Each P [] = Unit {0}
Each P (x ∷ xs) = P x × Each P xs

-- a key is so, and its value
abbrev pub Both : {K A : Type 0} → (K → Type 0) → (A → Type 0) → K × A → Type 0
Both IsKey P m = IsKey m.0 × P m.1

-- With so many levels left a value is so, and inside a container that has it. What is scanned is so, and what is
-- built of such
-- parts.
pub record Builds {K A : Type 0} (r : Rules K A) (t : List ℕ) (IsKey : K → Type 0) (Is IsInside : ℕ → A → Type 0)
    : Type 0 where
  pub literal : (levels : ℕ) (l : Literal) (i : ℕ) → Takes (Is levels) (r.literal t l i)
  pub number : (levels i : ℕ) → Takes (Is levels) (r.number t i)
  pub text : (levels i : ℕ) → Takes (Is levels) (r.text t i)
  pub key : (i : ℕ) → Takes IsKey (r.key t i)
  pub array : (levels b e : ℕ) (items : List A) → Each (IsInside levels) items → Is levels (r.array b e items)
  pub object : (levels b e : ℕ) (members : List (K × A)) → Each (Both IsKey (IsInside levels)) members
      → Is levels (r.object b e members)
  pub inside : (levels : ℕ) (a : A) → Is levels a → IsInside (suc levels) a

-- one more element
each-push : {A : Type 0} (P : A → Type 0) (xs : List A) (x : A) → Each P xs → P x → Each P (xs ++ x ∷ [])
each-push P [] x all h = (h, tt)
each-push P (y ∷ ys) x all h = (all.0, each-push P ys x all.1 h)

module _ {K A : Type 0} (r : Rules K A) (t : List ℕ) where
  -- containers
  module _ {P : Type 0} (c : Container P A) (IsPart : P → Type 0) (Is : A → Type 0)
      (part : (i : ℕ) → Gives IsPart (c.part i))
      (build : (e : ℕ) (ps : List P) → Each IsPart ps → Is (c.build e ps)) where
    if_forgiven-gives : (ps : List P) → Each IsPart ps → (k : Kind) (i stop : ℕ)
        → Gives Is (if_forgiven r (λ e. c.build e ps) k i stop)
    if_forgiven-gives ps all k i stop =
        either (Gives Is) (r.forgives k) (done (c.build stop ps) stop) (fault k i stop) (build stop ps all) tt

    follow-gives : (next : ℕ → Reading A) → ((j : ℕ) → Gives Is (next j)) → (ps : List P) → Each IsPart ps → (s : Step)
        → Gives Is (follow r next (λ e. c.build e ps) s)
    follow-gives next each ps all (more j) = each j
    follow-gives next each ps all (closed e) = build e ps all
    follow-gives next each ps all (stuck k j) = if_forgiven-gives ps all k j j

    after_part-gives : (next : List P → ℕ → Reading A)
        → ((ps : List P) → Each IsPart ps → (j : ℕ) → Gives Is (next ps j))
        → (ps : List P) → Each IsPart ps → (x : Reading P) → Gives IsPart x → Gives Is (after_part r c t next ps x)
    after_part-gives next each ps all (done p e) h =
        let longer = each-push IsPart ps p all h in
        follow-gives (next (ps ++ p ∷ [])) (each (ps ++ p ∷ []) longer) (ps ++ p ∷ []) longer (step t c.next e)
    after_part-gives next each ps all (fault k i stop) h = if_forgiven-gives ps all k i stop

    parts_at-gives : (n : ℕ) (ps : List P) → Each IsPart ps → (i : ℕ) → Gives Is (parts_at r c t n ps i)
    unfolding parts_at
    parts_at-gives zero ps all i = tt
    parts_at-gives (suc n) ps all i =
        after_part-gives (λ more_parts j. parts_at r c t n more_parts j) (parts_at-gives n) ps all
        (part_after c ps i) (by (c.refuses ps i)) where
          by : (o : Option (Kind × ℕ)) → Gives IsPart (unless_refused o (c.part i))
          by None = part i
          by (Some f) = tt

    container_at-gives : (i : ℕ) → Gives Is (container_at r c t i)
    container_at-gives i =
        follow-gives (parts_at r c t (length t) []) (parts_at-gives (length t) [] tt) [] tt (step t c.first (i + 1))

  -- a member
  module _ (IsKey : K → Type 0) (Is : A → Type 0) (inner : ℕ → Reading A) (each : (i : ℕ) → Gives Is (inner i)) where
    with_key-gives : (k : K) → IsKey k → (x : Reading A) → Gives Is x → Gives (Both IsKey Is) (with_key k x)
    with_key-gives k is (done a e) h = (is, h)
    with_key-gives k is (fault kind i stop) h = tt

    after_colon-gives : (k : K) → IsKey k → (x : Span) → Gives (Both IsKey Is) (after_colon k inner x)
    after_colon-gives k is (taken u j) = with_key-gives k is (inner j) (each j)
    after_colon-gives k is (failed kind j) = tt

    after_key-gives : (i : ℕ) (x : Scanned K) → Takes IsKey x → Gives (Both IsKey Is) (after_key inner t i x)
    after_key-gives i (taken k e) is = after_colon-gives k is (object_colon t e)
    after_key-gives i (failed kind j) is = tt

  scalar_at-gives : (Is : A → Type 0) (i : ℕ) (x : Scanned A) → Takes Is x → Gives Is (scalar_at i x)
  scalar_at-gives Is i (taken a e) is = is
  scalar_at-gives Is i (failed k j) is = tt

  module _ (IsKey : K → Type 0) (Is IsInside : ℕ → A → Type 0) (builds : Builds r t IsKey Is IsInside) where
    value_with-gives : (levels : ℕ) (inner : ℕ → Reading A) → ((i : ℕ) → Gives (IsInside levels) (inner i)) → (i : ℕ)
        (s : Start) → Gives (Is levels) (value_with r inner t i s)
    value_with-gives levels inner each i start.Array =
        container_at-gives (array_of r inner t i) (IsInside levels) (Is levels) each (builds.array levels i) i
    value_with-gives levels inner each i start.Object =
        container_at-gives (object_of r inner t i) (Both IsKey (IsInside levels)) (Is levels)
        (λ j. after_key-gives IsKey (IsInside levels) inner each j (r.key t j) (builds.key j))
        (builds.object levels i) i
    value_with-gives levels inner each i start.String = scalar_at-gives (Is levels) i (r.text t i)
        (builds.text levels i)
    value_with-gives levels inner each i start.Number = scalar_at-gives (Is levels) i (r.number t i)
        (builds.number levels i)
    value_with-gives levels inner each i (start.Literal l) =
        scalar_at-gives (Is levels) i (r.literal t l i) (builds.literal levels l i)
    value_with-gives levels inner each i start.Nothing = tt

    -- a value inside leaves a level for the container round it
    inside-gives : (levels : ℕ) (x : Reading A) → Gives (Is levels) x → Gives (IsInside (suc levels)) x
    inside-gives levels (done a e) h = builds.inside levels a h
    inside-gives levels (fault k i stop) h = tt

    inside_at-gives : (levels i : ℕ) → Gives (IsInside levels) (inside_at r t levels i)
    unfolding inside_at
    inside_at-gives zero i = tt
    inside_at-gives (suc levels) i =
        inside-gives levels _
        (value_with-gives levels (λ j. inside_at r t levels j) (inside_at-gives levels) i (start_of (slice_index t i)))

    value_at-gives : (levels i : ℕ) → Gives (Is levels) (value_at r t levels i)
    value_at-gives levels i =
        value_with-gives levels (inside_at r t levels) (inside_at-gives levels) i (start_of (slice_index t i))

    if_begun-gives : (i : ℕ) (o : Option ℕ) → Gives (Is nesting_limit) (if_begun r t i o)
    if_begun-gives i None = tt
    if_begun-gives i (Some c) = value_at-gives nesting_limit i

    -- What a text is read as is so, whatever follows it.
    pub prefix_answer-gives : Gives (Is nesting_limit) (prefix_answer r t)
    unfolding prefix_answer
    prefix_answer-gives = if_begun-gives (past_blanks t 0) (slice_get t (past_blanks t 0))

    to_end-gives : (x : Reading A) → Gives (Is nesting_limit) x → Gives (Is nesting_limit) (to_end t x)
    to_end-gives (done a e) h = by (slice_get t (past_blanks t e)) where
      by : (o : Option ℕ) → Gives (Is nesting_limit) (if_last a e (past_blanks t e) o)
      by None = h
      by (Some c) = tt
    to_end-gives (fault k i stop) h = tt

    -- And so where nothing follows.
    pub whole_answer-gives : Gives (Is nesting_limit) (whole_answer r t)
    unfolding whole_answer
    whole_answer-gives = to_end-gives (prefix_answer r t) prefix_answer-gives
