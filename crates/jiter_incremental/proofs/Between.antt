-- What a byte makes of a value that comes in chunks, by the rules of its reading.
use Rattle.jiter_incremental.proofs.Words.{◌≡◌, ℕ, suc, ◌+◌, ◌-◌, ◌<◌, ◌≤◌, ◌==◌, Bool, true, false, List, [], ◌∷◌}
use Rattle.jiter_incremental.proofs.Words.{length, get_or, refl, sym, subst, ap, ◌∙◌, arith, add-one, inl, inr, eq-eqb}
use Rattle.jiter_incremental.proofs.Words.{ne_eqb, slice_get, Option, Some, None, slice_get_within}
use Rattle.jiter_incremental.proofs.Words.{get_or_from_slice_get, if_case, if-true, if-false, Kind, is_forgiven}
use Rattle.jiter_incremental.proofs.Words.{expected_value, trailing_comma, span_then, is_active, taken, failed, Span}
use Rattle.jiter_incremental.proofs.Words.{nothing_forgiven, is_blank, past_blanks, items_frame, members_frame, resume}
use Rattle.jiter_incremental.proofs.Words.{value_in, value_from, key_from, array_in, object_in, parts_from, parts_step}
use Rattle.jiter_incremental.proofs.Words.{start_of, Step, closed, stuck, step, colon, value_first, opening}
use Rattle.jiter_incremental.proofs.Words.{begins_part, closer_of, comma_kind_of, container_comma, Rules, done, fault}
use Rattle.jiter_incremental.proofs.Words.{prefix_answer, Text, Tree, ContainerKind, if_forgiven-yes, if_forgiven-no}
use Rattle.jiter_incremental.proofs.Words.{resume-fault, past_blanks-blank, past_blanks-other, inside_at-starts}
use Rattle.jiter_incremental.proofs.Words.{Arrived, IsLeft, OpenValue, at_value, between_parts, at_end, value_then}
use Rattle.jiter_incremental.proofs.Words.{part_row, container_of, owned, HasRead, IsBeforeValue, IsBetweenParts}
use Rattle.jiter_incremental.proofs.Words.{after_value, completed, Everywhere, EndsHere, TakesByte, ClosesBefore}
use Rattle.jiter_incremental.proofs.Words.{passed, IsBeforePart, after_level, rules_as, OpenFrame, AwaitsPart, IsOfKey}
use Rattle.jiter_incremental.proofs.Words.{filled, HasValue, PartTree, built, empty_tree, Awaits, Settings}
use Rattle.jiter_incremental.proofs.Words.{rules_as-advances}
use Rattle.jiter_scan.specs.Kind.{recursion_limit, expected_colon, key_must_be_a_string}
use Rattle.jiter_steps.specs.Frames.{resolve_step}
use Rattle.jiter_steps.specs.Step.{more, object_colon, container_first}
use Rattle.jiter_steps.specs.Read.{after_colon, after_key, after_part, if_begun, with_key}
use Rattle.jiter_steps.specs.declared.parse.ContainerKind.TheVariants as shape
use Rattle.jiter_steps.specs.declared.parse.Start.TheVariants as start
use Rattle.jiter_steps.proofs.Calls.Resumed.{IgnoresBegin, step-to, items-value, container-begins, container_in-goes}
use Rattle.jiter_steps.proofs.Calls.Resumed.{value_in-levels}
use Rattle.jiter_steps.proofs.Reading.Values.{Advances, inside_at-none, parts_at_is}
use Rattle.jiter_incremental.specs.declared.reader.Awaits.TheVariants as awaits

-- a container that begins has no part
pub no-parts : (h : ContainerKind) → empty_tree h ≡ built h []
no-parts shape.Array = refl
no-parts shape.Object = refl

module _ (p : Settings) (t : List ℕ) where
  abbrev r : Rules Text Tree
  r = rules_as owned p

  good : Advances r t
  good = rules_as-advances owned p t

  any : IgnoresBegin r
  any = record { array = λ b. refl; object = λ b. refl }

  kept : (k : Kind) → is_forgiven k ≡ false → r.forgives k ≡ false
  kept k h =
      if_case (λ (f : Kind → Bool). f k ≡ false) (is_active p.mode) is_forgiven nothing_forgiven (λ on. h) (λ off. refl)

  -- after a value
  after-is : (x : Tree) (e : ℕ) (fs : List OpenFrame)
      → resume r t fs (done x e) ≡ completed p t (after_value x fs) e
  after-is x e [] = let same : e ≡ e - 0 = omega arith in ap (done x) same
  after-is x e (items_frame xs ∷ fs) = refl
  after-is x e (members_frame ms k ∷ fs) = refl

  -- what is built of parts, and a container between them
  builds : (h : ContainerKind) (xs : List (PartTree h)) (depth e : ℕ) → (container_of r t h depth).build e xs ≡ built h xs
  builds shape.Array xs depth e = refl
  builds shape.Object xs depth e = refl

  -- A byte is at j.
  module _ (j c : ℕ) (here : slice_get t j ≡ Some c) where
    within : j < length t
    within = slice_get_within t j c here

    is : get_or t j 0 ≡ c
    is = get_or_from_slice_get t j c 0 here

    blank-step : {A : Type 0} (row : ℕ → Option ℕ → A) → is_blank c ≡ true → step t row j ≡ step t row (j + 1)
    blank-step row h =
        ap (λ m. row m (slice_get t m)) (past_blanks-blank t j within (ap is_blank is ∙ h))

    -- whitespace
    pub leads-blank : (s : Arrived) → is_blank c ≡ true → completed p t s j ≡ completed p t (passed s) (j + 1)
    leads-blank (at_value awaits.Colon fs) h =
        ap (λ (x : Span). resume r t fs (value_then r t (length fs) (span_then x (step t value_first))))
        (blank-step colon h)
    leads-blank (at_value a fs) h =
        ap (λ (x : Span). resume r t fs (value_then r t (length fs) x)) (blank-step value_first h)
    leads-blank (between_parts a k xs fs) h =
        ap (λ u. resume r t fs (parts_step r t (container_of r t k (length fs)) xs u)) (blank-step (part_row r t a k) h)
    leads-blank (at_end v n) h = let same : j - n ≡ j + 1 - (n + 1) = omega arith in ap (done v) same

    -- another byte
    module _ (other : is_blank c ≡ false) where
      here-step : {A : Type 0} (row : ℕ → Option ℕ → A) → step t row j ≡ row j (Some c)
      here-step row =
          ap (λ m. row m (slice_get t m)) (past_blanks-other t j within (ap is_blank is ∙ other)) ∙ ap (row j) here

      -- where a value is awaited,
      pub value-here : (fs : List OpenFrame) → completed p t (at_value awaits.Value fs) j ≡ value_from r t fs j
      value-here fs = ap (λ (x : Span). resume r t fs (value_then r t (length fs) x)) (here-step value_first)

      value-fails : (fs : List OpenFrame) (k : Kind) → value_in r t (length fs) j ≡ fault k j j → is_forgiven k ≡ false
          → completed p t (at_value awaits.Value fs) j ≡ fault k j j
      value-fails fs k h bad =
          value-here fs ∙ ap (resume r t fs) h ∙ resume-fault r t fs k j j (kept k bad)

      pub value-too_deep : (fs : List OpenFrame) → 200 < length fs
          → completed p t (at_value awaits.Value fs) j ≡ fault recursion_limit j j
      value-too_deep fs deep =
          value-fails fs recursion_limit (inside_at-none r t (201 - length fs) j (omega (arith, deep))) refl

      pub value-none : (fs : List OpenFrame) → length fs ≤ 200 → start_of c ≡ start.Nothing
          → completed p t (at_value awaits.Value fs) j ≡ fault expected_value j j
      value-none fs few starts =
          value-fails fs expected_value
          (inside_at-starts r t (201 - length fs) j start.Nothing (omega (arith, few)) (ap start_of is ∙ starts)) refl

      pub value-begins : (h : ContainerKind) (fs : List OpenFrame) → length fs ≤ 200 → start_of c ≡ opening h
          → completed p t (at_value awaits.Value fs) j ≡ completed p t (between_parts awaits.First h [] fs) (j + 1)
      value-begins shape.Array fs few starts =
          let s = step t (container_first shape.Array) (j + 1) in
          let u = resolve_step r.forgives s in
          value-here fs ∙ container-begins r t good any fs j u few shape.Array (ap start_of is ∙ starts) refl
          ∙ sym (step-to r t (array_in r t (length fs)) fs [] s u refl)
      value-begins shape.Object fs few starts =
          let s = step t (container_first shape.Object) (j + 1) in
          let u = resolve_step r.forgives s in
          value-here fs ∙ container-begins r t good any fs j u few shape.Object (ap start_of is ∙ starts) refl
          ∙ sym (step-to r t (object_in r t (length fs)) fs [] s u refl)

      -- where a colon is,
      colon-here : (fs : List OpenFrame) (x : Span) → colon j (Some c) ≡ x
          → completed p t (at_value awaits.Colon fs) j
          ≡ resume r t fs (value_then r t (length fs) (span_then x (step t value_first)))
      colon-here fs x h =
          ap (λ (x : Span). resume r t fs (value_then r t (length fs) (span_then x (step t value_first))))
          (here-step colon ∙ h)

      pub colon-taken : (fs : List OpenFrame) → (c == 58) ≡ true
          → completed p t (at_value awaits.Colon fs) j ≡ completed p t (at_value awaits.Value fs) (j + 1)
      colon-taken fs h = colon-here fs (taken tt (j + 1)) (if-true (c == 58) _ _ h)

      pub colon-missing : (fs : List OpenFrame) → (c == 58) ≡ false
          → completed p t (at_value awaits.Colon fs) j ≡ fault expected_colon j j
      colon-missing fs h =
          colon-here fs (failed expected_colon j) (if-false (c == 58) _ _ h)
          ∙ resume-fault r t fs expected_colon j j (kept expected_colon refl)

      -- and between the parts of a container.
      module _ (a : Awaits) (h : ContainerKind) (xs : List (PartTree h)) (fs : List OpenFrame) where
        between-here : (u : Step) → part_row r t a h j (Some c) ≡ u
            → completed p t (between_parts a h xs fs) j
            ≡ resume r t fs (parts_step r t (container_of r t h (length fs)) xs u)
        between-here u e =
            ap (λ u. resume r t fs (parts_step r t (container_of r t h (length fs)) xs u))
            (here-step (part_row r t a h) ∙ e)

        pub part-ends : part_row r t a h j (Some c) ≡ closed (j + 1)
            → completed p t (between_parts a h xs fs) j
            ≡ completed p t (after_value (built h xs) fs) (j + 1)
        part-ends e =
            between-here (closed (j + 1)) e
            ∙ ap (λ v. resume r t fs (done v (j + 1))) (builds h xs (length fs) (j + 1))
            ∙ after-is (built h xs) (j + 1) fs

        pub part-wrong : (k : Kind) → part_row r t a h j (Some c) ≡ stuck k j → r.forgives k ≡ false
            → completed p t (between_parts a h xs fs) j ≡ fault k j j
        part-wrong k e bad =
            let parts = container_of r t h (length fs) in
            between-here (stuck k j) e
            ∙ ap (resume r t fs) (if_forgiven-no r t (λ e. parts.build e xs) k j j bad)
            ∙ resume-fault r t fs k j j bad

        pub part-missing : (k : Kind) → part_row r t a h j (Some c) ≡ stuck k j → r.forgives k ≡ true
            → completed p t (between_parts a h xs fs) j ≡ completed p t (after_value (built h xs) fs) j
        part-missing k e ok =
            let parts = container_of r t h (length fs) in
            between-here (stuck k j) e
            ∙ ap (resume r t fs) (if_forgiven-yes r t (λ e. parts.build e xs) k j j ok)
            ∙ ap (λ v. resume r t fs (done v j)) (builds h xs (length fs) j)
            ∙ after-is (built h xs) j fs

      pub comma-taken : (a : Awaits) (h : ContainerKind) (xs : List (PartTree h)) (fs : List OpenFrame)
          → part_row r t a h j (Some c) ≡ step t (part_row r t awaits.Next h) (j + 1)
          → completed p t (between_parts a h xs fs) j ≡ completed p t (between_parts awaits.Next h xs fs) (j + 1)
      comma-taken a h xs fs e = between-here a h xs fs (step t (part_row r t awaits.Next h) (j + 1)) e

      pub item-begins : (a : Awaits) (xs : List Tree) (fs : List OpenFrame)
          → part_row r t a shape.Array j (Some c) ≡ more j
          → completed p t (between_parts a shape.Array xs fs) j
          ≡ completed p t (at_value awaits.Value (items_frame xs ∷ fs)) j
      item-begins a xs fs e =
          between-here a shape.Array xs fs (more j) e ∙ items-value r t good fs xs j within
          ∙ sym (value-here (items_frame xs ∷ fs))

      pub key-begins : (a : Awaits) (ms : List (Text × Tree)) (fs : List OpenFrame)
          → part_row r t a shape.Object j (Some c) ≡ more j
          → completed p t (between_parts a shape.Object ms fs) j ≡ key_from r t fs ms j
      key-begins a ms fs e = between-here a shape.Object ms fs (more j) e

-- Before its first byte a value is awaited.
pub none-read : (p : Settings) → HasRead p [] (at_value awaits.Value [])
unfolding prefix_answer
none-read p = record { goes = λ u. by u (past_blanks u 0) (slice_get u (past_blanks u 0)) } where
  by : (u : List ℕ) (i : ℕ) (o : Option ℕ)
      → if_begun (rules_as owned p) u i o ≡ value_then (rules_as owned p) u 0 (value_first i o)
  by u i None = refl
  by u i (Some c) = sym (value_in-levels (rules_as owned p) u 0 i (omega arith))

pub not-both : (a : Awaits) → IsBeforeValue a → IsBetweenParts a → ⊥
not-both awaits.Value before inside = inside
not-both awaits.Colon before inside = inside
not-both a before inside = before

forgives-on : (p : Settings) (k : Kind) → is_active p.mode ≡ true → is_forgiven k ≡ true
    → (rules_as owned p).forgives k ≡ true
forgives-on p k on h = rw on h

forgives-off : (p : Settings) (k : Kind) → is_active p.mode ≡ false → (rules_as owned p).forgives k ≡ false
forgives-off p k off = rw off refl

-- Where a value ends that is whole after a byte
ends-after : (s : Arrived) (c : ℕ) (x : Tree) (fs : List OpenFrame) → EndsHere s c (after_value x fs)
ends-after s c x [] = inl refl
ends-after s c x (items_frame xs ∷ fs) = tt
ends-after s c x (members_frame ms k ∷ fs) = tt

ends-blank : (s : Arrived) (c : ℕ) → is_blank c ≡ true → EndsHere s c (passed s)
ends-blank (at_value a fs) c blank = tt
ends-blank (between_parts a k xs fs) c blank = tt
ends-blank (at_end v n) c blank = inr (blank, refl)

-- where another byte leads between the parts of a container
abbrev pub RowIs : Awaits → ℕ → (List ℕ → ℕ → Step) → ContainerKind → Type 0
RowIs a c u h = (p : Settings) (t : List ℕ) (j : ℕ) → part_row (rules_as owned p) t a h j (Some c) ≡ u t j

-- What a byte is after a part
pub row-comma : (h : ContainerKind) (c : ℕ) → c ≡ 44 → RowIs awaits.Comma c (λ t j. step t (container_comma h) (j + 1)) h
row-comma h c is = subst (λ c. RowIs awaits.Comma c (λ t j. step t (container_comma h) (j + 1)) h) (sym is) (by h) where
  by : (h : ContainerKind) → RowIs awaits.Comma 44 (λ t j. step t (container_comma h) (j + 1)) h
  by shape.Array = λ p t j. refl
  by shape.Object = λ p t j. refl

pub row-end : (h : ContainerKind) (c : ℕ) → c ≡ closer_of h → RowIs awaits.Comma c (λ t j. closed (j + 1)) h
row-end h c closes = λ p t j. if-true (c == closer_of h) _ _ (eq-eqb c (closer_of h) closes)

pub row-missing : (h : ContainerKind) (c : ℕ) → ¬ (c ≡ 44) → ¬ (c ≡ closer_of h)
    → RowIs awaits.Comma c (λ t j. stuck (comma_kind_of h) j) h
row-missing h c one two = λ p t j.
    if-false (c == closer_of h) _ _ (ne_eqb c (closer_of h) two) ∙ if-false (c == 44) _ _ (ne_eqb c 44 one)

pub missing-forgiven : (h : ContainerKind) → is_forgiven (comma_kind_of h) ≡ true
missing-forgiven shape.Array = refl
missing-forgiven shape.Object = refl

pub row-item : (a : Awaits) (c : ℕ) → IsBeforePart a → begins_part shape.Array c ≡ true
    → (p : Settings) (t : List ℕ) (j : ℕ) → part_row (rules_as owned p) t a shape.Array j (Some c) ≡ more j
row-item awaits.First c before begins p t j = if-true (begins_part shape.Array c) _ _ begins
row-item awaits.Next c before begins p t j = if-true (begins_part shape.Array c) _ _ begins
row-item a c before begins p t j = absurd before

pub row-key : (a : Awaits) (c : ℕ) → IsBeforePart a → begins_part shape.Object c ≡ true
    → (p : Settings) (t : List ℕ) (j : ℕ) → part_row (rules_as owned p) t a shape.Object j (Some c) ≡ more j
row-key awaits.First c before begins p t j = if-true (begins_part shape.Object c) _ _ begins
row-key awaits.Next c before begins p t j = if-true (begins_part shape.Object c) _ _ begins
row-key a c before begins p t j = absurd before

pub object-array : shape.Object ≡ shape.Array → ⊥
object-array h = cc

pub next-of : (a : Awaits) → IsBeforePart a → (a ≡ awaits.First → ⊥) → a ≡ awaits.Next
next-of awaits.First before other = absurd (other refl)
next-of awaits.Next before other = refl
next-of a before other = absurd before

pub between-of : (a : Awaits) → IsBeforePart a → IsBetweenParts a
between-of awaits.First before = tt
between-of awaits.Next before = tt
between-of a before = absurd before

-- Where a part is awaited, the closer ends the container, but after a comma; and another byte is wrong.
pub row-first-end : (h : ContainerKind) (c : ℕ) → begins_part h c ≡ false → c ≡ closer_of h
    → RowIs awaits.First c (λ t j. closed (j + 1)) h
row-first-end h c none is = λ p t j.
    if-false (begins_part h c) _ _ none ∙ if-true (c == closer_of h) _ _ (eq-eqb c (closer_of h) is)

pub row-next-end : (h : ContainerKind) (c : ℕ) → begins_part h c ≡ false → c ≡ closer_of h
    → RowIs awaits.Next c (λ t j. stuck trailing_comma j) h
row-next-end h c none is = λ p t j.
    if-false (begins_part h c) _ _ none ∙ if-true (c == closer_of h) _ _ (eq-eqb c (closer_of h) is)

pub row-no-part : (a : Awaits) (h : ContainerKind) (c : ℕ) → IsBeforePart a → begins_part h c ≡ false
    → ¬ (c ≡ closer_of h) → RowIs a c (λ t j. stuck key_must_be_a_string j) h
row-no-part awaits.First h c before none not = λ p t j.
    if-false (begins_part h c) _ _ none ∙ if-false (c == closer_of h) _ _ (ne_eqb c (closer_of h) not)
row-no-part awaits.Next h c before none not = λ p t j.
    if-false (begins_part h c) _ _ none ∙ if-false (c == closer_of h) _ _ (ne_eqb c (closer_of h) not)
row-no-part a h c before none not = absurd before

-- What is told of it
module _ (a : Awaits) (h : ContainerKind) (xs : List (PartTree h)) (fs : List OpenFrame) (c : ℕ) (other : is_blank c ≡ false)
  where
    abbrev there : Arrived
    there = between_parts a h xs fs

    pub goes-comma : (new : OpenValue) → RowIs a c (λ t j. step t (container_comma h) (j + 1)) h
        → new.awaits ≡ awaits.Next → new.depth ≡ length fs + 1 → new.tree ≡ filled fs (built h xs) → TakesByte new there c
    goes-comma new row is deep left = record {
      next = between_parts awaits.Next h xs fs;
      left = (is, tt, deep, left);
      ends = tt;
      goes = λ p t j here. comma-taken p t j c here other a h xs fs (row p t j);
    }

    pub goes-end : (new : OpenValue) → RowIs a c (λ t j. closed (j + 1)) h → IsLeft new (after_value (built h xs) fs)
        → TakesByte new there c
    goes-end new row left = record {
      next = after_value (built h xs) fs;
      left = left;
      ends = ends-after there c (built h xs) fs;
      goes = λ p t j here. part-ends p t j c here other a h xs fs (row p t j);
    }

    pub goes-missing : (new : OpenValue) (k : Kind) → RowIs a c (λ t j. stuck k j) h → is_forgiven k ≡ true
        → IsLeft new (after_value (built h xs) fs) → ClosesBefore new there c k
    goes-missing new k row ok left = record {
      next = after_value (built h xs) fs;
      left = left;
      goes = λ p t j here on. part-missing p t j c here other a h xs fs k (row p t j) (forgives-on p k on ok);
      fails = λ p t j here off. part-wrong p t j c here other a h xs fs k (row p t j) (forgives-off p k off);
    }

    pub goes-wrong : (k : Kind) → RowIs a c (λ t j. stuck k j) h → is_forgiven k ≡ false
        → Everywhere c (λ p t j. completed p t there j ≡ fault k j j)
    goes-wrong k row bad = λ p t j here. part-wrong p t j c here other a h xs fs k (row p t j) (kept p t k bad)

-- and of whitespace.
passed-left : (v : OpenValue) (s : Arrived) → IsLeft v s → IsLeft v (passed s)
passed-left v (at_value a fs) h = h
passed-left v (between_parts a k xs fs) h = h
passed-left v (at_end x n) h = h

pub goes-blank : (v : OpenValue) (s : Arrived) (c : ℕ) → is_blank c ≡ true → IsLeft v s → TakesByte v s c
goes-blank v s c blank h = record {
  next = passed s;
  left = passed-left v s h;
  ends = ends-blank s c blank;
  goes = λ p t j here. leads-blank p t j c here s blank;
}

-- What is told after a key
pub goes-colon : (new : OpenValue) (fs : List OpenFrame) (c : ℕ) → is_blank c ≡ false → (c == 58) ≡ true
    → AwaitsPart new.depth new.tree fs → IsOfKey new.key fs → new.awaits ≡ awaits.Value
    → TakesByte new (at_value awaits.Colon fs) c
goes-colon new fs c other colon h of is = record {
  next = at_value awaits.Value fs;
  left = (is, tt, h, of);
  ends = tt;
  goes = λ p t j here. colon-taken p t j c here other fs colon;
}

-- What is left open, by what is awaited
pub record AtValue (v : OpenValue) (a : Awaits) (s : Arrived) : Type 0 where
  pub frames : List OpenFrame
  pub all : s ≡ at_value a frames
  pub left : AwaitsPart v.depth v.tree frames
  pub key : IsOfKey v.key frames

pub at-value : (v : OpenValue) (a : Awaits) (s : Arrived) → v.awaits ≡ a → IsBeforeValue a → IsLeft v s → AtValue v a s
at-value v a (at_value b fs) is before h = record {
  frames = fs;
  all = ap (λ c. at_value c fs) (sym h.0 ∙ is);
  left = h.2;
  key = h.3;
}
at-value v a (between_parts b k xs fs) is before h = absurd (not-both a before (subst IsBetweenParts (sym h.0 ∙ is) h.1))
at-value v a (at_end x n) is before h = absurd (subst IsBeforeValue (sym is ∙ h.0) before)

pub record BetweenParts (v : OpenValue) (a : Awaits) (s : Arrived) : Type 0 where
  pub shape : ContainerKind
  pub parts : List (PartTree shape)
  pub frames : List OpenFrame
  pub all : s ≡ between_parts a shape parts frames
  pub deep : v.depth ≡ length frames + 1
  pub left : v.tree ≡ filled frames (built shape parts)

pub between-parts : (v : OpenValue) (a : Awaits) (s : Arrived) → v.awaits ≡ a → IsBetweenParts a → IsLeft v s
    → BetweenParts v a s
between-parts v a (at_value b fs) is inside h =
    absurd (not-both a (subst IsBeforeValue (sym h.0 ∙ is) h.1) inside)
between-parts v a (between_parts b k xs fs) is inside h = record {
  shape = k;
  parts = xs;
  frames = fs;
  all = ap (λ c. between_parts c k xs fs) (sym h.0 ∙ is);
  deep = h.2;
  left = h.3;
}
between-parts v a (at_end x n) is inside h = absurd (subst IsBetweenParts (sym is ∙ h.0) inside)

-- After a value that is put somewhere
pub put-left : (v : OpenValue) (x : Tree) (fs : List OpenFrame) → HasValue v.depth v.tree fs x
    → v.awaits ≡ after_level v.depth → IsLeft v (after_value x fs)
put-left v x [] h is = (is ∙ ap after_level h.0, h.0, h.1)
put-left v x (items_frame xs ∷ fs) h is =
    (is ∙ ap after_level h.0, tt, h.0 ∙ sym (add-one (length fs)), h.1)
put-left v x (members_frame ms l ∷ fs) h is =
    (is ∙ ap after_level h.0, tt, h.0 ∙ sym (add-one (length fs)), h.1)

-- and after a key.
pub key-read : (p : Settings) (t : List ℕ) (j e : ℕ) (ms : List (Text × Tree)) (fs : List OpenFrame) (k : Text)
    → j < length t → (rules_as owned p).key t j ≡ taken k e
    → key_from (rules_as owned p) t fs ms j ≡ completed p t (at_value awaits.Colon (members_frame ms k ∷ fs)) e
key-read p t j e ms fs k lt read =
    let r = rules_as owned p in
    let c = object_in r t (length fs) in
    let inner = value_in r t (suc (length fs)) in
    ap (resume r t fs)
    (parts_at_is r t c (container_in-goes r t (rules_as-advances owned p t) shape.Object (length fs)) ms j lt refl
    ∙ ap (after_part r c t (parts_from r t c) ms) (ap (after_key inner t j) read ∙ by r t fs k (object_colon t e)))
  where
    by : (r : Rules Text Tree) (t : List ℕ) (fs : List OpenFrame) (k : Text) (x : Span)
        → after_colon k (value_in r t (suc (length fs))) x ≡ with_key k (value_then r t (suc (length fs)) x)
    by r t fs k (taken u j) = refl
    by r t fs k (failed kind j) = refl

-- A scalar that is read is put there.
pub scalar-read : (x : Tree) (p : Settings) (t : List ℕ) (j e : ℕ) (fs : List OpenFrame)
    → value_in (rules_as owned p) t (length fs) j ≡ done x e
    → value_from (rules_as owned p) t fs j ≡ completed p t (after_value x fs) e
scalar-read x p t j e fs h = ap (resume (rules_as owned p) t fs) h ∙ after-is p t x e fs
