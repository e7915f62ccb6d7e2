-- Values in two texts with the same bytes before a place: what one reading shows of these bytes, the other meets too.
use Rattle.jiter_steps.proofs.Words.{◌≡◌, ℕ, zero, suc, ◌+◌, ◌<◌, false, List, [], ◌∷◌, ◌++◌, length, refl, sym, ap}
use Rattle.jiter_steps.proofs.Words.{◌∙◌, subst, arith, slice_get, slice_index, Option, Some, None, true≢false}
use Rattle.jiter_steps.proofs.Words.{slice_get_within, Kind, Scanned, taken, failed, Span, if-false, ScalarWithin}
use Rattle.jiter_steps.proofs.Words.{past_blanks, start_of, nesting_limit, Step, more, closed, stuck, step}
use Rattle.jiter_steps.proofs.Words.{object_colon, Reading, done, fault, Rules, Container, scalar_at, with_key}
use Rattle.jiter_steps.proofs.Words.{after_colon, after_key, unless_refused, if_last, to_end, follow, after_part}
use Rattle.jiter_steps.proofs.Words.{parts_at, container_at, array_of, object_of, value_with, inside_at, value_at}
use Rattle.jiter_steps.proofs.Words.{if_begun, prefix_answer, whole_answer, Literal, Start}
use Rattle.jiter_steps.specs.declared.parse.ContainerKind.TheVariants as shape
use Rattle.jiter_steps.specs.declared.parse.Start.TheVariants as start
use Rattle.jiter_steps.proofs.Fault.SameSpelling.{SameBefore, index-same}
use Rattle.jiter_steps.proofs.Fault.SameRuns.{IsOfByte, within-too, past_blanks-same}
use Rattle.jiter_steps.proofs.Fault.SameNumbers.{Shown}
use Rattle.jiter_steps.proofs.Fault.SameSteps.{ShownStep, SameStep, first-same, next-same, object_colon-same}
use Rattle.jiter_steps.proofs.Fault.SameStrings.{SameScalar}
use Rattle.jiter_steps.proofs.Grammar.Blanks.{past_blanks-after}
use Rattle.jiter_steps.proofs.Reading.Bounds.{Ahead, SpanAhead, Within, object_colon-ahead}
use Rattle.jiter_steps.proofs.Reading.Values.{Advances, AllWithin, Goes, array_of-goes, object_of-goes}
use Rattle.jiter_steps.proofs.Reading.Values.{inside_at-within, part_after, part-within, next_part-fault}
use Rattle.jiter_steps.proofs.Reading.Values.{next_part-done}

-- an end before m, where the text goes on; or an error of a byte there
abbrev pub ShownReading : {A : Type 0} → List ℕ → ℕ → Reading A → Type 0
ShownReading t m (done a e) = (e < m) × (e < length t)
ShownReading t m (fault k j stop) = (j < m) × IsOfByte t m k

-- an error of a byte before m
abbrev pub ShownFault : {A : Type 0} → List ℕ → ℕ → Reading A → Type 0
ShownFault t m (done a e) = ⊥
ShownFault t m (fault k j stop) = (j < m) × IsOfByte t m k

abbrev pub IsFault : {A : Type 0} → Reading A → Type 0
IsFault (done a e) = ⊥
IsFault (fault k j stop) = Unit {0}

-- the same value and end, or both an error
abbrev pub Meets : {A : Type 0} → Reading A → Reading A → Type 0
Meets (done a e) y = y ≡ done a e
Meets (fault k j stop) y = IsFault y

-- scalars and keys of these rules
pub record KeepsScalars {K A : Type 0} (r : Rules K A) (t u : List ℕ) (m : ℕ) : Type 0 where
  pub literal : (l : Literal) (i : ℕ) → i < length t → SameScalar t m i (r.literal t l i) (r.literal u l i)
  pub number : (i : ℕ) → i < length t → SameScalar t m i (r.number t i) (r.number u i)
  pub text : (i : ℕ) → i < length t → SameScalar t m i (r.text t i) (r.text u i)
  pub key : (i : ℕ) → i < length t → SameScalar t m i (r.key t i) (r.key u i)
  -- a key that is an error, and one that is not and whose value begins
  pub refuses : (members : List (K × A)) (i : ℕ) (f : Kind × ℕ) → i < length t → r.refuses members t i ≡ Some f
      → f.1 < m → (i < m) × (r.refuses members u i ≡ Some f)
  pub frees : (members : List (K × A)) (i e j : ℕ) (k : K) → i < length t → r.key t i ≡ taken k e
      → object_colon t e ≡ taken tt j → j < m → j < length t → r.refuses members t i ≡ None
      → r.refuses members u i ≡ None

module _ (t u : List ℕ) (m : ℕ) (same : SameBefore t u m) where
  -- what is shown of the reading x, which begins at i, the reading y of the other text meets
  abbrev pub Stays : {A : Type 0} → ℕ → Reading A → Reading A → Type 0
  Stays i x y = ShownReading t m x → (i < m) × Meets x y

  -- so where x goes on from i, and a byte is there
  abbrev StaysAhead : {A : Type 0} → ℕ → Reading A → Reading A → Type 0
  StaysAhead i x y = ShownReading t m x → (i < m) × (i < length t) × Meets x y

  -- the steps and the parts of two containers, one of each text
  pub record Keeps {P A : Type 0} (c d : Container P A) : Type 0 where
    pub first : (i : ℕ) → SameStep t u m same (ShownStep t m) i (step t c.first i) (step u d.first i)
    pub next : (i : ℕ) → SameStep t u m same (ShownStep t m) i (step t c.next i) (step u d.next i)
    pub part : (parts : List P) (i : ℕ) → i < length t → Stays i (part_after c parts i) (part_after d parts i)
    pub build : (e : ℕ) (ps : List P) → d.build e ps ≡ c.build e ps

  module _ {K A : Type 0} (r : Rules K A) (strict : (k : Kind) → r.forgives k ≡ false) where
    -- containers
    module _ {P : Type 0} (c d : Container P A) (goes : Goes c t) (goes_too : Goes d u) (keeps : Keeps c d) where
      abbrev PartsToo : List P → ℕ → Reading A
      PartsToo parts i = parts_at r d u (length u) parts i

      fault-too : (parts : List P) (i : ℕ) → i < length u → (y : Reading P) → part_after d parts i ≡ y → IsFault y
          → IsFault (PartsToo parts i)
      fault-too parts i lt (done p e) is h = absurd h
      fault-too parts i lt (fault k j stop) is h =
          subst IsFault (sym (next_part-fault r u d goes_too i j stop parts k lt is ∙ if-false _ _ _ (strict k))) tt

      -- after these parts
      next-stays : (go : List P → ℕ → Reading A) (parts : List P) (i : ℕ) (s z : Step)
          → ((j : ℕ) → j < length t → Stays j (go parts j) (PartsToo parts j)) → Ahead t i s
          → (ShownStep t m s → (i < m) × (i < length t) × (z ≡ s))
          → StaysAhead i (follow r (go parts) (λ e. c.build e parts) s)
          (follow r (PartsToo parts) (λ e. d.build e parts) z)
      next-stays go parts i s z all ahead here = by s ahead here where
        other : Step → Reading A
        other s = follow r (PartsToo parts) (λ e. d.build e parts) s

        by : (s : Step) → Ahead t i s → (ShownStep t m s → (i < m) × (i < length t) × (z ≡ s))
            → StaysAhead i (follow r (go parts) (λ e. c.build e parts) s) (other z)
        by (more j) ahead here = λ shown.
            let rest = all j ahead.1 shown in
            let at = here rest.0 in
            (at.0, at.1, subst (λ z. Meets (go parts j) (other z)) (sym at.2) rest.1)
        by (closed e) ahead here = λ shown.
            let at = here shown.0 in
            (at.0, at.1, ap other at.2 ∙ ap (λ a. done a e) (keeps.build e parts))
        by (stuck k j) ahead here =
            subst (λ x. StaysAhead i x (other z)) (sym (if-false _ (done _ j) _ (strict k)))
            (λ shown.
            let at = here shown in
            (at.0, at.1, subst IsFault (sym (ap other at.2 ∙ if-false _ _ _ (strict k))) tt))

      after_part-stays : (go : List P → ℕ → Reading A)
          → ((parts : List P) (j : ℕ) → j < length t → Stays j (go parts j) (PartsToo parts j))
          → (parts : List P) (i : ℕ) → i < length t → (x : Reading P) → Within t i x
          → Stays i x (part_after d parts i)
          → Stays i (after_part r c t go parts x) (PartsToo parts i)
      after_part-stays go all parts i lt (fault k j stop) within stays =
          subst (λ x. Stays i x (PartsToo parts i)) (sym (if-false _ (done _ stop) _ (strict k)))
          (λ shown.
          let at = stays shown in
          (at.0, fault-too parts i (within-too t u m same i at.0 lt) (part_after d parts i) refl at.1))
      after_part-stays go all parts i lt (done p e) within stays = λ shown.
          let more_parts = parts ++ p ∷ [] in
          let s = step t c.next e in
          let z = step u d.next e in
          let rest = next-stays go more_parts e s z (all more_parts) (goes.next e within.1) (keeps.next e) shown in
          let at = stays (rest.0, rest.1) in
          let is = next_part-done r u d goes_too i e parts p z (within-too t u m same i at.0 lt) at.1 refl in
          (at.0, subst (Meets (follow r (go more_parts) (λ e. c.build e more_parts) s)) (sym is) rest.2)

      parts-stays : (n : ℕ) (parts : List P) (i : ℕ) → i < length t
          → Stays i (parts_at r c t n parts i) (PartsToo parts i)
      unfolding parts_at
      parts-stays zero parts i lt = λ shown. absurd (true≢false shown.1.0)
      parts-stays (suc n) parts i lt =
          after_part-stays (parts_at r c t n) (parts-stays n) parts i lt (part_after c parts i)
          (part-within r t c goes parts i lt) (keeps.part parts i lt)

      container-stays : (i : ℕ) → i < length t → Stays i (container_at r c t i) (container_at r d u i)
      container-stays i lt shown =
          let ahead = goes.first (i + 1) (omega arith) in
          let all = parts-stays (length t) [] in
          let s = next-stays (parts_at r c t (length t)) [] (i + 1) _ _ all ahead (keeps.first (i + 1)) shown in
          (omega (arith, s.0), s.2)

    -- scalars
    scalar-stays : {B : Type 0} (i : ℕ) (x y : Scanned B) → SameScalar t m i x y
        → Stays i (scalar_at i x) (scalar_at i y)
    scalar-stays i (taken a e) y h shown = let at = h shown in (at.0, ap (scalar_at i) at.1)
    scalar-stays i (failed k j) (taken b e) h shown = absurd (h shown).1
    scalar-stays i (failed k j) (failed l x) h shown = h shown

    -- members
    keyed-stays : (key : K) (i : ℕ) (x y : Reading A) → Stays i x y → Stays i (with_key key x) (with_key key y)
    keyed-stays key i (done a e) y h = λ shown. let at = h shown in (at.0, ap (with_key key) at.1)
    keyed-stays key i (fault k j stop) (done b d) h = λ shown. absurd (h shown).1
    keyed-stays key i (fault k j stop) (fault l x y) h = h

    module _ (inner inner_too : ℕ → Reading A) (all : (i : ℕ) → i < length t → Stays i (inner i) (inner_too i)) where
      colon-stays : (key : K) (e : ℕ) (x y : Span) → SpanAhead t e 0 x
          → (Shown t m x → (e < m) × (e < length t) × (y ≡ x))
          → StaysAhead e (after_colon key inner x) (after_colon key inner_too y)
      colon-stays key e (taken w j) y ahead here = λ shown.
          let lt : j < length t = omega (arith, ahead.1) in
          let value = keyed-stays key j (inner j) (inner_too j) (all j lt) shown in
          let at = here (value.0, lt) in
          (at.0, at.1, subst (λ y. Meets (with_key key (inner j)) (after_colon key inner_too y)) (sym at.2) value.1)
      colon-stays key e (failed k j) y ahead here = λ shown.
          let at = here shown in
          (at.0, at.1, subst (λ y. IsFault (after_colon key inner_too y)) (sym at.2) tt)

      key-stays : (i : ℕ) (x y : Scanned K) → ScalarWithin t i x → SameScalar t m i x y
          → Stays i (after_key inner t i x) (after_key inner_too u i y)
      key-stays i (failed k j) (taken key e) within here = λ shown. absurd (here shown).1
      key-stays i (failed k j) (failed l x) within here = here
      key-stays i (taken key e) y within here = λ shown.
          let x = object_colon t e in
          let ahead = object_colon-ahead t e within.1 in
          let rest = colon-stays key e x (object_colon u e) ahead (object_colon-same t u m same e) shown in
          let at = here (rest.0, rest.1) in
          (at.0, subst (λ y. Meets (after_colon key inner x) (after_key inner_too u i y)) (sym at.1) rest.2)

    -- values
    module _ (good : Advances r t) (good_too : Advances r u) (kept : KeepsScalars r t u m) where
      module _ (inner inner_too : ℕ → Reading A) (within : AllWithin t inner) (within_too : AllWithin u inner_too)
          (all : (i : ℕ) → i < length t → Stays i (inner i) (inner_too i)) (i : ℕ) where
        items-keep : Keeps (array_of r inner t i) (array_of r inner_too u i)
        items-keep = record {
          first = first-same t u m same shape.Array;
          next = next-same t u m same shape.Array;
          part = λ ps j lt. all j lt;
          build = λ e ps. refl;
        }

        abbrev here_part : ℕ → Reading (K × A)
        here_part j = (object_of r inner t i).part j

        abbrev other_part : ℕ → Reading (K × A)
        other_part j = (object_of r inner_too u i).part j

        -- a member that is read begins its value at a byte of the text
        value-here : (ms : List (K × A)) (j e b : ℕ) (k : K) (p : K × A) → j < length t → r.key t j ≡ taken k e
            → (x : Span) → object_colon t e ≡ x → SpanAhead t e 0 x → after_colon k inner x ≡ done p b → b < m
            → r.refuses ms t j ≡ None → r.refuses ms u j ≡ None
        value-here ms j e b k p lt key (failed kind v) colon ahead is before free = absurd (cc)
        value-here ms j e b k p lt key (taken w v) colon ahead is before free =
            let inside : v < length t = omega (arith, ahead.1) in
            let grown = by (inner v) (within v inside) is in
            kept.frees ms j e v k lt key colon (omega arith) inside free where
              by : (x : Reading A) → Within t v x → with_key k x ≡ done p b → v < b
              by (done a d) far same = let e : d ≡ b = cc in omega (arith, far.0)
              by (fault kind q stop) far same = absurd (cc)

        free-stays : (ms : List (K × A)) (j b : ℕ) (p : K × A) → j < length t → (x : Scanned K) → r.key t j ≡ x
            → ScalarWithin t j x → after_key inner t j x ≡ done p b → b < m → r.refuses ms t j ≡ None
            → r.refuses ms u j ≡ None
        free-stays ms j b p lt (taken k e) key far is before free =
            value-here ms j e b k p lt key (object_colon t e) refl (object_colon-ahead t e far.1) is before free
        free-stays ms j b p lt (failed kind v) key far is before free = absurd (cc)

        fault-either : (o : Option (Kind × ℕ)) (y : Reading (K × A)) → IsFault y → IsFault (unless_refused o y)
        fault-either None y h = h
        fault-either (Some f) y h = tt

        read-stays : (ms : List (K × A)) (j : ℕ) → j < length t → r.refuses ms t j ≡ None
            → (x : Reading (K × A)) → here_part j ≡ x → Stays j x (other_part j)
            → Stays j x (unless_refused (r.refuses ms u j) (other_part j))
        read-stays ms j lt free (done p e) is stays = λ shown.
            let at = stays shown in
            let none = free-stays ms j e p lt (r.key t j) refl (good.key j lt) is shown.0 free in
            (at.0, ap (λ o. unless_refused o (other_part j)) none ∙ at.1)
        read-stays ms j lt free (fault k v stop) is stays = λ shown.
            let at = stays shown in (at.0, fault-either (r.refuses ms u j) (other_part j) at.1)

        member-stays : (ms : List (K × A)) (j : ℕ) → j < length t
            → Stays j (part_after (object_of r inner t i) ms j) (part_after (object_of r inner_too u i) ms j)
        member-stays ms j lt = by (r.refuses ms t j) refl where
          by : (o : Option (Kind × ℕ)) → r.refuses ms t j ≡ o
              → Stays j (unless_refused o (here_part j)) (unless_refused (r.refuses ms u j) (other_part j))
          by (Some f) refuses = λ shown.
              let at = kept.refuses ms j f lt refuses shown.0 in
              (at.0, subst (λ o. IsFault (unless_refused o (other_part j))) (sym at.1) tt)
          by None free =
              read-stays ms j lt free (here_part j) refl
              (key-stays inner inner_too all j (r.key t j) (r.key u j) (good.key j lt) (kept.key j lt))

        members-keep : Keeps (object_of r inner t i) (object_of r inner_too u i)
        members-keep = record {
          first = first-same t u m same shape.Object;
          next = next-same t u m same shape.Object;
          part = λ ms j lt. member-stays ms j lt;
          build = λ e ps. refl;
        }

        value_with-stays : (s : Start) → i < length t
            → Stays i (value_with r inner t i s) (value_with r inner_too u i s)
        value_with-stays start.Array lt =
            container-stays _ _ (array_of-goes r t good inner within i)
            (array_of-goes r u good_too inner_too within_too i) items-keep i lt
        value_with-stays start.Object lt =
            container-stays _ _ (object_of-goes r t good inner within i)
            (object_of-goes r u good_too inner_too within_too i) members-keep i lt
        value_with-stays start.String lt = scalar-stays i (r.text t i) (r.text u i) (kept.text i lt)
        value_with-stays start.Number lt = scalar-stays i (r.number t i) (r.number u i) (kept.number i lt)
        value_with-stays (start.Literal l) lt = scalar-stays i (r.literal t l i) (r.literal u l i) (kept.literal l i lt)
        value_with-stays start.Nothing lt = λ shown. (shown.0, tt)

        -- a value that begins in the other text with the same byte
        abbrev here : List ℕ → Start
        here l = start_of (slice_index l i)

        value-stays : i < length t → Stays i (value_with r inner t i (here t)) (value_with r inner_too u i (here u))
        value-stays lt shown =
            let v = value_with-stays (here t) lt shown in
            let start = ap start_of (sym (index-same t u m same i v.0 lt)) in
            (v.0, subst (λ s. Meets (value_with r inner t i (here t)) (value_with r inner_too u i s)) start v.1)

      inside-stays : (levels i : ℕ) → i < length t → Stays i (inside_at r t levels i) (inside_at r u levels i)
      unfolding inside_at
      inside-stays zero i lt = λ shown. (shown.0, tt)
      inside-stays (suc levels) i lt =
          value-stays (inside_at r t levels) (inside_at r u levels) (inside_at-within r t good levels)
          (inside_at-within r u good_too levels) (inside-stays levels) i lt

      value_at-stays : (levels i : ℕ) → i < length t → Stays i (value_at r t levels i) (value_at r u levels i)
      value_at-stays levels =
          value-stays (inside_at r t levels) (inside_at r u levels) (inside_at-within r t good levels)
          (inside_at-within r u good_too levels) (inside-stays levels)

      -- complete texts
      prefix-stays : (i : ℕ) (o : Option ℕ) → past_blanks t 0 ≡ i → slice_get t i ≡ o
          → Stays i (if_begun r t i o) (prefix_answer r u)
      unfolding prefix_answer
      prefix-stays i None at here = λ shown. absurd (true≢false shown.1.0)
      prefix-stays i (Some c) at here = λ shown.
          let v = value_at-stays nesting_limit i (slice_get_within t i c here) shown in
          let place = past_blanks-same t u m same 0 i c at here v.0 in
          let begun = ap (λ j. if_begun r u j (slice_get u j)) place ∙ ap (if_begun r u i) (same i c v.0 here) in
          (v.0, subst (Meets (value_at r t nesting_limit i)) (sym begun) v.1)

      trailing-fault : (a : A) (e : ℕ) (y : Reading A) → ((e < m) × (e < length t) → y ≡ done a e)
          → (j : ℕ) (o : Option ℕ) → past_blanks t e ≡ j → slice_get t j ≡ o → ShownFault t m (if_last a e j o)
          → IsFault (to_end u y)
      trailing-fault a e y all j None at here shown = absurd shown
      trailing-fault a e y all j (Some c) at here shown =
          let later = past_blanks-after t e in
          let lt = slice_get_within t j c here in
          let place = past_blanks-same t u m same e j c at here shown.0 in
          let last = ap (λ k. if_last a e k (slice_get u k)) place ∙ ap (if_last a e j) (same j c shown.0 here) in
          subst IsFault (sym (ap (to_end u) (all (omega (arith, shown.0), omega arith)) ∙ last)) tt

      end-stays : (x y : Reading A) → (ShownReading t m x → Meets x y) → ShownFault t m (to_end t x)
          → IsFault (to_end u y)
      end-stays (done a e) y all =
          trailing-fault a e y all (past_blanks t e) (slice_get t (past_blanks t e)) refl refl
      end-stays (fault k j stop) (done b e) all = λ shown. absurd (all shown)
      end-stays (fault k j stop) (fault l x y) all = all

      -- An error of a byte before m is an error in the other text.
      pub whole_answer-stays : ShownFault t m (whole_answer r t) → IsFault (whole_answer r u)
      unfolding whole_answer prefix_answer
      whole_answer-stays =
          end-stays _ _ (λ shown. (prefix-stays (past_blanks t 0) (slice_get t (past_blanks t 0)) refl refl shown).1)
