-- The turns of the machine, as what the open containers complete a reading to.
use Rattle.jiter_steps.proofs.Words.{◌≡◌, ℕ, suc, ◌+◌, ◌-◌, ◌<◌, ◌≤◌, true, false, List, [], ◌∷◌, length, refl, ap, ◌∙◌}
use Rattle.jiter_steps.proofs.Words.{arith, slice_index, None, Kind, recursion_limit, taken, failed, if_case, start_of}
use Rattle.jiter_steps.proofs.Words.{Step, more, closed, stuck, step, opening, container_first, object_colon, Reading}
use Rattle.jiter_steps.proofs.Words.{done, fault, Rules, Container, if_forgiven, follow, after_part, container_at}
use Rattle.jiter_steps.proofs.Words.{value_with, inside_at, value_at, ContainerKind, Frame, resolve_step, parts_from}
use Rattle.jiter_steps.proofs.Words.{parts_step, value_in, resume, value_from, items_frame, members_frame, array_in}
use Rattle.jiter_steps.proofs.Words.{object_in, after_value, key_from}
use Rattle.jiter_steps.specs.declared.parse.ContainerKind.TheVariants as shape
use Rattle.jiter_steps.proofs.Reading.Values.{Advances, Goes, inside_at-within, inside_at-suc, inside_at-starts}
use Rattle.jiter_steps.proofs.Reading.Values.{inside_at-none, array_of-goes, object_of-goes, parts_at_is, parts-fault}
use Rattle.jiter_steps.proofs.Reading.Values.{member-key, member-colon, member-value}

-- Where a container begins is not built into its value.
pub record IgnoresBegin {K A : Type 0} (r : Rules K A) : Type 0 where
  pub array : (b : ℕ) → r.array b ≡ r.array 0
  pub object : (b : ℕ) → r.object b ≡ r.object 0

module _ {K A : Type 0} (r : Rules K A) (t : List ℕ) where
  abbrev Frames : Type 0
  Frames = List (Frame K A)

  -- what the parts of a container are
  abbrev pub Part : ContainerKind → Type 0
  Part shape.Array = A
  Part shape.Object = K × A

  -- an array or an object that is in so many open containers
  abbrev pub container_in : (b : ContainerKind) → ℕ → Container (Part b) A
  container_in shape.Array depth = array_in r t depth
  container_in shape.Object depth = object_in r t depth

  -- a container of the same parts that is built so
  abbrev rebuilt : {P : Type 0} → Container P A → (ℕ → List P → A) → Container P A
  rebuilt c build =
      record { first = c.first; next = c.next; part = c.part; refuses = c.refuses; build = build }

  -- what closes a container before the value that it awaits
  abbrev pub build_of : Frame K A → ℕ → A
  build_of (items_frame items) e = r.array 0 e items
  build_of (members_frame members k) e = r.object 0 e members

  pub value_in-levels : (depth j : ℕ) → depth ≤ 200 → value_in r t depth j ≡ value_at r t (200 - depth) j
  value_in-levels depth j h =
      let e : 201 - depth ≡ suc (200 - depth) = omega arith in ap (λ n. inside_at r t n j) e
      ∙ inside_at-suc r t (200 - depth) j

  pub value_in-limit : (j : ℕ) → value_in r t 201 j ≡ fault recursion_limit j j
  value_in-limit j = inside_at-none r t 0 j refl

  pub if_forgiven-yes : (close : ℕ → A) (k : Kind) (i stop : ℕ) → r.forgives k ≡ true
      → if_forgiven r close k i stop ≡ done (close stop) stop
  if_forgiven-yes close k i stop h = rw h

  pub if_forgiven-no : (close : ℕ → A) (k : Kind) (i stop : ℕ) → r.forgives k ≡ false
      → if_forgiven r close k i stop ≡ fault k i stop
  if_forgiven-no close k i stop h = rw h

  -- a step, its forgiven error resolved
  follow-resolve_step : (next : ℕ → Reading A) (close : ℕ → A) (s : Step)
      → follow r next close s ≡ follow r next close (resolve_step r.forgives s)
  follow-resolve_step next close (more j) = refl
  follow-resolve_step next close (closed e) = refl
  follow-resolve_step next close (stuck k j) =
      if_case (λ s. if_forgiven r close k j j ≡ follow r next close s) (r.forgives k) _ _
      (λ h. if_forgiven-yes close k j j h) (λ h. refl)

  -- an error of the value that an open container awaits
  after-fault : (depth : ℕ) (f : Frame K A) (k : Kind) (i stop : ℕ)
      → after_value r t depth f (fault k i stop) ≡ if_forgiven r (build_of f) k i stop
  after-fault depth (items_frame items) k i stop = refl
  after-fault depth (members_frame members m) k i stop = refl

  -- An error that is not forgiven passes all containers; one that is closes the innermost.
  pub resume-fault : (fs : Frames) (k : Kind) (i stop : ℕ) → r.forgives k ≡ false
      → resume r t fs (fault k i stop) ≡ fault k i stop
  resume-fault [] k i stop h = refl
  resume-fault (f ∷ fs) k i stop h =
      ap (resume r t fs) (after-fault (length fs) f k i stop ∙ if_forgiven-no (build_of f) k i stop h)
      ∙ resume-fault fs k i stop h

  pub resume-forgiven : (f : Frame K A) (fs : Frames) (k : Kind) (i stop : ℕ) → r.forgives k ≡ true
      → resume r t (f ∷ fs) (fault k i stop) ≡ resume r t fs (done (build_of f stop) stop)
  resume-forgiven f fs k i stop h =
      ap (resume r t fs) (after-fault (length fs) f k i stop ∙ if_forgiven-yes (build_of f) k i stop h)

  -- A step inside these containers, by where it leads.
  module _ {P : Type 0} (c : Container P A) (fs : Frames) (parts : List P) where
    pub step-to : (s u : Step) → resolve_step r.forgives s ≡ u
        → resume r t fs (parts_step r t c parts s) ≡ resume r t fs (parts_step r t c parts u)
    step-to s u h =
        ap (resume r t fs) (follow-resolve_step (parts_from r t c parts) (λ e. c.build e parts) s
        ∙ ap (parts_step r t c parts) h)

    pub step-stuck : (s : Step) (k : Kind) (j : ℕ) → resolve_step r.forgives s ≡ stuck k j → r.forgives k ≡ false
        → resume r t fs (parts_step r t c parts s) ≡ fault k j j
    step-stuck s k j h bad =
        step-to s (stuck k j) h ∙ ap (resume r t fs) (if_forgiven-no (λ e. c.build e parts) k j j bad)
        ∙ resume-fault fs k j j bad

  module _ (good : Advances r t) where
    pub container_in-goes : (b : ContainerKind) (depth : ℕ) → Goes (container_in b depth) t
    container_in-goes shape.Array depth =
        array_of-goes r t good (value_in r t (suc depth)) (inside_at-within r t good (201 - suc depth)) 0
    container_in-goes shape.Object depth =
        object_of-goes r t good (value_in r t (suc depth)) (inside_at-within r t good (201 - suc depth)) 0

    -- The rest of an array is its next item, and what follows that.
    pub items-value : (fs : Frames) (items : List A) (j : ℕ) → j < length t
        → resume r t fs (parts_from r t (array_in r t (length fs)) items j) ≡ value_from r t (items_frame items ∷ fs) j
    items-value fs items j h =
        ap (resume r t fs)
        (parts_at_is r t (array_in r t (length fs)) (container_in-goes shape.Array (length fs)) items j h refl)

    -- The rest of an object is its next key, the colon and its value, and what follows that.
    pub key-value : (fs : Frames) (members : List (K × A)) (j e m : ℕ) (k : K) → j < length t
        → r.refuses members t j ≡ None → r.key t j ≡ taken k e → object_colon t e ≡ taken tt m
        → key_from r t fs members j ≡ value_from r t (members_frame members k ∷ fs) m
    key-value fs members j e m k h free v w =
        let c = object_in r t (length fs) in
        ap (resume r t fs) (parts_at_is r t c (container_in-goes shape.Object (length fs)) members j h free
        ∙ ap (after_part r c t (parts_from r t c) members)
        (member-value r t (value_in r t (suc (length fs))) j e m k _ v w refl))

    -- an error of the key or of the colon
    key-fault : (fs : Frames) (members : List (K × A)) (j x stop : ℕ) (k : Kind) → j < length t
        → r.refuses members t j ≡ None
        → (object_in r t (length fs)).part j ≡ fault k x stop
        → key_from r t fs members j ≡ resume r t fs (if_forgiven r (λ e. r.object 0 e members) k x stop)
    key-fault fs members j x stop k h free v =
        ap (resume r t fs)
        (parts-fault r t (object_in r t (length fs)) (container_in-goes shape.Object (length fs)) j x stop members
        k h free v)

    pub key-failed : (fs : Frames) (members : List (K × A)) (j x : ℕ) (k : Kind) → j < length t
        → r.refuses members t j ≡ None → r.key t j ≡ failed k x
        → key_from r t fs members j ≡ resume r t fs (if_forgiven r (λ e. r.object 0 e members) k x j)
    key-failed fs members j x k h free v =
        key-fault fs members j x j k h free (member-key r t (value_in r t (suc (length fs))) j x k v)

    pub colon-failed : (fs : Frames) (members : List (K × A)) (j e x : ℕ) (key : K) (k : Kind) → j < length t
        → r.refuses members t j ≡ None → r.key t j ≡ taken key e → object_colon t e ≡ failed k x
        → key_from r t fs members j ≡ resume r t fs (if_forgiven r (λ e. r.object 0 e members) k x x)
    colon-failed fs members j e x key k h free v w =
        key-fault fs members j x x k h free (member-colon r t (value_in r t (suc (length fs))) j e x key k v w)

    -- A container begins.
    module _ (any : IgnoresBegin r) (fs : Frames) (i : ℕ) (u : Step) (few : length fs ≤ 200) where
      -- what is read at its bracket
      begun : (b : ContainerKind) → value_with r (value_in r t (suc (length fs))) t i (opening b)
          ≡ parts_step r t (container_in b (length fs)) [] (step t (container_first b) (i + 1))
      begun shape.Array = ap (λ build. container_at r (rebuilt (array_in r t (length fs)) build) t i) (any.array i)
      begun shape.Object = ap (λ build. container_at r (rebuilt (object_in r t (length fs)) build) t i) (any.object i)

      pub container-begins : (b : ContainerKind) → start_of (slice_index t i) ≡ opening b
          → resolve_step r.forgives (step t (container_first b) (i + 1)) ≡ u
          → value_from r t fs i ≡ resume r t fs (parts_step r t (container_in b (length fs)) [] u)
      container-begins b is h =
          let d = length fs in
          let e : 201 - d - 1 ≡ 201 - suc d = omega arith in
          ap (resume r t fs) (inside_at-starts r t (201 - d) i (opening b) (omega arith) is
          ∙ ap (λ n. value_with r (λ j. inside_at r t n j) t i (opening b)) e ∙ begun b)
          ∙ step-to (container_in b d) fs [] (step t (container_first b) (i + 1)) u h
