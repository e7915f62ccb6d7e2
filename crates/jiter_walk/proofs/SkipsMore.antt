-- A value that a skip passes with some levels left is passed with more.
use Rattle.std.proofs.Common.{◌≡◌, ◌∙◌, ℕ, zero, suc, ◌+◌, ◌<◌, ◌≤◌, Bool, List, [], ◌∷◌, ◌++◌, length, refl, sym, subst, arith}
use Rattle.std.specs.Prelude.{Option, slice_index}
use Rattle.jiter_scan.specs.Scanned.{Scanned, taken, failed}
use Rattle.jiter_scan.specs.Word.{Span}
use Rattle.jiter_steps.specs.Answer.{only_ends}
use Rattle.jiter_steps.specs.Literal.{start_of}
use Rattle.jiter_steps.specs.Read.{Container, Reading, Rules, after_colon, after_key, after_part, container_at}
use Rattle.jiter_steps.specs.Read.{done, fault, follow, inside_at, parts_at, scalar_at, value_at, value_with}
use Rattle.jiter_steps.specs.Read.{with_key}
use Rattle.jiter_steps.specs.Step.{Step, array_first, array_step, closed, more, object_colon, object_first, object_step}
use Rattle.jiter_steps.specs.Step.{step, stuck}
use Rattle.jiter_scan.specs.Kind.{expected_value}
use Rattle.jiter_steps.proofs.Reading.FirstBytes.{begins-within}
use Rattle.jiter_steps.proofs.Reading.Values.{value-starts}
use Rattle.jiter_steps.specs.declared.parse.Start.{Start}
use Rattle.jiter_steps.specs.declared.parse.Start.TheVariants as start

-- where x is done, y is done alike
abbrev Keeps : {A : Type 0} → Reading A → Reading A → Type 0
Keeps (done a e) y = y ≡ done a e
Keeps (fault k i stop) y = Unit {0}

keeps-same : {A : Type 0} (x : Reading A) → Keeps x x
keeps-same (done a e) = refl
keeps-same (fault k i stop) = tt

module _ (names : Bool) (t : List ℕ) where
  abbrev ends : Rules (Unit {0}) (Unit {0})
  ends = only_ends names

  module _ {P : Type 0} (first next : ℕ → Option ℕ → Step) (part part' : ℕ → Reading P)
      (keeps : (j : ℕ) → Keeps (part j) (part' j)) where
    abbrev container : (ℕ → Reading P) → Container P (Unit {0})
    container p = record {
      first = first;
      next = next;
      part = p;
      refuses = λ parts j. Option.None;
      build = λ e parts. tt;
    }

    follow-keeps : (g h : ℕ → Reading (Unit {0})) → ((j : ℕ) → Keeps (g j) (h j)) → (s : Step)
        → Keeps (follow ends g (λ e. tt) s) (follow ends h (λ e. tt) s)
    follow-keeps g h all (more j) = all j
    follow-keeps g h all (closed e) = refl
    follow-keeps g h all (stuck k j) = tt

    after-keeps : (g h : List P → ℕ → Reading (Unit {0})) → ((ps : List P) (j : ℕ) → Keeps (g ps j) (h ps j))
        → (ps : List P) (x y : Reading P) → Keeps x y
        → Keeps (after_part ends (container part) t g ps x) (after_part ends (container part') t h ps y)
    after-keeps g h all ps (done p e) y is =
        subst (λ z. Keeps (after_part ends (container part) t g ps (done p e)) (after_part ends (container part') t h ps z))
        (sym is) (follow-keeps (g (ps ++ p ∷ [])) (h (ps ++ p ∷ [])) (all (ps ++ p ∷ [])) (step t next e))
    after-keeps g h all ps (fault k i stop) y is = tt

    parts-keeps : (n : ℕ) (ps : List P) (j : ℕ)
        → Keeps (parts_at ends (container part) t n ps j) (parts_at ends (container part') t n ps j)
    unfolding parts_at
    parts-keeps zero ps j = tt
    parts-keeps (suc n) ps j =
        after-keeps (parts_at ends (container part) t n) (parts_at ends (container part') t n) (parts-keeps n) ps (part j)
        (part' j) (keeps j)

    container-keeps : (i : ℕ) → Keeps (container_at ends (container part) t i) (container_at ends (container part') t i)
    container-keeps i =
        follow-keeps (parts_at ends (container part) t (length t) []) (parts_at ends (container part') t (length t) [])
        (parts-keeps (length t) []) (step t first (i + 1))

  module _ (f g : ℕ → Reading (Unit {0})) (all : (j : ℕ) → Keeps (f j) (g j)) where
    key-keeps : (k : Unit {0}) (x y : Reading (Unit {0})) → Keeps x y → Keeps (with_key k x) (with_key k y)
    key-keeps k (done a e) y is =
        subst (λ z. Keeps (with_key k (done a e)) (with_key k z)) (sym is) (keeps-same (with_key k (done a e)))
    key-keeps k (fault c i stop) y is = tt

    colon-keeps : (k : Unit {0}) (x : Span) → Keeps (after_colon k f x) (after_colon k g x)
    colon-keeps k (taken u j) = key-keeps k (f j) (g j) (all j)
    colon-keeps k (failed c j) = tt

    member-keeps : (j : ℕ) (x : Scanned (Unit {0})) → Keeps (after_key f t j x) (after_key g t j x)
    member-keeps j (taken k e) = colon-keeps k (object_colon t e)
    member-keeps j (failed c i) = tt

    value-keeps : (i : ℕ) (s : Start) → Keeps (value_with ends f t i s) (value_with ends g t i s)
    value-keeps i start.Array = container-keeps array_first (array_step t) f g all i
    value-keeps i start.Object =
        container-keeps object_first (object_step t) (λ j. after_key f t j (ends.key t j)) (λ j. after_key g t j (ends.key t j))
        (λ j. member-keeps j (ends.key t j)) i
    value-keeps i start.String = keeps-same (scalar_at i (ends.text t i))
    value-keeps i start.Number = keeps-same (scalar_at i (ends.number t i))
    value-keeps i (start.Literal l) = keeps-same (scalar_at i (ends.literal t l i))
    value-keeps i start.Nothing = tt

  inside-keeps : (n m : ℕ) → n ≤ m → (i : ℕ) → Keeps (inside_at ends t n i) (inside_at ends t m i)
  unfolding inside_at
  inside-keeps zero m le i = tt
  inside-keeps (suc n) zero le i = absurd (omega arith)
  inside-keeps (suc n) (suc m) le i =
      value-keeps (inside_at ends t n) (inside_at ends t m) (inside-keeps n m (omega arith)) i (start_of (slice_index t i))

  pub skips-more : (n m i e : ℕ) → n ≤ m → value_at ends t n i ≡ done tt e → value_at ends t m i ≡ done tt e
  skips-more n m i e le is =
      subst (λ x. Keeps x (value_at ends t m i)) is
      (value-keeps (inside_at ends t n) (inside_at ends t m) (inside-keeps n m le) i (start_of (slice_index t i)))

  -- There is a byte where such a value begins.
  pub skips-inside : (n i e : ℕ) → value_at ends t n i ≡ done tt e → i < length t
  skips-inside n i e is =
      begins-within t i (λ nothing. no-fault (sym (value-starts ends t n i start.Nothing nothing) ∙ is)) where
        no-fault : fault expected_value i i ≡ done (tt {0}) e → ⊥
        no-fault h = absurd (cc)
