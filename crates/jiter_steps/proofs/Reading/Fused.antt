-- What is built of one reading of a text maps to what is built of another; where some errors of the one aren't told,
-- with every other error.
use Rattle.jiter_steps.proofs.Words.{◌≡◌, ℕ, zero, suc, ◌+◌, ◌<◌, Bool, true, false, cond, List, [], ◌∷◌, ◌++◌, length}
use Rattle.jiter_steps.proofs.Words.{map, refl, sym, ap, ◌∙◌, subst, slice_index, slice_get, Option, Some, None, Kind}
use Rattle.jiter_steps.proofs.Words.{Scanned, taken, failed, Span, past_blanks, start_of, nesting_limit, Step, more}
use Rattle.jiter_steps.proofs.Words.{closed, stuck, step, object_colon, Reading, done, fault, Rules, Container}
use Rattle.jiter_steps.proofs.Words.{scalar_at, with_key, after_colon, after_key, if_forgiven, follow, after_part}
use Rattle.jiter_steps.proofs.Words.{parts_at, container_at, array_of, object_of, value_with, inside_at, value_at}
use Rattle.jiter_steps.proofs.Words.{if_last, to_end, if_begun, prefix_answer, unless_refused, whole_answer, Literal}
use Rattle.jiter_steps.proofs.Words.{Start, map_push}
use Rattle.jiter_steps.specs.declared.parse.Start.TheVariants as start
use Rattle.jiter_steps.specs.declared.parse.ContainerKind.TheVariants as shape
use Rattle.jiter_steps.proofs.Reading.Bounds.{both}
use Rattle.jiter_steps.proofs.Reading.Values.{part_after}
use Rattle.jiter_steps.proofs.Reading.FirstBytes.{begins-within, string-begins, GoesTo, BeginsAt, key-quote}
use Rattle.jiter_steps.proofs.Reading.FirstBytes.{container_first-begins, container_step-begins}

abbrev pub mapped : {A B : Type 0} → (A → B) → Reading A → Reading B
mapped h (done a e) = done (h a) e
mapped h (fault k i stop) = fault k i stop

abbrev pub scanned_as : {A B : Type 0} → (A → B) → Scanned A → Scanned B
scanned_as h (taken a e) = taken (h a) e
scanned_as h (failed k i) = failed k i

abbrev pub pair : {K L A B : Type 0} → (K → L) → (A → B) → K × A → L × B
pair g h m = (g m.0, h m.1)

abbrev pub pairs : {K L A B : Type 0} → (K → L) → (A → B) → List (K × A) → List (L × B)
pairs g h ms = map (pair g h) ms

module _ (Told : Kind → Type 0) where
  -- a value, or an error that is told
  abbrev pub Tells : {A : Type 0} → Reading A → Type 0
  Tells (done a e) = Unit {0}
  Tells (fault k i stop) = Told k

  abbrev pub TellsScan : {A : Type 0} → Scanned A → Type 0
  TellsScan (taken a e) = Unit {0}
  TellsScan (failed k i) = Told k

  -- what x tells, h takes to y
  abbrev pub MapsTo : {A B : Type 0} → (A → B) → Reading A → Reading B → Type 0
  MapsTo h x y = Tells x → mapped h x ≡ y

  abbrev pub ScansTo : {A B : Type 0} → (A → B) → Scanned A → Scanned B → Type 0
  ScansTo h x y = TellsScan x → scanned_as h x ≡ y

  -- what is refused, where its error is told
  abbrev pub RefusesTo : Option (Kind × ℕ) → Option (Kind × ℕ) → Type 0
  RefusesTo None o = None ≡ o
  RefusesTo (Some f) o = Told f.0 → Some f ≡ o

  pub refuses-same : (o r : Option (Kind × ℕ)) → o ≡ r → RefusesTo o r
  refuses-same None r same = same
  refuses-same (Some f) r same = λ told. same

  -- g and h take what p tells of this text to what q gives, and both forgive the same, which is told
  pub record Leads {K L A B : Type 0} (p : Rules K A) (q : Rules L B) (g : K → L) (h : A → B) (t : List ℕ)
      : Type 0 where
    pub forgives : (k : Kind) → p.forgives k ≡ q.forgives k
    pub told : (k : Kind) → p.forgives k ≡ true → Told k
    pub literal : (l : Literal) (i : ℕ) → i < length t → start_of (slice_index t i) ≡ start.Literal l
        → ScansTo h (p.literal t l i) (q.literal t l i)
    pub number : (i : ℕ) → i < length t → start_of (slice_index t i) ≡ start.Number
        → ScansTo h (p.number t i) (q.number t i)
    pub text : (i : ℕ) → slice_get t i ≡ Some 34 → ScansTo h (p.text t i) (q.text t i)
    pub key : (i : ℕ) → slice_get t i ≡ Some 34 → ScansTo g (p.key t i) (q.key t i)
    pub refuses : (members : List (K × A)) (i : ℕ) → slice_get t i ≡ Some 34
        → RefusesTo (p.refuses members t i) (q.refuses (pairs g h members) t i)
    pub array : (b e : ℕ) (items : List A) → h (p.array b e items) ≡ q.array b e (map h items)
    pub object : (b e : ℕ) (members : List (K × A)) → h (p.object b e members) ≡ q.object b e (pairs g h members)

  -- m takes the parts of c to those of d, and h what is built; both take the same steps, to where a part begins
  pub record Maps {P Q A B : Type 0} (c : Container P A) (d : Container Q B) (m : P → Q) (h : A → B) (t : List ℕ)
      (Begins : ℕ → Type 0) : Type 0 where
    pub first : (i : ℕ) → step t c.first i ≡ step t d.first i
    pub next : (i : ℕ) → step t c.next i ≡ step t d.next i
    pub first-begins : (i : ℕ) → GoesTo Begins (step t c.first i)
    pub next-begins : (i : ℕ) → GoesTo Begins (step t c.next i)
    pub part : (i : ℕ) → Begins i → MapsTo m (c.part i) (d.part i)
    pub refuses : (parts : List P) (i : ℕ) → Begins i → RefusesTo (c.refuses parts i) (d.refuses (map m parts) i)
    pub build : (e : ℕ) (parts : List P) → h (c.build e parts) ≡ d.build e (map m parts)

  module _ {K L A B : Type 0} (p : Rules K A) (q : Rules L B) (g : K → L) (h : A → B) (t : List ℕ)
      (leads : Leads p q g h t) where
    if_forgiven-mapped : (f : ℕ → A) (f' : ℕ → B) → ((e : ℕ) → h (f e) ≡ f' e) → (k : Kind) (i stop : ℕ)
        → mapped h (if_forgiven p f k i stop) ≡ if_forgiven q f' k i stop
    if_forgiven-mapped f f' same k i stop =
        both (λ x y. mapped h x ≡ y) (p.forgives k) _ _ _ _ (ap (λ a. done a stop) (same stop)) refl
        ∙ ap (λ y. cond y (done (f' stop) stop) (fault k i stop)) (leads.forgives k)

    fault-told : (f : ℕ → A) (k : Kind) (i stop : ℕ) → Tells (if_forgiven p f k i stop) → Told k
    fault-told f k i stop = by (p.forgives k) (leads.told k) where
      by : (b : Bool) → (b ≡ true → Told k) → Tells (cond b (done (f stop) stop) (fault k i stop)) → Told k
      by true all told = all refl
      by false all told = told

    scalar-mapped : (i : ℕ) (x : Scanned A) (y : Scanned B) → ScansTo h x y
        → MapsTo h (scalar_at i x) (scalar_at i y)
    scalar-mapped i (taken a e) y same told = ap (scalar_at i) (same told)
    scalar-mapped i (failed k j) y same told = ap (scalar_at i) (same told)

    -- containers
    module _ {P Q : Type 0} (c : Container P A) (d : Container Q B) (m : P → Q) (Begins : ℕ → Type 0)
        (maps : Maps c d m h t Begins) where
      follow-mapped : (n : ℕ → Reading A) (n' : ℕ → Reading B) → ((j : ℕ) → Begins j → MapsTo h (n j) (n' j))
          → (parts : List P) (s : Step) → GoesTo Begins s
          → MapsTo h (follow p n (λ e. c.build e parts) s) (follow q n' (λ e. d.build e (map m parts)) s)
      follow-mapped n n' goes parts (more j) b = goes j b
      follow-mapped n n' goes parts (closed e) b = λ told. ap (λ a. done a e) (maps.build e parts)
      follow-mapped n n' goes parts (stuck k j) b = λ told. if_forgiven-mapped _ _ (λ e. maps.build e parts) k j j

      after_part-mapped : (n : List P → ℕ → Reading A) (n' : List Q → ℕ → Reading B)
          → ((parts : List P) (j : ℕ) → Begins j → MapsTo h (n parts j) (n' (map m parts) j))
          → (parts : List P) (x : Reading P) (y : Reading Q) → MapsTo m x y
          → MapsTo h (after_part p c t n parts x) (after_part q d t n' (map m parts) y)
      after_part-mapped n n' goes parts (done a e) y same = λ told.
          let more_parts = parts ++ a ∷ [] in
          follow-mapped (n more_parts) (n' (map m more_parts)) (goes more_parts) more_parts _ (maps.next-begins e) told
          ∙ ap (follow q (n' (map m more_parts)) (λ e. d.build e (map m more_parts))) (maps.next e)
          ∙ ap (λ l. follow q (n' l) (λ e. d.build e l) (step t d.next e)) (map_push m parts a)
          ∙ ap (after_part q d t n' (map m parts)) (same tt)
      after_part-mapped n n' goes parts (fault k i stop) y same = λ told.
          if_forgiven-mapped _ _ (λ e. maps.build e parts) k i stop
          ∙ ap (after_part q d t n' (map m parts)) (same (fault-told (λ e. c.build e parts) k i stop told))

      part-mapped : (parts : List P) (i : ℕ) → Begins i
          → MapsTo m (part_after c parts i) (part_after d (map m parts) i)
      part-mapped parts i b = by (c.refuses parts i) (d.refuses (map m parts) i) (maps.refuses parts i b) where
        by : (o r : Option (Kind × ℕ)) → RefusesTo o r
            → MapsTo m (unless_refused o (c.part i)) (unless_refused r (d.part i))
        by None r same = subst (λ o. MapsTo m (c.part i) (unless_refused o (d.part i))) same (maps.part i b)
        by (Some f) r same = λ told. ap (λ o. unless_refused o (d.part i)) (same told)

      parts_at-mapped : (n : ℕ) (parts : List P) (i : ℕ) → Begins i
          → MapsTo h (parts_at p c t n parts i) (parts_at q d t n (map m parts) i)
      unfolding parts_at
      parts_at-mapped zero parts i b = λ told. refl
      parts_at-mapped (suc n) parts i b =
          after_part-mapped (parts_at p c t n) (parts_at q d t n) (parts_at-mapped n) parts _ _ (part-mapped parts i b)

      container_at-mapped : (i : ℕ) → MapsTo h (container_at p c t i) (container_at q d t i)
      container_at-mapped i told =
          follow-mapped _ _ (parts_at-mapped (length t) []) [] _ (maps.first-begins (i + 1)) told
          ∙ ap (follow q (parts_at q d t (length t) []) (λ e. d.build e [])) (maps.first (i + 1))

    module _ (f : ℕ → Reading A) (f' : ℕ → Reading B) (same : (i : ℕ) → MapsTo h (f i) (f' i)) where
      -- a member
      with_key-mapped : (k : K) (x : Reading A) (y : Reading B) → MapsTo h x y
          → MapsTo (pair g h) (with_key k x) (with_key (g k) y)
      with_key-mapped k (done a e) y all told = ap (with_key (g k)) (all told)
      with_key-mapped k (fault kind i stop) y all told = ap (with_key (g k)) (all told)

      after_colon-mapped : (k : K) (x : Span) → MapsTo (pair g h) (after_colon k f x) (after_colon (g k) f' x)
      after_colon-mapped k (taken u j) = with_key-mapped k (f j) (f' j) (same j)
      after_colon-mapped k (failed kind j) = λ told. refl

      after_key-mapped : (i : ℕ) (x : Scanned K) (y : Scanned L) → ScansTo g x y
          → MapsTo (pair g h) (after_key f t i x) (after_key f' t i y)
      after_key-mapped i (taken k e) y all told =
          after_colon-mapped k (object_colon t e) told ∙ ap (after_key f' t i) (all tt)
      after_key-mapped i (failed kind j) y all told = ap (after_key f' t i) (all told)

      array-maps : (i : ℕ) → Maps (array_of p f t i) (array_of q f' t i) h h t (BeginsAt shape.Array t)
      array-maps i = record {
        first = λ j. refl;
        next = λ j. refl;
        first-begins = container_first-begins shape.Array t;
        next-begins = container_step-begins shape.Array t;
        part = λ j b. same j;
        refuses = λ items j b. refl;
        build = leads.array i;
      }

      object-maps : (i : ℕ) → Maps (object_of p f t i) (object_of q f' t i) (pair g h) h t (BeginsAt shape.Object t)
      object-maps i = record {
        first = λ j. refl;
        next = λ j. refl;
        first-begins = container_first-begins shape.Object t;
        next-begins = container_step-begins shape.Object t;
        part = λ j b. after_key-mapped j (p.key t j) (q.key t j) (leads.key j (key-quote t j b));
        refuses = λ members j b. leads.refuses members j (key-quote t j b);
        build = leads.object i;
      }

      starts : (i : ℕ) (s : Start) → start_of (slice_index t i) ≡ s → (start.Nothing ≡ s → ⊥) → i < length t
      starts i s e other = begins-within t i (λ z. other (sym z ∙ e))

      value_with-mapped : (i : ℕ) (s : Start) → start_of (slice_index t i) ≡ s
          → MapsTo h (value_with p f t i s) (value_with q f' t i s)
      value_with-mapped i start.Array e =
          container_at-mapped (array_of p f t i) (array_of q f' t i) h _ (array-maps i) i
      value_with-mapped i start.Object e =
          container_at-mapped (object_of p f t i) (object_of q f' t i) (pair g h) _ (object-maps i) i
      value_with-mapped i start.String e = scalar-mapped i _ _ (leads.text i (string-begins t i e))
      value_with-mapped i start.Number e = scalar-mapped i _ _ (leads.number i (starts i start.Number e (λ z. cc)) e)
      value_with-mapped i (start.Literal l) e =
          scalar-mapped i _ _ (leads.literal l i (starts i (start.Literal l) e (λ z. cc)) e)
      value_with-mapped i start.Nothing e = λ told. refl

    pub inside_at-mapped : (levels i : ℕ) → MapsTo h (inside_at p t levels i) (inside_at q t levels i)
    unfolding inside_at
    inside_at-mapped zero i = λ told. refl
    inside_at-mapped (suc levels) i =
        value_with-mapped (inside_at p t levels) (inside_at q t levels) (inside_at-mapped levels) i _ refl

    pub value_at-told : (levels i : ℕ) → MapsTo h (value_at p t levels i) (value_at q t levels i)
    value_at-told levels i =
        value_with-mapped (inside_at p t levels) (inside_at q t levels) (inside_at-mapped levels) i _ refl

    to_end-mapped : (x : Reading A) → mapped h (to_end t x) ≡ to_end t (mapped h x)
    to_end-mapped (done a e) = at (slice_get t (past_blanks t e)) where
      at : (o : Option ℕ) → mapped h (if_last a e (past_blanks t e) o) ≡ if_last (h a) e (past_blanks t e) o
      at None = refl
      at (Some c) = refl
    to_end-mapped (fault k i stop) = refl

    if_begun-told : (i : ℕ) (o : Option ℕ) → MapsTo h (if_begun p t i o) (if_begun q t i o)
    if_begun-told i None = λ told. refl
    if_begun-told i (Some c) = value_at-told nesting_limit i

    pub prefix_answer-told : MapsTo h (prefix_answer p t) (prefix_answer q t)
    unfolding prefix_answer
    prefix_answer-told = if_begun-told (past_blanks t 0) (slice_get t (past_blanks t 0))

    to_end-told : (x : Reading A) (y : Reading B) → MapsTo h x y → MapsTo h (to_end t x) (to_end t y)
    to_end-told (done a e) y same = λ told. to_end-mapped (done a e) ∙ ap (to_end t) (same tt)
    to_end-told (fault k i stop) y same = λ told. ap (to_end t) (same told)

    pub whole_answer-told : MapsTo h (whole_answer p t) (whole_answer q t)
    unfolding whole_answer
    whole_answer-told = to_end-told (prefix_answer p t) (prefix_answer q t) prefix_answer-told

-- where every error is told
abbrev pub AllTold : Kind → Type 0
AllTold k = Unit {0}

all_told : {A : Type 0} (x : Reading A) → Tells AllTold x
all_told (done a e) = tt
all_told (fault k i stop) = tt

module _ {K L A B : Type 0} (p : Rules K A) (q : Rules L B) (g : K → L) (h : A → B) (t : List ℕ)
    (leads : Leads AllTold p q g h t) where
  pub value_at-mapped : (levels i : ℕ) → mapped h (value_at p t levels i) ≡ value_at q t levels i
  value_at-mapped levels i = value_at-told AllTold p q g h t leads levels i (all_told (value_at p t levels i))

  pub prefix_answer-mapped : mapped h (prefix_answer p t) ≡ prefix_answer q t
  prefix_answer-mapped = prefix_answer-told AllTold p q g h t leads (all_told (prefix_answer p t))

  pub whole_answer-mapped : mapped h (whole_answer p t) ≡ whole_answer q t
  whole_answer-mapped = whole_answer-told AllTold p q g h t leads (all_told (whole_answer p t))
