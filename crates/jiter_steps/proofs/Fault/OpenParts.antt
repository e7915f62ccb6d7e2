-- A container that is not read to its end can be closed after the parts before the error.
use Rattle.jiter_steps.proofs.Words.{◌≡◌, inl, inr, ℕ, zero, suc, ◌+◌, ◌<◌, ◌≤◌, true, false, List, [], ◌∷◌, ◌++◌}
use Rattle.jiter_steps.proofs.Words.{length, take, refl, sym, ap, ◌∙◌, subst, arith, append-nil, append_assoc, None}
use Rattle.jiter_steps.proofs.Words.{Kind, if-false, IsBlank, IsFiller, AreClosers, can_go_on, Reading, done, fault}
use Rattle.jiter_steps.proofs.Words.{Rules, Container, if_forgiven, follow, after_part, parts_at, container_at, Step}
use Rattle.jiter_steps.proofs.Words.{more, closed, stuck, step}
use Rattle.jiter_steps.proofs.Reading.Bounds.{Within}
use Rattle.jiter_steps.proofs.Fault.Completions.{CanClose, OpenTo, longer-same, no-blanks, ends-after, taken-length}
use Rattle.jiter_steps.proofs.Fault.Completions.{prefix-kept}
use Rattle.jiter_steps.proofs.Cut.DocumentPrefixes.{prefix-length, prefix-get}
use Rattle.jiter_steps.proofs.Fault.OpenNumbers.{no_live}
use Rattle.jiter_steps.proofs.Reading.Parts.{MoreParts, Parts}
use Rattle.jiter_steps.proofs.Grammar.RowSteps.{PartAfter, After, StepIs, Delimits}
use Rattle.jiter_steps.proofs.Fault.SameSpelling.{SameBefore, same-sooner, blanks-too, after-too}
use Rattle.jiter_steps.proofs.Fault.StuckSteps.{BlanksOrComma, Sticks}
use Rattle.jiter_steps.proofs.Reading.Values.{Goes, part-free}

-- a part may begin anywhere
abbrev pub Anywhere : ℕ → Type 0
Anywhere j = Unit {0}

closers-more : (cs : List ℕ) (closer : ℕ) → AreClosers (closer ∷ []) → AreClosers cs → AreClosers (cs ++ closer ∷ [])
closers-more [] closer h all = h
closers-more (c ∷ cs) closer h all = (all.0, closers-more cs closer h all.1)

-- with a filler and closers after x, something is from i to the text's end
abbrev pub CanEndHere : {P : Type 0} → (List ℕ → ℕ → P → ℕ → Type 0) → List ℕ → ℕ → ℕ → Type 0
CanEndHere {P} Is t i x = (i ≤ x) × CanClose t x (λ u. (p : P) × Is u i p (length u))

module _ {P : Type 0} (closer : ℕ) (IsPart : List ℕ → ℕ → P → ℕ → Type 0) where
  abbrev pub MorePartsOf : List ℕ → List P → ℕ → ℕ → Type 0
  MorePartsOf u ps i e = MoreParts u closer Anywhere (IsPart u) ps i e

  abbrev pub PartsOf : List ℕ → List P → ℕ → ℕ → Type 0
  PartsOf u ps i e = Parts u closer Anywhere (IsPart u) ps i e

  -- parts and the closer, after a bracket
  abbrev pub CanEnd : List ℕ → ℕ → ℕ → Type 0
  CanEnd t b x = (b ≤ x) × CanClose t x (λ u. (ps : List P) × PartsOf u ps b (length u))

  -- What a container's parts are: those read are there, those begun can be ended, and some filler is one.
  pub record Fillable {A : Type 0} (t : List ℕ) (c : Container P A) (Begins : ℕ → Type 0) : Type 0 where
    pub is_closer : AreClosers (closer ∷ [])
    pub too : (u v : List ℕ) (i e : ℕ) (p : P) → SameBefore u v e → IsPart u i p e → IsPart v i p e
    pub is : (i e : ℕ) (p : P) → Begins i → c.part i ≡ done p e → IsPart t i p e
    pub begun : (i x stop : ℕ) (k : Kind) → Begins i → c.part i ≡ fault k x stop → can_go_on k ≡ true
        → CanEndHere IsPart t i x
    pub filler : List ℕ
    pub is_filler : IsFiller filler
    pub fills : (i e : ℕ) (q : P) → IsPart t i q e → (x : ℕ) → x ≤ length t
        → (p : P) × IsPart (take x t ++ (filler ++ [])) x p (x + length filler)

module _ {K P A : Type 0} (r : Rules K A) (strict : (k : Kind) → r.forgives k ≡ false) (t : List ℕ) (c : Container P A)
    (free : (ps : List P) (i : ℕ) → c.refuses ps i ≡ None) (closer : ℕ) (Begins : ℕ → Type 0)
    (IsPart : List ℕ → ℕ → P → ℕ → Type 0)
    (delimits : Delimits t c.first c.next closer Begins) (sticks : Sticks t c.first c.next) (goes : Goes c t)
    (fillable : Fillable closer IsPart t c Begins) where
  -- after these parts from b on the next one is to begin at i; so it is in each text with the same bytes before i
  record SoFar (b i : ℕ) (ps : List P) : Type 0 where
    ordered : b ≤ i
    parts : (u : List ℕ) (p : P) (rest : List P) (m e : ℕ) → SameBefore t u i → IsPart u i p m
        → MorePartsOf closer IsPart u rest m e → PartsOf closer IsPart u (ps ++ p ∷ rest) b e

  first-part : (b i : ℕ) → IsBlank t b i → SoFar b i []
  first-part b i h = record {
    ordered = h.ordered;
    parts = λ u p rest m e same is more_parts.
        let blanks = blanks-too t u i same b i (omega arith) h in
        record { begin = i; end = m; blanks = blanks; begins = tt; is = is; rest = more_parts };
  }

  next-part : (b i j m : ℕ) (ps : List P) (p : P) → SoFar b i ps → i ≤ m → IsPart t i p m
      → After t m 44 (IsBlank t) j → SoFar b j (ps ++ p ∷ [])
  next-part b i j m ps p so le is h =
      let before_comma = h.1.blanks.ordered in
      let comma_ends = h.1.ends in
      record {
        ordered = omega (arith, so.ordered);
        parts = λ u q rest n e same also more_parts.
            let comma = after-too t u j same m 44 h.0 h.2.ordered h.1 in
            let blanks = blanks-too t u j same h.0 j (omega arith) h.2 in
            let here = fillable.too t u i m p (same-sooner t u m j (omega arith) same) is in
            subst (λ l. PartsOf closer IsPart u l b e) (sym (append_assoc ps (p ∷ []) (q ∷ rest)))
            (so.parts u p (q ∷ rest) m e (same-sooner t u i j (omega arith) same) here
            (h.0, comma, record { begin = j; end = n; blanks = blanks; begins = tt; is = also; rest = more_parts }));
      }

  -- the closer after a last part
  close-part : (b i x m : ℕ) (ps : List P) (p : P) (filler closers : List ℕ) → SoFar b i ps → i ≤ x → x ≤ length t
      → IsFiller filler → AreClosers closers → IsPart (take x t ++ (filler ++ closers)) i p m
      → IsBlank (take x t ++ (filler ++ closers)) m (length (take x t ++ (filler ++ closers)))
      → CanEnd closer IsPart t b x
  close-part b i x m ps p filler closers so le within is_filler are_closers is blanks =
      let u = take x t ++ (filler ++ closers) in
      let v = u ++ closer ∷ [] in
      let here = fillable.too u v i m p (longer-same u (closer ∷ []) m) is in
      let prefix = prefix-kept t x within (filler ++ closers) in
      let same : SameBefore t v i =
      λ j c lt e. longer-same u (closer ∷ []) x j c (omega arith) (prefix j c (omega arith) e) in
      let all = so.parts v p [] m (length v) same here (ends-after u m closer blanks) in
      let text : v ≡ take x t ++ (filler ++ (closers ++ closer ∷ [])) =
      append_assoc (take x t) (filler ++ closers) (closer ∷ [])
      ∙ ap (λ w. take x t ++ w) (append_assoc filler closers (closer ∷ [])) in (
        omega (arith, so.ordered),
        record {
          filler = filler;
          closers = closers ++ closer ∷ [];
          is_filler = is_filler;
          are_closers = closers-more closers closer fillable.is_closer are_closers;
          within = within;
          is = subst (λ w. (qs : List P) × PartsOf closer IsPart w qs b (length w)) text (ps ++ p ∷ [], all);
        },
      )

  -- the closer after the bracket
  close-bracket : (b x : ℕ) → IsBlank t b x → CanEnd closer IsPart t b x
  close-bracket b x h =
      let long : length (take x t) ≡ x = prefix-length t x h.within in
      let blanks = blanks-too t (take x t) x (prefix-get t x h.within) b x (omega arith) h in
      let ends = ends-after (take x t) b closer (subst (IsBlank (take x t) b) (sym long) blanks) in (
        h.ordered,
        record {
          filler = [];
          closers = closer ∷ [];
          is_filler = inl refl;
          are_closers = fillable.is_closer;
          within = h.within;
          is = ([], ends);
        },
      )

  -- at an error that can go on the container can be closed
  abbrev Open : ℕ → Reading A → Type 0
  Open b x = OpenTo (CanEnd closer IsPart t b) x

  fault-open : (b : ℕ) (close : ℕ → A) (k : Kind) (x stop : ℕ) → (can_go_on k ≡ true → CanEnd closer IsPart t b x)
      → Open b (if_forgiven r close k x stop)
  fault-open b close k x stop h = subst (Open b) (sym (if-false _ (done (close stop) stop) _ (strict k))) h

  abbrev GoesOn : ℕ → (List P → ℕ → Reading A) → Type 0
  GoesOn b next = (ps : List P) (j : ℕ) → Begins j → SoFar b j ps → Open b (next ps j)

  -- stuck after a part: at once, or after a comma
  stuck-after : (b i m x : ℕ) (ps : List P) (p : P) → SoFar b i ps → i ≤ m → IsPart t i p m → BlanksOrComma t m x
      → CanEnd closer IsPart t b x
  stuck-after b i m x ps p so le is (inl h) =
      let u = take x t ++ ([] ++ []) in
      let same = prefix-kept t x h.within ([] ++ []) in
      let long = taken-length t x h.within ([] ++ []) in
      let here = fillable.too t u i m p (same-sooner t u m x h.ordered same) is in
      let at_end : x ≡ length u = omega arith in
      let blanks = subst (IsBlank u m) at_end (blanks-too t u x same m x (omega arith) h) in
      close-part b i x m ps p [] [] so (omega (arith, h.ordered)) h.within (inl refl) tt here blanks
  stuck-after b i m x ps p so le is (inr h) =
      let w = fillable.filler in
      let within = h.2.within in
      let part = fillable.fills i m p is x within in
      let long = taken-length t x within (w ++ []) in
      let size = ap length (append-nil w) in
      let u = take x t ++ (w ++ []) in
      let next = next-part b i x m ps p so le is h in
      close-part b x x (x + length w) (ps ++ p ∷ []) part.0 w [] next (omega arith) within
      fillable.is_filler tt part.1 (no-blanks u (x + length w) (length u) (omega arith) (omega arith))

  follow-open : (b i m : ℕ) (ps : List P) (p : P) (next : List P → ℕ → Reading A) → GoesOn b next → SoFar b i ps
      → i ≤ m → m ≤ length t → IsPart t i p m → (s : Step) → step t c.next m ≡ s
      → StepIs t m closer (After t m 44 (PartAfter t Begins)) s
      → Open b (follow r (next (ps ++ p ∷ [])) (λ e. c.build e (ps ++ p ∷ [])) s)
  follow-open b i m ps p next go so le within is (more j) step h =
      go (ps ++ p ∷ []) j h.2.begins (next-part b i j m ps p so le is (h.0, h.1, h.2.blanks))
  follow-open b i m ps p next go so le within is (closed e) step h = tt
  follow-open b i m ps p next go so le within is (stuck k x) step h =
      fault-open b (λ e. c.build e (ps ++ p ∷ [])) k x x
      (λ live. stuck-after b i m x ps p so le is (sticks.next-stuck m x k within step))

  part-open : (b i : ℕ) (ps : List P) (next : List P → ℕ → Reading A) → GoesOn b next → Begins i → SoFar b i ps
      → (x : Reading P) → c.part i ≡ x → Within t i x → Open b (after_part r c t next ps x)
  part-open b i ps next go at so (done p m) is w =
      follow-open b i m ps p next go so (omega (arith, w.0)) w.1 (fillable.is i m p at is) (step t c.next m) refl
      (delimits.next-is m w.1)
  part-open b i ps next go at so (fault k x stop) is w =
      fault-open b (λ e. c.build e ps) k x stop (λ live. by (fillable.begun i x stop k at is live)) where
        by : CanEndHere IsPart t i x → CanEnd closer IsPart t b x
        by (le, part) =
            let u = take x t ++ (part.filler ++ part.closers) in
            close-part b i x (length u) ps part.is.0 part.filler part.closers so le w.2.within part.is_filler
            part.are_closers part.is.1 (no-blanks u (length u) (length u) refl (omega arith))

  parts-open : (b n : ℕ) (ps : List P) (i : ℕ) → Begins i → SoFar b i ps → Open b (parts_at r c t n ps i)
  unfolding parts_at
  parts-open b zero ps i at so = no_live
  parts-open b (suc n) ps i at so =
      subst (λ x. Open b (after_part r c t (parts_at r c t n) ps x)) (sym (part-free c ps i (free ps i)))
      (part-open b i ps (parts_at r c t n) (parts-open b n) at so (c.part i) refl (goes.part i (delimits.within i at)))

  bracket-open : (b : ℕ) → b ≤ length t → (s : Step) → step t c.first b ≡ s
      → StepIs t b closer (PartAfter t Begins b) s
      → Open b (follow r (parts_at r c t (length t) []) (λ e. c.build e []) s)
  bracket-open b within (more j) step h = parts-open b (length t) [] j h.begins (first-part b j h.blanks)
  bracket-open b within (closed e) step h = tt
  bracket-open b within (stuck k x) step h =
      fault-open b (λ e. c.build e []) k x x (λ live. close-bracket b x (sticks.first-stuck b x k within step))

  -- A container that is not read to its end can be closed.
  pub container_at-open : (i : ℕ) → i < length t → OpenTo (CanEnd closer IsPart t (i + 1)) (container_at r c t i)
  container_at-open i h =
      bracket-open (i + 1) (omega arith) (step t c.first (i + 1)) refl (delimits.first-is (i + 1) (omega arith))
