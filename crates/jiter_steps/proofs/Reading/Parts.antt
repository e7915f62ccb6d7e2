-- The parts of a container, one after another: a container that is read is built of such parts.
use Rattle.jiter_steps.proofs.Words.{◌≡◌, ℕ, zero, suc, ◌+◌, ◌<◌, false, List, [], ◌∷◌, ◌++◌, length, refl, sym, subst}
use Rattle.jiter_steps.proofs.Words.{arith, append_assoc, None, Kind, if-false, IsBlank, StandsAfter, Reading, done}
use Rattle.jiter_steps.proofs.Words.{fault, Rules, Container, if_forgiven, follow, after_part, parts_at, container_at}
use Rattle.jiter_steps.proofs.Words.{Step, more, closed, stuck, step}
use Rattle.jiter_steps.proofs.Reading.Bounds.{Within}
use Rattle.jiter_steps.proofs.Grammar.RowSteps.{PartAfter, After, StepIs, Delimits}
use Rattle.jiter_steps.proofs.Reading.Values.{Goes, part-free}

pub after-ahead : (t : List ℕ) (i c e : ℕ) → StandsAfter t i c e → i < e
after-ahead t i c e h = omega (arith, h.blanks.ordered, h.ends)

module _ {P : Type 0} (t : List ℕ) (closer : ℕ) (Begins : ℕ → Type 0) (IsPart : ℕ → P → ℕ → Type 0) where
  -- the part p after whitespace from i on, and the rest after it
  pub record PartThen (i : ℕ) (p : P) (Rest : ℕ → Type 0) : Type 0 where
    pub begin : ℕ
    pub end : ℕ
    pub blanks : IsBlank t i begin
    pub begins : Begins begin
    pub is : IsPart begin p end
    pub rest : Rest end

  -- after a part at i: commas and these parts, and the closer before e
  abbrev pub MoreParts : List P → ℕ → ℕ → Type 0
  MoreParts [] i e = StandsAfter t i closer e
  MoreParts (p ∷ ps) i e = (c : ℕ) × StandsAfter t i 44 c × PartThen c p (λ m. MoreParts ps m e)

  -- after the bracket at i: these parts, and the closer before e
  abbrev pub Parts : List P → ℕ → ℕ → Type 0
  Parts [] i e = StandsAfter t i closer e
  Parts (p ∷ ps) i e = PartThen i p (λ m. MoreParts ps m e)

  -- what a grammar says of parts after a bracket, and of more parts after a part
  pub record Grammar (Are MoreAre : List P → ℕ → ℕ → Type 0) : Type 0 where
    pub none : (i e : ℕ) → StandsAfter t i closer e → Are [] i e
    pub no_more : (i e : ℕ) → StandsAfter t i closer e → MoreAre [] i e
    pub part : (p : P) (ps : List P) (i j m e : ℕ) → IsBlank t i j → Begins j → IsPart j p m → MoreAre ps m e
        → Are (p ∷ ps) i e
    pub comma : (p : P) (ps : List P) (i c e : ℕ) → StandsAfter t i 44 c → Are (p ∷ ps) c e → MoreAre (p ∷ ps) i e

  module _ (Are MoreAre : List P → ℕ → ℕ → Type 0) (grammar : Grammar Are MoreAre) where
    more-are : (ps : List P) (i e : ℕ) → MoreParts ps i e → MoreAre ps i e
    more-are [] i e h = grammar.no_more i e h
    more-are (p ∷ ps) i e h =
        let x = h.2 in
        grammar.comma p ps i h.0 e h.1
        (grammar.part p ps h.0 x.begin x.end e x.blanks x.begins x.is (more-are ps x.end e x.rest))

    pub parts-are : (ps : List P) (i e : ℕ) → Parts ps i e → Are ps i e
    parts-are [] i e h = grammar.none i e h
    parts-are (p ∷ ps) i e h = grammar.part p ps i h.begin h.end e h.blanks h.begins h.is (more-are ps h.end e h.rest)

-- c reads the part p from i to e
abbrev pub Reads : {P A : Type 0} → Container P A → ℕ → P → ℕ → Type 0
Reads c i p e = c.part i ≡ done p e

module _ {K P A : Type 0} (r : Rules K A) (t : List ℕ) (c : Container P A) (closer : ℕ) (Begins : ℕ → Type 0) where
  abbrev pub ReadParts : List P → ℕ → ℕ → Type 0
  ReadParts ps i e = Parts t closer Begins (Reads c) ps i e

  -- built of the parts that are read from b on
  abbrev pub BuiltOf : ℕ → Reading A → Type 0
  BuiltOf b (done a e) = (ps : List P) × (a ≡ c.build e ps) × ReadParts ps b e
  BuiltOf b (fault k x stop) = Unit {0}

  module _ (strict : (k : Kind) → r.forgives k ≡ false) (free : (ps : List P) (i : ℕ) → c.refuses ps i ≡ None)
      (delimits : Delimits t c.first c.next closer Begins)
      (goes : Goes c t) where
    -- these parts are read from b on, and the next one is to begin at i
    abbrev SoFar : ℕ → ℕ → List P → Type 0
    SoFar b i ps =
        (p : P) (rest : List P) (m e : ℕ) → Reads c i p m → MoreParts t closer Begins (Reads c) rest m e
        → ReadParts (ps ++ p ∷ rest) b e

    first-part : (b i : ℕ) → PartAfter t Begins b i → SoFar b i []
    first-part b i h p rest m e is more_parts =
        record { begin = i; end = m; blanks = h.blanks; begins = h.begins; is = is; rest = more_parts }

    next-part : (b i j m : ℕ) (ps : List P) (p : P) → SoFar b i ps → Reads c i p m
        → After t m 44 (PartAfter t Begins) j → SoFar b j (ps ++ p ∷ [])
    next-part b i j m ps p so is h q rest n e also more_parts =
        subst (λ l. ReadParts l b e) (sym (append_assoc ps (p ∷ []) (q ∷ rest)))
        (so p (q ∷ rest) m e is (h.0, h.1, first-part h.0 j h.2 q rest n e also more_parts))

    fault-built : (b : ℕ) (close : ℕ → A) (k : Kind) (x stop : ℕ) → BuiltOf b (if_forgiven r close k x stop)
    fault-built b close k x stop = subst (BuiltOf b) (sym (if-false _ (done (close stop) stop) _ (strict k))) tt

    abbrev GoesOn : ℕ → (List P → ℕ → Reading A) → Type 0
    GoesOn b next = (ps : List P) (j : ℕ) → Begins j → SoFar b j ps → BuiltOf b (next ps j)

    follow-built : (b i m : ℕ) (ps : List P) (p : P) (next : List P → ℕ → Reading A) → GoesOn b next → SoFar b i ps
        → Reads c i p m
        → (s : Step) → StepIs t m closer (After t m 44 (PartAfter t Begins)) s
        → BuiltOf b (follow r (next (ps ++ p ∷ [])) (λ e. c.build e (ps ++ p ∷ [])) s)
    follow-built b i m ps p next go so is (more j) h = go (ps ++ p ∷ []) j h.2.begins (next-part b i j m ps p so is h)
    follow-built b i m ps p next go so is (closed e) h = (ps ++ p ∷ [], refl, so p [] m e is h)
    follow-built b i m ps p next go so is (stuck k j) h = fault-built b (λ e. c.build e (ps ++ p ∷ [])) k j j

    part-built : (b i : ℕ) (ps : List P) (next : List P → ℕ → Reading A) → GoesOn b next → SoFar b i ps
        → (x : Reading P) → c.part i ≡ x → Within t i x → BuiltOf b (after_part r c t next ps x)
    part-built b i ps next go so (done p m) is w =
        follow-built b i m ps p next go so is (step t c.next m) (delimits.next-is m w.1)
    part-built b i ps next go so (fault k x stop) is w = fault-built b (λ e. c.build e ps) k x stop

    parts-built : (b n : ℕ) (ps : List P) (i : ℕ) → Begins i → SoFar b i ps → BuiltOf b (parts_at r c t n ps i)
    unfolding parts_at
    parts-built b zero ps i at so = tt
    parts-built b (suc n) ps i at so =
        subst (λ x. BuiltOf b (after_part r c t (parts_at r c t n) ps x)) (sym (part-free c ps i (free ps i)))
        (part-built b i ps (parts_at r c t n) (parts-built b n) so (c.part i) refl (goes.part i (delimits.within i at)))

    bracket-built : (b : ℕ) (s : Step) → StepIs t b closer (PartAfter t Begins b) s
        → BuiltOf b (follow r (parts_at r c t (length t) []) (λ e. c.build e []) s)
    bracket-built b (more j) h = parts-built b (length t) [] j h.begins (first-part b j h)
    bracket-built b (closed e) h = ([], refl, h)
    bracket-built b (stuck k j) h = fault-built b (λ e. c.build e []) k j j

    -- A container that is read is built of parts that are one after another.
    pub container_at-built : (i : ℕ) → i < length t → BuiltOf (i + 1) (container_at r c t i)
    container_at-built i h = bracket-built (i + 1) (step t c.first (i + 1)) (delimits.first-is (i + 1) (omega arith))
