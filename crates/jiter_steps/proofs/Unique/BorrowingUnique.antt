-- With partial reading off: where a value is read without the rule on repeated keys, the reading with the rule gives
-- that value if no object of it has a key twice, and else the error of a repeated key.
use Rattle.jiter_steps.proofs.Words.{◌≡◌, ◌⊎◌, inl, inr, ℕ, zero, suc, ◌+◌, false, List, [], ◌∷◌, ◌++◌, length, refl}
use Rattle.jiter_steps.proofs.Words.{sym, ap, ◌∙◌, subst, append-nil, append_assoc, Option, Some, None, Kind, if-false}
use Rattle.jiter_steps.proofs.Words.{Reading, done, fault, Rules, Container, if_forgiven, unless_refused, follow}
use Rattle.jiter_steps.proofs.Words.{after_part, parts_at, container_at, Step, more, closed, stuck, step}
use Rattle.jiter_steps.proofs.Words.{without_repeats}
use Rattle.jiter_steps.proofs.Reading.Values.{part_after}
use Rattle.jiter_steps.proofs.Unique.Agreeing.{IsRepeat, Agrees, RefusesRepeats}

module _ {A : Type 0} (Unique : A → Type 0) where
  -- the value y is unique where x is the same, and not where x has a repeated key
  abbrev pub Tells : Reading A → Reading A → Type 0
  Tells x (done a e) = (x ≡ done a e → Unique a) × (IsRepeat x → Unique a → ⊥)
  Tells x (fault k i stop) = Unit {0}

  -- a value, and it is not unique
  abbrev pub Refutes : Reading A → Type 0
  Refutes (done a e) = Unique a → ⊥
  Refutes (fault k i stop) = Unit {0}

  repeat-tells : (x y : Reading A) → IsRepeat x → Refutes y → Tells x y
  repeat-tells x (done a e) repeat refutes = (λ is. absurd (subst IsRepeat is repeat), λ h. refutes)
  repeat-tells x (fault k i stop) repeat refutes = tt

  -- Two containers that build alike, one with the rule and one without: what unique parts are, and what refuses one.
  pub record Distinguishes {P : Type 0} (c d : Container P A) (IsGood : P → Type 0) (AreGood : List P → Type 0)
      : Type 0 where
    pub none : AreGood []
    pub push : (ps : List P) (p : P) (i e : ℕ) → d.refuses ps i ≡ None → c.part i ≡ done p e → AreGood ps → IsGood p
        → AreGood (ps ++ p ∷ [])
    pub prefix : (ps qs : List P) → AreGood (ps ++ qs) → AreGood ps
    pub last : (ps : List P) (p : P) → AreGood (ps ++ p ∷ []) → IsGood p
    pub refused : (ps : List P) (p : P) (i e : ℕ) (f : Kind × ℕ) → d.refuses ps i ≡ Some f → c.part i ≡ done p e
        → AreGood (ps ++ p ∷ []) → ⊥
    pub build : (e : ℕ) (ps : List P) → AreGood ps → Unique (c.build e ps)
    pub built : (e : ℕ) (ps : List P) → Unique (c.build e ps) → AreGood ps

  module _ {K : Type 0} (characters : K → List ℕ) (r : Rules K A) (strict : (k : Kind) → r.forgives k ≡ false)
      (t : List ℕ) where
    abbrev u : Rules K A
    u = without_repeats characters r

    strictly : (C : Reading A → Type 0) (close : ℕ → A) (k : Kind) (i stop : ℕ) → C (fault k i stop)
        → C (if_forgiven r close k i stop)
    strictly C close k i stop h = subst C (sym (if-false (r.forgives k) (done (close stop) stop) _ (strict k))) h

    module _ {P : Type 0} (c d : Container P A) (IsGood : P → Type 0) (AreGood : List P → Type 0)
        (same : (i : ℕ) → step t d.next i ≡ step t c.next i) (begin : (i : ℕ) → step t d.first i ≡ step t c.first i)
        (alike : (e : ℕ) (ps : List P) → d.build e ps ≡ c.build e ps)
        (plain : (ps : List P) (i : ℕ) → c.refuses ps i ≡ None)
        (repeats : (ps : List P) (i : ℕ) → RefusesRepeats (d.refuses ps i))
        (agrees : (i : ℕ) → Agrees (d.part i) (c.part i))
        (good-part : (i : ℕ) (p : P) (e : ℕ) → c.part i ≡ done p e → d.part i ≡ done p e → IsGood p)
        (bad-part : (i : ℕ) (p : P) (e : ℕ) → c.part i ≡ done p e → IsRepeat (d.part i) → IsGood p → ⊥)
        (laws : Distinguishes c d IsGood AreGood) where
      -- built of these parts and others after them
      abbrev BuiltOn : List P → Reading A → Type 0
      BuiltOn ps (done a e) = (rest : List P) × (a ≡ c.build e (ps ++ rest))
      BuiltOn ps (fault k i stop) = Unit {0}

      abbrev Go : Type 0
      Go = List P → ℕ → Reading A

      abbrev AllOn : Go → Type 0
      AllOn g = (ps : List P) (j : ℕ) → BuiltOn ps (g ps j)

      follow-on : (g : Go) → AllOn g → (ps : List P) (s : Step)
          → BuiltOn ps (follow r (g ps) (λ e. c.build e ps) s)
      follow-on g all ps (more j) = all ps j
      follow-on g all ps (closed e) = ([], ap (c.build e) (sym (append-nil ps)))
      follow-on g all ps (stuck k j) = strictly (BuiltOn ps) (λ e. c.build e ps) k j j tt

      on-prefix : (ps : List P) (p : P) (x : Reading A) → BuiltOn (ps ++ p ∷ []) x → BuiltOn ps x
      on-prefix ps p (done a e) on = (p ∷ on.0, on.1 ∙ ap (c.build e) (append_assoc ps (p ∷ []) on.0))
      on-prefix ps p (fault k i stop) on = tt

      after_part-on : (g : Go) → AllOn g → (ps : List P) (x : Reading P) → BuiltOn ps (after_part r c t g ps x)
      after_part-on g all ps (done p e) =
          on-prefix ps p _ (follow-on g all (ps ++ p ∷ []) (step t c.next e))
      after_part-on g all ps (fault k i stop) = strictly (BuiltOn ps) (λ e. c.build e ps) k i stop tt

      parts_at-on : (n : ℕ) → AllOn (parts_at r c t n)
      unfolding parts_at
      parts_at-on zero ps i = tt
      parts_at-on (suc n) ps i = after_part-on (parts_at r c t n) (parts_at-on n) ps (part_after c ps i)

      -- a value that is built on parts that are not unique
      bad-on : (ps : List P) → (AreGood ps → ⊥) → (y : Reading A) → BuiltOn ps y → Refutes y
      bad-on ps bad (done a e) on = λ unique. bad (laws.prefix ps on.0 (laws.built e (ps ++ on.0) (rw (← on.1) unique)))
      bad-on ps bad (fault k i stop) on = tt

      abbrev GoTells : Go → Go → Type 0
      GoTells f g = (ps : List P) (j : ℕ) → AreGood ps → Tells (f ps j) (g ps j)

      follow-tells : (f g : Go) → GoTells f g → (ps : List P) → AreGood ps → (s z : Step) → s ≡ z
          → Tells (follow u (f ps) (λ e. d.build e ps) s) (follow r (g ps) (λ e. c.build e ps) z)
      follow-tells f g all ps good s z is =
          rw is (by z) where
            by : (z : Step) → Tells (follow u (f ps) (λ e. d.build e ps) z) (follow r (g ps) (λ e. c.build e ps) z)
            by (more j) = all ps j good
            by (closed e) = (λ h. laws.build e ps good, λ h. absurd h)
            by (stuck k j) = strictly (Tells (if_forgiven r (λ e. d.build e ps) k j j)) (λ e. c.build e ps) k j j tt

      after-repeat : (f : Go) (ps : List P) (x : Reading P) → IsRepeat x → IsRepeat (after_part u d t f ps x)
      after-repeat f ps (done p e) is = absurd is
      after-repeat f ps (fault k i stop) is = strictly IsRepeat (λ e. d.build e ps) k i stop is

      module _ (f g : Go) (all : GoTells f g) (on : AllOn g) (ps : List P) (good : AreGood ps) (i : ℕ) where
        abbrev With : Reading P → Reading A
        With x = after_part u d t f ps x

        -- where a repeat is told, and the parts with this one are not unique
        repeat-refutes : (p : P) (e : ℕ) (x : Reading P) → IsRepeat x → (AreGood (ps ++ p ∷ []) → ⊥)
            → Tells (With x) (after_part r c t g ps (done p e))
        repeat-refutes p e x is bad =
            repeat-tells (With x) _ (after-repeat f ps x is)
            (bad-on (ps ++ p ∷ []) bad _ (follow-on g on (ps ++ p ∷ []) (step t c.next e)))

        part-tells : (p : P) (e : ℕ) → c.part i ≡ done p e → d.refuses ps i ≡ None → (x : Reading P) → d.part i ≡ x
            → (x ≡ done p e) ⊎ IsRepeat x → Tells (With x) (after_part r c t g ps (done p e))
        part-tells p e is free x reads (inl also) =
            rw also (follow-tells f g all (ps ++ p ∷ [])
            (laws.push ps p i e free is good (good-part i p e is (reads ∙ also))) (step t d.next e) (step t c.next e)
            (same e))
        part-tells p e is free x reads (inr repeat) =
            repeat-refutes p e x repeat
            (λ all_good. bad-part i p e is (rw reads repeat) (laws.last ps p all_good))

        after-tells : (o : Option (Kind × ℕ)) → d.refuses ps i ≡ o → RefusesRepeats o → (y : Reading P)
            → c.part i ≡ y → Tells (With (unless_refused o (d.part i))) (after_part r c t g ps y)
        after-tells o refuses repeat (fault k j stop) is =
            strictly (Tells (With (unless_refused o (d.part i)))) (λ e. c.build e ps) k j stop tt
        after-tells None refuses repeat (done p e) is = part-tells p e is refuses (d.part i) refl (rw (← is) (agrees i))
        after-tells (Some z) refuses repeat (done p e) is =
            repeat-refutes p e (fault z.0 z.1 z.1) repeat (laws.refused ps p i e z refuses is)

      parts_at-tells : (n : ℕ) → GoTells (parts_at u d t n) (parts_at r c t n)
      unfolding parts_at
      parts_at-tells zero ps i good = tt
      parts_at-tells (suc n) ps i good =
          let f = parts_at u d t n in
          let g = parts_at r c t n in
          rw (plain ps i)
          (after-tells f g (parts_at-tells n) (parts_at-on n) ps good i (d.refuses ps i) refl (repeats ps i)
          (c.part i) refl)

      -- A container that is read is unique where the other reading agrees, and not where that has a repeated key.
      pub container-tells : (i : ℕ) → Tells (container_at u d t i) (container_at r c t i)
      container-tells i =
          follow-tells (parts_at u d t (length t)) (parts_at r c t (length t)) (parts_at-tells (length t)) [] laws.none
          (step t d.first (i + 1)) (step t c.first (i + 1)) (begin (i + 1))
