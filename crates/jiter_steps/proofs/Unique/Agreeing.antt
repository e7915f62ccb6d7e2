-- A reading that refuses repeated keys agrees with the one that does not, or has the error of a repeated key.
use Rattle.jiter_steps.proofs.Words.{◌≡◌, ◌⊎◌, inl, inr, ℕ, false, List, refl, sym, ap, ◌∙◌, Option, Some, None}
use Rattle.jiter_steps.proofs.Words.{false≢true, Kind, duplicate_key, Scanned, taken, failed, Span, Reading, done}
use Rattle.jiter_steps.proofs.Words.{fault, Rules, with_key, after_colon, after_key, inside_at, prefix_answer}
use Rattle.jiter_steps.proofs.Words.{whole_answer, step, colon, object_colon, is_among, after_its_colon, repeated_key}
use Rattle.jiter_steps.proofs.Words.{without_repeats}
use Rattle.std.proofs.Common.{map-id}
use Rattle.jiter_steps.proofs.Reading.Bounds.{either}
use Rattle.jiter_steps.proofs.Reading.Fused.{MapsTo, ScansTo, RefusesTo, Leads, inside_at-mapped, prefix_answer-told}
use Rattle.jiter_steps.proofs.Reading.Fused.{whole_answer-told}

-- the error of a repeated key
abbrev pub IsOfRepeat : Kind → Type 0
IsOfRepeat (duplicate_key key) = Unit {0}
IsOfRepeat k = ⊥

abbrev pub IsRepeat : {A : Type 0} → Reading A → Type 0
IsRepeat (done a e) = ⊥
IsRepeat (fault k i stop) = IsOfRepeat k

-- the same, or the error of a repeated key
abbrev pub Agrees : {A : Type 0} → Reading A → Reading A → Type 0
Agrees x y = (x ≡ y) ⊎ IsRepeat x

-- where a key is refused, it is for that
abbrev pub RefusesRepeats : Option (Kind × ℕ) → Type 0
RefusesRepeats None = Unit {0}
RefusesRepeats (Some f) = IsOfRepeat f.0

colon-repeats : (key : List ℕ) (x : Span) → RefusesRepeats (after_its_colon key x)
colon-repeats key (taken u j) = tt
colon-repeats key (failed k j) = tt

pub key-repeats : {K : Type 0} (characters : K → List ℕ) (keys : List (List ℕ)) (t : List ℕ) (x : Scanned K)
    → RefusesRepeats (repeated_key characters keys t x)
key-repeats characters keys t (taken k e) =
    either RefusesRepeats (is_among (characters k) keys) _ _ (colon-repeats (characters k) (step t colon e)) tt
key-repeats characters keys t (failed k j) = tt

-- every other error is told
abbrev Other : Kind → Type 0
Other k = IsOfRepeat k → ⊥

repeat-or-other : (k : Kind) → IsOfRepeat k ⊎ Other k
repeat-or-other (duplicate_key key) = inl tt
repeat-or-other k = inr (λ is. is)

same-scan : {A : Type 0} (x : Scanned A) → ScansTo Other (λ a. a) x x
same-scan (taken a e) told = refl
same-scan (failed k j) told = refl

refuses-none : (o : Option (Kind × ℕ)) → RefusesRepeats o → RefusesTo Other o None
refuses-none None h = refl
refuses-none (Some f) h = λ told. absurd (told h)

agrees : {A : Type 0} (x y : Reading A) → MapsTo Other (λ a. a) x y → Agrees x y
agrees (done a e) y h = inl (h tt)
agrees (fault k x stop) y h = by (repeat-or-other k) where
  by : IsOfRepeat k ⊎ Other k → Agrees (fault k x stop) y
  by (inl is) = inr is
  by (inr other) = inl (h other)

module _ {K A : Type 0} (characters : K → List ℕ) (r : Rules K A)
    (free : (members : List (K × A)) (t : List ℕ) (i : ℕ) → r.refuses members t i ≡ None)
    (kept : (k : Kind) → IsOfRepeat k → r.forgives k ≡ false) (t : List ℕ) where
  abbrev u : Rules K A
  u = without_repeats characters r

  module _ (f g : ℕ → Reading A) (all : (i : ℕ) → Agrees (f i) (g i)) where
    keyed-agrees : (k : K) (x y : Reading A) → Agrees x y → Agrees (with_key k x) (with_key k y)
    keyed-agrees k x y (inl is) = inl (ap (with_key k) is)
    keyed-agrees k (done a e) y (inr is) = absurd is
    keyed-agrees k (fault kind i stop) y (inr is) = inr is

    colon-agrees : (k : K) (x : Span) → Agrees (after_colon k f x) (after_colon k g x)
    colon-agrees k (taken w j) = keyed-agrees k (f j) (g j) (all j)
    colon-agrees k (failed kind j) = inl refl

    pub key-agrees : (i : ℕ) (x : Scanned K) → Agrees (after_key f t i x) (after_key g t i x)
    key-agrees i (taken k e) = colon-agrees k (object_colon t e)
    key-agrees i (failed kind j) = inl refl

  leads : Leads Other u r (λ k. k) (λ a. a) t
  leads = record {
    forgives = λ k. refl;
    told = λ k forgives is. false≢true (sym (kept k is) ∙ forgives);
    literal = λ l i lt at. same-scan (r.literal t l i);
    number = λ i lt at. same-scan (r.number t i);
    text = λ i quote. same-scan (r.text t i);
    key = λ i quote. same-scan (r.key t i);
    refuses = λ ms i quote.
        rw (free _ t i) (refuses-none (u.refuses ms t i) (key-repeats characters _ t (r.key t i)));
    array = λ b e items. ap (r.array b e) (sym (map-id items));
    object = λ b e members. ap (r.object b e) (sym (map-id members));
  }

  pub inside_at-agrees : (levels i : ℕ) → Agrees (inside_at u t levels i) (inside_at r t levels i)
  inside_at-agrees levels i = agrees _ _ (inside_at-mapped Other u r (λ k. k) (λ a. a) t leads levels i)

  pub prefix_answer-agrees : Agrees (prefix_answer u t) (prefix_answer r t)
  prefix_answer-agrees = agrees _ _ (prefix_answer-told Other u r (λ k. k) (λ a. a) t leads)

  pub whole_answer-agrees : Agrees (whole_answer u t) (whole_answer r t)
  whole_answer-agrees = agrees _ _ (whole_answer-told Other u r (λ k. k) (λ a. a) t leads)
