-- What follows from a reading that chooses by a test.
use Rattle.jiter_scan.proofs.Words.{◌≡◌, ℕ, Bool, true, false, refl, ap, if◌then◌else◌, Kind, taken, failed, Span}
use Rattle.jiter_scan.proofs.Words.{span_then}

-- what holds of both choices holds of the choice
pub if_case : {A : Type 0} (P : A → Type 0) (b : Bool) (x y : A) → (b ≡ true → P x) → (b ≡ false → P y)
    → P (if b then x else y)
if_case P true x y p q = p refl
if_case P false x y p q = q refl

-- and what holds of both choices of two by one test
pub if_both : {A B : Type 0} (R : A → B → Type 0) (b : Bool) (x y : A) (x' y' : B) → (b ≡ true → R x x')
    → (b ≡ false → R y y') → R (if b then x else y) (if b then x' else y')
if_both R true x y x' y' p q = p refl
if_both R false x y x' y' p q = q refl

-- what a choice gives, one of the two gives
pub if_gives : {A P : Type 0} (b : Bool) (x y z : A) → (if b then x else y) ≡ z → (b ≡ true → x ≡ z → P)
    → (b ≡ false → y ≡ z → P) → P
if_gives true x y z h p q = p refl h
if_gives false x y z h p q = q refl h

pub if-true : {A : Type 0} (b : Bool) (x y : A) → b ≡ true → (if b then x else y) ≡ x
if-true b x y e = ap (λ (c : Bool). if c then x else y) e

pub if-false : {A : Type 0} (b : Bool) (x y : A) → b ≡ false → (if b then x else y) ≡ y
if-false b x y e = ap (λ (c : Bool). if c then x else y) e

-- an error is nothing taken
pub failed-taken : {A : Type 0} (k : Kind) (j : ℕ) (a : A) (e : ℕ) → failed k j ≡ taken a e → ⊥
failed-taken k j a e h = cc

-- what is taken tells its value and its end
pub same_taken : {A : Type 0} (a b : A) (i j : ℕ) → taken a i ≡ taken b j → (a ≡ b) × (i ≡ j)
same_taken a b i j h = (cc, cc)

-- where a part and what follows are read, the part ends somewhere
pub span_then-taken : (x : Span) (next : ℕ → Span) (u : Unit {0}) (e : ℕ) → span_then x next ≡ taken u e
    → (j : ℕ) × (x ≡ taken tt j) × (next j ≡ taken u e)
span_then-taken (taken v j) next u e h = (j, refl, h)
span_then-taken (failed k j) next u e h = absurd (failed-taken k j u e h)
