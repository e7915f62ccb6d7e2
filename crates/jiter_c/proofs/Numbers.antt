-- What C is told of a number.
use Rattle.std.proofs.Common.{◌≡◌, ℕ, Bool, refl, sym, subst}
use Rattle.std.specs.Prelude.{Option, Some, None, is_some}
use Rattle.std.specs.Option.{unwrap_or}
use Rattle.jiter.specs.Cause.{Cause}
use Rattle.jiter.specs.Reader.{Reply, gave, refused}
use Rattle.jiter_scan.specs.Number.{Number}
use Rattle.jiter_c.specs.Numbers.{IfGiven, IsUnsigned, ReportsUnsigned, WritesUnsigned}

pub if_given : {A : Type 0} (r : Reply A) (a : A) (e : ℕ) (P : A → Type 0) → r ≡ gave a e → P a → IfGiven r P
if_given r a e P is p = subst (λ q. IfGiven q P) (sym is) p

pub if_refused : {A : Type 0} (r : Reply A) (c : Cause) (i stop : ℕ) (P : A → Type 0) → r ≡ refused c i stop
    → IfGiven r P
if_refused r c i stop P is = subst (λ q. IfGiven q P) (sym is) tt

pub unsigned_told : (r : Reply Number) (n : Number) (e : ℕ) (u : Option ℕ) (before : Bool) (old : ℕ) → r ≡ gave n e
    → IsUnsigned n u → ReportsUnsigned r before (is_some u) old (unwrap_or u 0)
unsigned_told r n e u before old is h =
    subst (λ q. ReportsUnsigned q before (is_some u) old (unwrap_or u 0)) (sym is) (u, h, written u) where
      written : (u : Option ℕ) → WritesUnsigned u (is_some u) (unwrap_or u 0)
      written (Some n) = (refl, refl)
      written None = (refl, refl)

pub unsigned_refused : (r : Reply Number) (c : Cause) (i stop : ℕ) (fits : Bool) (value : ℕ) → r ≡ refused c i stop
    → ReportsUnsigned r fits fits value value
unsigned_refused r c i stop fits value is =
    subst (λ q. ReportsUnsigned q fits fits value value) (sym is) (refl, refl)
