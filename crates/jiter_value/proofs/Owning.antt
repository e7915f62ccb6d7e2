-- Copies of values, part by part.
use Rattle.jiter_value.proofs.Words.{◌≡◌, ℕ, ◌+◌, ◌<◌, List, [], ◌∷◌, ◌++◌, length, map, take, get_or, refl, ap, ap₂}
use Rattle.jiter_value.proofs.Words.{◌∙◌, sym, arith, Vec, Global, map_push, take_more, Result, Ok, Err, Text, array}
use Rattle.jiter_value.proofs.Words.{object, items_of, members_of, owned_tree, owned_member, owned_text, Member}
use Rattle.jiter_value.proofs.Words.{member_view, view, JsonValue, Array, Object}
use Rattle.std.specs.Prelude.{OnErr}
use Rattle.jiter_value.specs.Owned.{HoldsSuchOrPart}
use Rattle.jiter_value.proofs.MadeTexts.{items_as-of, members_as-of}
use Rattle.jiter_value.proofs.Views.{view_array, view_object}

-- the copy of an array, by the copies of its items
pub copied_array : (v w : Vec JsonValue Global) → map view v.items ≡ map view w.items → view (Array v) ≡ view (Array w)
copied_array v w h = rw (view_array v, view_array w, h) refl

pub copied_object : (v w : Vec Member Global) → map member_view v.items ≡ map member_view w.items
    → view (Object v) ≡ view (Object w)
copied_object v w h = rw (view_object v, view_object w, h) refl

-- the owned copy of an array, by the owned copies of its items
pub owned_array : (v w : Vec JsonValue Global) → map view v.items ≡ map owned_tree (map view w.items)
    → view (Array v) ≡ owned_tree (view (Array w))
owned_array v w h = rw (view_array v, view_array w, h, items_as-of owned_text (map view w.items)) refl

pub owned_object : (v w : Vec Member Global) → map member_view v.items ≡ map owned_member (map member_view w.items)
    → view (Object v) ≡ owned_tree (view (Object w))
owned_object v w h = rw (view_object v, view_object w, h, members_as-of owned_text (map member_view w.items)) refl

-- one more part, moved
pub moved-more : {X Y : Type 0} (f : X → Y) (g : Y → Y) (moved xs : List X) (i : ℕ) (x y : X)
    → map f moved ≡ map g (map f (take i xs)) → i < length xs → x ≡ get_or xs i x → f y ≡ g (f x)
    → map f (moved ++ y ∷ []) ≡ map g (map f (take (i + 1) xs))
moved-more f g moved xs i x y h lt at is =
    map_push f moved y ∙ ap₂ (λ ys z. ys ++ z ∷ []) h is ∙ sym (map_push g (map f (take i xs)) (f x))
    ∙ ap (map g) (sym (map_push f (take i xs) x))
    ∙ ap (λ ys. map g (map f ys)) (ap (λ z. take i xs ++ z ∷ []) at ∙ sym (take_more xs i x lt))

-- a container that is not empty holds a part
array-holds : (P : Text → Type 0) (ts : List JsonValue) → 0 < length ts
    → HoldsSuchOrPart P (array (items_of (map view ts)))
array-holds P [] h = absurd (omega (arith, h))
array-holds P (t ∷ ts) h = tt

object-holds : (P : Text → Type 0) (ms : List Member) → 0 < length ms
    → HoldsSuchOrPart P (object (members_of (map member_view ms)))
object-holds P [] h = absurd (omega (arith, h))
object-holds P (m ∷ ms) h = tt

-- what holds, holds of an error
where-err : {A E : Type 0} (r : Result A E) (P : Type 0) → P → OnErr r P
where-err (Ok a) P p = tt
where-err (Err e) P p = p

pub refused_array : {A E : Type 0} (P : Text → Type 0) (r : Result A E) (v : Vec JsonValue Global) → 0 < length v.items
    → OnErr r (HoldsSuchOrPart P (view (Array v)))
refused_array P r v h = where-err r (HoldsSuchOrPart P (view (Array v))) (rw (view_array v) (array-holds P v.items h))

pub refused_object : {A E : Type 0} (P : Text → Type 0) (r : Result A E) (v : Vec Member Global) → 0 < length v.items
    → OnErr r (HoldsSuchOrPart P (view (Object v)))
refused_object P r v h =
    where-err r (HoldsSuchOrPart P (view (Object v))) (rw (view_object v) (object-holds P v.items h))
