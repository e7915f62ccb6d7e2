-- What equality compares.
use Rattle.jiter_value.proofs.Words.{◌≡◌, ℕ, zero, suc, ◌<◌, Bool, false, List, [], ◌∷◌, length, map, get_or, refl, sym}
use Rattle.jiter_value.proofs.Words.{ap, ◌∙◌, true≢false, Vec, Global, Decides, slice_get_read, slice_get, Some, Text}
use Rattle.jiter_value.proofs.Words.{Tree, array, object, Items, Members, items_of, members_of, owned_text, owned_tree}
use Rattle.jiter_value.proofs.Words.{owned_member, HoldSame, Member, member_view, view, JsonValue, Array, Object}
use Rattle.jiter_value.proofs.MadeTexts.{items_as-of, members_as-of}
use Rattle.jiter_value.proofs.Views.{view_array, view_object}

pub along : {b : Bool} {P Q : Type 0} → Decides b P → (P → Q) → (Q → P) → Decides b Q
along d there back = (λ e. there (d.0 e), λ q. d.1 (back q))

differs : {P : Type 0} → (P → ⊥) → Decides false P
differs never = (λ e. absurd (true≢false (sym e)), λ p. absurd (never p))

-- ---- containers
inside-array : (is js : Items) → array is ≡ array js → is ≡ js
inside-array is js e = cc

inside-object : (ms ns : Members) → object ms ≡ object ns → ms ≡ ns
inside-object ms ns e = cc

same-lists : (xs ys : List Tree) → items_of xs ≡ items_of ys → xs ≡ ys
same-lists [] [] e = refl
same-lists (x ∷ xs) (y ∷ ys) e =
    let first : x ≡ y = cc in
    let others : items_of xs ≡ items_of ys = cc in
    rw (first, same-lists xs ys others) refl
same-lists xs ys e = absurd (cc)

same-member_lists : (ms ns : List (Text × Tree)) → members_of ms ≡ members_of ns → ms ≡ ns
same-member_lists [] [] e = refl
same-member_lists ((k, v) ∷ ms) ((l, w) ∷ ns) e =
    let keys : k ≡ l = cc in
    let values : v ≡ w = cc in
    let others : members_of ms ≡ members_of ns = cc in
    rw (keys, values, same-member_lists ms ns others) refl
same-member_lists ms ns e = absurd (cc)

owned-view-Array : (v : Vec JsonValue Global)
    → owned_tree (view (Array v)) ≡ array (items_of (map owned_tree (map view v.items)))
owned-view-Array v = ap owned_tree (view_array v) ∙ ap array (items_as-of owned_text (map view v.items))

owned-view-Object : (v : Vec Member Global)
    → owned_tree (view (Object v)) ≡ object (members_of (map owned_member (map member_view v.items)))
owned-view-Object v = ap owned_tree (view_object v) ∙ ap object (members_as-of owned_text (map member_view v.items))

pub array-decides : (b : Bool) (v w : Vec JsonValue Global)
    → Decides b (map owned_tree (map view v.items) ≡ map owned_tree (map view w.items))
    → Decides b (HoldSame (view (Array v)) (view (Array w)))
array-decides b v w d =
    along d (λ h. owned-view-Array v ∙ ap (λ ts. array (items_of ts)) h ∙ sym (owned-view-Array w))
    (λ e. same-lists _ _ (inside-array _ _ (sym (owned-view-Array v) ∙ e ∙ owned-view-Array w)))

pub object-decides : (b : Bool) (v w : Vec Member Global)
    → Decides b (map owned_member (map member_view v.items) ≡ map owned_member (map member_view w.items))
    → Decides b (HoldSame (view (Object v)) (view (Object w)))
object-decides b v w d =
    along d (λ h. owned-view-Object v ∙ ap (λ ms. object (members_of ms)) h ∙ sym (owned-view-Object w))
    (λ e. same-member_lists _ _ (inside-object _ _ (sym (owned-view-Object v) ∙ e ∙ owned-view-Object w)))

-- what is at one place of two lists that are the same
at-same : {X Y Z : Type 0} (f : X → Y) (g : Y → Z) (xs ys : List X) (i : ℕ) (x y : X) → slice_get xs i ≡ Some x
    → slice_get ys i ≡ Some y → map g (map f xs) ≡ map g (map f ys) → g (f x) ≡ g (f y)
at-same f g [] ys i x y hx hy e = absurd (cc)
at-same f g (a ∷ xs) [] i x y hx hy e = absurd (cc)
at-same f g (a ∷ xs) (b ∷ ys) zero x y hx hy e = let p : a ≡ x = cc in let q : b ≡ y = cc in rw (sym p, sym q) (cc)
at-same f g (a ∷ xs) (b ∷ ys) (suc i) x y hx hy e = at-same f g xs ys i x y hx hy (cc)

-- two lists differ where what is at one place of them does
pub differ-at : {X Y Z : Type 0} (f : X → Y) (g : Y → Z) (xs ys : List X) (i : ℕ) (x y : X) (b : Bool) (P : Type 0)
    → i < length xs → i < length ys → x ≡ get_or xs i x → y ≡ get_or ys i y → (g (f x) ≡ g (f y) → P)
    → Decides b P → b ≡ false → Decides false (map g (map f xs) ≡ map g (map f ys))
differ-at f g xs ys i x y b P in-xs in-ys hx hy part d not =
    let in-one = slice_get_read xs (length xs) i x refl in-xs hx in
    let in-other = slice_get_read ys (length ys) i y refl in-ys hy in
    differs (λ e. true≢false (sym (d.1 (part (at-same f g xs ys i x y in-one in-other e))) ∙ not))
