-- The views of containers.
use Rattle.jiter_value.proofs.Words.{◌≡◌, ℤ, Bool, List, [], ◌∷◌, map, refl, ap, ◌∙◌, rules, Vec, Global, CowStr, null}
use Rattle.jiter_value.proofs.Words.{boolean, int, float, string, array, object, member, items_of, members_of}
use Rattle.jiter_value.proofs.Words.{text_view, view, member_views, member_view, JsonValue, Array, Object}
use Rattle.jiter_value.specs.declared.value.JsonValue as value
use Rattle.jiter_value.specs.declared.value.JsonValue.{Null, Int, Float, Str, the_lemmas}

pub member_views_is : (ms : List (CowStr Global × JsonValue)) → member_views ms ≡ members_of (map member_view ms)
member_views_is [] = refl
member_views_is (m ∷ ms) = ap (member (text_view m.0) (view m.1)) (member_views_is ms)

pub view_object : (v : Vec (CowStr Global × JsonValue) Global)
    → view (Object v) ≡ object (members_of (map member_view v.items))
view_object v = by ∙ ap object (member_views_is v.items) where
  by : view (Object v) ≡ object (member_views v.items)
  by = search (rules, the_lemmas)

pub view_array : (v : Vec JsonValue Global) → view (Array v) ≡ array (items_of (map view v.items))
view_array v = search (rules, the_lemmas)

-- Scalars.
pub view_null : view Null ≡ null
view_null = search (rules, the_lemmas)

pub view_bool : (b : Bool) → view (value.Bool b) ≡ boolean b
view_bool b = search (rules, the_lemmas)

pub view_int : (z : ℤ) → view (Int z) ≡ int z
view_int z = search (rules, the_lemmas)

pub view_float : (s : CowStr Global) → view (Float s) ≡ float (text_view s)
view_float s = search (rules, the_lemmas)

pub view_str : (s : CowStr Global) → view (Str s) ≡ string (text_view s)
view_str s = search (rules, the_lemmas)
