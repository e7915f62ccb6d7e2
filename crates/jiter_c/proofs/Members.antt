-- Members by their index, and how many parts a container has.
use Rattle.std.proofs.Common.{◌≡◌, ℕ, zero, suc, ◌<◌, ◌≤◌, Bool, true, false, List, [], ◌∷◌, length, get_or}
use Rattle.std.proofs.Common.{refl, sym, ap, ◌∙◌, arith, option_map}
use Rattle.std.specs.Prelude.{Option, Some, None, Vec, if◌then◌else◌, option_and_then, slice_get}
use Rattle.std.specs.Str.{IsUtf8, is_utf8}
use Rattle.std.proofs.lemmas.Str.{IsUtf8-from_is_utf8, is_utf8-from_IsUtf8}
use Rattle.std.specs.declared.alloc.Global.{Global}
use Rattle.std.specs.List.{IsFirstAndRest}
use Rattle.std.proofs.lemmas.Option.{slice_get_read}
use Rattle.jiter_steps.specs.StringDecoder.{text_view}
use Rattle.jiter_value.specs.Stacks.{Member}
use Rattle.jiter_value.specs.Value.{view, views, member_views}
use Rattle.jiter_value.specs.declared.value.JsonValue.{JsonValue, Array, Object}
use Rattle.jiter_value.specs.Pointer.{pointed_by}
use Rattle.jiter_value.proofs.Views.{member_views_is, view_array, view_object}
use Rattle.jiter_steps.specs.Tree.{Tree, object}
use Rattle.jiter_c.specs.Values.{count_items, count_members, member_at, part_at, placed, stepped, typed_value, value_report}

member-there : (i : ℕ) (ms : List Member) (m : Member) → slice_get ms i ≡ Some m
    → Some (text_view m.0, view m.1) ≡ member_at i (member_views ms)
member-there zero (n ∷ ms) m e = ap (option_map (λ (n : Member). (text_view n.0, view n.1))) (sym e)
member-there (suc i) (n ∷ ms) m e = member-there i ms m e
member-there zero [] m e = absurd (cc)
member-there (suc i) [] m e = absurd (cc)

pub member_found : (i : ℕ) (ms : List Member) (m : Member) → i < length ms → m ≡ get_or ms i m
    → Some (text_view m.0, view m.1) ≡ member_at i (member_views ms)
member_found i ms m lt at = member-there i ms m (slice_get_read ms (length ms) i m refl lt at)

pub member_missing : (i : ℕ) (ms : List Member) → length ms ≤ i → None ≡ member_at i (member_views ms)
member_missing i [] h = refl
member_missing zero (m ∷ ms) h = absurd (omega (arith, h))
member_missing (suc i) (m ∷ ms) h = member_missing i ms (omega (arith, h))

pub items_counted : (vs : List JsonValue) → count_items (views vs) ≡ length vs
items_counted [] = refl
items_counted (v ∷ vs) = ap suc (items_counted vs)

pub members_counted : (ms : List Member) → count_members (member_views ms) ≡ length ms
members_counted [] = refl
members_counted (m ∷ ms) = ap suc (members_counted ms)

pub items_told : (v : Vec JsonValue Global) (n : ℕ) → n ≡ length v.items
    → typed_value 6 n ≡ value_report (view (Array v))
items_told v n is =
    ap (typed_value 6) (is ∙ sym (items_counted v.items)) ∙ ap value_report (sym (view_array v))

pub members_told : (v : Vec Member Global) (n : ℕ) → n ≡ length v.items
    → typed_value 7 n ≡ value_report (view (Object v))
members_told v n is =
    ap (typed_value 7) (is ∙ sym (members_counted v.items))
    ∙ ap value_report (sym (view_object v ∙ ap object (sym (member_views_is v.items))))

-- the steps from a value on
pub stepped_here : (steps : List ℕ) (v : Tree) → length steps ≡ 0 → Some v ≡ stepped steps v
stepped_here [] v none = refl
stepped_here (s ∷ ss) v none = absurd (omega (arith, none))

pub stepped_none : (steps : List ℕ) (s : ℕ) (rest : List ℕ) (v : Tree) → IsFirstAndRest steps s rest
    → None ≡ part_at s v → None ≡ stepped steps v
stepped_none steps s rest v is none =
    ap (option_and_then (stepped rest)) none ∙ ap (λ ss. stepped ss v) (sym is.0)

pub stepped_some : (steps : List ℕ) (s : ℕ) (rest : List ℕ) (v w : Tree) (r : Option Tree)
    → IsFirstAndRest steps s rest → Some w ≡ part_at s v → r ≡ stepped rest w → r ≡ stepped steps v
stepped_some steps s rest v w r is part on =
    on ∙ ap (option_and_then (stepped rest)) part ∙ ap (λ ss. stepped ss v) (sym is.0)

-- what a pointer leads to
false-else : (b : Bool) → (b ≡ true → ⊥) → b ≡ false
false-else true h = absurd (h refl)
false-else false h = refl

pub no_text : (pointer steps : List ℕ) (v : Tree) → (IsUtf8 pointer → ⊥) → None ≡ placed pointer steps v
no_text pointer steps v h =
    sym (ap (λ b. if b then option_and_then (stepped steps) (pointed_by pointer v) else None)
    (false-else (is_utf8 pointer) (λ u. h (IsUtf8-from_is_utf8 pointer u))))

pub pointed : (pointer steps : List ℕ) (v : Tree) (r : Option Tree) (at : Option Tree) → IsUtf8 pointer
    → at ≡ pointed_by pointer v → r ≡ option_and_then (stepped steps) at → r ≡ placed pointer steps v
pointed pointer steps v r at utf8 is found =
    found ∙ ap (option_and_then (stepped steps)) is
    ∙ sym (ap (λ b. if b then option_and_then (stepped steps) (pointed_by pointer v) else None)
    (is_utf8-from_IsUtf8 pointer utf8))
