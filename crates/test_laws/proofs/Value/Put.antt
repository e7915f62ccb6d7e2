-- Scalars and keys that are put where they belong, row by row.
use Rattle.std.proofs.Common.{◌≡◌, ℕ, ◌∙◌, true, [], ◌∷◌, Vec, refl, sym, ap, arith, codes, pos}
use Rattle.std.specs.declared.alloc.Global.{Global}
use Rattle.std.specs.declared.borrow.CowStr.{CowStr}
use Rattle.jiter_scan.specs.Kind.{expected_value}
use Rattle.jiter_scan.specs.declared.partial_mode.PartialMode.TheVariants.{Off}
use Rattle.jiter_steps.specs.StringDecoder.{text_view}
use Rattle.jiter_steps.specs.Tree.{Text, Tree, boolean, int, object, members_of}
use Rattle.jiter_steps.specs.Read.{Reading, done, fault}
use Rattle.jiter_steps.specs.declared.read_error.ReadError.{ReadError}
use Rattle.jiter_steps.proofs.Computed.{computed_readings}
use Rattle.jiter_value.specs.Settings.{borrowed}
use Rattle.jiter_value.specs.Stacks.{Member, from_key}
use Rattle.jiter_value.specs.Turns.{IsPutAt, IsKeyAt}
use Rattle.jiter_value.specs.Value.{view}
use Rattle.jiter_value.specs.declared.parse.stacks.Slot.TheVariants as slot
use Rattle.jiter_value.specs.declared.value.JsonValue.{JsonValue, Null}
use Rattle.jiter_value.specs.declared.value.JsonValue as value
use Rattle.jiter_value.proofs.Views.{view_bool, view_null}
use Rattle.test_laws.proofs.Value.Buffers.{ascii, settings, outermost, stacks}

-- the object that a key and the number 1 make
abbrev object_of : Text → Reading Tree
object_of key = done (object (members_of ((key, int (pos 1)) ∷ []))) 7

keys_differ : object_of (ascii "a") ≡ object_of (ascii "") → ⊥
keys_differ e = let keys : ascii "a" ≡ ascii "" = cc in let bytes = ap (λ (x : Text). x.bytes) keys in cc

module _ (error : ReadError) where
  module _ (es : Vec JsonValue Global) (ms : Vec Member Global) (no_members : ms.items ≡ []) where
    -- `true`
    a_document : es.items ≡ []
        → IsPutAt borrowed (codes "true") (stacks error es ms [] Null) 0 slot.Root
        (stacks error es ms [] (value.Bool true)) 4
    a_document no_items = record {
      value = λ p. unfold computed_readings in rw (view_bool true) refl;
      stands = rw (no_items, no_members) (refl, refl);
      nest = refl;
      held = rw (view_bool true) refl;
      ahead = omega arith;
      within = omega arith;
    }

    -- Another value is not put there, nor is it there at another place.
    not_another : IsPutAt borrowed (codes "true") (stacks error es ms [] Null) 0 slot.Root
        (stacks error es ms [] Null) 4 → ⊥
    not_another h =
        unfold computed_readings in
        let put : done (boolean true) 4 ≡ done (view Null) 4 = h.value (settings Off) in
        let read = put ∙ ap (λ v. done v 4) view_null in
        cc

    not_elsewhere : IsPutAt borrowed (codes "true ") (stacks error es ms [] Null) 0 slot.Root
        (stacks error es ms [] (value.Bool true)) 5 → ⊥
    not_elsewhere h =
        unfold computed_readings in
        let put : done (boolean true) 4 ≡ done (view (value.Bool true)) 5 = h.value (settings Off) in
        cc

    -- `[null,true]`: the second item, after the first
    an_item : (more : Vec JsonValue Global) → es.items ≡ Null ∷ [] → more.items ≡ Null ∷ (value.Bool true ∷ [])
        → IsPutAt borrowed (codes "[null,true]") (stacks error es ms (outermost ∷ []) Null) 6 slot.Item
        (stacks error more ms (outermost ∷ []) Null) 10
    an_item more had has = record {
      value = λ p. unfold computed_readings in rw (had, has, view_bool true) refl;
      stands = rw (has, no_members) (omega arith, (refl, refl));
      nest = refl;
      held = rw (had, has, view_bool true, view_null) refl;
      ahead = omega arith;
      within = omega arith;
    }

  module _ (es : Vec JsonValue Global) (ms more : Vec Member Global) (k : CowStr Global) (none : es.items ≡ []) where
    -- `{"a":true}`: the value of the last member, which had its key alone
    a_member : ms.items ≡ (k, Null) ∷ [] → more.items ≡ (k, value.Bool true) ∷ []
        → IsPutAt borrowed (codes "{\"a\":true}") (stacks error es ms (outermost ∷ []) Null) 5 slot.Member
        (stacks error es more (outermost ∷ []) Null) 9
    a_member had has = record {
      value = λ p. unfold computed_readings in rw (had, has, view_bool true) refl;
      stands = rw (has, none) (omega arith, (refl, refl));
      nest = refl;
      held = rw (had, has, view_bool true) refl;
      ahead = omega arith;
      within = omega arith;
    }

    -- `{"a":1}`: a key, with any value, as null, until its own comes
    a_key : ms.items ≡ [] → more.items ≡ (k, Null) ∷ [] → text_view k ≡ ascii "a"
        → IsKeyAt borrowed (codes "{\"a\":1}") (stacks error es ms (outermost ∷ []) Null) 1
        (stacks error es more (outermost ∷ []) Null) 5
    a_key had has is = record {
      value = λ p. unfold computed_readings in rw (had, has, is) refl;
      stands = rw (has, none) (omega arith, (refl, refl));
      nest = refl;
      held = rw (had, has) refl;
      ahead = omega arith;
      within = omega arith;
    }

    -- `{"a":1,"b":2}`: a key after a member
    a_second_key : (l : CowStr Global) (v : JsonValue) → ms.items ≡ (l, v) ∷ []
        → more.items ≡ (l, v) ∷ ((k, Null) ∷ []) → text_view k ≡ ascii "b"
        → IsKeyAt borrowed (codes "{\"a\":1,\"b\":2}") (stacks error es ms (outermost ∷ []) Null) 7
        (stacks error es more (outermost ∷ []) Null) 11
    a_second_key l v had has is = record {
      value = λ p. unfold computed_readings in rw (had, has, is) refl;
      stands = rw (has, none) (omega arith, (refl, refl));
      nest = refl;
      held = rw (had, has) (omega arith);
      ahead = omega arith;
      within = omega arith;
    }

    -- Its value does not begin at the colon, and no other key is put there.
    module _ (had : ms.items ≡ []) where
      abbrev IsPutTo : ℕ → Type 0
      IsPutTo j = IsKeyAt borrowed (codes "{\"a\":1}") (stacks error es ms (outermost ∷ []) Null) 1
          (stacks error es more (outermost ∷ []) Null) j

      key_read : from_key borrowed (settings Off) (codes "{\"a\":1}") (stacks error es ms (outermost ∷ []) Null) 1
          ≡ object_of (ascii "a")
      key_read = unfold computed_readings in rw had refl

      not_at_the_colon : IsPutTo 4 → ⊥
      not_at_the_colon h = by (unfold computed_readings in sym key_read ∙ h.value (settings Off)) where
        by : object_of (ascii "a") ≡ fault expected_value 4 4 → ⊥
        by e = cc

      no_other_key : more.items ≡ (k, Null) ∷ [] → text_view k ≡ ascii "" → IsPutTo 5 → ⊥
      no_other_key has other h =
          keys_differ (sym key_read ∙ h.value (settings Off) ∙ (unfold computed_readings in rw (has, other) refl))
