-- A machine under way, row by row: before its first turn, at the first byte and after a bracket.
use Rattle.std.proofs.Common.{◌≡◌, ◌≤◌, ◌<◌, inl, inr, true, List, [], ◌∷◌, None, Vec, refl, ◌∙◌, arith, codes, pos}
use Rattle.std.specs.Prelude.{vec_capacity, vec_len}
use Rattle.std.specs.declared.alloc.Global.{Global}
use Rattle.jiter_steps.specs.Read.{done}
use Rattle.jiter_steps.specs.Tree.{Tree, int, array, items_of}
use Rattle.jiter_steps.specs.declared.read_error.ReadError.{ReadError}
use Rattle.jiter_steps.proofs.Computed.{computed_readings}
use Rattle.jiter_value.specs.Machine.{IsUnderWay, held, progress, turns_left}
use Rattle.jiter_value.specs.Stacks.{Member}
use Rattle.jiter_value.specs.Value.{view}
use Rattle.jiter_value.specs.declared.parse.settings.Settings.{Settings}
use Rattle.jiter_value.specs.declared.parse.stacks.State.TheVariants as state
use Rattle.jiter_value.specs.declared.value.JsonValue.{JsonValue, Null}
use Rattle.jiter_value.specs.declared.value.JsonValue as value
use Rattle.test_laws.proofs.Value.Buffers.{outermost, stacks}

abbrev listed : List Tree → Tree
listed vs = array (items_of vs)

-- `[1]`
module _ (p : Settings) (error : ReadError) (es : Vec JsonValue Global) (ms : Vec Member Global)
    (no_items : es.items ≡ []) (no_members : ms.items ≡ []) where
  before_the_first_turn : (h : 0 ≤ 3)
      → let m = progress (codes "[1]") p None h in (m.position ≡ 0) × (held m ≡ 0) × (turns_left m ≡ 10)
  before_the_first_turn h = (refl, refl, refl)

  at_the_first_byte : IsUnderWay (codes "[1]") p 0 state.Root (stacks error es ms [] Null)
  at_the_first_byte =
      unfold computed_readings in (
        record {
          reaches = (refl, (rw (no_items, no_members) (refl, refl), omega arith, omega arith, λ item. cc));
          begins = omega arith;
          within = (omega arith, omega arith);
          grows = inl (refl, refl);
        },
        tt,
        refl,
      )

  after_the_bracket : vec_len es < vec_capacity es
      → IsUnderWay (codes "[1]") p 1 state.Item (stacks error es ms (outermost ∷ []) Null)
  after_the_bracket room =
      unfold computed_readings in (
        record {
          reaches = (
            rw no_items refl,
            (rw (no_items, no_members) (omega arith, (refl, refl)), omega arith, omega arith, λ item. room),
          );
          begins = omega arith;
          within = (omega arith, omega arith);
          grows = inr (inl tt);
        },
        tt,
        refl,
      )

  -- Before its first part no byte is passed, and no item is there that was not read.
  no_byte_passed : IsUnderWay (codes "[1]") p 1 state.Root (stacks error es ms [] Null) → ⊥
  no_byte_passed h = by (unfold computed_readings in h.0.reaches.0) where
    by : done (listed (int (pos 1) ∷ [])) 3 ≡ done (int (pos 1)) 2 → ⊥
    by e = cc

  no_other_item : (more : Vec JsonValue Global) → more.items ≡ Null ∷ []
      → IsUnderWay (codes "[1]") p 1 state.Item (stacks error more ms (outermost ∷ []) Null) → ⊥
  no_other_item more has h = by (unfold computed_readings in h.0.reaches.0 ∙ rw has refl) where
    by : done (listed (int (pos 1) ∷ [])) 3 ≡ done (listed (view Null ∷ int (pos 1) ∷ [])) 3 → ⊥
    by e = cc

  -- A machine that is done is not under way, and no value is beside the stacks.
  not_done : IsUnderWay (codes "[1]") p 3 state.Done (stacks error es ms [] Null) → ⊥
  not_done h = h.1

  no_value_beside : IsUnderWay (codes "[1]") p 1 state.Item (stacks error es ms (outermost ∷ []) (value.Bool true))
      → ⊥
  no_value_beside h = let none = h.2 in cc
