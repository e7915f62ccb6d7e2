-- How the rows write stacks, over buffers of which the elements alone are known; and what a scratch shows of them.
use Rattle.std.proofs.Common.{◌≡◌, true, false, List, [], ◌∷◌, Vec, refl, ap, codes}
use Prim.Native.String.{String}
use Rattle.std.specs.declared.alloc.Global.{Global}
use Rattle.jiter_scan.specs.declared.partial_mode.PartialMode.{PartialMode}
use Rattle.jiter_steps.specs.Tree.{Text}
use Rattle.jiter_steps.specs.declared.read_error.ReadError.{ReadError}
use Rattle.jiter_value.specs.Scratch.{Lists, lists, IsCleared}
use Rattle.jiter_value.specs.Stacks.{Member}
use Rattle.jiter_value.specs.declared.parse.settings.Settings.{Settings}
use Rattle.jiter_value.specs.declared.parse.stacks.OpenContainer.{OpenContainer}
use Rattle.jiter_value.specs.declared.parse.stacks.Slot.TheVariants as slot
use Rattle.jiter_value.specs.declared.parse.stacks.Stacks.{Stacks}
use Rattle.jiter_value.specs.declared.value.JsonValue.{JsonValue}
use Rattle.jiter_value.specs.declared.value.JsonValue as value

-- a text of ASCII that lies in the input
abbrev pub ascii : String → Text
ascii s = record { owned = false; bytes = codes s }

-- without names
abbrev pub settings : PartialMode → Settings
settings m = record { allow_inf_nan = false; mode = m }

-- the root container
abbrev pub outermost : OpenContainer
outermost = record { outer = slot.Root; base = 0 }

module _ (error : ReadError) where
  -- these buffers, these open containers, and this beside them
  abbrev pub stacks : Vec JsonValue Global → Vec Member Global → List OpenContainer → JsonValue → Stacks
  stacks es ms os v = record {
    items = es;
    members = ms;
    nest = record { items = os; capacity = 8 };
    root = v;
    error = error;
    reused = false;
  }

  module _ (es : Vec JsonValue Global) (ms : Vec Member Global) where
    -- A scratch shows an element that stays, and a member; neither open containers nor what is beside the lists.
    an_element_shows : (v w : JsonValue) → es.items ≡ v ∷ [] → ms.items ≡ []
        → lists (stacks es ms (outermost ∷ []) w) ≡ record { elements = v ∷ []; members = [] }
    an_element_shows v w had none = rw (had, none) refl

    a_member_shows : (m : Member) (w : JsonValue) → es.items ≡ [] → ms.items ≡ m ∷ []
        → lists (stacks es ms [] w) ≡ record { elements = []; members = m ∷ [] }
    a_member_shows m w none had = rw (none, had) refl

    no_element_hides : (v w : JsonValue) → es.items ≡ v ∷ []
        → lists (stacks es ms [] w) ≡ record { elements = []; members = [] } → ⊥
    no_element_hides v w had e = let none = ap (λ (l : Lists). l.elements) e in cc

    -- It is cleared where both lists are empty, and not while an element stays, a container is open or a value stays
    -- beside them.
    two_empty_lists : es.items ≡ [] → ms.items ≡ [] → IsCleared (stacks es ms [] value.Null)
    two_empty_lists had none = record { holds = record { items = had; members = none; nest = refl }; root = refl }

    an_element_stays : (v w : JsonValue) → es.items ≡ v ∷ [] → IsCleared (stacks es ms [] w) → ⊥
    an_element_stays v w had h = let none = h.holds.items in cc

    a_container_is_open : (w : JsonValue) → IsCleared (stacks es ms (outermost ∷ []) w) → ⊥
    a_container_is_open w h = let none = h.holds.nest in cc

    a_value_stays : IsCleared (stacks es ms [] (value.Bool true)) → ⊥
    a_value_stays h = let none = h.root in cc
