-- What contracts see of a scratch.
use Rattle.std.specs.Prelude.{◌≡◌, List, []}
use Rattle.jiter_value.specs.Stacks.{Member}
use Rattle.jiter_value.specs.declared.parse.stacks.Stacks.{Stacks}
use Rattle.jiter_value.specs.declared.value.JsonValue.{JsonValue}
use Rattle.jiter_value.specs.declared.value.JsonValue.TheVariants.{Null}

-- its two lists
pub record Lists : Type 0 where
  pub elements : List JsonValue
  pub members : List Member

abbrev pub lists : Stacks → Lists
lists s = record { elements = s.items.items; members = s.members.items }

-- nothing is held, and no container is open
pub record HoldsNothing (s : Stacks) : Type 0 where
  pub items : s.items.items ≡ []
  pub members : s.members.items ≡ []
  pub nest : s.nest.items ≡ []

-- and no value of a document that was read stays beside the stacks
pub record IsCleared (s : Stacks) : Type 0 where
  pub holds : HoldsNothing s
  pub root : s.root ≡ Null
