-- The machine as contracts see it.
use Rattle.std.specs.Prelude.{◌≡◌, ℕ, ◌≤◌, List, [], length, reverse, Option, None, Some, Err}
use Rattle.std.specs.Global.{Box}
use Rattle.jiter_steps.specs.Blank.{past_blanks}
use Rattle.jiter_steps.specs.ReadError.{WhereRefused}
use Rattle.jiter_value.specs.Reading.{GivesWhole}
use Rattle.jiter_value.specs.Settings.{answer_as, borrowed}
use Rattle.jiter_value.specs.Size.{held_in, left_at}
use Rattle.jiter_value.specs.Stacks.{Member}
use Rattle.jiter_value.specs.Turns.{GoesOn, HasReached}
use Rattle.jiter_value.specs.Value.{MayGrow}
use Rattle.jiter_value.specs.declared.parse.settings.Settings.{Settings}
use Rattle.jiter_value.specs.declared.parse.stacks.OpenContainer.{OpenContainer}
use Rattle.jiter_value.specs.declared.parse.stacks.Stacks.{Stacks}
use Rattle.jiter_value.specs.declared.parse.stacks.State.{State}
use Rattle.jiter_value.specs.declared.parse.stacks.State.TheVariants as state
use Rattle.jiter_value.specs.declared.parse.turns.Reading.{Reading}
use Rattle.jiter_value.specs.declared.value.JsonValue.{JsonValue}
use Rattle.jiter_value.specs.declared.value.JsonValue.TheVariants.{Null}

-- All that a machine holds: what is read and how, how far the reading came, the elements of all open arrays, the
-- members of all open objects, the open containers with where each begins in these, and what is awaited. In an object
-- that awaits a value the last member is the key, with the integer 0.
pub record Progress : Type 0 where
  pub text : List ℕ
  pub settings : Settings
  pub position : ℕ
  pub elements : List JsonValue
  pub members : List Member
  pub nest : List OpenContainer
  pub state : State
  pub within : position ≤ length text

-- where the reading is: before the first turn there is none
abbrev pub position_in : Option (Box Reading) → ℕ
position_in None = 0
position_in (Some b) = b.value.at

abbrev pub progress : (t : List ℕ) → Settings → (r : Option (Box Reading)) → position_in r ≤ length t → Progress
progress t p None h = record {
  text = t;
  settings = p;
  position = 0;
  elements = [];
  members = [];
  nest = [];
  state = state.Root;
  within = h;
}
progress t p (Some b) h = record {
  text = t;
  settings = b.value.settings;
  position = b.value.at;
  elements = b.value.stacks.items.items;
  members = b.value.stacks.members.items;
  nest = b.value.stacks.nest.items;
  state = b.value.state;
  within = h;
}

-- how much is left to do
abbrev pub turns_left : Progress → ℕ
turns_left m = left_at m.text m.nest m.position

-- how many scalars, containers and keys are held, open containers and awaiting keys among them: at the end none
abbrev pub held : Progress → ℕ
held m = held_in m.state (reverse m.nest) m.elements m.members 0

-- the same of a reading
abbrev pub held_by : Reading → ℕ
held_by r = held_in r.state (reverse r.stacks.nest.items) r.stacks.items.items r.stacks.members.items 0

-- Turns led here, and more of the text's value is awaited; no value is beside the stacks.
abbrev pub IsUnderWay : List ℕ → Settings → ℕ → State → Stacks → Type 0
IsUnderWay t p i a s = HasReached borrowed ⊥ t (past_blanks t 0) p s i a × GoesOn a × (s.root ≡ Null)

abbrev pub IsReadingOn : List ℕ → Reading → Type 0
IsReadingOn t r = IsUnderWay t r.settings r.at r.state r.stacks

-- The reading of a text has ended: its value is beside the stacks, or it was given up for what the text answers.
abbrev pub HasEnded : List ℕ → Settings → ℕ → State → Stacks → Type 0
HasEnded t p j state.Done s = HasReached borrowed ⊥ t (past_blanks t 0) p s j state.Done
HasEnded t p j state.GivenUp s =
    GivesWhole (Err s.error) j (answer_as borrowed p t) × (j ≤ length t)
    × WhereRefused {A = JsonValue} (Err s.error) (MayGrow t)
    × WhereRefused {A = JsonValue} (Err s.error) (past_blanks t 0 ≤ j)
HasEnded t p j a s = ⊥

abbrev pub IsOver : List ℕ → Reading → Type 0
IsOver t r = HasEnded t r.settings r.at r.state r.stacks
