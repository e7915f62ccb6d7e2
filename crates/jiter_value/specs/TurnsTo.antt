-- What contracts see of a turn.
use Rattle.std.specs.Prelude.{◌≡◌, ◌+◌, ◌≤◌, ◌<◌, IfOk}
use Rattle.jiter_value.specs.Machine.{Progress, turns_left, held}
use Rattle.jiter_value.specs.Parses.{Parses, as_read}
use Rattle.jiter_value.specs.Size.{size}
use Rattle.jiter_value.specs.Value.{view, MayGrow}
use Rattle.jiter_value.specs.declared.parse.machine.Turn.{Turn}
use Rattle.jiter_value.specs.declared.parse.machine.Turn.TheVariants.{More, Done}

-- A reading that goes on, of the same text and settings and no further back: less is left, and one more is held at
-- most.
pub record GoesOn (m n : Progress) : Type 0 where
  pub text : n.text ≡ m.text
  pub settings : n.settings ≡ m.settings
  pub position : m.position ≤ n.position
  pub turns_left : turns_left n < turns_left m
  pub held : held n ≤ held m + 1

-- Where a turn leads: to a machine that goes on, or to what a parse of the text promises, a value of at most one more
-- than was held.
abbrev pub TurnsTo : Progress → Turn → Type 0
TurnsTo m (More n) = GoesOn m n
TurnsTo m (Done r) =
    Parses as_read (MayGrow m.text) m.settings.allow_inf_nan m.settings.mode m.text r ×
    IfOk r (λ v. size (view v) ≤ held m + 1)
