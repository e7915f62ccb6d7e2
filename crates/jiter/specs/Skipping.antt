-- What a skip replies, by what reading the same value replies.
use Rattle.std.specs.Prelude.{◌≢◌}
use Rattle.jiter_scan.specs.Kind.{invalid_code_point}
use Rattle.jiter_steps.specs.Tree.{Tree}
use Rattle.jiter.specs.Cause.{json_error}
use Rattle.jiter.specs.Reader.{Reply, gave, refused}

-- P, which says what a skip replied, by this reply of reading: where reading gives a value, P of its end alone; where
-- it is refused for another cause than UTF-8, P of the same cause, index and place.
abbrev pub SkipsAsRead : (Reply (Unit {0}) → Type 0) → Reply Tree → Type 0
SkipsAsRead P (gave v e) = P (gave tt e)
SkipsAsRead P (refused c i stop) = c ≢ json_error invalid_code_point → P (refused c i stop)
