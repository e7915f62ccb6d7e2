use Rattle.jiter_steps.proofs.Words.{◌≡◌, ◌≤◌, ◌<◌, ◌-◌, ◌∷◌, Bool, List, length, only_ends, Frame, resume, done}
use Rattle.jiter_steps.proofs.Words.{frame_of}
use Rattle.jiter_steps.proofs.fast_skip.known_fast_run.Given as goal

abbrev pub invariant-parts : goal.invariant-parts
invariant-parts l = record {
  place : (l.from ≤ l.end) × (l.end ≤ length l.bytes);
  same : (names : Bool) → (fs : List (Frame (Unit {0}) (Unit {0}))) → length fs < 200
      → resume (only_ends names) l.bytes (frame_of l.shape ∷ fs) (done tt l.from)
      ≡ resume (only_ends names) l.bytes (frame_of l.shape ∷ fs) (done tt l.end);
}

abbrev pub decreases-parts : goal.decreases-parts
decreases-parts l = length l.bytes - l.end
