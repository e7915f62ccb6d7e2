use Rattle.jiter_incremental.proofs.Words.{length, None, ◌+◌, ◌-◌, ◌*◌, ◌≡◌, ◌<◌, ◌≤◌, Advanced, IsPaused, view}
use Rattle.jiter_incremental.proofs.reader.Reader.+read.Given as goal

-- Each byte taken opens at most one container, and each call goes one nearer to the innermost.
abbrev pub decreases-inside : goal.decreases-inside
decreases-inside l = 3 * (2 * (length l.chunk.now - l.self.now.at) + (l.self.now.depth - l.level))

abbrev pub decreases-read_on : goal.decreases-read_on
decreases-read_on l = 3 * (2 * (length l.chunk.now - l.self.now.at) + (l.self.now.depth - l.level)) + 1

abbrev pub decreases-parts : goal.decreases-parts
decreases-parts l = 3 * (2 * (length l.chunk.now - l.self.now.at) + (l.self.now.depth - l.level)) + 2

abbrev pub invariant-read_on-loop-self : goal.invariant-read_on-loop-self
invariant-read_on-loop-self l = record {
  went : Advanced l.level l.chunk l.initial.self (view l.initial.slot) l.self (view l.slot);
  paused : IsPaused l.level l.self l.slot;
  calm : l.self.at < length l.chunk → ¬ (l.self.depth ≡ l.level) → l.self.fault ≡ None;
  nearer : l.self.at < length l.chunk → 2 * (length l.chunk - l.self.at) + (l.self.depth - l.level)
      ≤ 2 * (length l.chunk - l.initial.self.at) + (l.initial.self.depth - l.level);
}

-- Each turn takes a byte, leaves the container inside, or ends this one.
abbrev pub decreases-read_on-loop-self : goal.decreases-read_on-loop-self
decreases-read_on-loop-self l =
    3 * (length l.chunk - l.self.at) + ((l.self.depth + 1 - l.level) - (l.self.depth - l.level - 1))
