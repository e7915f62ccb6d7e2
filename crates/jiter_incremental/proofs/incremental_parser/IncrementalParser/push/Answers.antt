use Rattle.jiter_incremental.proofs.Words.{◌+◌, ◌-◌, ◌≡◌, ◌++◌, ◌<◌, ◌^◌, ap, arith, take, rules, Reader}
use Rattle.jiter_incremental.proofs.Documents.Blanks.{if-refused}
use Rattle.jiter_incremental.proofs.Pushing.{received-so}
use Rattle.jiter_incremental.proofs.incremental_parser.IncrementalParser.push.Goals as goal

pub invariant_of-self : goal.invariant_of-self
invariant_of-self c =
    let was = c.self.invariant in
    let r = c.in_err-read.ensures in
    let j = c.read-read.new.self in
    let room : j.base + j.at < 2 ^ 64 =
    search (rules, c.if-is_none.ensures, c.if-is_none.false, c.checked_add.ensures, r.same, r.within) in (
      was.0 ++ take j.at c.args.chunk.now,
      received-so j c.leave_chunk.new.self c.read-read.new.root (was.0 ++ take j.at c.args.chunk.now)
          (r.refused was.0 was.1.arrived) r.low room c.leave_chunk.ensures,
    )

pub invariant_of-self-2 : goal.invariant_of-self-2
invariant_of-self-2 c =
    let was = c.self.invariant in
    let r = c.in_ok-read.ensures in
    let j = c.read-read.new.self in
    let room : j.base + j.at < 2 ^ 64 =
    search (rules, c.if-is_none.ensures, c.if-is_none.false, c.checked_add.ensures, r.same, r.within) in (
      was.0 ++ c.args.chunk.now,
      received-so j c.leave_chunk.new.self c.read-read.new.root (was.0 ++ c.args.chunk.now)
          (r.taken was.0 was.1.arrived) r.low room c.leave_chunk.ensures,
    )

pub returns-in_err-read-clause-refused : goal.returns-in_err-read-clause-refused
returns-in_err-read-clause-refused c = λ t h.
    let r = c.in_err-read.ensures in
    let j = c.read-read.new.self in
    let room : j.base + j.at < 2 ^ 64 =
    search (rules, c.if-is_none.ensures, c.if-is_none.false, c.checked_add.ensures, r.same, r.within) in
    let was = rw (← c.self.view_is) at h in
    let k = c.leave_chunk.new.self in
    let taken : k.base + k.at - (c.self.inside.reader.base + c.self.inside.reader.at) ≡ j.at =
    omega (arith, ap (λ (r : Reader). r.base) c.leave_chunk.ensures, ap (λ (r : Reader). r.at) c.leave_chunk.ensures, r.same.1, was.between) in
    if-refused c.from_residual.result
    (rw (← c.self.view_is, taken)
    (received-so j k c.read-read.new.root (t ++ take j.at c.args.chunk.now) (r.refused t was.arrived) r.low room
    c.leave_chunk.ensures))

pub returns-clause-ok : goal.returns-clause-ok
returns-clause-ok c = λ t h.
    let r = c.in_ok-read.ensures in
    let j = c.read-read.new.self in
    let room : j.base + j.at < 2 ^ 64 =
    search (rules, c.if-is_none.ensures, c.if-is_none.false, c.checked_add.ensures, r.same, r.within) in
    received-so j c.leave_chunk.new.self c.read-read.new.root (t ++ c.args.chunk.now)
    (r.taken t (rw (← c.self.view_is) at h).arrived) r.low room c.leave_chunk.ensures
