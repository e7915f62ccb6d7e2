use Rattle.std.proofs.Common.{◌≡◌, rules}
use Rattle.filter.specs.Line.{or_null}
use Rattle.filter.specs.Once.{found_view}
use Rattle.filter.proofs.Pieces.{fails-part, found-part, pointed-part}
use Rattle.filter.proofs.line.part_of.Goals as goal

pub returns-in-Some : goal.returns-in-Some
returns-in-Some c =
    let finds = rw c.in-Ok.is at c.requires.reads in
    record {
      any = pointed-part c.args.member.now c.args.line.now _ _ _ finds c.in-Some.is c.as_str.ensures.value c.pointed.result
          c.pointed.ensures;
    }

pub returns-in-None : goal.returns-in-None
returns-in-None c =
    let finds = rw c.in-Ok.is at c.requires.reads in
    let same : c.unwrap_or.result.now ≡ or_null (found_view c.in-Ok.source) = search rules in
    record { any = found-part c.args.member.now c.args.line.now _ _ finds c.in-None.is same }

pub returns-in_ok-cause-in-Err-2 : goal.returns-in_ok-cause-in-Err-2
returns-in_ok-cause-in-Err-2 c =
    let reads = rw c.in-Err-2.is at c.requires.reads in
    record { any = fails-part c.args.member.now c.args.line.now c.in-Err-2.error _ (search rules) reads (search rules) }
