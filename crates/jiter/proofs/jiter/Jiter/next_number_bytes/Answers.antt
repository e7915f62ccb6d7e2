use Rattle.jiter.proofs.Words.{refl, slice_get-get_or, arith}
use Rattle.jiter.proofs.FastReplies.{number-place, number-read}
use Rattle.jiter.proofs.jiter.Jiter.next_number_bytes.Goals as goal

pub returns-in-Some : goal.returns-in-Some
returns-in-Some c =
    let p = c.self.inside.parser in
    let place = c.in-Some.ensures.place in
    let ends = c.in-Some.ensures.end c.self.inside.allow_inf_nan in
    record {
      reads = number-read _ c.args.self.now p.index c.in-Some.end _ _ c.self.view_is
          (number-place c.self.inside.allow_inf_nan p.bytes.now p.index c.in-Some.end place.0 place.1 ends)
          (slice_get-get_or p.bytes.now p.index 0 (omega arith)) place.0 place.1 ends refl;
    }
