use Rattle.jiter.specs.Caller.{string_memory, value_place}
use Rattle.jiter_walk.proofs.TextLaws.{backslash-there, bytes-read, no-string, string-given}
use Rattle.jiter_walk.proofs.ScalarWalk.{text-law, scalar-fails, scalar-given}
use Rattle.jiter_walk.proofs.borrowed.next_text_cow.Goals as goal

pub returns : goal.returns
returns g c =
    let s0 = c.args.jiter.now in
    let reads = c.in_ok-next_str_cow.ensures.reads in
    record {
      walks = scalar-given (string_memory s0.text (value_place s0)) _ (text-law s0) _ (bytes-read s0 _ _ reads);
      string = string-given s0 _ _ reads;
      memory = tt;
    }

pub returns-in_err-next_str_cow : goal.returns-in_err-next_str_cow
returns-in_err-next_str_cow g c =
    let s0 = c.args.jiter.now in
    let reads = c.in_err-next_str_cow.ensures.reads in
    let is = c.from_residual.ensures.1 in
    record {
      walks = scalar-fails (string_memory s0.text (value_place s0)) _ (text-law s0) _ _ is (bytes-read s0 _ _ reads);
      string = λ n comes. no-string _ _ _ is;
      memory = backslash-there s0 _ _ _ is reads;
    }
