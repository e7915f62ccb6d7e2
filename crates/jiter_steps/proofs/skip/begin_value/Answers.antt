use Rattle.jiter_steps.proofs.Words.{◌∙◌, arith, err_from_is_err_and, open_frames}
use Rattle.jiter_steps.proofs.Calls.Skipping.{value_from-is, fault-passes}
use Rattle.jiter_steps.proofs.skip.begin_value.Goals as goal

pub returns-in_ok-skip_scalar-in_default : goal.returns-in_ok-skip_scalar-in_default
returns-in_ok-skip_scalar-in_default c =
    let p = c.args.parser.now in
    let n = c.args.nest.now in
    let value = c.in_ok-skip_scalar-in_default.ensures.value in
    record {
      moves = c.in_ok-skip_scalar-in_default.ensures.moves;
      value = value_from-is c.args.allow_inf_nan p.bytes.now n.kinds n.depth p.index _ (omega arith) value;
      ahead = c.in_ok-skip_scalar-in_default.ensures.ahead;
    }

pub returns-in_err-skip_scalar-in_default : goal.returns-in_err-skip_scalar-in_default
returns-in_err-skip_scalar-in_default c =
    let p = c.args.parser.now in
    let n = c.args.nest.now in
    let i = c.in_err-skip_scalar-in_default.ensures in
    let e = err_from_is_err_and c.from_residual.result c.from_residual.ensures.1 in
    rw (e.1, e.2) (record {
      moves = i.moves;
      value = value_from-is c.args.allow_inf_nan p.bytes.now n.kinds n.depth p.index _ (omega arith) i.value
          ∙ fault-passes c.args.allow_inf_nan p.bytes.now (open_frames n.kinds n.depth) _ _ _;
      ahead = tt;
    })
