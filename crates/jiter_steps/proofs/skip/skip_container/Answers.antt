use Rattle.jiter_steps.proofs.Words.{refl, sym, arith, only_ends}
use Rattle.jiter_steps.proofs.Calls.Resumed.{value_in-levels}
use Rattle.jiter_steps.proofs.skip.skip_container.Goals as goal

pub skipping-init : goal.skipping-init
skipping-init c =
    let a = c.args in
    record {
      moves = record { same = refl; forward = omega arith };
      inside = c.requires;
      same = sym (value_in-levels (only_ends a.allow_inf_nan) a.parser.now.bytes.now 0 a.parser.now.index
          (omega arith));
    }
