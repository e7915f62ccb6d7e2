use Rattle.std.proofs.Common.{ap, arith, sym, ◌∙◌}
use Rattle.std.specs.List.{slice_split}
use Rattle.std.proofs.lemmas.Str.Pattern.{split_parts}
use Rattle.jiter_value.specs.Pointer.{is_slash}
use Rattle.jiter_value.proofs.Pointing.{first_token, last_token}
use Rattle.filter.specs.Pointers.{head_of}
use Rattle.filter.proofs.Steps.{no-slash}
use Rattle.filter.proofs.pointers.first_step.Goals as goal

pub returns-in-Some-clause-first : goal.returns-in-Some-clause-first
returns-in-Some-clause-first c =
    let cut = rw c.in-Some.is at (split_parts 47 c.args.steps.now c.split_once.result c.split_once.ensures.cases
    (omega arith)) in
    sym (ap head_of (ap (slice_split is_slash) cut.0 ∙ first_token _ _ cut.1))

pub returns-in-None-clause-first : goal.returns-in-None-clause-first
returns-in-None-clause-first c =
    let none = rw c.in-None.is at (split_parts 47 c.args.steps.now c.split_once.result c.split_once.ensures.cases
    (omega arith)) in
    sym (ap head_of (last_token c.args.steps.now none))

pub returns-in-None-clause-more : goal.returns-in-None-clause-more
returns-in-None-clause-more c =
    let none = rw c.in-None.is at (split_parts 47 c.args.steps.now c.split_once.result c.split_once.ensures.cases
    (omega arith)) in
    sym (no-slash c.args.steps.now none)
