use Rattle.std.proofs.Common.{arith}
use Rattle.std.proofs.lemmas.Str.Pattern.{strip_prefix_char}
use Rattle.filter.proofs.Steps.{no-name}
use Rattle.filter.proofs.pointers.Member.of_pointer.Goals as goal

pub returns-in_default-clause-name : goal.returns-in_default-clause-name
returns-in_default-clause-name c =
    let none = rw c.in_default.is at (strip_prefix_char 47 c.args.pointer.now c.strip_prefix.result
    c.strip_prefix.ensures.cases (omega arith)) in
    no-name c.args.pointer.now none
