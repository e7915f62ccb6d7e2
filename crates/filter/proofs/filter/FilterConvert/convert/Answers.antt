use Rattle.filter.proofs.Documents.{becomes-ok}
use Rattle.filter.proofs.filter.FilterConvert.convert.Goals as goal

pub returns : goal.returns
returns c =
    let any = rw c.as_slice.ensures.value at c.line_of.ensures.any in
    becomes-ok c.args.self.now.members.items c.args.line.now c.line_of.result c.args.self.now.some any
