use Rattle.std.proofs.Common.{◌≡◌}
use Rattle.std.specs.Prelude.{IfOk, option_map}
use Rattle.jiter_walk.specs.Search.{part_begun, part_view}
use Rattle.jiter_walk.proofs.Searches.{of-array, of-object}
use Rattle.jiter_walk.proofs.path.part_from.Goals as goal

pub returns-in-Ok-Array : goal.returns-in-Ok-Array
returns-in-Ok-Array c =
    let t = c.args.bytes.now in
    let i = c.args.index in
    let reads = rw c.new_at.ensures at c.in-Ok-Array.ensures.reads in
    let is : c.in-Ok-Array.field-0.0 ≡ 91 = cc in
    of-array t c.args.at (λ n. IfOk c.item_from.result (λ part. option_map part_view part ≡ part_begun t i n)) _ _ reads.value is
    c.item_from.ensures

pub returns-in-Ok-Object : goal.returns-in-Ok-Object
returns-in-Ok-Object c =
    let t = c.args.bytes.now in
    let i = c.args.index in
    let reads = rw c.new_at.ensures at c.in-Ok-Object.ensures.reads in
    let is : c.in-Ok-Object.field-0.0 ≡ 123 = cc in
    of-object t c.args.at (λ n. IfOk c.member_from.result (λ part. option_map part_view part ≡ part_begun t i n)) _ _ reads.value is
    c.member_from.ensures
