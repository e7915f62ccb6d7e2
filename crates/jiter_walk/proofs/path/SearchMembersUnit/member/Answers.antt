use Rattle.std.proofs.Common.{◌∙◌, sym}
use Rattle.std.specs.Prelude.{is_err}
use Rattle.jiter.specs.Caller.{begin, end}
use Rattle.jiter_walk.specs.Path.{key_token}
use Rattle.jiter_walk.proofs.Coming.{walks-after_peek}
use Rattle.jiter_walk.proofs.Searches.{passed-here, passed-other, skip-seen}
use Rattle.jiter_walk.proofs.path.SearchMembersUnit.member.Goals as goal

pub returns-in-Ok : goal.returns-in-Ok
returns-in-Ok c =
    let s0 = c.args.jiter.now in
    let search = c.args.self.now in
    let at = c.value_index-begin.ensures in
    let skipped = c.skip-skipped.result in
    let w = walks-after_peek _ _ _ s0 _ _ at.moves at.place c.skip-skipped.ensures.walks in
    skip-seen skipped s0 _ w _ _
    (λ n comes place ok. passed-here search.found search.index search.passed c.args.at _ (end n) (begin n) (is_err skipped)
    (key_token c.args.key.now) (record { step = c.in-Ok.step; begin = c.value_index-begin.result })
    (sym c.is_here.ensures ∙ c.if-is_here.true) ok place c.in-Ok.ensures (at.at ∙ at.place ∙ comes.place))

pub returns-else-is_here : goal.returns-else-is_here
returns-else-is_here c =
    let s0 = c.args.jiter.now in
    let search = c.args.self.now in
    let at = c.value_index-begin.ensures in
    let skipped = c.skip-skipped.result in
    let w = walks-after_peek _ _ _ s0 _ _ at.moves at.place c.skip-skipped.ensures.walks in
    skip-seen skipped s0 _ w _ _
    (λ n comes place ok. passed-other search.found search.index search.passed c.args.at _ (end n) (is_err skipped)
    (key_token c.args.key.now, begin n) (sym c.is_here.ensures ∙ c.if-is_here.false) ok place)
