use Rattle.std.proofs.Common.{◌≡◌, ◌∙◌, ◌+◌, ◌-◌, ◌^◌, false, subst, sym, true}
use Rattle.std.specs.Prelude.{Some, is_err, min, option_map}
use Rattle.jiter.specs.Caller.{begin, end}
use Rattle.jiter_walk.specs.Path.{item_token}
use Rattle.jiter_walk.specs.Search.{part_view}
use Rattle.jiter_walk.proofs.Coming.{walks-after_peek}
use Rattle.jiter_walk.proofs.Searches.{here, passed-as, passed-here, passed-other, skip-seen}
use Rattle.jiter_walk.proofs.path.SearchItemsUnit.item.Goals as goal

pub returns-in-Ok : goal.returns-in-Ok
returns-in-Ok c =
    let s0 = c.args.jiter.now in
    let search = c.args.self.now in
    let at = c.value_index-begin.ensures in
    let skipped = c.skip-skipped.result in
    let p = c.skip-skipped.new.jiter.position in
    let w = walks-after_peek _ _ _ s0 _ _ at.moves at.place c.skip-skipped.ensures.walks in
    skip-seen skipped s0 _ w _ _
    (λ n comes place ok.
    let begins = at.at ∙ at.place ∙ comes.place in
    passed-here search.found search.index (min (search.passed + 1) (2 ^ 64 - 1)) (begin n) p (end n) (begin n) (is_err skipped)
    (item_token search.passed) (record { step = c.in-Ok.step; begin = c.value_index-begin.result })
    (subst (λ m. here search.found search.index m (is_err skipped) p ≡ true) begins (sym c.is_here.ensures ∙ c.if-is_here.true))
    ok place c.in-Ok.ensures.ok begins
    ∙ passed-as search.index (min (search.passed + 1) (2 ^ 64 - 1)) c.saturating_add-self.result
    (Some (part_view (record { step = c.in-Ok.step; begin = c.value_index-begin.result }))) c.saturating_add-self.ensures)

pub returns-else-is_here : goal.returns-else-is_here
returns-else-is_here c =
    let s0 = c.args.jiter.now in
    let search = c.args.self.now in
    let at = c.value_index-begin.ensures in
    let skipped = c.skip-skipped.result in
    let p = c.skip-skipped.new.jiter.position in
    let w = walks-after_peek _ _ _ s0 _ _ at.moves at.place c.skip-skipped.ensures.walks in
    skip-seen skipped s0 _ w _ _
    (λ n comes place ok.
    let begins = at.at ∙ at.place ∙ comes.place in
    passed-other search.found search.index (min (search.passed + 1) (2 ^ 64 - 1)) (begin n) p (end n) (is_err skipped)
    (item_token search.passed, begin n)
    (subst (λ m. here search.found search.index m (is_err skipped) p ≡ false) begins (sym c.is_here.ensures ∙ c.if-is_here.false))
    ok place
    ∙ passed-as search.index (min (search.passed + 1) (2 ^ 64 - 1)) c.saturating_add-self.result
    (option_map part_view search.found) c.saturating_add-self.ensures)
