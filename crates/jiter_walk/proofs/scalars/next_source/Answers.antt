use Rattle.std.proofs.Common.{◌∙◌, ap, sym}
use Rattle.std.specs.Prelude.{slice_range}
use Rattle.jiter.specs.Caller.{begin}
use Rattle.jiter_walk.specs.Walk.{gives}
use Rattle.jiter_walk.proofs.Coming.{moved-text, walks-after_peek}
use Rattle.jiter_walk.proofs.Seen.{walk-seen}
use Rattle.jiter_walk.proofs.scalars.next_source.Goals as goal

pub returns-clause-walks : goal.returns-clause-walks
returns-clause-walks g c =
    let s0 = c.args.jiter.now in
    let s = c.skip.new.jiter in
    let place = c.in_ok-at.ensures in
    let w = walks-after_peek _ _ _ s0 _ _ place.moves (place.place.1 ∙ place.place.0) c.in_ok-skip.ensures.walks in
    walk-seen _ _ _ s0 s w _ _ _
    (λ n comes is. ap gives (ap (slice_range s0.text (begin n)) (sym (w.place n comes))
    ∙ ap (λ i. slice_range s0.text i s.position) (sym (place.begins n comes))
    ∙ ap (λ t. slice_range t c.in_ok-at.at s.position) (sym (moved-text s0 s w.moves))
    ∙ sym c.slice_to_current.ensures))
