use Rattle.std.proofs.Common.{◌∙◌, ap, arith, sym}
use Rattle.jiter.specs.Caller.{begin}
use Rattle.jiter_walk.specs.Values.{integer_in}
use Rattle.jiter_walk.specs.Walk.{custom, fails}
use Rattle.jiter_walk.proofs.Coming.{walks-after_peek}
use Rattle.jiter_walk.proofs.Outcomes.{fits, fits-not}
use Rattle.jiter_walk.proofs.Passing.{reader-fails}
use Rattle.jiter_walk.proofs.integer.next_integer_as.Goals as goal

pub returns-in_err-at-clause-walks : goal.returns-in_err-at-clause-walks
returns-in_err-at-clause-walks g c =
    let h = c.in_err-at.ensures in
    reader-fails _ _ _ _ _ h.moves c.in_err-at.field-0.0 c.from_residual.ensures.1 (λ n comes bytes. absurd (h.begins n comes))
    h.index (λ m. absurd (h.memory m))

pub returns-in-None-clause-walks : goal.returns-in-None-clause-walks
returns-in-None-clause-walks g c =
    let s0 = c.args.jiter.now in
    let place = c.in_ok-at.ensures in
    let w = walks-after_peek _ _ _ s0 _ _ place.moves (place.place.1 ∙ place.place.0) c.in_ok-next_integer.ensures.walks in
    record {
      moves = w.moves;
      value = λ n comes bytes.
          fits-not g.T.Integer.fit c.args.cause (begin n) (integer_in s0.text n) _ (w.value n comes)
          (sym c.of_number.ensures ∙ c.in-None.is)
          ∙ ap (fails (custom c.args.cause)) (sym (place.begins n comes));
      place = λ n comes. tt;
      reads = λ strict. tt;
      index = omega (arith, place.place.1, place.moves.within);
      memory = λ m. absurd (cc);
    }

pub returns-in-Some-clause-walks : goal.returns-in-Some-clause-walks
returns-in-Some-clause-walks g c =
    let s0 = c.args.jiter.now in
    let place = c.in_ok-at.ensures in
    let w = walks-after_peek _ _ _ s0 _ _ place.moves (place.place.1 ∙ place.place.0) c.in_ok-next_integer.ensures.walks in
    record {
      moves = w.moves;
      value = λ n comes.
          fits g.T.Integer.fit c.args.cause (begin n) (integer_in s0.text n) _ _ (w.value n comes)
          (sym c.of_number.ensures ∙ c.in-Some.is);
      place = w.place;
      reads = w.reads;
      index = tt;
      memory = tt;
    }
