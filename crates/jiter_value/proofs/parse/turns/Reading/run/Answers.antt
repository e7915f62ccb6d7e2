use Rattle.jiter_value.proofs.Words.{◌∙◌, [], ap, refl, subst, sym, done, HasReached, view}
use Rattle.jiter_value.proofs.Ended.{come-first, failed-memory, failed-value, given-up, no-keys, whole-holds, whole-value}
use Rattle.jiter_value.proofs.parse.turns.Reading.run.Goals as goal

pub go-state-requires : goal.go-state-requires
go-state-requires g c κs =
    let t = c.args.parser.now.bytes.now in
    let i = c.args.parser.now.index in
    let s = c.args.self.now.stacks in
    let h = c.requires.holds in (
      (refl, tt),
      (
        c.requires.texts,
        (
          c.requires.repeats,
          (
            refl,
            (
              (i, come-first g.T.StringStorage.policy g.T.StringStorage.wants c.args.self.now.settings t s i h c.requires.within),
              (tt, ([], tt, no-keys s h)),
            ),
          ),
        ),
      ),
    )

pub invariant_of-parser : goal.invariant_of-parser
invariant_of-parser g c =
    let t = c.args.parser.now.bytes.now in
    let i = c.args.parser.now.index in
    let first = come-first g.T.StringStorage.policy g.T.StringStorage.wants c.args.self.now.settings t c.args.self.now.stacks i
    c.requires.holds c.requires.within in
    record { within = (c.go-state.ensures.gone i first).within.1 }

pub returns-in-Done : goal.returns-in-Done
returns-in-Done g c =
    let policy = g.T.StringStorage.policy in
    let W = g.T.StringStorage.wants in
    let t = c.args.parser.now.bytes.now in
    let i = c.args.parser.now.index in
    let r = c.go-state.new.self in
    let e = c.go-state.ensures in
    let first = come-first policy W c.args.self.now.settings t c.args.self.now.stacks i c.requires.holds
    c.requires.within in
    let gone = e.gone i first in
    let come = subst (λ p. HasReached policy W t i p r.stacks r.at r.state) e.settings gone in
    let over = sym e.state ∙ c.in-Done.is in
    record {
      moves = record { same = refl; forward = gone.within.0 };
      value = whole-value policy W t i c.args.self.now.settings r.stacks r.at r.state come over
          ∙ ap (λ v. done (view v) r.at) (sym c.take_root.ensures.value);
      memory = tt;
      cleared = c.take_root.ensures.cleared (whole-holds policy W t i r.settings r.stacks r.at r.state gone over);
      settings = e.settings;
    }

pub returns-in_default : goal.returns-in_default
returns-in_default g c =
    let policy = g.T.StringStorage.policy in
    let W = g.T.StringStorage.wants in
    let t = c.args.parser.now.bytes.now in
    let i = c.args.parser.now.index in
    let r = c.go-state.new.self in
    let e = c.go-state.ensures in
    let first = come-first policy W c.args.self.now.settings t c.args.self.now.stacks i c.requires.holds
    c.requires.within in
    let gone = e.gone i first in
    let come = subst (λ p. HasReached policy W t i p r.stacks r.at r.state) e.settings gone in
    let over = given-up r.state (λ h. c.in_default.not-Done (e.state ∙ h)) (λ on. (e.ended refl on).1) in
    record {
      moves = record { same = refl; forward = gone.within.0 };
      value = rw c.take_error.ensures
          (failed-value policy W t i c.args.self.now.settings r.stacks r.at r.state come over);
      memory = rw c.take_error.ensures
          (failed-memory policy W t i c.args.self.now.settings r.stacks r.at r.state come over);
      cleared = tt;
      settings = e.settings;
    }
