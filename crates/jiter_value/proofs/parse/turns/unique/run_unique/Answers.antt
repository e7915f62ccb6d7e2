use Rattle.jiter_value.proofs.Words.{◌∙◌, [], ap, arith, refl, subst, sym, done, HasKeys, borrowed_unique, HasReached, view}
use Rattle.std.proofs.lemmas.List.Elements.{All-nil}
use Rattle.jiter_value.specs.declared.parse.stacks.State.TheVariants as state
use Rattle.jiter_value.proofs.Ended.{come-first, failed-memory, failed-value, key-grows, no-keys, whole-value}
use Rattle.jiter_value.proofs.Repeats.{stops-gives, stops-grows}
use Rattle.jiter_value.proofs.Turning.{awaited, goes-on}
use Rattle.jiter_value.proofs.parse.turns.unique.run_unique.Goals as goal

pub go-state-requires : goal.go-state-requires
go-state-requires c κs =
    let t = c.args.parser.now.bytes.now in
    let i = c.args.parser.now.index in
    let s = c.args.reading.now.stacks in
    let h = c.requires.holds in (
      (refl, tt),
      (
        c.requires.texts,
        (
          refl,
          (
            refl,
            (
              (i, come-first borrowed_unique ⊥ c.args.reading.now.settings t s i h c.requires.within),
              (tt, ([], rw c.new.ensures.items (All-nil (HasKeys [])), no-keys s h)),
            ),
          ),
        ),
      ),
    )

pub invariant_of-parser : goal.invariant_of-parser
invariant_of-parser c =
    let t = c.args.parser.now.bytes.now in
    let i = c.args.parser.now.index in
    let first = come-first borrowed_unique ⊥ c.args.reading.now.settings t c.args.reading.now.stacks i c.requires.holds
    c.requires.within in
    record { within = (c.go-state.ensures.gone i first).within.1 }

pub returns-in-Done : goal.returns-in-Done
returns-in-Done c =
    let t = c.args.parser.now.bytes.now in
    let i = c.args.parser.now.index in
    let p = c.args.reading.now.settings in
    let r = c.go-state.new.self in
    let e = c.go-state.ensures in
    let first = come-first borrowed_unique ⊥ p t c.args.reading.now.stacks i c.requires.holds c.requires.within in
    let gone = e.gone i first in
    let come = subst (λ p. HasReached borrowed_unique ⊥ t i p r.stacks r.at r.state) e.settings gone in
    record {
      moves = record { same = refl; forward = gone.within.0 };
      value = whole-value borrowed_unique ⊥ t i p r.stacks r.at r.state come (sym e.state ∙ c.in-Done.is)
          ∙ ap (λ v. done (view v) r.at) (sym c.take_root.ensures.value);
      memory = tt;
      settings = e.settings;
    }

pub invariant_of-parser-in-GivenUp : goal.invariant_of-parser-in-GivenUp
invariant_of-parser-in-GivenUp c =
    let t = c.args.parser.now.bytes.now in
    let i = c.args.parser.now.index in
    let first = come-first borrowed_unique ⊥ c.args.reading.now.settings t c.args.reading.now.stacks i c.requires.holds
    c.requires.within in
    record { within = (c.go-state.ensures.gone i first).within.1 }

pub returns-in-GivenUp : goal.returns-in-GivenUp
returns-in-GivenUp c =
    let t = c.args.parser.now.bytes.now in
    let i = c.args.parser.now.index in
    let p = c.args.reading.now.settings in
    let r = c.go-state.new.self in
    let e = c.go-state.ensures in
    let first = come-first borrowed_unique ⊥ p t c.args.reading.now.stacks i c.requires.holds c.requires.within in
    let gone = e.gone i first in
    let come = subst (λ p. HasReached borrowed_unique ⊥ t i p r.stacks r.at r.state) e.settings gone in
    let over = sym e.state ∙ c.in-GivenUp.is in
    record {
      moves = record { same = refl; forward = gone.within.0 };
      value = rw c.take_error.ensures (failed-value borrowed_unique ⊥ t i p r.stacks r.at r.state come over);
      memory = rw c.take_error.ensures (failed-memory borrowed_unique ⊥ t i r.settings r.stacks r.at r.state gone over);
      settings = e.settings;
    }

pub returns-in-Some : goal.returns-in-Some
returns-in-Some c =
    let t = c.args.parser.now.bytes.now in
    let i = c.args.parser.now.index in
    let p = c.args.reading.now.settings in
    let r = c.go-state.new.self in
    let e = c.go-state.ensures in
    let first = come-first borrowed_unique ⊥ p t c.args.reading.now.stacks i c.requires.holds c.requires.within in
    let on = goes-on r.state (λ h. c.in_default.not-Done (e.state ∙ h)) (λ h. c.in_default.not-GivenUp (e.state ∙ h)) in
    let ended = e.ended refl on in
    let stopped = rw c.in-Some.is at ended.1 in
    let gone = e.gone i first in
    let come = subst (HasReached borrowed_unique ⊥ t i p r.stacks r.at) ended.0
    (subst (λ p. HasReached borrowed_unique ⊥ t i p r.stacks r.at r.state) e.settings gone) in
    let key = awaited borrowed_unique ⊥ t i p r.stacks r.at state.Key come tt in
    record {
      moves = record { same = refl; forward = omega (arith, gone.within.0, stopped.1) };
      value = stops-gives p t r.stacks r.at c.in-Some.why c.in-Some.place _ key.1 key.0 stopped.0;
      memory = stops-grows c.in-Some.why _ (key-grows borrowed_unique ⊥ t i p r.stacks r.at come);
      settings = e.settings;
    }
