use Rattle.jiter_steps.proofs.Words.{◌≡◌, ℕ, ◌+◌, ◌-◌, ◌≤◌, List, ◌++◌, None, refl, ◌∙◌, ap, arith, sym, subst, append_assoc, slice_range, true}
use Rattle.jiter_steps.proofs.Words.{slice_index, slice_range-split, HasTaken, PartialString, rules}
use Rattle.jiter_scan.specs.declared.errors.FaultKind.TheVariants as fault
use Rattle.jiter_steps.proofs.Grammar.Places.{got}
use Rattle.jiter_scan.specs.Ascii as ascii
use Rattle.jiter_scan.specs.Scan.{is_stop}
use Rattle.jiter_steps.proofs.Chunks.OpenStrings.{control-fails, none_open}
use Rattle.jiter_steps.proofs.partial_string.PartialString.next.Goals.{in-Err, in-Ok+then-end-chunk}
use Rattle.jiter_steps.proofs.partial_string.PartialString.next.Goals as goal

-- One run after the other
joined : (chunk w : List ℕ) (a b c : ℕ) → a ≤ b → b ≤ c
    → (w ++ slice_range chunk a b) ++ slice_range chunk b c ≡ w ++ slice_range chunk a c
joined chunk w a b c one two =
    append_assoc w (slice_range chunk a b) (slice_range chunk b c)
    ∙ ap (λ u. w ++ u) (sym (slice_range-split chunk a b one c two))

pub turning-preserved : goal.turning-preserved
turning-preserved c =
    let chunk = c.args.chunk.now in
    let at = c.args.at in
    let end = c.turning.end in
    let i = c.turning.invariant in
    let part = c.in-Ok.ensures.part in
    let goes : is_stop (slice_index chunk (end + c.in-Ok.count)) ≡ true → slice_index chunk (end + c.in-Ok.count) ≡ ascii.backslash =
    search rules in
    record {
      after = omega (arith, i.after);
      within = omega (arith, part.1, c.if-end-chunk.false);
      none = none_open c.turn.new.self.escape c.is_some-else-end-chunk.result c.is_some-else-end-chunk.ensures c.if-is_some-2.false;
      goes_on = goes;
      same = λ is. absurd (omega (arith, i.after, part.0, is));
      taken = λ w h.
          subst (HasTaken c.turn.new.self) (joined chunk w at end (end + c.in-Ok.count) i.after (omega (arith)))
          (c.in-Ok.ensures.taken (w ++ slice_range chunk at end) (i.taken w h));
    }

pub returns-clause-goes : goal.returns-clause-goes
returns-clause-goes c = λ w h.
    let chunk = c.args.chunk.now in
    let at = c.args.at in
    let end = c.turning.end in
    let i = c.turning.invariant in
    let all = λ (e : ℕ). HasTaken c.turn.new.self (w ++ slice_range chunk at (at + (e - at))) in
    elim c.match-turn.branch [
      | in-Err b ↦
          let place : end ≡ at + (end - at) = omega (arith, i.after) in
          subst all (sym b.end-is)
          (subst (λ e. HasTaken c.turn.new.self (w ++ slice_range chunk at e)) place
          (subst (λ (s : PartialString). HasTaken s (w ++ slice_range chunk at end)) (sym b.in-Err.ensures.refused) (i.taken w h)))
      | in-Ok+then-end-chunk b ↦
          let last = end + b.in-Ok.count in
          let place : last ≡ at + (last - at) = omega (arith, i.after) in
          subst all (sym b.end-is)
          (subst (λ e. HasTaken c.turn.new.self (w ++ slice_range chunk at e)) place
          (subst (HasTaken c.turn.new.self) (joined chunk w at end last i.after (omega (arith)))
          (b.in-Ok.ensures.taken (w ++ slice_range chunk at end) (i.taken w h))))
    ]

pub returns-in-0-to-31-clause-goes : goal.returns-in-0-to-31-clause-goes
returns-in-0-to-31-clause-goes c =
    λ w h.
    let chunk = c.args.chunk.now in
    let at = c.args.at in
    let none : c.args.self.now.escape ≡ None =
    none_open c.args.self.now.escape c.is_some.result c.is_some.ensures c.if-is_some.false in
    control-fails c.args.self.now w h c.args.self.now chunk at (slice_index chunk at)
    fault.ControlCharacterWhileParsingString none (got chunk at c.requires) (omega arith) refl
