use Rattle.jiter_steps.proofs.Words.{◌∙◌, ◌∷◌, ◌++◌, [], ◌-◌, length, ap, arith, subst, sym, Some, slice_index}
use Rattle.jiter_steps.proofs.Words.{HasTaken}
use Rattle.jiter_steps.proofs.Grammar.Places.{got}
use Rattle.jiter_steps.proofs.Chunks.OpenStrings.{escape-ends, escape-fails, escape-goes, one-byte}
use Rattle.jiter_steps.proofs.partial_string.PartialString.spell.Goals as goal

pub returns-in-Part-clause-goes : goal.returns-in-Part-clause-goes
returns-in-Part-clause-goes c =
    λ w h.
    let chunk = c.args.chunk.now in
    let at = c.args.at in
    let b = slice_index chunk at in
    let one = one-byte chunk at b (got chunk at c.requires.within) in
    subst (λ v. HasTaken (record { text = c.args.self.now.text; escape = Some c.next.new.self }) (w ++ v)) (sym one)
    (escape-goes c.args.self.now w h c.in-Some.escape (b ∷ []) c.in-Some.is c.next.new.self c.in-Part.ensures.held
    c.in-Part.ensures.spelled)

pub returns-in-Wrong-clause-goes : goal.returns-in-Wrong-clause-goes
returns-in-Wrong-clause-goes c =
    λ w h.
    let chunk = c.args.chunk.now in
    let at = c.args.at in
    let e = c.in-Some.escape in
    let n = c.in-Wrong.after in
    escape-fails c.args.self.now w h e (slice_index chunk at) c.in-Some.is c.in-Wrong.kind n c.in-Wrong.ensures.spelled
    (omega (arith, c.in-Wrong.ensures.within)) chunk at (c.count.result - n) (got chunk at c.requires.within)
    (ap (λ k. k - n) (c.count.ensures ∙ ap length c.in-Wrong.ensures.held)) c.args.self.now

pub returns-in_ok-add_char-in-Whole-clause-goes : goal.returns-in_ok-add_char-in-Whole-clause-goes
returns-in_ok-add_char-in-Whole-clause-goes c =
    λ w h.
    let chunk = c.args.chunk.now in
    let at = c.args.at in
    let b = slice_index chunk at in
    let one = one-byte chunk at b (got chunk at c.requires.within) in
    rw one (escape-ends c.args.self.now w h c.in-Some.escape (b ∷ []) c.in-Some.is c.add_char.new.self c.in-Whole.c
    c.in-Whole.ensures.spelled (c.in_ok-add_char-in-Whole.ensures.taken h.decoded h.holds))
