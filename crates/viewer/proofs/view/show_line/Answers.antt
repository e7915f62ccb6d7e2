use Rattle.std.proofs.Common.{◌≡◌, ◌∙◌, List, ℕ, Some, refl, sym, arith}
use Rattle.std.proofs.lemmas.Grind.{common_steps}
use Rattle.std.proofs.KnownBytes.{Appends-nil}
use Rattle.jiter.specs.Caller.{answer_in, view}
use Rattle.jiter_print.specs.Print.{print_of, with_line_feed}
use Rattle.json_screen.specs.Arrived.{ReadsAs}
use Rattle.viewer.specs.Shown.{value_line}
use Rattle.json_screen.specs.declared.input.Options.{Options}
use Rattle.viewer.proofs.Following.{if-err}
use Rattle.viewer.proofs.Lines.{line-shown, same-line}
use Rattle.viewer.proofs.Told.{line-told}
use Rattle.viewer.proofs.view.show_line.Given.{Over}
use Rattle.viewer.proofs.view.show_line.Goals as goal
use Rattle.viewer.proofs.view.show_line.Goals.{In_ok-push, then-ne+in_ok-write_line, else-ne}

-- what has arrived has this line
told : (g : Over) (c : In_ok-push g) (options : Options) (t : List ℕ) → ReadsAs options c.args.document.now t
    → value_line (answer_in options.inf_nan options.mode t) ≡ Some c.push.new.self.items
told g c options t h =
    let text : c.push.new.self.items ≡ with_line_feed (print_of (view c.in-Ok.value.now)) = grind (arith, common_steps) in
    line-told options c.args.document.now t h c.in-Ok.value.now c.in-Ok.ensures c.push.new.self.items text

pub returns-in_err-line-in-Ok-clause-prefix : goal.returns-in_err-line-in-Ok-clause-prefix
returns-in_err-line-in-Ok-clause-prefix g c = λ options t h. if-err c.from_residual.result (0, Appends-nil _)

pub returns-in_err-push-clause-prefix : goal.returns-in_err-push-clause-prefix
returns-in_err-push-clause-prefix g c = λ options t h. if-err c.from_residual-in_err-push.result (0, Appends-nil _)

pub returns-in_err-write_line-clause-prefix : goal.returns-in_err-write_line-clause-prefix
returns-in_err-write_line-clause-prefix g c = λ options t h.
    let other = line-shown c.args.last.text.items c.push.new.self.items (sym c.ne.ensures ∙ c.if-ne.true) in
    let written = rw c.as_slice.ensures.value at c.in_err-write_line.ensures.prefix in
    rw (told g (goal.at.returns-in_err-write_line-clause-prefix g c).In_ok-push options t h)
    (if-err c.from_residual-in_err-write_line.result (rw other written))

pub returns-clause-last : goal.returns-clause-last
returns-clause-last g c = λ options t h. rw (told g (goal.at.returns-clause-last g c).In_ok-push options t h) refl

pub returns-clause-whole : goal.returns-clause-whole
returns-clause-whole g c = λ options t h.
    rw (told g (goal.at.returns-clause-whole g c).In_ok-push options t h) (elim c.if-ne.branch [
      | then-ne+in_ok-write_line w ↦ (
          let written = rw w.as_slice.ensures.value at w.in_ok-write_line.ensures.whole in
          rw w.out-is (rw (line-shown c.args.last.text.items c.push.new.self.items (sym c.ne.ensures ∙ w.if-ne.true)) written))
      | else-ne w ↦ rw w.out-is
          (rw (same-line c.args.last.text.items c.push.new.self.items (sym c.ne.ensures ∙ w.if-ne.false)) (Appends-nil _))
    ])
