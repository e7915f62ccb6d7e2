use Rattle.jiter.proofs.Words.{◌∙◌, ap, sym, byte_of, reply_seen, gave}
use Rattle.jiter_steps.specs.Tree.{boolean}
use Rattle.jiter_value.proofs.Views.{view_bool}
use Rattle.jiter.proofs.Building.{known-first, bool-built}
use Rattle.jiter.proofs.Containers.{passed-on}
use Rattle.jiter.proofs.client.build_bool.Goals as goal

pub returns-clause-reads : goal.returns-clause-reads
returns-clause-reads c =
    let s = c.args.jiter.now in
    let read = rw (known-first s (byte_of c.args.peek) c.requires.here) at c.in_ok-truth.ensures.reads.value in
    record {
      moves = c.in_ok-truth.ensures.reads.moves;
      value = sym (bool-built s _ c.requires.begins) ∙ ap (reply_seen boolean) read
          ∙ ap (λ v. gave v c.known_bool.new.self.position) (sym (view_bool c.in_ok-truth.truth));
      index = tt;
      memory = tt;
    }

pub returns-in_err-truth-clause-reads : goal.returns-in_err-truth-clause-reads
returns-in_err-truth-clause-reads c =
    let s = c.args.jiter.now in
    let h = c.in_err-truth.ensures.reads in
    let read = rw (known-first s (byte_of c.args.peek) c.requires.here) at h.value in
    passed-on c.from_residual.result c.from_residual.ensures.1
    (record {
      moves = h.moves;
      value = λ m. sym (bool-built s _ c.requires.begins) ∙ ap (reply_seen boolean) read;
      index = h.index;
      memory = λ m. absurd (h.memory m);
    })
