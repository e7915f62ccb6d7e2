use Rattle.jiter_incremental.proofs.Words.{◌≡◌, ◌∙◌, ◌+◌, ◌++◌, ap, ap₂, arith, length, length-append, sym, feeds_from}
use Rattle.jiter_incremental.specs.LineIndex.{Passed}
use Rattle.jiter_incremental.proofs.LinePlaces.{line_index-more}
use Rattle.jiter_incremental.proofs.line_index.LineIndex.push.Goals as goal

pub returns-in-Ok-clause-ok : goal.returns-in-Ok-clause-ok
returns-in-Ok-clause-ok c = λ t h.
    let chunk = c.args.chunk.now in
    let count : c.self.inside.count ≡ length t = ap (λ (p : Passed). p.count) c.self.view_is ∙ h.count in
    let more : c.in-Some.count ≡ c.self.inside.count + length chunk = omega (arith, c.in-Some.ensures) in
    record {
      count = more ∙ ap (λ n. n + length chunk) count ∙ sym (length-append t chunk);
      feeds = c.in-Ok.ensures.ok ∙ ap₂ (λ l n. l ++ feeds_from n chunk) (ap (λ (p : Passed). p.feeds) c.self.view_is ∙ h.feeds) count
          ∙ sym (line_index-more t chunk);
    }
