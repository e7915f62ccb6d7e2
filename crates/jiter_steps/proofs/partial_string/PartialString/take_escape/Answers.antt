use Rattle.jiter_steps.proofs.Words.{◌≡◌, ◌∙◌, ◌+◌, ◌-◌, ap, arith, length, sym, take, slice_range, stop_view, cut}
use Rattle.jiter_steps.proofs.Words.{over, event_at}
use Rattle.jiter_steps.proofs.Chunks.OpenStrings.{escape-ahead, escape-begins, escape-cut, escape-whole, one-byte}
use Rattle.jiter_steps.proofs.Chunks.OpenStrings.{range-length, rest-range}
use Rattle.jiter_steps.proofs.partial_string.PartialString.take_escape.Goals as goal

pub returns-in-End-clause-taken : goal.returns-in-End-clause-taken
returns-in-End-clause-taken c =
    λ w h.
    let chunk = c.args.chunk.now in
    let at = c.args.at in
    escape-begins c.args.self.now w h (slice_range chunk at (at + 1)) c.new.result c.requires.none
    (one-byte chunk at 92 c.requires.backslash) c.new.ensures

pub returns-in-End-Cut-clause-taken : goal.returns-in-End-Cut-clause-taken
returns-in-End-Cut-clause-taken c =
    λ w h.
    let chunk = c.args.chunk.now in
    let at = c.args.at in
    let rest = slice_range chunk at (length chunk) in
    let long = range-length chunk at (length chunk) (omega arith) (omega arith) in
    let until : at + length rest ≡ length chunk = omega (arith, long) in
    let is_cut : event_at rest 0 ≡ over cut =
    sym c.in-End-Cut.ensures ∙ ap (λ x. over (stop_view x)) c.in-End-Cut.field-0-is in
    escape-cut c.args.self.now w h (slice_range chunk at (at + length rest)) c.cut.result c.requires.none
    (ap (slice_range chunk at) until ∙ sym c.cut.ensures) (ap (λ x. event_at x 0) c.cut.ensures ∙ is_cut)

pub returns-in_ok-add_char-in-Escape-clause-taken : goal.returns-in_ok-add_char-in-Escape-clause-taken
returns-in_ok-add_char-in-Escape-clause-taken c =
    λ w h.
    let s = c.args.self.now in
    let chunk = c.args.chunk.now in
    let at = c.args.at in
    let rest = slice_range chunk at (length chunk) in
    let end = c.in-Escape.end in
    let ahead = escape-ahead rest 0 end c.in-Escape.c c.in-Escape.ensures in
    let count : 0 + end - 0 ≡ end = omega arith in
    rw (← ap (λ k. take k rest) count ∙ rest-range chunk at end (omega (arith, ahead.1)))
    (escape-whole s w h rest 0 end c.in-Escape.c end c.add_char.new.self s.escape c.requires.none c.requires.none
    c.in-Escape.ensures (omega arith) (c.in_ok-add_char-in-Escape.ensures.taken h.decoded h.holds))

pub returns-in_ok-add_char-in-Escape-clause-part : goal.returns-in_ok-add_char-in-Escape-clause-part
returns-in_ok-add_char-in-Escape-clause-part c =
    let chunk = c.args.chunk.now in
    let rest = slice_range chunk c.args.at (length chunk) in
    let ahead = escape-ahead rest 0 c.in-Escape.end c.in-Escape.c c.in-Escape.ensures in
    (omega (arith, ahead.0), omega (arith, ahead.0, ahead.1))
