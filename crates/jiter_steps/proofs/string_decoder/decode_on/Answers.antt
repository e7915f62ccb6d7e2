use Rattle.jiter_steps.proofs.Words.{◌++◌, ◌∙◌, ap, arith, refl, subst, sym, IsUtf8, is_plain, run_end-ahead, stop_view, Body}
use Rattle.jiter_steps.proofs.Words.{body_at}
use Rattle.jiter_steps.proofs.Calls.DecodeSteps.{copied-decoded, copied-known, copied-within, decode-more, decode-over}
use Rattle.jiter_steps.proofs.Calls.DecodeSteps.{known-escape}
use Rattle.jiter_steps.proofs.Calls.FastAnswers.{plain-utf8}
use Rattle.jiter_steps.proofs.Calls.PlainRuns.{plain_run-within, plain_run_to, plain_stop}
use Rattle.jiter_steps.proofs.string_decoder.decode_on.Goals as goal

pub put_first-requires : goal.put_first-requires
put_first-requires c =
    let reach = plain_run-within c.args.bytes.now c.args.from c.requires.within in
    record { within = (omega (arith, reach.0, c.requires.stop), omega (arith, reach.1, c.requires.stop)) }

pub loop-at-init : goal.loop-at-init
loop-at-init c =
    let t = c.args.bytes.now in
    let r = c.requires in
    let run = plain_run_to t c.args.from c.args.stop r.within r.stop in
    let put = c.in_ok-end.ensures in
    record {
      text = ap (λ (b : Body). b.bytes) run ∙ ap (λ w. w ++ (body_at t c.args.stop).bytes) (sym put.text);
      ending = ap (λ (b : Body). b.stop) run;
      within = omega (arith, (plain_run-within t c.args.from r.within).1, r.stop);
      stops = plain_stop t c.args.from c.args.stop r.stop;
      room = put.room;
      utf8 = λ known. subst IsUtf8 (sym put.text) (plain-utf8 _ (r.ascii known));
    }

pub copy_plain-requires-clause-within : goal.copy_plain-requires-clause-within
copy_plain-requires-clause-within c =
    let l = c.loop-at in
    let p = c.in-Ok.ensures.put in
    (decode-more c.args.bytes.now _ _ _ l.stop (l.invariant.text, l.invariant.ending) _ p.bytes c.in-Ok.at p.is p.put).2

pub loop-at-smaller : goal.loop-at-smaller
loop-at-smaller c =
    let t = c.args.bytes.now in
    let l = c.loop-at in
    let p = c.in-Ok.ensures.put in
    let m = decode-more t _ _ _ l.stop (l.invariant.text, l.invariant.ending) _ p.bytes c.in-Ok.at p.is p.put in
    omega (arith, m.1, m.2, c.in_ok-next-in-Ok.ensures.stop, run_end-ahead is_plain t c.in-Ok.at)

pub loop-at-preserved : goal.loop-at-preserved
loop-at-preserved c =
    let t = c.args.bytes.now in
    let l = c.loop-at in
    let p = c.in-Ok.ensures.put in
    let e = c.in_ok-next-in-Ok.ensures in
    let put = c.put_escape.new.buffer.items in
    let items = c.copy_plain.new.buffer.items in
    let at = c.in-Ok.at in
    let count = c.in-Ok.count in
    let filled = c.in_ok-next-in-Ok.filled in
    let next = c.in_ok-next-in-Ok.next in
    let m = decode-more t _ _ _ l.stop (l.invariant.text, l.invariant.ending) _ p.bytes at p.is p.put in
    let d = copied-decoded t put items at count filled next m.2 e.stop e.text _ _ m.0 in
    record {
      text = d.0;
      ending = d.1;
      within = copied-within t put items at count filled next m.2 e.stop e.text;
      stops = plain_stop t at next e.stop;
      room = e.room;
      utf8 = copied-known t put items at count filled next m.2 e.stop e.text l.known c.in_ok-next-in-Ok.low
          _ (λ known. known-escape t _ _ p.bytes l.stop at (l.invariant.utf8 known) p.is p.put)
          e.ascii.0 refl;
    }

pub returns-in-Err-clause-text : goal.returns-in-Err-clause-text
returns-in-Err-clause-text c =
    let l = c.loop-at in
    rw c.in-Err.ensures.same (decode-over c.args.bytes.now _ _ _ l.stop (l.invariant.text, l.invariant.ending)
    (stop_view c.in-Err.ending) c.in-Err.ensures.ending).0

pub returns-in-Err-clause-stop : goal.returns-in-Err-clause-stop
returns-in-Err-clause-stop c =
    let l = c.loop-at in
    (decode-over c.args.bytes.now _ _ _ l.stop (l.invariant.text, l.invariant.ending) (stop_view c.in-Err.ending)
    c.in-Err.ensures.ending).1
