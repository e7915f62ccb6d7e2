use Rattle.jiter.proofs.Words.{arith, slice_get_within}
use Rattle.jiter_steps.proofs.Calls.FastAnswers.{plain-utf8}
use Rattle.jiter_steps.proofs.Calls.Looks.{look-plain, look-text}
use Rattle.jiter.proofs.FastReplies.{plain-closed}
use Rattle.jiter.proofs.jiter.texts.plain_text.Goals as goal

pub utf8_text-requires : goal.utf8_text-requires
utf8_text-requires c =
    let found = rw c.in-Plain.is at c.look_at-to.ensures.means in
    plain-utf8 _ found.1

pub returns-in-Plain-clause-value : goal.returns-in-Plain-clause-value
returns-in-Plain-clause-value c =
    let t = c.args.bytes.now in
    let i = c.args.at in
    let to = c.look_at-to.result.0 in
    let found = rw c.in-Plain.is at c.look_at-to.ensures.means in
    plain-closed t i to _ c.utf8_text.ensures (look-plain t i to c.requires c.look_at-to.ensures.stop found)

pub returns-in-Plain-clause-within : goal.returns-in-Plain-clause-within
returns-in-Plain-clause-within c =
    let to = c.look_at-to.result.0 in
    let found = rw c.in-Plain.is at c.look_at-to.ensures.means in
    let inside = slice_get_within c.args.bytes.now to 34 found.0 in
    (omega (arith, c.look_at-to.ensures.within.0), omega (arith, inside))

pub returns-in-Ok-clause-value : goal.returns-in-Ok-clause-value
returns-in-Ok-clause-value c =
    let t = c.args.bytes.now in
    let i = c.args.at in
    let to = c.look_at-to.result.0 in
    let found = rw c.in-Utf8.is at c.look_at-to.ensures.means in
    let read = look-text t i to c.requires c.look_at-to.ensures.stop found c.in-Ok.text.now c.in-Ok.ensures.value in
    plain-closed t i to _ read.0 read.1

pub returns-in-Ok-clause-within : goal.returns-in-Ok-clause-within
returns-in-Ok-clause-within c =
    let to = c.look_at-to.result.0 in
    let found = rw c.in-Utf8.is at c.look_at-to.ensures.means in
    let inside = slice_get_within c.args.bytes.now to 34 found in
    (omega (arith, c.look_at-to.ensures.within.0), omega (arith, inside))
